use Rattle.std.proofs.Common.{◌∷◌, [], length, ap, ◌∙◌}
use Rattle.std.proofs.lemmas.List.{length-append}
use Rattle.core_run.specs.Agrees.{history}
use Rattle.core_run.specs.Service.{brings}
use Rattle.core_run.proofs.Noted.{desk_comes, life_longer}
use Rattle.core_run.proofs.noting.note_service.Goals as goal

pub advance-requires : goal.advance-requires
advance-requires c =
    record {
      comes = desk_comes (history c.args.inside.now) c.args.entry c.args.stage (brings c.args.decision c.args.freed) c.args.inside.now c.requires.halfway;
    }

pub returns : goal.returns
returns c =
    let old = c.args.inside.now in
    let half = c.requires.halfway in
    let comes = desk_comes (history old) c.args.entry c.args.stage (brings c.args.decision c.args.freed) old half in
    record {
      runs = half.follows;
      state = half.state;
      tables = c.serve.ensures old.config old.run old.limit (history old) half.follows half.begun_is half.brought.frees half.tables;
      before = c.advance.ensures.before comes;
      owed = c.advance.ensures.owed comes;
      filed = c.advance.ensures.filed comes half.left;
      due = c.advance.ensures.due;
      spare = c.advance.ensures.spare;
      life_is = life_longer old.config old.run old.limit old.opening c.args.entry old.entries.items c.push.new.self.items c.push.ensures.items;
      len = ap length c.push.ensures.items ∙ length-append old.entries.items (c.args.entry ∷ []);
      capacity = c.push.ensures.capacity;
    }
