-- The rows ascend to the one that came.
use Rattle.std.proofs.Common.{sym, ap, ◌++◌, ◌∙◌, None, subst}
use Rattle.poa_base.specs.Store.{states}
use Rattle.poa_journal.specs.Shelving.{Ascends, rows_at, rows_in}
use Rattle.poa_journal.proofs.Stored.{ascends_more, one_waits}
use Rattle.poa_journal.proofs.shelving.Shelving.push.Goals as goal

pub returns-clause-shelving : goal.returns-clause-shelving
returns-clause-shelving c =
    let it = c.args.self.now in
    let rows = ap (λ items. states it.store ++ rows_at it.path items) c.in_ok-push.ensures.items
    ∙ one_waits it.store it.path it.waiting.items c.args.oid c.args.state in
    record {
      stored = c.requires.shelving.stored;
      rises = subst (Ascends None) (sym rows) (ascends_more None (rows_in it) ((it.path, c.args.oid), c.args.state) c.requires.shelving.rises c.requires.above);
      known = c.requires.shelving.known;
      spells = c.requires.shelving.spells;
    }
