use Rattle.std.proofs.Common.{length, sym, ap, ◌∙◌}
use Rattle.std.proofs.lemmas.List.{length-reverse}
use Rattle.std.specs.Prelude.{Bool, Option, None, if◌then◌else◌}
use Rattle.core_outboxes.specs.declared.filed.Filed.{Filed}
use Rattle.journal_explain.proofs.Handed.{handed}
use Rattle.journal_explain.proofs.Hearing.{none_left, on_ok, sees}
use Rattle.journal_explain.proofs.explainer.Explainer.take.Goals as goal

abbrev no_reply : Option Filed
no_reply = None

pub returns : goal.returns
returns c =
    let past = c.args.self.now.auditor in
    let after = c.follow.new.self in
    let followed = c.in_ok-followed in
    let given = c.given_by-given in
    let noted = c.in_ok-note.ensures in
    let gives = c.in_ok-give.ensures in
    let none = none_left after.refusal (sym c.is_some.ensures ∙ c.if-is_some.false) in
    let collects = given.ensures
    ∙ ap (λ (b : Bool). if b then followed.followed else no_reply) c.is_collect-collects.ensures in
    on_ok c.look.result c.look.ensures (λ looks. record {
      takes = followed.ensures.takes;
      same = looks.asked ∙ (gives.asked ∙ noted.asked);
      sees = sees c.args.entry c.len-place.result past after c.args.self.now.watch c.note.new.self c.give.new.self c.look.new.self
          (c.len-place.ensures ∙ (ap length c.entries.ensures ∙ length-reverse past.run.history)) noted given.result
          (handed past.run c.args.entry after.refusal followed.followed given.result none followed.ensures.gives collects) gives c.of-doing.result
          c.of-doing.ensures looks followed.ensures.takes none;
    })
