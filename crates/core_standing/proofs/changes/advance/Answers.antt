use Rattle.std.proofs.Common.{◌∙◌, ap, subst, sym}
use Rattle.std.proofs.lemmas.Bool.{true≢false}
use Rattle.history_standing.specs.Changes.{changed}
use Rattle.history_standing.specs.Ends.{settled}
use Rattle.core_standing.specs.Seen.{seen}
use Rattle.core_standing.specs.Touched.{Others, Still, is_touched}
use Rattle.core_standing.proofs.Staying.{standing_still}
use Rattle.core_standing.proofs.Settled.{still_after}
use Rattle.core_standing.proofs.changes.advance.Goals as goal

pub returns-else-may_end-clause-ok : goal.returns-else-may_end-clause-ok
returns-else-may_end-clause-ok c past before begun admits =
    c.in_ok-change.ensures.ok past begun admits
    ∙ ap (changed c.args.config.now c.args.run past c.args.entry.now) before
    ∙ sym (still_after c.args.config.now c.args.run past c.args.entry.now (sym c.if-may_end.ensures))

pub returns-then-may_end-clause-ok : goal.returns-then-may_end-clause-ok
returns-then-may_end-clause-ok c past before begun admits =
    (let conf = c.args.config.now in
    let now = c.in_ok-change.ensures.ok past begun admits in
    c.settle.ensures
    (subst (Others conf (is_touched c.touched_by-touched.result)) (sym now)
    (c.touched_by-touched.ensures.leaves conf c.args.run past (seen c.args.standing.now) (sym c.deref.ensures.value) begun
    (subst (Still conf) (sym before) (standing_still conf c.args.run past))))
    (λ never. absurd (true≢false (sym never)))
    ∙ ap (settled conf) (now ∙ ap (changed conf c.args.run past c.args.entry.now) before))
