use Rattle.std.proofs.Common.{◌∙◌, sym, subst}
use Rattle.history_standing.specs.Changes.{changed}
use Rattle.core_standing.specs.Kept.{KeepsNoneOver}
use Rattle.core_standing.specs.Seen.{seen}
use Rattle.core_standing.specs.Touched.{Others, OverTouched, is_touched}
use Rattle.core_standing.proofs.Lasting.{lasts_where}
use Rattle.core_standing.proofs.Staying.{kept_still}
use Rattle.core_standing.proofs.Forgotten.{kept_begun, kept_ended}
use Rattle.core_standing.proofs.Overs.{none_kept, over_changed, over_quiet, over_settled}
use Rattle.core_standing.proofs.changes.advance_kept.Goals as goal

pub returns-then-may_end-clause-ok : goal.returns-then-may_end-clause-ok
returns-then-may_end-clause-ok c past kept begun admits =
    kept_ended c.args.config.now c.args.run past c.args.entry.now (seen c.args.standing.now) (seen c.change.new.standing) kept c.in_ok-has_number.ensures.few
    (c.in_ok-change.ensures.ok past begun admits)
    (seen c.settle.new.standing) (seen c.forget.new.standing)
    (c.settle.ensures (subst (Others c.args.config.now (is_touched c.touched_by-touched.result)) (sym (c.in_ok-change.ensures.ok past begun admits))
    (c.touched_by-touched.ensures.leaves c.args.config.now c.args.run past (seen c.args.standing.now) (sym c.deref.ensures.value) begun
    (kept_still c.args.config.now c.args.run past (seen c.args.standing.now) kept)))
    (λ removes. lasts_where c.args.config.now c.args.run past c.args.entry.now c.touched_by-touched.result c.args.standing.now
    (seen c.change.new.standing) (c.in_ok-change.ensures.ok past begun admits) kept c.numbers.ensures.fit c.numbers.ensures.alone
    (c.touched_by-touched.ensures.same c.args.config.now c.args.run past (seen c.args.standing.now) begun)
    (c.touched_by-touched.ensures.leaves c.args.config.now c.args.run past (seen c.args.standing.now) (sym c.deref.ensures.value) begun
    (kept_still c.args.config.now c.args.run past (seen c.args.standing.now) kept)) (sym c.is_removal.ensures ∙ removes)))
    c.forget.ensures.same

pub returns-then-may_end-clause-forgets : goal.returns-then-may_end-clause-forgets
returns-then-may_end-clause-forgets c past kept none begun admits =
    (let conf = c.args.config.now in
    let touched = is_touched c.touched_by-touched.result in
    let old = seen c.args.standing.now in
    let mid = changed conf c.args.run past c.args.entry.now old in
    let others : Others conf touched mid =
    c.touched_by-touched.ensures.leaves conf c.args.run past old (sym c.deref.ensures.value) begun (kept_still conf c.args.run past old kept) in
    let now = c.in_ok-change.ensures.ok past begun admits in
    none_kept conf c.forget.new.standing c.numbers-then-may_end.ensures.fit
    (c.forget.ensures.all
    (subst (OverTouched conf touched) (sym (c.settle.ensures (subst (Others conf touched) (sym now) others)
    (λ removes. lasts_where conf c.args.run past c.args.entry.now c.touched_by-touched.result c.args.standing.now (seen c.change.new.standing) now kept
    c.numbers.ensures.fit c.numbers.ensures.alone (c.touched_by-touched.ensures.same conf c.args.run past old begun) others
    (sym c.is_removal.ensures ∙ removes))))
    (over_settled conf touched (seen c.change.new.standing) (subst (Others conf touched) (sym now) others)
    (subst (OverTouched conf touched) (sym now)
    (over_changed conf touched old mid (c.touched_by-touched.ensures.same conf c.args.run past old begun) none))))))

pub returns-else-may_end-clause-ok : goal.returns-else-may_end-clause-ok
returns-else-may_end-clause-ok c past kept begun admits =
    kept_begun c.args.config.now c.args.run past c.args.entry.now (seen c.args.standing.now) (seen c.change.new.standing) kept c.in_ok-has_number.ensures.few
    (c.in_ok-change.ensures.ok past begun admits)
    (sym c.if-may_end.ensures)

pub returns-else-may_end-clause-forgets : goal.returns-else-may_end-clause-forgets
returns-else-may_end-clause-forgets c past kept none begun admits =
    none_kept c.args.config.now c.change.new.standing c.numbers-else-may_end.ensures.fit
    (subst (KeepsNoneOver c.args.config.now) (sym (c.in_ok-change.ensures.ok past begun admits))
    (over_quiet c.args.config.now c.args.run past c.args.entry.now (seen c.args.standing.now) (sym c.if-may_end.ensures) none))
