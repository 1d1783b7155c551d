use Rattle.std.proofs.Common.{◌≡◌, ◌∙◌, true, false, ap, sym, subst}
use Rattle.poa_base.specs.declared.Entry.TheVariants.{Done}
use Rattle.history_standing.specs.Changes.{changed, without_flight}
use Rattle.core_standing.specs.Seen.{seen}
use Rattle.core_standing.specs.Touched.{Others, OverTouched, is_touched}
use Rattle.core_standing.proofs.Forgotten.{kept_ended}
use Rattle.core_standing.proofs.Overs.{none_kept, over_changed, over_settled}
use Rattle.core_standing.proofs.Staying.{kept_still}
use Rattle.core_standing.proofs.changes.land.Goals as goal

pub returns-clause-lands : goal.returns-clause-lands
returns-clause-lands c = λ run past w kept at.
    (let conf = c.args.config.now in
    let old = seen c.args.standing.now in
    let gone : seen c.end_flight.new.standing ≡ changed conf run past (Done w) old =
    c.end_flight.ensures ∙ ap (λ r. without_flight r old) at in
    let others = c.by_landing-touched.ensures.leaves conf old (sym c.deref.ensures.value) (kept_still conf run past old kept) in
    kept_ended conf run past (Done w) old (seen c.end_flight.new.standing) kept (λ may. absurd (let e : false ≡ true = may in cc)) gone
    (seen c.settle.new.standing) (seen c.forget.new.standing)
    (c.settle.ensures (subst (Others conf (is_touched c.by_landing-touched.result)) (sym c.end_flight.ensures) others)
    (λ removes. absurd (let e : false ≡ true = removes in cc)))
    c.forget.ensures.same)

pub returns-clause-forgets : goal.returns-clause-forgets
returns-clause-forgets c = λ run past w kept at none.
    (let conf = c.args.config.now in
    let touched = is_touched c.by_landing-touched.result in
    let old = seen c.args.standing.now in
    let mid = without_flight c.args.arrival old in
    let gone = c.end_flight.ensures in
    let others : Others conf touched (seen c.end_flight.new.standing) =
    subst (Others conf touched) (sym gone) (c.by_landing-touched.ensures.leaves conf old (sym c.deref.ensures.value) (kept_still conf run past old kept)) in
    none_kept conf c.forget.new.standing c.numbers-2.ensures.fit
    (c.forget.ensures.all
    (subst (OverTouched conf touched) (sym (c.settle.ensures others (λ removes. absurd (let e : false ≡ true = removes in cc))))
    (over_settled conf touched (seen c.end_flight.new.standing) others
    (subst (OverTouched conf touched) (sym gone)
    (over_changed conf touched old mid (c.by_landing-touched.ensures.same old) none))))))
