use Rattle.std.proofs.Common.{◌≡◌, ◌+◌, ◌<◌, ◌==◌, ◌∷◌, ◌++◌, ◌∙◌, [], length, take, inl, inr, subst, sym, ap, arith}
use Rattle.std.proofs.lemmas.List.{take_more}
use Rattle.history_standing.specs.declared.flight.Flight.{Flight}
use Rattle.history_standing.specs.Trees.{In}
use Rattle.history_standing.proofs.Members.{in_either}
use Rattle.core_standing.specs.Flying.{uses}
use Rattle.core_standing.proofs.touched.with_flights.Goals as goal

pub loop-i-preserved : goal.loop-i-preserved
loop-i-preserved c =
    let inv = c.loop-i.invariant in
    let fs = c.args.flights.now in
    let g = c.index-flights-i.result in
    let within : c.loop-i.i < length fs = omega arith in
    let more : take (c.loop-i.i + 1) fs ≡ take c.loop-i.i fs ++ g ∷ [] =
    take_more fs c.loop-i.i g within ∙ ap (λ x. take c.loop-i.i fs ++ x ∷ []) (sym c.index-flights-i.is) in
    record {
      before = λ k untouched. inv.before k (c.with_flight-all.ensures.before k untouched);
      each = λ f k there arrived untouched.
          (elim (in_either f g (take c.loop-i.i fs) (subst (In f) more there)) [
            | inl old ↦ inv.each f k old arrived (c.with_flight-all.ensures.before k untouched)
            | inr same ↦ ap (uses k) same ∙ c.with_flight-all.ensures.one k (ap (λ (x : Flight). x.arrival == c.args.arrival) (sym same) ∙ arrived) untouched
          ]);
    }
