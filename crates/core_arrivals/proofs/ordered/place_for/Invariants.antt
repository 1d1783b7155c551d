use Rattle.std.proofs.Common.{◌≡◌, ◌≤◌, length, filter, take}
use Rattle.std.specs.Prelude.{nat_lt}
use Rattle.core_arrivals.proofs.ordered.place_for.Given as goal

abbrev pub invariant-loop-i : goal.invariant-loop-i
invariant-loop-i l = (l.place ≡ length (filter (λ x. nat_lt x l.number) (take l.i l.numbers.items))) × (l.place ≤ l.i)
