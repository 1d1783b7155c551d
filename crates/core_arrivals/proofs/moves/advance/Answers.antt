use Rattle.std.proofs.Common.{◌∷◌, sym, subst}
use Rattle.core_arrivals.specs.Tallies.{TallyAgrees, AreFew}
use Rattle.core_arrivals.proofs.Bounds.{are_few}
use Rattle.core_arrivals.proofs.moves.advance.Goals as goal

pub returns-in-Arrive : goal.returns-in-Arrive
returns-in-Arrive c =
    λ config run limit past legal most call is. subst (λ e. TallyAgrees (e ∷ past) c.arrive.new.tally) (sym c.in-Arrive.is)
    (c.arrive.ensures past (subst (λ e. AreFew (e ∷ past)) c.in-Arrive.is (are_few config run limit (c.args.entry.now ∷ past) legal most)) is)
