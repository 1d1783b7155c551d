-- What the words of the fold leave as it is.
use Rattle.std.specs.Prelude.{◌≡◌, ℕ, List, Option, Some, None, refl}
use Rattle.std.proofs.Common.{◌∙◌}
use Rattle.poa_base.specs.declared.Attempt.{Attempt}
use Rattle.poa_base.specs.declared.Attempt.TheVariants.{Yes, No, Raised, Dying}
use Rattle.history_standing.specs.declared.node.Node.{Node}
use Rattle.history_standing.specs.declared.flight.Flight.{Flight}
use Rattle.history_standing.specs.declared.activation.Activation.{Activation}
use Rattle.history_standing.specs.Standings.{Standing}
use Rattle.history_standing.specs.Changes.{child_tried, with_child, without_flight, with_tried}

abbrev pub nodes_in : Standing → List Node
nodes_in s = s.nodes

abbrev pub count_in : Standing → ℕ
count_in s = s.count

abbrev pub made_in : Standing → ℕ
made_in s = s.made

abbrev pub flights_in : Standing → List Flight
flights_in s = s.flights

abbrev pub activations_in : Standing → List Activation
activations_in s = s.activations

-- a child that is created
pub flights_child : (p : Option (List (List ℕ))) (s : Standing) → (with_child p s).flights ≡ s.flights
flights_child None s = refl
flights_child (Some p) s = refl

pub activations_child : (p : Option (List (List ℕ))) (s : Standing) → (with_child p s).activations ≡ s.activations
activations_child None s = refl
activations_child (Some p) s = refl

-- a flight that ends, a trial that ends
pub activations_fewer : (s : Standing) (r : Option ℕ) → (without_flight r s).activations ≡ s.activations
activations_fewer s None = refl
activations_fewer s (Some r) = refl

pub activations_tried : (s : Standing) (r : Option ℕ) (answer : Attempt) → (with_tried r answer s).activations ≡ s.activations
activations_tried s r (Yes n) = activations_child (child_tried s.flights r) (without_flight r s) ∙ activations_fewer s r
activations_tried s r No = activations_fewer s r
activations_tried s r Raised = activations_fewer s r
activations_tried s r Dying = activations_fewer s r
