-- Which adapters are being destroyed, and which are gone, in plain words (CORBA 3.3 Part 1, section 15.3.9: destroy).
use Rattle.std.specs.Prelude.{◌≡◌, ℕ, Bool, true, false, ◌&&◌, ◌||◌, nat_lt, List, [], ◌∷◌, ◌++◌, Option, Some}
use Rattle.poa_base.specs.declared.Config.{Config}
use Rattle.poa_base.specs.declared.Command.{Command}
use Rattle.poa_base.specs.declared.Command.TheVariants.{Destroy, Shutdown}
use Rattle.poa_base.specs.declared.Entry.{Entry}
use Rattle.history_standing.specs.declared.node.Node.{Node}
use Rattle.history_standing.specs.declared.flight.Flight.{Flight}
use Rattle.history_standing.specs.declared.activation.Activation.{Activation}
use Rattle.history_standing.specs.Paths.{leads_to}
use Rattle.history_standing.specs.Trees.{In}
use Rattle.history_standing.specs.Standings.{Standing, has_flights}
use Rattle.history_standing.specs.Ends.{is_over, is_gone}
use Rattle.history_standing.specs.Logs.{command_done}
use Rattle.history_standing.specs.Changes.{standing}

-- the command destroys the adapter of the path, or one above it
abbrev pub destroys : List (List ℕ) → Option Command → Bool
destroys p (Some (Destroy q etherealize wait)) = leads_to q p
destroys p (Some Shutdown) = true
destroys p command = false

-- since the adapter of this number and path was created, it or one above it was destroyed
abbrev pub was_destroyed : Config → ℕ → List Entry → ℕ → List (List ℕ) → Bool
was_destroyed c run [] k p = false
was_destroyed c run (e ∷ past) k p =
    (nat_lt k (standing c run past).count && destroys p (command_done past e)) || was_destroyed c run past k p

-- the second adapter is a child of the first
abbrev pub IsChildOf : Node → Node → Type 0
IsChildOf n m = (x : List ℕ) × (m.path ≡ n.path ++ x ∷ [])

-- the adapter is being destroyed, nothing is in flight in it, its activations are over, and its children are gone
pub record IsEnded (c : Config) (s : Standing) (n : Node) : Type 0 where
  pub dying : n.dying ≡ true
  pub idle : has_flights s.flights n.number ≡ false
  pub over : (a : Activation) → In a s.activations → a.adapter ≡ n.number → is_over c a ≡ true
  pub children : (m : Node) → In m s.nodes → IsChildOf n m → is_gone c s m.number ≡ true

-- nothing is left of an adapter: nothing is in flight in it, and its activations are over
pub record IsEmptied (c : Config) (s : Standing) (k : ℕ) : Type 0 where
  pub idle : (f : Flight) → In f s.flights → f.adapter ≡ k → ⊥
  pub over : (a : Activation) → In a s.activations → a.adapter ≡ k → is_over c a ≡ true
