-- What holds of all that stands after a legal history.
use Rattle.std.specs.Prelude.{◌≡◌, ℕ, ◌^◌, ◌<◌, true, false, List, length, Some}
use Rattle.poa_base.specs.declared.Config.{Config}
use Rattle.history_standing.specs.declared.node.Node.{Node}
use Rattle.history_standing.specs.declared.flight.Flight.{Flight}
use Rattle.history_standing.specs.declared.activation.Activation.{Activation}
use Rattle.history_standing.specs.Templates.{policies_at, makes_ids, activates_implicitly}
use Rattle.history_standing.specs.Standings.{Standing}
use Rattle.history_standing.specs.Opening.{opening}
use Rattle.history_standing.specs.Ends.{is_over}
use Rattle.history_standing.specs.Commands.{is_bad_id}
use Rattle.history_standing.specs.Trees.{In, IsTree, Stands, IsMissingChild}

-- the adapter of the activation stands, at its path
pub record IsHome (ns : List Node) (a : Activation) : Type 0 where
  pub node : Node
  pub stands : In node ns
  pub numbered : node.number ≡ a.adapter
  pub placed : node.path ≡ a.path

pub record IsSound (c : Config) (run : ℕ) (s : Standing) : Type 0 where
  -- of one path one adapter stands, its parent stands, and what is below a dying one is dying
  pub tree : IsTree s.nodes s.count
  -- what is in flight is in flight in an adapter that stands
  pub homes : (f : Flight) → In f s.flights → Stands s.nodes f.adapter
  -- a trial is of a missing child of that adapter, and of one child there is one
  pub trials : (f : Flight) (p : List (List ℕ)) → In f s.flights → f.child ≡ Some p → IsMissingChild s.nodes f.adapter p
  pub trial_alone : (f g : Flight) (p : List (List ℕ)) → In f s.flights → In g s.flights → f.child ≡ Some p → g.child ≡ Some p → f ≡ g
  -- an activation that isn't over is one of an adapter that stands
  pub owners : (a : Activation) → In a s.activations → is_over c a ≡ false → IsHome s.nodes a
  -- activations are numbered in the order of their begin
  pub counted : (a : Activation) → In a s.activations → a.number < length s.activations
  pub activation_alone : (a b : Activation) → In a s.activations → In b s.activations → a.number ≡ b.number → a ≡ b
  -- of one id of one adapter at most one activation isn't over
  pub life_alone : (a b : Activation) → In a s.activations → In b s.activations → a.adapter ≡ b.adapter → a.oid ≡ b.oid
      → is_over c a ≡ false → is_over c b ≡ false → a ≡ b
  -- where an adapter makes its ids, each that it has is eight bytes, and one of this run was made
  pub ids : (a : Activation) → In a s.activations → is_bad_id c run s.made a.path a.oid ≡ false

-- IMPLICIT_ACTIVATION needs SYSTEM_ID, as in every policy set that settles (CORBA 3.3 Part 1, section 15.3.8)
abbrev pub ImplicitMakes : Config → Type 0
ImplicitMakes c = (p : List (List ℕ)) → activates_implicitly (policies_at c p) ≡ true → makes_ids (policies_at c p) ≡ true

-- what a run is given, so far as it bears on what stands: the opening is sound, and the run is a number of 32 bits
pub record IsGiven (c : Config) (run : ℕ) : Type 0 where
  pub opens : IsSound c run (opening c run)
  pub numbered : run < 2 ^ 32
  pub implicit : ImplicitMakes c
