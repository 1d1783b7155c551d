-- Of what there is at most one in an adapter.
use Rattle.std.specs.Prelude.{◌≡◌, ℕ, true, List, Some, None}
use Rattle.poa_base.specs.declared.Config.{Config}
use Rattle.poa_base.specs.declared.Sid.{Sid}
use Rattle.poa_base.specs.declared.Sid.TheVariants.{Fresh as FreshServant}
use Rattle.poa_base.specs.Policies.{is_single_thread}
use Rattle.history_standing.specs.declared.node.Node.{Node}
use Rattle.history_standing.specs.declared.flight.Flight.{Flight}
use Rattle.history_standing.specs.declared.activation.Activation.{Activation}
use Rattle.history_standing.specs.declared.activation.Phase.TheVariants.{Complete}
use Rattle.history_standing.specs.Trees.{In}
use Rattle.history_standing.specs.Templates.{policies_at, is_unique, servant_number, servant_name}
use Rattle.history_standing.specs.Standings.{Standing, is_mapped}
use Rattle.history_standing.specs.Opening.{opening}
use Rattle.history_standing.specs.Situations.{is_unfinished}

-- under SINGLE_THREAD_MODEL at most one request is in flight in an adapter (CORBA 3.3 Part 1, section 15.3.8: the thread policy)
abbrev pub RunsAlone : Config → Standing → Type 0
RunsAlone c s =
    (f g : Flight) (n : Node) → In f s.flights → In g s.flights → In n s.nodes → f.child ≡ None → g.child ≡ None
    → f.adapter ≡ n.number → g.adapter ≡ n.number → is_single_thread (policies_at c n.path).thread ≡ true → f ≡ g

-- at most one incarnation or etherealization is unfinished in an adapter
abbrev pub ChangesAlone : Config → Standing → Type 0
ChangesAlone c s = (a b : Activation) → In a s.activations → In b s.activations → a.adapter ≡ b.adapter → is_unfinished c a ≡ true
    → is_unfinished c b ≡ true → a ≡ b

-- under UNIQUE_ID a servant is in the map of an adapter by at most one activation
abbrev pub IsMappedAlone : Config → Standing → Type 0
IsMappedAlone c s =
    (a b : Activation) (t : Sid) → In a s.activations → In b s.activations → a.adapter ≡ b.adapter → is_unique (policies_at c a.path) ≡ true
    → is_mapped a ≡ true → is_mapped b ≡ true → a.phase ≡ Complete t → b.phase ≡ Complete t → a ≡ b

-- a fresh servant is that of its activation
abbrev pub OwnsFresh : Standing → Type 0
OwnsFresh s = (a : Activation) (m : ℕ) → In a s.activations → a.phase ≡ Complete (FreshServant m) → m ≡ a.number

pub record StandsAlone (c : Config) (s : Standing) : Type 0 where
  pub running : RunsAlone c s
  pub changing : ChangesAlone c s
  pub mapped : IsMappedAlone c s
  pub fresh : OwnsFresh s

-- what a run is given, so far as it bears on this: it holds of the configured objects, and a name is that of one servant
pub record IsGivenAlone (c : Config) (run : ℕ) : Type 0 where
  pub mapped : IsMappedAlone c (opening c run)
  pub named : (k : ℕ) (name : List ℕ) → servant_name c k ≡ Some name → servant_number c name ≡ Some k
