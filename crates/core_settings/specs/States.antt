-- The states of the managers, by their numbers (CORBA 3.3 Part 1, section 15.3.2).
use Rattle.std.specs.Prelude.{ℕ, List, ◌∷◌, map, slice_index_or}
use Rattle.poa_base.specs.declared.Config.{Config}
use Rattle.poa_base.specs.declared.ManagerState.{ManagerState}
use Rattle.poa_base.specs.declared.ManagerState.TheVariants.{Holding}

-- manager 0 is `root`, and the configured ones follow
abbrev pub start_states : Config → List ManagerState
start_states c = c.root ∷ map (λ m. m.start) c.managers

-- the state of a manager; one that isn't there is HOLDING, as each is that is configured with no state
abbrev pub state_at : List ManagerState → ℕ → ManagerState
state_at states m = slice_index_or states m Holding
