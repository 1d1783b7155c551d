-- What is set, as the facts about a key ask it.
use Rattle.std.specs.Prelude.{◌≡◌, ℕ, List}
use Rattle.poa_base.specs.declared.Config.{Config}
use Rattle.poa_base.specs.declared.Entry.{Entry}
use Rattle.history_standing.specs.Logs.{manager_state, preset_of, forward_of}
use Rattle.core_turns.specs.declared.facts.AsSet.{AsSet}

-- it is what the history says of the manager and of the path
pub record IsAsSaid (c : Config) (past : List Entry) (manager : ℕ) (path : List (List ℕ)) (set : AsSet) : Type 0 where
  pub state : set.state ≡ manager_state c past manager
  pub preset : set.preset ≡ preset_of c past path
  pub entry : set.entry ≡ forward_of c past path
