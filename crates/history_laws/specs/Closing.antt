-- How a run comes to its end. Histories have their newest entry first.
use Rattle.std.specs.Prelude.{◌≡◌, ℕ, ◌<◌, true, false, List, [], ◌∷◌, ◌++◌, None}
use Rattle.poa_base.specs.declared.Entry.{Entry}
use Rattle.history_standing.specs.Arrivals.{arrivals, connections}
use Rattle.history_standing.specs.Changes.{standing}
use Rattle.history_standing.specs.Ends.{is_over}
use Rattle.poa_history.specs.Legal.{has_left}
use Rattle.poa_history.specs.Replies.{decided}
use Rattle.history_standing.specs.Stages.{is_abandoned, is_unadmitted}
use Rattle.poa_history.specs.Turns.{turn}
use Rattle.history_standing.specs.declared.activation.Activation.{Activation}
use Rattle.history_standing.specs.Trees.{In}
use Rattle.poa_history.specs.Leaving.{is_shut}
use Rattle.poa_history.specs.declared.givens.Givens.{Givens}
use Rattle.poa_history.specs.Owners.{worker_of}

-- the worker has nothing to do, and nothing more can come: a `shutdown` was admitted, every connection but the first has
-- left, and every call is admitted
pub record IsClosed (g : Givens) (worker : ℕ) (h : List Entry) : Type 0 where
  pub going : is_abandoned h worker ≡ false
  pub idle : turn g.config g.run h worker ≡ None
  pub shut : is_shut h ≡ true
  pub left : (conn : ℕ) → 0 < conn → conn < connections h → has_left h conn ≡ true
  pub admitted : (r : ℕ) → r < arrivals h → is_unadmitted h r ≡ false

-- no worker makes any of these entries
abbrev pub HasNoTurn : List Entry → Type 0
HasNoTurn [] = Unit {0}
HasNoTurn (e ∷ more) = (worker_of e ≡ None) × HasNoTurn more

-- after more entries still every activation is void or finished, and every call that had arrived before them is decided
pub record IsOver (g : Givens) (more h : List Entry) : Type 0 where
  pub over : (a : Activation) → In a (standing g.config g.run (more ++ h)).activations → is_over g.config a ≡ true
  pub answered : (r : ℕ) → r < arrivals h → decided g.config g.run (more ++ h) r ≡ true
