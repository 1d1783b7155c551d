-- How the servants change: one acts, a fresh one is brought, a fresh one is etherealized.
use Rattle.std.specs.Prelude.{◌≡◌, ℕ, ◌==◌, Bool, true, false, if◌then◌else◌, List, Option, Some, None, option_map}
use Rattle.poa_base.specs.declared.Config.{Config}
use Rattle.poa_base.specs.declared.Call.{Call}
use Rattle.poa_base.specs.declared.Outcome.{Outcome}
use Rattle.poa_base.specs.declared.State.{State}
use Rattle.poa_base.specs.declared.Sid.{Sid}
use Rattle.poa_base.specs.declared.Sid.TheVariants.{Named as NamedServant, Fresh as FreshServant}
use Rattle.poa_base.specs.declared.Incarnation.{Incarnation}
use Rattle.poa_base.specs.declared.Incarnation.TheVariants.{Fresh}
use Rattle.poa_base.specs.Store.{IsReserved, with_room, with_state}
use Rattle.history_standing.specs.declared.activation.Activation.{Activation}
use Rattle.history_standing.specs.declared.activation.Phase.{Phase}
use Rattle.history_standing.specs.declared.activation.Phase.TheVariants.{Begun, Complete, Void}
use Rattle.history_standing.specs.declared.stage.Stage.{Stage}
use Rattle.history_standing.specs.declared.stage.Stage.TheVariants.{Removing}
use Rattle.history_standing.specs.Standings.{Standing}
use Rattle.poa_history.specs.States.{acted, is_servant, kind_brought, restored}
use Rattle.poa_history.specs.Turns.{activation_numbered}
use Rattle.core_state.specs.Kept.{Kept, fresh_at, state_in, stored_in}

-- the state of a servant after the one that runs has acted
abbrev pub after_run : Sid → Option Sid → Option Call → State → State
after_run t runs call state = if is_servant t runs then (acted state call).0 else state

-- the servant that runs has acted
pub record IsActed (runs : Option Sid) (call : Option Call) (old new : Kept) : Type 0 where
  pub configured : (k : ℕ) → state_in new (NamedServant k) ≡ after_run (NamedServant k) runs call (state_in old (NamedServant k))
  pub fresh : (n : ℕ) → fresh_at new n ≡ option_map (after_run (FreshServant n) runs call) (fresh_at old n)
  pub store : new.store ≡ old.store

-- the outcome of the servant that runs
abbrev pub outcome_in : Option Sid → Option Call → Kept → Option Outcome
outcome_in runs call s = option_map (λ t. (acted (state_in s t) call).1) runs

-- a fresh servant was brought, with room for it in the store
pub record IsBrought (number : ℕ) (path : List (List ℕ)) (oid : List ℕ) (state : State) (old new : Kept) : Type 0 where
  pub configured : new.configured ≡ old.configured
  pub fresh : (n : ℕ) → fresh_at new n ≡ (if n == number then Some state else fresh_at old n)
  pub store : new.store ≡ with_room old.store path oid

-- the fresh servant of an activation was brought in the state stored for its id, or that in which its kind opens
abbrev pub Brings : Config → ℕ → Option Activation → Kept → Kept → Type 0
Brings c number None old new = new ≡ old
Brings c number (Some a) old new = IsBrought number a.path a.oid (restored (kind_brought c a) (stored_in old a.path a.oid)) old new

-- the servant activator brought a fresh servant
abbrev pub is_new : Incarnation → Bool
is_new (Fresh n) = true
is_new answer = false

abbrev pub Incarnates : Config → Incarnation → Standing → Kept → Kept → Type 0
Incarnates c (Fresh n) s old new = Brings c n (activation_numbered s n) old new
Incarnates c answer s old new = new ≡ old

-- the fresh servant is gone, and its state is stored
pub record IsStored (number : ℕ) (path : List (List ℕ)) (oid : List ℕ) (state : State) (old new : Kept) : Type 0 where
  pub configured : new.configured ≡ old.configured
  pub fresh : (n : ℕ) → fresh_at new n ≡ (if n == number then None else fresh_at old n)
  pub store : new.store ≡ with_state old.store path oid state

-- a servant that isn't kept leaves nothing
abbrev pub Stores : ℕ → List (List ℕ) → List ℕ → Option State → Kept → Kept → Type 0
Stores number path oid (Some state) old new = IsStored number path oid state old new
Stores number path oid None old new = new ≡ old

abbrev pub fresh_number : Phase → Option ℕ
fresh_number (Complete (FreshServant n)) = Some n
fresh_number (Complete (NamedServant k)) = None
fresh_number Begun = None
fresh_number Void = None

-- the fresh servant of an activation that is removed, by its activation and its number
abbrev pub removed_of : Option Activation → Option (Activation × ℕ)
removed_of None = None
removed_of (Some a) = option_map (λ n. (a, n)) (fresh_number a.phase)

abbrev pub removed : Standing → Stage → Option (Activation × ℕ)
removed s (Removing n) = removed_of (activation_numbered s n)
removed s begun = None

abbrev pub Etherealizes : Option (Activation × ℕ) → Kept → Kept → Type 0
Etherealizes (Some r) old new = Stores r.1 r.0.path r.0.oid (fresh_at old r.1) old new
Etherealizes None old new = new ≡ old

-- there is room for what is removed
abbrev pub HasRoom : Option (Activation × ℕ) → Kept → Type 0
HasRoom (Some r) s = IsReserved s.store r.0.path r.0.oid
HasRoom None s = Unit {0}

-- the states are as they were, and where there was room there is room
pub record IsUnchanged (old new : Kept) : Type 0 where
  pub configured : new.configured ≡ old.configured
  pub fresh : new.fresh ≡ old.fresh
  pub stored : (p : List (List ℕ)) (oid : List ℕ) → stored_in new p oid ≡ stored_in old p oid
  pub room : (p : List (List ℕ)) (oid : List ℕ) → IsReserved old.store p oid → IsReserved new.store p oid
