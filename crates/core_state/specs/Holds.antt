-- The servants are in the states that a history gives them.
use Rattle.std.specs.Prelude.{◌≡◌, ℕ, Bool, true, false, not, ◌&&◌, if◌then◌else◌, List, Option, Some, None}
use Rattle.poa_base.specs.declared.Config.{Config}
use Rattle.poa_base.specs.declared.State.{State}
use Rattle.poa_base.specs.declared.Sid.TheVariants.{Named as NamedServant, Fresh as FreshServant}
use Rattle.poa_base.specs.declared.Entry.{Entry}
use Rattle.poa_base.specs.Store.{IsReserved}
use Rattle.history_standing.specs.declared.activation.Activation.{Activation}
use Rattle.history_standing.specs.declared.activation.Phase.{Phase}
use Rattle.history_standing.specs.declared.activation.Phase.TheVariants.{Begun, Complete, Void}
use Rattle.history_standing.specs.Trees.{In}
use Rattle.history_standing.specs.Changes.{standing}
use Rattle.history_standing.specs.Standings.{Standing}
use Rattle.poa_history.specs.States.{Stored, state_of, stored}
use Rattle.poa_history.specs.Turns.{activation_numbered}
use Rattle.core_state.specs.Kept.{Kept, fresh_at, state_in, stored_in}

abbrev pub is_fresh : Phase → Bool
is_fresh (Complete (FreshServant n)) = true
is_fresh (Complete (NamedServant k)) = false
is_fresh Begun = false
is_fresh Void = false

-- the activation has a fresh servant, which wasn't etherealized
abbrev pub keeps_fresh : Activation → Bool
keeps_fresh a = is_fresh a.phase && not a.etherealized

abbrev pub is_kept_by : Option Activation → Bool
is_kept_by (Some a) = keeps_fresh a
is_kept_by None = false

-- the activation of this number has one
abbrev pub is_kept : Standing → ℕ → Bool
is_kept s n = is_kept_by (activation_numbered s n)

-- a fresh servant is kept from its incarnation to its etherealization, in its state
abbrev pub fresh_of : Config → ℕ → Stored → List Entry → ℕ → Option State
fresh_of c run opened past n = if is_kept (standing c run past) n then Some (state_of c run opened past (FreshServant n)) else None

pub record ServantsAgree (c : Config) (run : ℕ) (opened : Stored) (past : List Entry) (s : Kept) : Type 0 where
  -- each configured servant is in its state
  pub configured : (k : ℕ) → state_in s (NamedServant k) ≡ state_of c run opened past (NamedServant k)
  -- of the fresh ones those are kept that were brought and weren't etherealized, each in its state
  pub fresh : (n : ℕ) → fresh_at s n ≡ fresh_of c run opened past n
  -- for each of them there is room in the store
  pub room : (a : Activation) → In a (standing c run past).activations → keeps_fresh a ≡ true → IsReserved s.store a.path a.oid
  -- the store has what is stored
  pub stored : (p : List (List ℕ)) (oid : List ℕ) → stored_in s p oid ≡ stored c run opened past p oid
