-- The states that entries left, the newest first: a servant's state is the one that was left last.
use Rattle.std.specs.Prelude.{ℕ, ◌&&◌, if◌then◌else◌, List, [], ◌∷◌, Option, Some, None, reverse}
use Rattle.poa_base.specs.declared.Config.{Config}
use Rattle.poa_base.specs.declared.Call.{Call}
use Rattle.poa_base.specs.declared.Sid.{Sid}
use Rattle.poa_base.specs.declared.Sid.TheVariants.{Fresh as FreshServant}
use Rattle.poa_base.specs.declared.State.{State}
use Rattle.poa_base.specs.declared.State.TheVariants.{Fault}
use Rattle.poa_base.specs.declared.Entry.{Entry}
use Rattle.poa_base.specs.declared.Entry.TheVariants.{Incarnated, Run, Etherealized}
use Rattle.poa_base.specs.declared.Incarnation.TheVariants.{Fresh}
use Rattle.history_standing.specs.declared.activation.Activation.{Activation}
use Rattle.history_standing.specs.declared.activation.Phase.TheVariants.{Begun, Complete, Void}
use Rattle.history_standing.specs.declared.stage.Stage.{Stage}
use Rattle.history_standing.specs.declared.stage.Stage.TheVariants.{Removing}
use Rattle.history_standing.specs.Paths.{same_bytes, same_path}
use Rattle.history_standing.specs.Stages.{stage}
use Rattle.history_standing.specs.Standings.{Standing, same_servant}
use Rattle.history_standing.specs.Changes.{standing}
use Rattle.poa_history.specs.Turns.{activation_numbered}
use Rattle.poa_history.specs.States.{Stored, configured_state, servant_run, call_run, acted, restored, kind_brought, fresh_only}
use Rattle.poa_model.specs.declared.servant_state.ServantState.{ServantState}
use Rattle.poa_model.specs.declared.stored_state.StoredState.{StoredState}
use Rattle.poa_model.specs.declared.kept.Kept.{Kept as Table}

-- what was left of servants, and what was stored
pub record Kept : Type 0 where
  pub servants : List ServantState
  pub places : List StoredState

-- a table has the oldest first
abbrev pub seen : Table → Kept
seen t = record { servants = reverse t.servants.items; places = reverse t.places.items }

abbrev pub state_in : Config → List ServantState → Sid → State
state_in c [] s = configured_state c s
state_in c (left ∷ older) s = if same_servant s left.servant then left.state else state_in c older s

abbrev pub stored_in : Stored → List StoredState → List (List ℕ) → List ℕ → Option State
stored_in opened [] p oid = opened p oid
stored_in opened (left ∷ older) p oid =
    if same_path left.path p && same_bytes left.oid oid then Some left.state else stored_in opened older p oid

-- the servant acts on the call
abbrev pub with_run : Config → Option Sid → Option Call → Kept → Kept
with_run c None call k = k
with_run c (Some s) call k = record k { servants = record { servant = s; state = (acted (state_in c k.servants s) call).0 } ∷ k.servants }

-- a fresh servant opens with what is stored for its id
abbrev pub opens_with : Config → Stored → List StoredState → Option Activation → State
opens_with c opened places None = Fault
opens_with c opened places (Some a) = restored (kind_brought c a) (stored_in opened places a.path a.oid)

abbrev pub with_fresh : Config → Stored → ℕ → Option Activation → Kept → Kept
with_fresh c opened n activation k =
    record k { servants = record { servant = FreshServant n; state = opens_with c opened k.places activation } ∷ k.servants }

-- the activation that a worker takes down, and its fresh servant
abbrev pub removed : Standing → Stage → Option Activation
removed s (Removing n) = activation_numbered s n
removed s begun = None

abbrev pub fresh_of : Activation → Option Sid
fresh_of a = elim a.phase [ Complete t ↦ fresh_only t | Begun ↦ None | Void ↦ None ]

-- a fresh servant that is removed leaves its state for its id
abbrev pub with_left : Config → Activation → Option Sid → Kept → Kept
with_left c a None k = k
with_left c a (Some s) k = record k { places = record { path = a.path; oid = a.oid; state = state_in c k.servants s } ∷ k.places }

abbrev pub with_removed : Config → Option Activation → Kept → Kept
with_removed c None k = k
with_removed c (Some a) k = with_left c a (fresh_of a) k

-- what an entry leaves, after the entries before it
abbrev pub with_entry : Config → ℕ → Stored → List Entry → Entry → Kept → Kept
with_entry c run opened past (Run w) k = with_run c (servant_run c run past (stage past w)) (call_run past (stage past w)) k
with_entry c run opened past (Incarnated w (Fresh n)) k = with_fresh c opened n (activation_numbered (standing c run past) n) k
with_entry c run opened past (Etherealized w cleanup remaining) k = with_removed c (removed (standing c run past) (stage past w)) k
with_entry c run opened past e k = k

abbrev pub kept : Config → ℕ → Stored → List Entry → Kept
kept c run opened [] = record { servants = []; places = [] }
kept c run opened (e ∷ past) = with_entry c run opened past e (kept c run opened past)
