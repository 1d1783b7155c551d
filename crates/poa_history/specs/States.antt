-- The state of each servant, and what is stored.
use Rattle.std.specs.Prelude.{ℕ, pos, Bool, true, false, ◌&&◌, if◌then◌else◌, List, [], ◌∷◌, Option, Some, None, slice_get}
use Rattle.poa_base.specs.declared.Config.{Config}
use Rattle.poa_base.specs.declared.Kind.{Kind}
use Rattle.poa_base.specs.declared.Kind.TheVariants.{Register as RegisterKind, Log, Echo as EchoKind, Fault as FaultKind}
use Rattle.poa_base.specs.declared.Gives.TheVariants.{Fresh as FreshKind, Servant, Forward as ForwardTo, Raise as RaiseThis}
use Rattle.poa_base.specs.declared.Call.{Call}
use Rattle.poa_base.specs.declared.Call.TheVariants.{Request}
use Rattle.poa_base.specs.declared.Outcome.{Outcome}
use Rattle.poa_base.specs.declared.Outcome.TheVariants.{Value}
use Rattle.poa_base.specs.declared.State.{State}
use Rattle.poa_base.specs.declared.State.TheVariants.{Register, Book, Echo, Fault}
use Rattle.poa_base.specs.declared.Sid.{Sid}
use Rattle.poa_base.specs.declared.Sid.TheVariants.{Named as NamedServant, Fresh as FreshServant}
use Rattle.poa_base.specs.declared.Entry.{Entry}
use Rattle.poa_base.specs.declared.Entry.TheVariants.{Incarnated, Run, Etherealized}
use Rattle.poa_base.specs.declared.Incarnation.TheVariants.{Fresh}
use Rattle.poa_base.specs.declared.Verdict.{Verdict}
use Rattle.poa_base.specs.declared.Verdict.TheVariants.{Serve, Preset, Locator, Incarnate}
use Rattle.servant_kinds.specs.Act.{act_of}
use Rattle.history_standing.specs.declared.activation.Activation.{Activation}
use Rattle.history_standing.specs.declared.activation.Phase.TheVariants.{Begun, Complete, Void}
use Rattle.history_standing.specs.declared.stage.Stage.{Stage}
use Rattle.history_standing.specs.declared.stage.Stage.TheVariants.{Serving, Removing}
use Rattle.history_standing.specs.Paths.{same_bytes, same_path}
use Rattle.history_standing.specs.Templates.{rules_at, servant_number}
use Rattle.history_standing.specs.Arrivals.{call_of}
use Rattle.history_standing.specs.Stages.{stage, admitted}
use Rattle.history_standing.specs.Standings.{Standing, same_servant}
use Rattle.history_standing.specs.Rules.{rule_for}
use Rattle.history_standing.specs.Changes.{standing}
use Rattle.poa_history.specs.Turns.{activation_numbered}

-- the state stored for an id of a path, if any
abbrev pub Stored : Type 0
Stored = List (List ℕ) → List ℕ → Option State

-- the state in which a servant of the kind opens
abbrev pub opening_state : Kind → State
opening_state RegisterKind = Register (pos 0)
opening_state Log = Book []
opening_state EchoKind = Echo
opening_state FaultKind = Fault

abbrev pub is_of_kind : Kind → State → Bool
is_of_kind RegisterKind (Register v) = true
is_of_kind Log (Book items) = true
is_of_kind EchoKind Echo = true
is_of_kind FaultKind Fault = true
is_of_kind kind state = false

-- the stored state where it is of the kind, else the state in which the kind opens
abbrev pub restored : Kind → Option State → State
restored kind None = opening_state kind
restored kind (Some state) = if is_of_kind kind state then state else opening_state kind

-- the kind of the fresh servants that an activation's rule brings
abbrev pub kind_brought : Config → Activation → Kind
kind_brought c a =
    elim (rule_for (rules_at c a.path) a.oid) [
      | None ↦ FaultKind
      | Some rule ↦ elim rule.gives [ FreshKind kind ↦ kind | Servant k ↦ FaultKind | ForwardTo e ↦ FaultKind | RaiseThis e ↦ FaultKind ]
    ]

abbrev pub servant_of_activation : Option Activation → Option Sid
servant_of_activation None = None
servant_of_activation (Some a) = elim a.phase [ Complete s ↦ Some s | Begun ↦ None | Void ↦ None ]

abbrev pub servant_named : Config → List ℕ → Option Sid
servant_named c name = elim (servant_number c name) [ Some k ↦ Some (NamedServant k) | None ↦ None ]

-- the servant of an arrival that was admitted to one
abbrev pub servant_by : Config → Standing → Option Verdict → Option Sid
servant_by c s (Some (Serve n)) = servant_of_activation (activation_numbered s n)
servant_by c s (Some (Incarnate n)) = servant_of_activation (activation_numbered s n)
servant_by c s (Some (Preset name)) = servant_named c name
servant_by c s (Some (Locator name)) = servant_named c name
servant_by c s verdict = None

-- the servant that runs at the Run of a worker, and the call that it runs
abbrev pub servant_run : Config → ℕ → List Entry → Stage → Option Sid
servant_run c run past (Serving r) = servant_by c (standing c run past) (admitted past r)
servant_run c run past begun = None

abbrev pub call_run : List Entry → Stage → Option Call
call_run past (Serving r) = call_of past r
call_run past begun = None

-- the state after a request, and its outcome
abbrev pub acted : State → Option Call → State × Outcome
acted state (Some (Request head target operation body)) = act_of state operation body
acted state call = (state, Value None)

abbrev pub is_servant : Sid → Option Sid → Bool
is_servant s None = false
is_servant s (Some t) = same_servant s t

abbrev pub configured_state : Config → Sid → State
configured_state c (NamedServant k) = elim (slice_get c.servants k) [ Some conf ↦ conf.state | None ↦ Fault ]
configured_state c (FreshServant n) = Fault

abbrev pub fresh_only : Sid → Option Sid
fresh_only (FreshServant n) = Some (FreshServant n)
fresh_only (NamedServant k) = None

-- the fresh servant of an activation of this path and id that is removed
abbrev pub is_stored_by : Standing → Stage → List (List ℕ) → List ℕ → Option Sid
is_stored_by s (Removing n) p oid =
    elim (activation_numbered s n) [
      | None ↦ None
      | Some a ↦
          (if same_path a.path p && same_bytes a.oid oid then
          (elim a.phase [ Complete t ↦ fresh_only t | Begun ↦ None | Void ↦ None ]) else None)
    ]
is_stored_by s begun p oid = None

-- a named servant opens with its configured state; a fresh one with what is stored when it is incarnated
abbrev mutual
  pub state_of : Config → ℕ → Stored → List Entry → Sid → State
  state_of c run opened [] s = configured_state c s
  state_of c run opened (Run w ∷ past) s =
      if is_servant s (servant_run c run past (stage past w)) then
      (acted (state_of c run opened past s) (call_run past (stage past w))).0 else state_of c run opened past s
  state_of c run opened (Incarnated w (Fresh n) ∷ past) s =
      if same_servant s (FreshServant n)
      then elim (activation_numbered (standing c run past) n)
      [ Some a ↦ restored (kind_brought c a) (stored c run opened past a.path a.oid) | None ↦ Fault ]
      else state_of c run opened past s
  state_of c run opened (e ∷ past) s = state_of c run opened past s

  -- the state of the fresh servant that was etherealized last for the id, else what was stored at opening
  pub stored : Config → ℕ → Stored → List Entry → List (List ℕ) → List ℕ → Option State
  stored c run opened [] p oid = opened p oid
  stored c run opened (Etherealized w cleanup remaining ∷ past) p oid =
      elim (is_stored_by (standing c run past) (stage past w) p oid) [
        | Some s ↦ Some (state_of c run opened past s)
        | None ↦ stored c run opened past p oid
      ]
  stored c run opened (e ∷ past) p oid = stored c run opened past p oid
