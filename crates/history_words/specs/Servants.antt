-- Which servant an activation has, as the entry that begins it, or the end of its incarnation, says (CORBA 3.3 Part 1,
-- section 15.3.9: activate_object, activate_object_with_id, servant_to_reference; section 15.3.6: incarnate).
use Rattle.std.specs.Prelude.{ℕ, Bool, false, not, ◌&&◌, ◌||◌, ◌==◌, nat_lt, if◌then◌else◌, List, [], ◌∷◌}
use Rattle.std.specs.Prelude.{length, Option, Some, None, option_map, option_and_then, slice_get}
use Rattle.poa_base.specs.declared.Config.{Config}
use Rattle.poa_base.specs.declared.Command.{Command}
use Rattle.poa_base.specs.declared.Command.TheVariants.{Activate, ActivateId, Reference}
use Rattle.poa_base.specs.declared.Entry.{Entry}
use Rattle.poa_base.specs.declared.Entry.TheVariants.{Incarnated}
use Rattle.poa_base.specs.declared.Incarnation.{Incarnation}
use Rattle.poa_base.specs.declared.Incarnation.TheVariants.{Fresh, Named}
use Rattle.poa_base.specs.declared.Sid.{Sid}
use Rattle.poa_base.specs.declared.Sid.TheVariants.{Named as NamedServant, Fresh as FreshServant}
use Rattle.history_standing.specs.declared.stage.Stage.{Stage}
use Rattle.history_standing.specs.declared.stage.Stage.TheVariants.{Incarnating}
use Rattle.history_standing.specs.Changes.{standing}
use Rattle.history_standing.specs.Logs.{command_done}
use Rattle.history_standing.specs.Stages.{stage, brings}
use Rattle.poa_history.specs.States.{servant_named}

-- the name of the servant that a command activates
abbrev pub servant_ordered : Option Command → Option (List ℕ)
servant_ordered (Some (Activate p servant)) = Some servant
servant_ordered (Some (ActivateId p oid servant)) = Some servant
servant_ordered (Some (Reference p servant)) = Some servant
servant_ordered command = None

-- the servant that a servant activator's answer brings: a fresh one of this number, or a configured one of this name
abbrev pub servant_brought : Config → Incarnation → Option Sid
servant_brought c (Fresh number) = Some (FreshServant number)
servant_brought c (Named name) = servant_named c name
servant_brought c answer = None

-- the worker incarnates the activation of this number
abbrev pub is_incarnating : ℕ → Stage → Bool
is_incarnating n (Incarnating r m) = m == n
is_incarnating n begun = false

-- the servant that the activation of this number was given: as a configured object, by the answer that ended its
-- incarnation, or by the command that began it
abbrev pub servant_given : Config → ℕ → List Entry → ℕ → Option Sid
servant_given c run [] n = option_map (λ o. NamedServant o.servant) (slice_get c.objects n)
servant_given c run (Incarnated w answer ∷ past) n =
    if is_incarnating n (stage past w) then servant_brought c answer else servant_given c run past n
servant_given c run (e ∷ past) n =
    if nat_lt n (length (standing c run past).activations) then servant_given c run past n
    else option_and_then (servant_named c) (servant_ordered (command_done past e))

-- its incarnation ended, and brought none
abbrev pub was_refused : List Entry → ℕ → Bool
was_refused [] n = false
was_refused (Incarnated w answer ∷ past) n = (is_incarnating n (stage past w) && not (brings answer)) || was_refused past n
was_refused (e ∷ past) n = was_refused past n
