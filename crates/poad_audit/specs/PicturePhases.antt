-- The phases of a call that a picture shows, and how each looks.
use Rattle.std.specs.Prelude.{ℕ, Bool, true, false, List, [], ◌∷◌, codes, Option, Some, None, is_some}
use Rattle.poa_base.specs.declared.Attempt.{Attempt}
use Rattle.poa_base.specs.declared.Attempt.TheVariants as attempt
use Rattle.poa_base.specs.declared.Verdict.{Verdict}
use Rattle.poa_base.specs.declared.Verdict.TheVariants as verdict
use Rattle.held_queue.specs.declared.Hold.{Hold}
use Rattle.held_queue.specs.declared.Hold.TheVariants as hold
use Rattle.journal_explain.specs.declared.Event.{Event}
use Rattle.journal_explain.specs.declared.Event.TheVariants as event
use Rattle.journal_explain.specs.declared.Wait.{Wait}
use Rattle.journal_explain.specs.declared.Wait.TheVariants.{Worker, Held}
use Rattle.poad_audit.specs.Story.{hold_text}
use Rattle.poad_audit.specs.declared.picture.phase.Phase.{Phase}
use Rattle.poad_audit.specs.declared.picture.phase.Phase.TheVariants as phase

-- what is left of a call whose reply is fixed: that it be taken, where one is asked
abbrev pub replied : Bool → Phase
replied true = phase.Replying
replied false = phase.Over

-- the phase that begins with each verdict; `asks` says whether a reply is asked
abbrev pub decided : Bool → Verdict → Phase
decided asks (verdict.Serve activation) = phase.Serving
decided asks (verdict.Preset servant) = phase.Serving
decided asks (verdict.Locator servant) = phase.Serving
decided asks (verdict.Incarnate activation) = phase.Bringing
decided asks verdict.Try = phase.Trying
decided asks verdict.Wait = phase.Pending
decided asks other = replied asks

abbrev pub waiting : Wait → Phase
waiting Worker = phase.Waiting
waiting (Held h) = phase.Held h

abbrev pub brought : Bool → Bool → Phase
brought asks true = phase.Serving
brought asks false = replied asks

-- where the adapter activator made the child, it is admitted anew
abbrev pub tried : Bool → Attempt → Phase
tried asks (attempt.Yes number) = phase.Waiting
tried asks other = replied asks

-- its reply may be taken as soon as its servant ran, before the request ends
abbrev pub taken : Phase → Phase
taken phase.Running = phase.Closing
taken other = phase.Over

abbrev pub done : Bool → Phase → Phase
done asks phase.Closing = phase.Over
done asks other = replied asks

-- and with each event, behind another phase
abbrev pub phase_by : Bool → Phase → Event → Phase
phase_by asks before event.Arrived = phase.Waiting
phase_by asks before (event.Waits wait) = waiting wait
phase_by asks before (event.Admitted worker row v service) = decided asks v
phase_by asks before (event.Tried answer) = tried asks answer
phase_by asks before (event.Incarnated servant) = brought asks (is_some servant)
phase_by asks before event.Ran = phase.Running
phase_by asks before event.Ended = done asks before
phase_by asks before (event.Collected reply) = taken before
phase_by asks before (event.Ends n) = before

-- that the activation ends which serves a call, or did, is no phase of the call
abbrev pub is_phase : Event → Bool
is_phase (event.Ends n) = false
is_phase other = true

-- the activation that a verdict names
abbrev pub activation_of : Verdict → Option ℕ
activation_of (verdict.Serve activation) = Some activation
activation_of (verdict.Incarnate activation) = Some activation
activation_of other = None

-- a worker is at it
abbrev pub is_work : Phase → Bool
is_work phase.Trying = true
is_work phase.Bringing = true
is_work phase.Serving = true
is_work phase.Running = true
is_work phase.Closing = true
is_work other = false

abbrev pub is_over : Phase → Bool
is_over phase.Over = true
is_over other = false

-- the name of each look
abbrev pub cause_word : Hold → List ℕ
cause_word (hold.Manager m) = codes "manager"
cause_word (hold.Trial k) = codes "trial"
cause_word (hold.Turn k) = codes "turn"
cause_word hold.Main = codes "main"
cause_word (hold.Id n) = codes "id"
cause_word (hold.Change k) = codes "change"

abbrev pub phase_word : Phase → List ℕ
phase_word phase.Waiting = codes "waiting"
phase_word (phase.Held h) = cause_word h
phase_word phase.Trying = codes "trying"
phase_word phase.Bringing = codes "bringing"
phase_word phase.Serving = codes "serving"
phase_word phase.Running = codes "running"
phase_word phase.Closing = codes "closing"
phase_word phase.Pending = codes "pending"
phase_word phase.Replying = codes "replying"
phase_word phase.Over = codes "over"

-- what is told of a bar that is pointed at
abbrev pub phase_text : Phase → List ℕ
phase_text phase.Waiting = codes "waits for a worker"
phase_text (phase.Held h) = hold_text h
phase_text phase.Trying = codes "the adapter activator is asked"
phase_text phase.Bringing = codes "the servant activator is asked"
phase_text phase.Serving = codes "a worker has it"
phase_text phase.Running = codes "its servant ran"
phase_text phase.Closing = codes "its reply was taken before its end"
phase_text phase.Pending = codes "its answer waits"
phase_text phase.Replying = codes "its reply waits to be taken"
phase_text phase.Over = codes "it is over"

-- all looks
abbrev pub causes : List Hold
causes = hold.Manager 0 ∷ hold.Trial 0 ∷ hold.Turn 0 ∷ hold.Main ∷ hold.Id 0 ∷ hold.Change 0 ∷ []

abbrev pub free_phases : List Phase
free_phases =
    phase.Waiting ∷ phase.Trying ∷ phase.Bringing ∷ phase.Serving ∷ phase.Running ∷ phase.Closing ∷ phase.Pending ∷ phase.Replying ∷ []
