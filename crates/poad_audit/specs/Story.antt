-- What is printed of calls.
use Rattle.std.specs.Prelude.{ℕ, List, [], ◌++◌, ◌∷◌, codes, decimal, Option, Some, None}
use Rattle.poa_base.specs.declared.Attempt.{Attempt}
use Rattle.poa_base.specs.declared.Attempt.TheVariants as attempt
use Rattle.poa_base.specs.declared.Verdict.{Verdict}
use Rattle.held_queue.specs.declared.Hold.{Hold}
use Rattle.held_queue.specs.declared.Hold.TheVariants as hold
use Rattle.journal_explain.specs.declared.CallName.{CallName}
use Rattle.journal_explain.specs.declared.Event.{Event}
use Rattle.journal_explain.specs.declared.Event.TheVariants as event
use Rattle.journal_explain.specs.declared.Row.{Row}
use Rattle.journal_explain.specs.declared.Row.TheVariants as row
use Rattle.journal_explain.specs.declared.Service.{Service}
use Rattle.journal_explain.specs.declared.Step.{Step}
use Rattle.journal_explain.specs.declared.Tenure.{Tenure}
use Rattle.journal_explain.specs.declared.Trail.{Trail}
use Rattle.journal_explain.specs.declared.Wait.{Wait}
use Rattle.journal_explain.specs.declared.Wait.TheVariants.{Worker, Held}
use Rattle.poad_audit.specs.Adapters.{adapter_text}
use Rattle.poad_audit.specs.Calls.{call_text}
use Rattle.poad_audit.specs.Replies.{collected_text}
use Rattle.poad_audit.specs.Servants.{brought_text}
use Rattle.poad_audit.specs.Tenures.{held_since, ruler_text}
use Rattle.poad_audit.specs.Verdicts.{decided_text}

abbrev pub row_text : Row → List ℕ
row_text row.Crowded = codes "when it arrived, 65536 requests and locates stood unadmitted"
row_text row.NoKey = codes "its target gives no key"
row_text row.BadKey = codes "its key is no spelling of one"
row_text row.OtherRun = codes "its key is transient and of another run"
row_text row.AdapterDying = codes "an adapter on the way from the root is being destroyed"
row_text row.ChildGone = codes "an adapter of its path is missing, and its key is transient"
row_text row.ParentManager = codes "an adapter of its path is missing, and the manager of the one above isn't ACTIVE"
row_text row.ChildTried = codes "an adapter of its path is missing, and a trial of it is in flight"
row_text row.ChildActivator = codes "an adapter of its path is missing, and the adapter activator above is asked"
row_text row.ChildForward = codes "an adapter of its path is missing, and the endpoint table has an entry for the path"
row_text row.ChildMissing = codes "an adapter of its path is missing"
row_text row.OtherLifespan = codes "its key has another lifespan than the adapter, or is of an adapter that stood there before"
row_text row.OtherTag = codes "its key has another tag than the adapter"
row_text row.Manager = codes "the manager of its adapter isn't ACTIVE"
row_text row.Thread = codes "the thread policy of its adapter lets it wait"
row_text row.Active = codes "its object is active"
row_text row.Changing = codes "its object is on its way into the active object map or out of it"
row_text row.NotActive = codes "its object isn't active, and its adapter brings none"
row_text row.DefaultServant = codes "its object isn't active, and the default servant serves it"
row_text row.NoDefaultServant = codes "its object isn't active, and no default servant is set"
row_text row.NoServantManager = codes "its object isn't active, and its adapter has no servant manager"
row_text row.ActivatorHere = codes "its object isn't active, and the servant activator may bring it"
row_text row.ActivatorBusy = codes "its object isn't active, and the servant activator is at another one"
row_text row.Incarnate = codes "its object isn't active, and the servant activator is asked"
row_text row.LocatorHere = codes "the servant locator may find its object"
row_text row.Locator = codes "the servant locator has a rule for its object"
row_text row.NoRule = codes "the servant locator has no rule for its object"

-- a command is admitted by no row of the table
abbrev pub reason_text : Option Row → List ℕ
reason_text None = codes "it is a command"
reason_text (Some row) = row_text row

abbrev pub hold_text : Hold → List ℕ
hold_text (hold.Manager m) = codes "held: manager " ++ (decimal m ++ codes " is HOLDING")
hold_text (hold.Trial k) = codes "held: a trial of a child of adapter " ++ (decimal k ++ codes " is in flight")
hold_text (hold.Turn k) = codes "held: another request is in flight in adapter " ++ decimal k
hold_text hold.Main = codes "held: the first worker alone may take it"
hold_text (hold.Id n) = codes "held: activation " ++ (decimal n ++ codes " of its object is on its way in or out")
hold_text (hold.Change k) = codes "held: an incarnation or etherealization is unfinished in adapter " ++ decimal k

abbrev pub wait_text : Wait → List ℕ
wait_text Worker = codes "waits for a worker"
wait_text (Held h) = hold_text h

-- and since when that holds it, where it can be set
abbrev pub waits_text : Wait → Option Tenure → List ℕ
waits_text wait tenure = wait_text wait ++ held_since tenure

abbrev pub attempt_text : Attempt → List ℕ
attempt_text (attempt.Yes n) = codes "the adapter activator made adapter " ++ decimal n
attempt_text attempt.No = codes "the adapter activator made none"
attempt_text attempt.Raised = codes "the adapter activator raised an exception"
attempt_text attempt.Dying = codes "the adapter above is being destroyed"

-- why it was admitted, and what was decided
abbrev pub admitted_head : ℕ → List ℕ
admitted_head w = codes "admitted by worker " ++ (decimal w ++ codes ": ")

abbrev pub admitted_text : ℕ → Option Row → Option Tenure → Verdict → Option Service → List ℕ
admitted_text w row tenure verdict service =
    admitted_head w ++ (reason_text row ++ (ruler_text tenure ++ (codes "; " ++ decided_text verdict service)))

-- the activation that serves it isn't active any more
abbrev pub ends_text : ℕ → List ℕ
ends_text n = codes "activation " ++ (decimal n ++ codes " is ending")

-- by what it is held or admitted, where that can be set
abbrev pub event_text : Event → Option Tenure → List ℕ
event_text event.Arrived tenure = codes "arrived"
event_text (event.Waits wait) tenure = waits_text wait tenure
event_text (event.Admitted w row verdict service) tenure = admitted_text w row tenure verdict service
event_text (event.Tried answer) tenure = attempt_text answer
event_text (event.Incarnated servant) tenure = brought_text servant
event_text event.Ran tenure = codes "its servant ran"
event_text event.Ended tenure = codes "the request ended"
event_text (event.Collected reply) tenure = collected_text reply
event_text (event.Ends n) tenure = ends_text n

abbrev pub step_line : Step → List ℕ
step_line s = codes "entry " ++ (decimal s.entry ++ (codes " " ++ (event_text s.event s.tenure ++ codes "\n")))

-- the text of each, one behind the other
abbrev pub lines_by : {A : Type 0} → (A → List ℕ) → List A → List ℕ
lines_by text [] = []
lines_by text (x ∷ more) = text x ++ lines_by text more

-- the call, the line of the journal's entry 0, what the call asks, its adapter, and what happened to the call with each entry
abbrev pub head_by : Option ℕ → ℕ → ℕ → ℕ → List ℕ
head_by (Some id) r conn line = codes "call " ++ (decimal r ++ (codes ", id " ++ (decimal id ++ (codes " of connection " ++ (decimal conn
    ++ (codes ", entry 0 in line " ++ (decimal line ++ codes "\n")))))))
head_by None r conn line = codes "call " ++ (decimal r ++ (codes ", a command of connection " ++ (decimal conn
    ++ (codes ", entry 0 in line " ++ (decimal line ++ codes "\n")))))

abbrev pub head_line : CallName → ℕ → List ℕ
head_line name line = head_by name.id name.arrival name.conn line

abbrev pub story_text : ℕ → Trail → List ℕ
story_text line t =
    head_line t.name line ++ (call_text t.call ++ (adapter_text t.adapter ++ lines_by step_line t.steps.items))

-- each call that is asked for
abbrev pub calls_text : ℕ → List Trail → List ℕ
calls_text line [] = codes "no such call arrived\n"
calls_text line (t ∷ more) = lines_by (story_text line) (t ∷ more)
