-- What a journal tells of a call: what happened to it with each entry, and what it waited for from each on.
use Rattle.std.specs.Prelude.{◌≡◌, ℕ, ◌==◌, nat_lt, Bool, true, false, if◌then◌else◌, List, [], ◌∷◌, ◌++◌, ◌⊎◌, length, Option, Some, None}
use Rattle.poa_base.specs.declared.Config.{Config}
use Rattle.poa_base.specs.declared.Entry.{Entry}
use Rattle.poa_base.specs.declared.Entry.TheVariants.{Arrive, Collect, Admit, Tried, Incarnated, Run, Done}
use Rattle.poa_base.specs.declared.Reply.{Reply}
use Rattle.history_standing.specs.Arrivals.{arrivals, call_of, is_message}
use Rattle.history_standing.specs.Stages.{arrival_in, is_at, stage}
use Rattle.history_standing.specs.Situations.{facts_of}
use Rattle.poa_history.specs.Replies.{reply_of}
use Rattle.poa_history.specs.States.{Stored}
use Rattle.poa_history.specs.Waiting.{is_waiting}
use Rattle.core_turns.specs.Looks.{looked}
use Rattle.core_turns.specs.declared.Look.{Look}
use Rattle.core_turns.specs.declared.Look.TheVariants as looks
use Rattle.journal_explain.specs.declared.event.Event.{Event}
use Rattle.journal_explain.specs.declared.event.Event.TheVariants as event
use Rattle.journal_explain.specs.declared.row.Row.{Row}
use Rattle.journal_explain.specs.declared.step.Step.{Step}
use Rattle.journal_explain.specs.declared.tenure.Tenure.{Tenure}
use Rattle.journal_explain.specs.declared.wait.Wait.{Wait}
use Rattle.journal_explain.specs.declared.wait.Wait.TheVariants.{Worker, Held}
use Rattle.journal_explain.specs.Origins.{held_by, ruled_by}
use Rattle.journal_explain.specs.Rows.{row_of}
use Rattle.journal_explain.specs.Serving.{begun_for, ended_by, servant_brought, served_with, service_by, serving_by}

-- what a look finds: a verdict, so that it waits for a worker alone; or what holds it
abbrev pub wait_by : Look → Wait
wait_by (looks.Go verdict) = Worker
wait_by (looks.Held hold) = Held hold

-- what a request or a locate waits for, as any worker but the first sees it; none where it doesn't wait
abbrev pub wait_of : Config → ℕ → List Entry → ℕ → Option Wait
wait_of c run h r = if is_waiting h r then Some (wait_by (looked (facts_of c run h r) 1)) else None

-- the row of the table by which a request or a locate is admitted; a command has none
abbrev pub row_for : Config → ℕ → List Entry → ℕ → ℕ → Option Row
row_for c run past r w = if is_message (call_of past r) then Some (row_of (facts_of c run past r) w) else None

-- what the worker has begun is for the call
abbrev pub at_work : List Entry → ℕ → ℕ → Event → Option Event
at_work past w r told = if is_at r (arrival_in (stage past w)) then Some told else None

-- what an entry is to the call, where it has it served by an activation that this entry began, if it does
abbrev pub event_with : Config → ℕ → List Entry → Entry → Option ℕ → ℕ → Option Event
event_with c run past (Arrive conn size call) begun r = if arrivals past == r then Some event.Arrived else None
event_with c run past (Admit w a verdict) begun r =
    if a == r then Some (event.Admitted w (row_for c run past r w) verdict (service_by c run past begun (serving_by verdict))) else None
event_with c run past (Tried w answer) begun r = at_work past w r (event.Tried answer)
event_with c run past (Incarnated w answer) begun r = at_work past w r (event.Incarnated (servant_brought answer))
event_with c run past (Run w) begun r = at_work past w r event.Ran
event_with c run past (Done w) begun r = at_work past w r event.Ended
event_with c run past e begun r = None

-- what an entry is to the call, after the entries before it, beside the reply that is collected with it
abbrev pub event_of : Config → ℕ → List Entry → Entry → ℕ → Option Event
event_of c run past e r = event_with c run past e (begun_for c run past (served_with e)) r

-- the reply to the call that is collected
abbrev pub collected : Option Reply → Option Event
collected None = None
collected (Some reply) = Some (event.Collected reply)

-- the reply to the call, where it is collected with an entry
abbrev pub collected_by : Config → ℕ → Stored → List Entry → Entry → ℕ → Option Event
collected_by c run opened past (Collect conn a) r = if a == r then collected (reply_of c run opened past a) else None
collected_by c run opened past e r = None

-- a step with the entry at this place, which rests on this
abbrev pub step_at : ℕ → Option Event → Option Tenure → List Step
step_at place None tenure = []
step_at place (Some told) tenure = record { entry = place; event = told; tenure = tenure } ∷ []

-- it waits for something else than before the entry
abbrev pub waits_at : ℕ → Option Wait → Option Tenure → List Step
waits_at place None tenure = []
waits_at place (Some wait) tenure = record { entry = place; event = event.Waits wait; tenure = tenure } ∷ []

abbrev pub IsNews : ℕ → Option Wait → Option Wait → Option Tenure → List Step → Type 0
IsNews place old new tenure steps =
    ((new ≡ old) × (steps ≡ [])) ⊎ ((new ≡ old → ⊥) × (steps ≡ waits_at place new tenure))

-- one entry more
pub record GoesOn (c : Config) (run : ℕ) (opened : Stored) (past : List Entry) (e : Entry) (r : ℕ) (before after : List Step) : Type 0 where
  pub news : List Step
  pub waits : IsNews (length past) (wait_of c run past r) (wait_of c run (e ∷ past) r)
      (held_by c (e ∷ past) (wait_of c run (e ∷ past) r)) news
  pub told : after ≡ before ++ (step_at (length past) (event_of c run past e r) (ruled_by c run past e r)
      ++ (step_at (length past) (collected_by c run opened past e r) None
      ++ (step_at (length past) (ended_by c run past e r) None ++ news)))

-- of a call that has arrived the one, and of another the other
abbrev pub IfArrived : Bool → Type 0 → Type 0 → Type 0
IfArrived true One Other = One
IfArrived false One Other = Other

-- these are the steps of the call, the first one first: none before it arrives, and from there on with each entry what it is to
-- the call, that the activation that serves it ends, and then what the call waits for where that is another than before
abbrev pub IsStory : Config → ℕ → Stored → List Entry → ℕ → List Step → Type 0
IsStory c run opened [] r steps = steps ≡ []
IsStory c run opened (e ∷ past) r steps =
    IfArrived (nat_lt r (arrivals (e ∷ past)))
    ((before : List Step) × IsStory c run opened past r before × GoesOn c run opened past e r before steps)
    (steps ≡ [])
