-- How a watch goes on with an entry. These words are for contracts inside of this crate.
use Rattle.std.specs.Prelude.{◌≡◌, ℕ, ◌==◌, nat_lt, length, Bool, true, false, if◌then◌else◌, List, [], ◌∷◌, ◌++◌, find, Option, Some, None, option_map}
use Rattle.std.specs.List.{AllZip}
use Rattle.poa_base.specs.declared.Call.{Call}
use Rattle.poa_base.specs.declared.Entry.{Entry}
use Rattle.poa_base.specs.declared.Entry.TheVariants.{Arrive, Collect, Admit, Tried, Incarnated, Run, Done}
use Rattle.history_standing.specs.declared.activation.Activation.{Activation}
use Rattle.history_standing.specs.Arrivals.{arrivals}
use Rattle.history_standing.specs.Keys.{key_in}
use Rattle.history_standing.specs.Opening.{opening}
use Rattle.history_standing.specs.Stages.{arrival_in, is_at, stage}
use Rattle.history_standing.specs.Standings.{is_active}
use Rattle.poa_history.specs.Life.{Life, opened}
use Rattle.journal_audit.specs.Judging.{Follows}
use Rattle.core_outboxes.specs.declared.filed.Filed.{Filed}
use Rattle.journal_explain.specs.declared.selection.Selection.{Selection}
use Rattle.journal_explain.specs.declared.call_name.CallName.{CallName}
use Rattle.journal_explain.specs.declared.adapter.Adapter.{Adapter}
use Rattle.journal_explain.specs.declared.beginnings.Beginnings.{Beginnings}
use Rattle.journal_explain.specs.declared.origin.Origin.{Origin}
use Rattle.journal_explain.specs.declared.setting.Setting.{Setting}
use Rattle.journal_explain.specs.declared.since.Since.{Since}
use Rattle.journal_explain.specs.declared.step.Step.{Step}
use Rattle.journal_explain.specs.declared.tenure.Tenure.{Tenure}
use Rattle.journal_explain.specs.declared.came.Came.{Came}
use Rattle.journal_explain.specs.declared.trail.Trail.{Trail}
use Rattle.journal_explain.specs.declared.watch.Watch.{Watch}
use Rattle.journal_explain.specs.Naming.{asks, is_all, name_of}
use Rattle.journal_explain.specs.declared.doing.Doing.{Doing}
use Rattle.journal_explain.specs.declared.object_trail.ObjectTrail.{ObjectTrail}
use Rattle.journal_explain.specs.Adapters.{adapter_at}
use Rattle.journal_explain.specs.Objects.{changed_with, command_by, slot_asked, stored_asked}
use Rattle.journal_explain.specs.Origins.{holder, ruler, same_setting, since_of, since_with, tenure_by}
use Rattle.journal_explain.specs.Outcomes.{came_with}
use Rattle.journal_explain.specs.Serving.{beginning_at, begins_in, begun_in, ended_where, served_with, server_in, server_with, serves}
use Rattle.journal_explain.specs.Stories.{IsNews, collected, event_with, step_at, wait_of}
use Rattle.journal_explain.specs.declared.event.Event.{Event}

-- since when something is set, by the rows of what commands have set
abbrev pub origin_in : List Origin → Setting → Option Origin
origin_in rows s = find (λ o. same_setting o.setting s) rows

abbrev pub since_in : List Origin → Setting → Option Since
since_in rows s = option_map (λ o. o.since) (origin_in rows s)

-- a setting has this row now, and every other what it had
abbrev pub IsPut : Origin → List Origin → List Origin → Type 0
IsPut row old new = (s : Setting) → origin_in new s ≡ (if same_setting row.setting s then Some row else origin_in old s)

-- they say what the history says
abbrev pub KnowsOrigins : Life → List Origin → Type 0
KnowsOrigins life rows = (s : Setting) → since_in rows s ≡ since_of life.config life.history s

-- the next entry of a run, at this place
abbrev pub Settles : Life → Entry → ℕ → List Origin → List Origin → Type 0
Settles past e place old new = (s : Setting) → since_in new s ≡ since_with past.config past.history e place s (since_in old s)

-- what is set after a history, by the rows
abbrev pub tenure_in : Life → List Origin → Setting → Tenure
tenure_in life rows s = tenure_by life.config life.history s (since_in rows s)

abbrev pub told_in : Life → List Origin → Option Setting → Option Tenure
told_in life rows setting = option_map (tenure_in life rows) setting

-- with which entry an activation began, by the rows of those that began
abbrev pub begun_by : Beginnings → Option ℕ → Option ℕ
begun_by b None = None
begun_by b (Some n) = beginning_at b.first b.rows.items n

-- they say what the history says
pub record KnowsBeginnings (life : Life) (b : Beginnings) : Type 0 where
  pub first : b.first ≡ length (opening life.config life.run).activations
  pub count : b.count ≡ begun_in life.config life.run life.history
  pub rows : b.rows.items ≡ begins_in life.config life.run life.history

-- in a run behind the entry at this place
pub record Counts (life : Life) (place : ℕ) (old new : Beginnings) : Type 0 where
  pub first : new.first ≡ old.first
  pub count : new.count ≡ begun_in life.config life.run life.history
  pub rows : new.rows.items ≡ (if nat_lt old.count (begun_in life.config life.run life.history)
      then old.rows.items ++ place ∷ [] else old.rows.items)

-- an activation was found, and it is active
abbrev pub active_in : Option Activation → Bool
active_in None = false
active_in (Some a) = is_active a

-- one more, of which nothing has been seen
pub record BeginsOne (name : CallName) (call : Call) (stood : Option Adapter) (server : Option ℕ) (old new : List Trail) : Type 0 where
  pub trail : Trail
  pub named : trail.name ≡ name
  pub came : trail.call ≡ call
  pub adapter : trail.adapter ≡ stood
  pub steps : trail.steps.items ≡ []
  pub wait : trail.wait ≡ None
  pub served : trail.server ≡ server
  pub behind : new ≡ old ++ trail ∷ []

abbrev pub BeginsIf : Bool → CallName → Call → Option Adapter → Option ℕ → List Trail → List Trail → Type 0
BeginsIf true name call adapter server old new = BeginsOne name call adapter server old new
BeginsIf false name call adapter server old new = new ≡ old

-- where a call that is asked for arrives with the next entry of a run, at this place
abbrev pub Begins : Selection → Life → ℕ → Entry → List Trail → List Trail → Type 0
Begins which past place (Arrive conn size call) old new =
    BeginsIf (asks which (name_of (arrivals past.history) conn call) place) (name_of (arrivals past.history) conn call) call
    (adapter_at past.config past.run past.history (key_in (Some call))) (server_in past.history (arrivals past.history)) old new
Begins which past place e old new = new ≡ old

-- which activation serves the call with the next entry of a run, and whether it is active before it
pub record IsServed (past : Life) (e : Entry) (old new : Trail) : Type 0 where
  pub name : new.name ≡ old.name
  pub call : new.call ≡ old.call
  pub adapter : new.adapter ≡ old.adapter
  pub steps : new.steps.items ≡ old.steps.items
  pub wait : new.wait ≡ old.wait
  pub server : new.server ≡ server_with e old.name.arrival old.server
  pub active : new.active ≡ serves past.config past.run past.history new.server

-- what the worker has begun is for the call
abbrev pub is_working : List Entry → ℕ → ℕ → Bool
is_working past w r = is_at r (arrival_in (stage past w))

-- an entry speaks of the call, after the entries before it; to every other call it is nothing
abbrev pub speaks_of : List Entry → Entry → ℕ → Bool
speaks_of past (Arrive conn size call) r = arrivals past == r
speaks_of past (Admit w a verdict) r = a == r
speaks_of past (Tried w answer) r = is_working past w r
speaks_of past (Incarnated w answer) r = is_working past w r
speaks_of past (Run w) r = is_working past w r
speaks_of past (Done w) r = is_working past w r
speaks_of past e r = false

-- what the next entry of a run, at this place, is to the call, by the rows of what is set; where it has it served, this entry
-- began the activation that serves it
pub record Notes (past : Life) (e : Entry) (place : ℕ) (begun : Option ℕ) (rows : List Origin) (old new : Trail) : Type 0 where
  pub name : new.name ≡ old.name
  pub call : new.call ≡ old.call
  pub adapter : new.adapter ≡ old.adapter
  pub told : Follows past e
      → new.steps.items ≡ old.steps.items ++ step_at place (event_with past.config past.run past.history e begun old.name.arrival)
      (told_in past rows (ruler past.config past.run past.history e old.name.arrival))
  pub wait : new.wait ≡ old.wait
  pub server : new.server ≡ server_with e old.name.arrival old.server
  pub active : new.active ≡ serves past.config past.run past.history new.server

-- an entry collects a reply
abbrev pub is_collect : Entry → Bool
is_collect (Collect conn a) = true
is_collect e = false

-- the reply that was collected, where it is one to the call
abbrev pub handed_to : Option Filed → ℕ → Option Event
handed_to None r = None
handed_to (Some f) r = if f.arrival == r then collected (Some f.reply) else None

-- this reply was collected with the entry at this place
pub record Gets (given : Option Filed) (place : ℕ) (old new : Trail) : Type 0 where
  pub name : new.name ≡ old.name
  pub call : new.call ≡ old.call
  pub adapter : new.adapter ≡ old.adapter
  pub told : new.steps.items ≡ old.steps.items ++ step_at place (handed_to given old.name.arrival) None
  pub wait : new.wait ≡ old.wait
  pub server : new.server ≡ old.server
  pub active : new.active ≡ old.active

-- that the activation ended which serves the call, and what the call waits for, in a run behind the entry at this place, by the
-- rows of what is set
pub record Looks (life : Life) (place : ℕ) (rows : List Origin) (old new : Trail) : Type 0 where
  pub name : new.name ≡ old.name
  pub call : new.call ≡ old.call
  pub adapter : new.adapter ≡ old.adapter
  pub wait : new.wait ≡ wait_of life.config life.run life.history old.name.arrival
  pub news : List Step
  pub is_news : IsNews place old.wait new.wait (told_in life rows (holder new.wait)) news
  pub server : new.server ≡ old.server
  pub steps : new.steps.items ≡ old.steps.items
      ++ (step_at place (ended_where old.server old.active (serves life.config life.run life.history old.server)) None ++ news)

-- what stands of the object that is asked for, in a run behind the entry at this place, which does this
pub record Traces (which : Selection) (life : Life) (place : ℕ) (doing : Doing) (old new : ObjectTrail) : Type 0 where
  pub opens : new.opens ≡ old.opens
  pub stored : new.stored ≡ old.stored
  pub slot : new.slot ≡ slot_asked which life.config life.run life.history
  pub changes : new.changes.items ≡ old.changes.items
      ++ changed_with place doing (command_by life.history doing) (stored_asked which life.config life.run (opened life) life.history)
      old.slot (slot_asked which life.config life.run life.history)

-- what the next entry makes of all calls, where that is asked
abbrev pub came_next : Selection → Life → Entry → ℕ → List Came → List Came
came_next which past e place came = if is_all which then came_with past.config past.run past.history e place came else came

-- the next entry of a run, at this place, was noted
pub record HasNoted (past : Life) (e : Entry) (place : ℕ) (old new : Watch) : Type 0 where
  pub asked : new.asked ≡ old.asked
  pub begun : List Trail
  pub begins : Begins old.asked past place e old.trails.items begun
  pub notes : AllZip (Notes past e place (begun_by old.beginnings (served_with e)) old.origins) begun new.trails.items
  pub origins : Settles past e place old.origins new.origins
  pub beginnings : new.beginnings ≡ old.beginnings
  pub object : new.object ≡ old.object
  pub came : new.came.items ≡ came_next old.asked past e place old.came.items

-- the reply that was collected with the entry at this place was noted
pub record HasGiven (given : Option Filed) (place : ℕ) (old new : Watch) : Type 0 where
  pub asked : new.asked ≡ old.asked
  pub gets : AllZip (Gets given place) old.trails.items new.trails.items
  pub origins : new.origins ≡ old.origins
  pub beginnings : new.beginnings ≡ old.beginnings
  pub object : new.object ≡ old.object
  pub came : new.came.items ≡ old.came.items

-- what is waited for in a run behind the entry at this place, which does this, was noted, which activations began, and what stands
-- of the object
pub record HasLooked (life : Life) (place : ℕ) (doing : Doing) (old new : Watch) : Type 0 where
  pub asked : new.asked ≡ old.asked
  pub looks : AllZip (Looks life place old.origins) old.trails.items new.trails.items
  pub origins : new.origins ≡ old.origins
  pub beginnings : Counts life place old.beginnings new.beginnings
  pub object : Traces old.asked life place doing old.object new.object
  pub came : new.came.items ≡ old.came.items
