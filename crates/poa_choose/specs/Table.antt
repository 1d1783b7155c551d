-- The verdict on a request or a locate, by its facts: the first row that applies. The rows stand in
-- groups, and the last row of a group hands on to the next group.
use Rattle.std.specs.Prelude.{◌==◌, ℕ, Bool, true, false, ◌&&◌, not, List, Option, None, Some, if◌then◌else◌}
use Rattle.poa_base.specs.Policies.{is_single_thread, is_main_thread, is_system_id, is_retain}
use Rattle.poa_base.specs.declared.Cause.TheVariants.{Manager, Adapter, Id, Trial}
use Rattle.poa_base.specs.declared.Completion.TheVariants.{No}
use Rattle.poa_base.specs.declared.Endpoint.{Endpoint}
use Rattle.poa_base.specs.declared.ExcName.{ExcName}
use Rattle.poa_base.specs.declared.ExcName.TheVariants.{ObjectNotExist, Transient as Transiently, ObjAdapter}
use Rattle.poa_base.specs.declared.ManagerState.{ManagerState}
use Rattle.poa_base.specs.declared.ManagerState.TheVariants.{Holding, Active, Discarding, Inactive}
use Rattle.poa_base.specs.declared.Policy.{Policy}
use Rattle.poa_base.specs.declared.Policy.TheVariants.{DefaultServant, ServantManager}
use Rattle.poa_base.specs.declared.Verdict.{Verdict}
use Rattle.poa_base.specs.declared.Verdict.TheVariants.{Serve, Preset, Locator, Incarnate, Try, Refuse, Forward, Addressing, Here, Unknown}
use Rattle.poa_base.specs.declared.minors.TheConstants.{DISCARDED, ADAPTER_DYING, NO_DEFAULT_SERVANT, NO_SERVANT_MANAGER, NO_ADAPTER, BAD_KEY, OTHER_LIFESPAN, OTHER_TAG, NOT_ACTIVE, MANAGER_INACTIVE}
use Rattle.poa_choose.specs.declared.facts.Choice.{Choice}
use Rattle.poa_choose.specs.declared.facts.Choice.TheVariants.{Go, Held}
use Rattle.poa_choose.specs.declared.facts.Facts.{Facts}
use Rattle.poa_choose.specs.declared.facts.KeyFact.{KeyFact}
use Rattle.poa_choose.specs.declared.facts.KeyFact.TheVariants.{Absent, Bad, OtherRun, Transient}
use Rattle.poa_choose.specs.declared.facts.Located.{Located}
use Rattle.poa_choose.specs.declared.facts.Located.TheVariants.{Servant, Forward as Elsewhere, Raise, NoRule}
use Rattle.poa_choose.specs.declared.facts.MapFact.{MapFact}
use Rattle.poa_choose.specs.declared.facts.MapFact.TheVariants.{Active as ActiveAs, Busy, Free}
use Rattle.poa_choose.specs.declared.facts.WalkFact.{WalkFact}
use Rattle.poa_choose.specs.declared.facts.WalkFact.TheVariants.{Dying, Missing, Found}

-- a request is refused by an exception that it did not begin; a locate finds the object unknown
abbrev pub refuse : Facts → ExcName → ℕ → Choice
refuse f name minor = Go (if f.locate then Unknown else Refuse (record { name = name; minor = minor; done = No }))

-- a request goes to its servant; a locate finds the object here
abbrev pub serve : Facts → Verdict → Choice
serve f verdict = Go (if f.locate then Here else verdict)

abbrev pub is_transient : KeyFact → Bool
is_transient Transient = true
is_transient key = false

-- to where the endpoint table points, else that
abbrev pub forward_or : Option Endpoint → Choice → Choice
forward_or None other = other
forward_or (Some endpoint) other = Go (Forward endpoint)

-- INACTIVE: the endpoint table is asked for persistent keys
abbrev pub inactive_rule : Facts → Choice
inactive_rule f =
    if is_transient f.key then refuse f ObjAdapter MANAGER_INACTIVE
    else forward_or f.entry (refuse f ObjAdapter MANAGER_INACTIVE)

-- what a manager's state says; ACTIVE hands on
abbrev pub state_rule : Facts → ManagerState → Choice → Choice
state_rule f Holding on = Held (Some (Manager f.manager))
state_rule f Active on = on
state_rule f Discarding on = refuse f Transiently DISCARDED
state_rule f Inactive on = inactive_rule f

-- NON_RETAIN: the locator's first rule that matches
abbrev pub located_rows : Facts → Located → Choice
located_rows f (Servant name) = Go (Locator name)
located_rows f (Elsewhere endpoint) = Go (Forward endpoint)
located_rows f (Raise exception) = Go (Refuse exception)
located_rows f NoRule = refuse f ObjectNotExist NOT_ACTIVE

abbrev pub locator_rows : Facts → Choice
locator_rows f = if f.locate then Go Here else located_rows f f.located

-- RETAIN: the activator
abbrev pub activator_rows : Facts → Choice
activator_rows f =
    if f.locate then Go Here
    else if f.busy then Held (Some (Adapter f.adapter))
    else Go (Incarnate f.next)

-- USE_SERVANT_MANAGER
abbrev pub manager_rows : Facts → Choice
manager_rows f =
    if not f.rules then refuse f ObjAdapter NO_SERVANT_MANAGER
    else if is_retain f.policies.retention then activator_rows f
    else locator_rows f

-- USE_DEFAULT_SERVANT
abbrev pub default_rows : Facts → Option (List ℕ) → Choice
default_rows f None = refuse f ObjAdapter NO_DEFAULT_SERVANT
default_rows f (Some name) = serve f (Preset name)

-- an adapter that makes its ids and keeps its objects has not made this one
abbrev pub unmade : Facts → Bool
unmade f = is_retain f.policies.retention && (is_system_id f.policies.assignment && f.bad_id)

-- no active object has the id
abbrev pub processing_rows : Facts → Policy → Choice
processing_rows f DefaultServant = default_rows f f.preset
processing_rows f ServantManager = if unmade f then refuse f ObjectNotExist NOT_ACTIVE else manager_rows f
processing_rows f _ = refuse f ObjectNotExist NOT_ACTIVE

-- RETAIN: what the map has for the id
abbrev pub map_rows : Facts → MapFact → Choice
map_rows f (ActiveAs activation) = serve f (Serve activation)
map_rows f (Busy activation) = Held (Some (Id f.adapter activation))
map_rows f Free = processing_rows f f.policies.processing

abbrev pub object_rows : Facts → Choice
object_rows f = if is_retain f.policies.retention then map_rows f f.slot else processing_rows f f.policies.processing

-- SINGLE_THREAD_MODEL: a request waits for the one that runs
abbrev pub awaits_turn : Facts → Bool
awaits_turn f = not f.locate && (is_single_thread f.policies.thread && f.running)

-- MAIN_THREAD_MODEL: a request waits for the first worker
abbrev pub awaits_main : Facts → ℕ → Bool
awaits_main f worker = not f.locate && (is_main_thread f.policies.thread && not (worker == 0))

abbrev pub thread_rows : Facts → ℕ → Choice
thread_rows f worker =
    if awaits_turn f then Held (Some (Adapter f.adapter))
    else if awaits_main f worker then Held None
    else object_rows f

-- the adapter is there, with the lifespan that the key says
abbrev pub tag_rows : Facts → ℕ → Choice
tag_rows f worker = if f.other_tag then refuse f ObjectNotExist OTHER_TAG else state_rule f f.state (thread_rows f worker)

-- the adapter is there
abbrev pub found_rows : Facts → ℕ → Choice
found_rows f worker = if f.differs then refuse f ObjectNotExist OTHER_LIFESPAN else tag_rows f worker

-- a child is missing, and its parent's manager is ACTIVE
abbrev pub trial_rows : Facts → Choice
trial_rows f =
    if f.trial then Held (Some (Trial f.adapter))
    else if f.tries then Go Try
    else forward_or f.entry (refuse f ObjectNotExist NO_ADAPTER)

-- a child is missing
abbrev pub missing_rows : Facts → Choice
missing_rows f = if is_transient f.key then refuse f ObjectNotExist OTHER_LIFESPAN else state_rule f f.state (trial_rows f)

-- the walk from the root
abbrev pub walk_rows : Facts → ℕ → WalkFact → Choice
walk_rows f worker Dying = refuse f Transiently ADAPTER_DYING
walk_rows f worker Missing = missing_rows f
walk_rows f worker Found = found_rows f worker

-- the key
abbrev pub key_rows : Facts → ℕ → KeyFact → Choice
key_rows f worker Absent = Go Addressing
key_rows f worker Bad = refuse f ObjectNotExist BAD_KEY
key_rows f worker OtherRun = refuse f ObjectNotExist OTHER_LIFESPAN
key_rows f worker _ = walk_rows f worker f.walk

-- the verdict for a worker
unfoldable pub first_row : Facts → ℕ → Choice
first_row f worker = if f.crowded then refuse f Transiently DISCARDED else key_rows f worker f.key
