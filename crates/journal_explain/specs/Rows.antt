-- The rows of the table of verdicts: where each applies, and what it gives. CORBA 3.3 Part 1, sections 15.2.3 and 15.3.
use Rattle.std.specs.Prelude.{ℕ, Bool, true, false, not, ◌&&◌, ◌||◌, if◌then◌else◌, List, [], ◌∷◌, Option, Some, None, is_some}
use Rattle.poa_base.specs.Policies.{is_default_servant, is_retain, is_servant_manager}
use Rattle.poa_base.specs.declared.Cause.TheVariants as causes
use Rattle.poa_base.specs.declared.Endpoint.{Endpoint}
use Rattle.poa_base.specs.declared.ExcName.TheVariants.{ObjectNotExist, Transient as Transiently, ObjAdapter}
use Rattle.poa_base.specs.declared.ManagerState.{ManagerState}
use Rattle.poa_base.specs.declared.ManagerState.TheVariants as states
use Rattle.poa_base.specs.declared.Verdict.TheVariants as verdicts
use Rattle.poa_base.specs.declared.minors.TheConstants.{DISCARDED, ADAPTER_DYING, NO_DEFAULT_SERVANT, NO_SERVANT_MANAGER, NO_ADAPTER, BAD_KEY, OTHER_LIFESPAN, OTHER_TAG, NOT_ACTIVE}
use Rattle.poa_choose.specs.declared.Choice.{Choice}
use Rattle.poa_choose.specs.declared.Choice.TheVariants.{Go, Held}
use Rattle.poa_choose.specs.declared.Facts.{Facts}
use Rattle.poa_choose.specs.declared.KeyFact.{KeyFact}
use Rattle.poa_choose.specs.declared.KeyFact.TheVariants as keys
use Rattle.poa_choose.specs.declared.Located.{Located}
use Rattle.poa_choose.specs.declared.Located.TheVariants as located
use Rattle.poa_choose.specs.declared.MapFact.{MapFact}
use Rattle.poa_choose.specs.declared.MapFact.TheVariants as slots
use Rattle.poa_choose.specs.declared.WalkFact.{WalkFact}
use Rattle.poa_choose.specs.declared.WalkFact.TheVariants as walks
use Rattle.poa_choose.specs.Table.{awaits_main, awaits_turn, default_rows, is_transient, located_rows, refuse, serve, state_rule, unmade}
use Rattle.journal_explain.specs.declared.row.Row.{Row}
use Rattle.journal_explain.specs.declared.row.Row.TheVariants as row

abbrev pub is_absent : KeyFact → Bool
is_absent keys.Absent = true
is_absent key = false

abbrev pub is_bad : KeyFact → Bool
is_bad keys.Bad = true
is_bad key = false

abbrev pub is_of_other_run : KeyFact → Bool
is_of_other_run keys.OtherRun = true
is_of_other_run key = false

abbrev pub meets_dying : WalkFact → Bool
meets_dying walks.Dying = true
meets_dying walk = false

abbrev pub meets_missing : WalkFact → Bool
meets_missing walks.Missing = true
meets_missing walk = false

abbrev pub is_active_state : ManagerState → Bool
is_active_state states.Active = true
is_active_state state = false

abbrev pub is_active_slot : MapFact → Bool
is_active_slot (slots.Active activation) = true
is_active_slot slot = false

abbrev pub is_busy_slot : MapFact → Bool
is_busy_slot (slots.Busy activation) = true
is_busy_slot slot = false

abbrev pub has_rule : Located → Bool
has_rule located.NoRule = false
has_rule l = true

-- no servant is brought for an id that isn't active: USE_ACTIVE_OBJECT_MAP_ONLY; or the adapter makes its ids, keeps its
-- objects, and didn't make this one
abbrev pub brings_none : Facts → Bool
brings_none f =
    not (is_default_servant f.policies.processing) && (not (is_servant_manager f.policies.processing) || unmade f)

-- the row applies, for a worker
abbrev pub applies : Row → Facts → ℕ → Bool
applies row.Crowded f w = f.crowded
applies row.NoKey f w = is_absent f.key
applies row.BadKey f w = is_bad f.key
applies row.OtherRun f w = is_of_other_run f.key
applies row.AdapterDying f w = meets_dying f.walk
applies row.ChildGone f w = meets_missing f.walk && is_transient f.key
applies row.ParentManager f w = meets_missing f.walk && not (is_active_state f.state)
applies row.ChildTried f w = meets_missing f.walk && f.trial
applies row.ChildActivator f w = meets_missing f.walk && f.tries
applies row.ChildForward f w = meets_missing f.walk && is_some f.entry
applies row.ChildMissing f w = meets_missing f.walk
applies row.OtherLifespan f w = f.differs
applies row.OtherTag f w = f.other_tag
applies row.Manager f w = not (is_active_state f.state)
applies row.Thread f w = awaits_turn f || awaits_main f w
applies row.Active f w = is_retain f.policies.retention && is_active_slot f.slot
applies row.Changing f w = is_retain f.policies.retention && is_busy_slot f.slot
applies row.NotActive f w = brings_none f
applies row.DefaultServant f w = is_default_servant f.policies.processing && is_some f.preset
applies row.NoDefaultServant f w = is_default_servant f.policies.processing
applies row.NoServantManager f w = not f.rules
applies row.ActivatorHere f w = is_retain f.policies.retention && f.locate
applies row.ActivatorBusy f w = is_retain f.policies.retention && f.busy
applies row.Incarnate f w = is_retain f.policies.retention
applies row.LocatorHere f w = f.locate
applies row.Locator f w = has_rule f.located
applies row.NoRule f w = true

-- all of them, in the order of the table, by groups, of which each goes on with the next
abbrev pub locator_group : List Row
locator_group = row.LocatorHere ∷ row.Locator ∷ row.NoRule ∷ []

abbrev pub activator_group : List Row
activator_group = row.ActivatorHere ∷ row.ActivatorBusy ∷ row.Incarnate ∷ locator_group

abbrev pub manager_group : List Row
manager_group = row.NoServantManager ∷ activator_group

abbrev pub processing_group : List Row
processing_group = row.NotActive ∷ row.DefaultServant ∷ row.NoDefaultServant ∷ manager_group

abbrev pub object_group : List Row
object_group = row.Active ∷ row.Changing ∷ processing_group

abbrev pub adapter_group : List Row
adapter_group = row.OtherLifespan ∷ row.OtherTag ∷ row.Manager ∷ row.Thread ∷ object_group

abbrev pub child_group : List Row
child_group =
    row.ChildGone ∷ row.ParentManager ∷ row.ChildTried ∷ row.ChildActivator ∷ row.ChildForward ∷ row.ChildMissing ∷ adapter_group

abbrev pub walk_group : List Row
walk_group = row.AdapterDying ∷ child_group

abbrev pub rows : List Row
rows = row.Crowded ∷ row.NoKey ∷ row.BadKey ∷ row.OtherRun ∷ walk_group

-- the first of these that applies
abbrev pub first_of : List Row → Facts → ℕ → Row
first_of [] f w = row.NoRule
first_of (r ∷ more) f w = if applies r f w then r else first_of more f w

-- the row of the table that decides
unfoldable pub row_of : Facts → ℕ → Row
row_of f w = first_of rows f w

abbrev pub thread_gives : Facts → Choice
thread_gives f = if awaits_turn f then Held (Some (causes.Adapter f.adapter)) else Held None

abbrev pub slot_gives : Facts → MapFact → Choice
slot_gives f (slots.Active activation) = serve f (verdicts.Serve activation)
slot_gives f (slots.Busy activation) = Held (Some (causes.Id f.adapter activation))
slot_gives f slots.Free = refuse f ObjectNotExist NOT_ACTIVE

abbrev pub forward_gives : Option Endpoint → Choice → Choice
forward_gives None other = other
forward_gives (Some endpoint) other = Go (verdicts.Forward endpoint)

-- what a row gives where it decides
abbrev pub gives : Row → Facts → Choice
gives row.Crowded f = refuse f Transiently DISCARDED
gives row.NoKey f = Go verdicts.Addressing
gives row.BadKey f = refuse f ObjectNotExist BAD_KEY
gives row.OtherRun f = refuse f ObjectNotExist OTHER_LIFESPAN
gives row.AdapterDying f = refuse f Transiently ADAPTER_DYING
gives row.ChildGone f = refuse f ObjectNotExist OTHER_LIFESPAN
gives row.ParentManager f = state_rule f f.state (Held None)
gives row.ChildTried f = Held (Some (causes.Trial f.adapter))
gives row.ChildActivator f = Go verdicts.Try
gives row.ChildForward f = forward_gives f.entry (Go verdicts.Addressing)
gives row.ChildMissing f = refuse f ObjectNotExist NO_ADAPTER
gives row.OtherLifespan f = refuse f ObjectNotExist OTHER_LIFESPAN
gives row.OtherTag f = refuse f ObjectNotExist OTHER_TAG
gives row.Manager f = state_rule f f.state (Held None)
gives row.Thread f = thread_gives f
gives row.Active f = slot_gives f f.slot
gives row.Changing f = slot_gives f f.slot
gives row.NotActive f = refuse f ObjectNotExist NOT_ACTIVE
gives row.DefaultServant f = default_rows f f.preset
gives row.NoDefaultServant f = refuse f ObjAdapter NO_DEFAULT_SERVANT
gives row.NoServantManager f = refuse f ObjAdapter NO_SERVANT_MANAGER
gives row.ActivatorHere f = Go verdicts.Here
gives row.ActivatorBusy f = Held (Some (causes.Adapter f.adapter))
gives row.Incarnate f = Go (verdicts.Incarnate f.next)
gives row.LocatorHere f = Go verdicts.Here
gives row.Locator f = located_rows f f.located
gives row.NoRule f = refuse f ObjectNotExist NOT_ACTIVE
