-- What a journal tells of an object: what its activations come to with each entry, and what is stored for it.
use Rattle.std.specs.Prelude.{ℕ, ◌==◌, if◌then◌else◌, List, [], ◌∷◌, ◌++◌, length, Option, Some, None, option_map}
use Rattle.poa_base.specs.declared.Command.{Command}
use Rattle.poa_base.specs.declared.Config.{Config}
use Rattle.poa_base.specs.declared.Entry.{Entry}
use Rattle.poa_base.specs.declared.Entry.TheVariants.{Admit, Incarnated, Done, TakeOut, Etherealized}
use Rattle.poa_base.specs.declared.State.{State}
use Rattle.poa_choose.specs.declared.MapFact.{MapFact}
use Rattle.poa_choose.specs.declared.MapFact.TheVariants.{Active, Busy, Free}
use Rattle.history_standing.specs.declared.activation.Activation.{Activation}
use Rattle.history_standing.specs.Arrivals.{call_of}
use Rattle.history_standing.specs.Changes.{standing}
use Rattle.history_standing.specs.Logs.{command_in}
use Rattle.history_standing.specs.Nodes.{node_at}
use Rattle.history_standing.specs.Situations.{slot_of}
use Rattle.poa_history.specs.States.{Stored, stored as stored_for}
use Rattle.journal_explain.specs.declared.change.Change.{Change}
use Rattle.journal_explain.specs.declared.doing.Doing.{Doing}
use Rattle.journal_explain.specs.declared.doing.Doing.TheVariants.{Admits, Incarnates, Ends, TakesOut, Etherealizes, Other}
use Rattle.journal_explain.specs.declared.moment.Moment.{Moment}
use Rattle.journal_explain.specs.declared.moment.Moment.TheVariants as moment
use Rattle.journal_explain.specs.declared.selection.Selection.{Selection}
use Rattle.journal_explain.specs.declared.selection.Selection.TheVariants as asked

-- what the map of the adapter of this number has for an id; nothing where there is no adapter
abbrev pub slot_by : Config → List Activation → List ℕ → Option ℕ → MapFact
slot_by c activations oid None = Free
slot_by c activations oid (Some k) = slot_of c activations k oid

-- what the map of the adapter that stands at a path has for an id
abbrev pub slot_at : Config → ℕ → List Entry → List (List ℕ) → List ℕ → MapFact
slot_at c run h path oid =
    slot_by c (standing c run h).activations oid (option_map (λ n. n.number) (node_at (standing c run h).nodes path))

-- for the id of the object that is asked for; nothing where none is
abbrev pub slot_asked : Selection → Config → ℕ → List Entry → MapFact
slot_asked (asked.Object path oid) c run h = slot_at c run h path oid
slot_asked (asked.Arrival r) c run h = Free
slot_asked (asked.Call conn id) c run h = Free
slot_asked (asked.Picture from to) c run h = Free
slot_asked asked.All c run h = Free

-- what is stored for the object that is asked for; nothing where none is
abbrev pub stored_asked : Selection → Config → ℕ → Stored → List Entry → Option State
stored_asked (asked.Object path oid) c run opened h = stored_for c run opened h path oid
stored_asked (asked.Arrival r) c run opened h = None
stored_asked (asked.Call conn id) c run opened h = None
stored_asked (asked.Picture from to) c run opened h = None
stored_asked asked.All c run opened h = None

-- what an entry does that may change it
abbrev pub doing_of : Entry → Doing
doing_of (Admit w r verdict) = Admits r
doing_of (Incarnated w answer) = Incarnates
doing_of (Done w) = Ends
doing_of (TakeOut w n etherealize) = TakesOut n
doing_of (Etherealized w cleanup remaining) = Etherealizes
doing_of e = Other

-- one that is on its way out may be taken out
abbrev pub leaves : Doing → ℕ → Option Moment
leaves (TakesOut m) n = if m == n then Some (moment.Leaves n) else None
leaves doing n = None

-- the map has an activation for the id that is active: it is so where it wasn't before
abbrev pub active_now : MapFact → ℕ → Option Moment
active_now (Active m) n = if m == n then None else Some (moment.IsActive n)
active_now before n = Some (moment.IsActive n)

-- or one that is on its way in or out: it ends where it was active, and where it wasn't in the map it begins
abbrev pub busy_now : Doing → MapFact → ℕ → Option Moment
busy_now doing (Active m) n = if m == n then Some (moment.Ends n) else Some (moment.Begins n)
busy_now doing (Busy m) n = if m == n then leaves doing n else Some (moment.Begins n)
busy_now doing Free n = Some (moment.Begins n)

-- or none: the one that it had is over
abbrev pub free_now : MapFact → Option Moment
free_now (Active m) = Some (moment.IsOver m)
free_now (Busy m) = Some (moment.IsOver m)
free_now Free = None

-- what an activation comes to with an entry that does this, by what the map had for the id before and has then
abbrev pub moment_of : Doing → MapFact → MapFact → Option Moment
moment_of doing before (Active n) = active_now before n
moment_of doing before (Busy n) = busy_now doing before n
moment_of doing before Free = free_now before

-- the administrator's command that an entry admits
abbrev pub command_by : List Entry → Doing → Option Command
command_by h (Admits r) = command_in (call_of h r)
command_by h doing = None

-- what is stored behind an entry, where a servant was etherealized with it
abbrev pub stored_by : Doing → Option State → Option State
stored_by Etherealizes state = state
stored_by doing state = None

-- with the entry at this place
abbrev pub noted : ℕ → Doing → Option Command → Option State → Option Moment → List Change
noted place doing command state None = []
noted place doing command state (Some m) =
    record { entry = place; moment = m; doing = doing; command = command; stored = state } ∷ []

abbrev pub changed_with : ℕ → Doing → Option Command → Option State → MapFact → MapFact → List Change
changed_with place doing command state before after =
    noted place doing command (stored_by doing state) (moment_of doing before after)

-- what the activations of the object that is asked for came to with each entry, in the order of the journal
abbrev pub changes_in : Selection → Config → ℕ → Stored → List Entry → List Change
changes_in which c run opened [] = []
changes_in which c run opened (e ∷ past) =
    changes_in which c run opened past
    ++ changed_with (length past) (doing_of e) (command_by (e ∷ past) (doing_of e)) (stored_asked which c run opened (e ∷ past))
    (slot_asked which c run past) (slot_asked which c run (e ∷ past))
