-- What an entry is made with, of the entries before it, and which entries need no memory.
use Rattle.std.specs.Prelude.{Bool, true, false, List, Option, None}
use Rattle.poa_base.specs.declared.Call.{Call}
use Rattle.poa_base.specs.declared.Entry.{Entry}
use Rattle.poa_base.specs.declared.Entry.TheVariants.{Entered, Arrive, Filled, Left, Collect, Abandon, Admit, Tried, Incarnated, Run, Done, TakeOut, Etherealized}
use Rattle.poa_base.specs.declared.Attempt.TheVariants.{Yes}
use Rattle.poa_base.specs.declared.Incarnation.TheVariants.{Named}
use Rattle.history_standing.specs.declared.stage.Stage.{Stage}
use Rattle.history_standing.specs.declared.stage.Stage.TheVariants.{Free}
use Rattle.history_standing.specs.Arrivals.{call_of}
use Rattle.history_standing.specs.Logs.{is_accepted}
use Rattle.history_standing.specs.Stages.{stage}

-- what the worker of the entry had begun
abbrev pub stage_at : List Entry → Entry → Stage
stage_at past (Admit w r verdict) = stage past w
stage_at past (Tried w answer) = stage past w
stage_at past (Incarnated w answer) = stage past w
stage_at past (Run w) = stage past w
stage_at past (Done w) = stage past w
stage_at past (TakeOut w n etherealize) = stage past w
stage_at past (Etherealized w cleanup remaining) = stage past w
stage_at past e = Free

-- a worker makes the entry
abbrev pub is_turn : Entry → Bool
is_turn (Admit w r verdict) = true
is_turn (Tried w answer) = true
is_turn (Incarnated w answer) = true
is_turn (Run w) = true
is_turn (Done w) = true
is_turn (TakeOut w n etherealize) = true
is_turn (Etherealized w cleanup remaining) = true
is_turn e = false

-- the call that the entry admits
abbrev pub call_admitted : List Entry → Entry → Option Call
call_admitted past (Admit w r verdict) = call_of past r
call_admitted past e = None

-- an Admit may begin something, and a trial may create the child; all else changes in place what stands
abbrev pub takes_no_memory : Entry → Bool
takes_no_memory (Admit w r verdict) = false
takes_no_memory (Tried w (Yes number)) = false
takes_no_memory e = true

-- a command or a request may begin an activation when it is admitted
abbrev pub may_begin : Entry → Bool
may_begin (Admit w r verdict) = true
may_begin e = false

-- the servant activator brings a configured servant, whose number is looked up
abbrev pub names_servant : Entry → Bool
names_servant (Incarnated w (Named name)) = true
names_servant e = false

-- a connection comes or leaves, a call comes, a reply is taken, a servant acts, a worker gives up
abbrev pub changes_nothing : Entry → Bool
changes_nothing (Entered conn) = true
changes_nothing (Arrive conn size call) = true
changes_nothing (Filled conn size) = true
changes_nothing (Left conn) = true
changes_nothing (Collect conn r) = true
changes_nothing (Run w) = true
changes_nothing (Abandon w) = true
changes_nothing e = false

-- something may have ended with the entry: any but those that change nothing, and an Admit that does no command
abbrev pub may_end : Entry → Bool
may_end (Admit w r verdict) = is_accepted verdict
may_end (Tried w answer) = true
may_end (Incarnated w answer) = true
may_end (Done w) = true
may_end (TakeOut w n etherealize) = true
may_end (Etherealized w cleanup remaining) = true
may_end e = false

-- the servant of an activation leaves with the entry: nothing is in flight that wasn't, and no adapter comes
abbrev pub is_removal : Entry → Bool
is_removal (TakeOut w n etherealize) = true
is_removal (Etherealized w cleanup remaining) = true
is_removal e = false
