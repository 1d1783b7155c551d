-- How many entries may still come that take no memory, by what the tables say.
use Rattle.std.specs.Prelude.{ℕ, ◌+◌, Bool, true, false, not, if◌then◌else◌, is_some, slice_index_or}
use Rattle.poa_base.specs.declared.Entry.{Entry}
use Rattle.poa_base.specs.declared.Entry.TheVariants.{Entered, Arrive, Filled, Left, Collect, Admit, Run, Done, TakeOut, Etherealized}
use Rattle.history_standing.specs.declared.stage.Stage.TheVariants.{Free}
use Rattle.history_standing.specs.Searches.{count_below}
use Rattle.core_arrivals.specs.declared.workers.Workers.{Workers}
pub use Rattle.core_arrivals.specs.Begun.{only_ends}
use Rattle.core_arrivals.specs.declared.Tally.{Tally}
use Rattle.core_arrivals.specs.Tallies.{flag_of}
use Rattle.core_run.specs.declared.tables.Tables.{Tables}

abbrev pub unless : Bool → ℕ
unless b = if b then 0 else 1

-- how many workers have only to end what they began, and how many haven't given up
unfoldable pub by_workers : Workers → ℕ
by_workers workers =
    count_below (λ w. only_ends (slice_index_or workers.stages.items w Free)) 16 + count_below
    (λ w. not (slice_index_or workers.abandoned.items w false)) 16

-- how many connections may leave, and whether the run may be filled
abbrev pub by_connections : Tally → ℕ
by_connections t = t.staying + unless (flag_of t.left.items 0) + unless (is_some t.filled)

-- how many entries of connections and workers may still come that take no memory, but those that collect a reply
abbrev pub stay : Tables → ℕ
stay t = by_connections t.tally + by_workers t.workers

-- a connection makes the entry
abbrev pub is_conn : Entry → Bool
is_conn (Entered conn) = true
is_conn (Arrive conn size call) = true
is_conn (Filled conn size) = true
is_conn (Left conn) = true
is_conn (Collect conn r) = true
is_conn e = false

-- no call and no connection comes with it, and no call comes back: it needs room in the journal alone
abbrev pub needs_journal_alone : Entry → Bool
needs_journal_alone (Admit w r verdict) = true
needs_journal_alone (Run w) = true
needs_journal_alone (TakeOut w activation etherealize) = true
needs_journal_alone e = false

-- it only ends what was begun: its room was made by the entry that began it
abbrev pub is_ending : Entry → Bool
is_ending (Done w) = true
is_ending (Etherealized w cleanup remaining) = true
is_ending e = false
