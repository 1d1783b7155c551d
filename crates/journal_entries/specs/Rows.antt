-- The entries that the rows of a journal stand for.
use Rattle.std.specs.Prelude.{◌≡◌, ℕ, ◌<◌, ◌^◌, nat_lt, Bool, true, false, List, ◌∷◌, length, Option, Some, None, slice_index_or}
use Rattle.std.specs.Borrow.{Bor}
use Rattle.std.specs.List.{AllByRecursion}
use Rattle.poa_base.specs.declared.Call.{Call}
use Rattle.poa_base.specs.declared.Entry.{Entry}
use Rattle.poa_base.specs.declared.Entry.TheVariants.{Entered, Arrive, Filled, Left, Collect, Admit, Run, Done, TakeOut, Etherealized, Abandon}
use Rattle.poa_base.specs.declared.Verdict.TheVariants.{Serve}
use Rattle.journal_entries.specs.declared.row.Row.{Row}
use Rattle.journal_entries.specs.declared.row.Row.TheVariants as row

-- the entries, the oldest first; how many there may be in all before memory is wanted; and how many may still be kept
-- whole before that
pub record Listed : Type 0 where
  pub items : List Entry
  pub capacity : ℕ
  pub spare : ℕ

-- an entry that is kept in its row; any other one is kept whole
abbrev pub is_brief : Entry → Bool
is_brief (Entered conn) = true
is_brief (Filled conn size) = true
is_brief (Left conn) = true
is_brief (Collect conn r) = true
is_brief (Admit w r (Serve n)) = nat_lt r (2 ^ 32)
is_brief (Run w) = true
is_brief (Done w) = true
is_brief (TakeOut w n etherealize) = true
is_brief (Etherealized w cleanup remaining) = true
is_brief (Abandon w) = true
is_brief e = false

-- there is room for the entry
pub record HasRoomFor (e : Entry) (listed : Listed) : Type 0 where
  pub row : length listed.items < listed.capacity
  pub whole : is_brief e ≡ false → 0 < listed.spare

-- the call that arrives with an entry
abbrev pub call_in : Entry → Option Call
call_in (Arrive conn size call) = Some call
call_in e = None

-- the entry of a row, where one that isn't in it is found so
abbrev pub entry_in : {W : Type 0} → (W → Entry) → Row W → Entry
entry_in found (row.Entered conn) = Entered conn
entry_in found (row.Filled conn size) = Filled conn size
entry_in found (row.Left conn) = Left conn
entry_in found (row.Collect conn r) = Collect conn r
entry_in found (row.Serve w r n) = Admit w r (Serve n)
entry_in found (row.Run w) = Run w
entry_in found (row.Done w) = Done w
entry_in found (row.TakeOut w n etherealize) = TakeOut w n etherealize
entry_in found (row.Etherealized w cleanup remaining) = Etherealized w cleanup remaining
entry_in found (row.Abandon w) = Abandon w
entry_in found (row.Whole there) = found there

-- the entry that is lent
abbrev pub seen : Row (Bor Entry) → Entry
seen view = entry_in (λ e. e.now) view

-- the entry that a row stands for, by those that are kept whole, of which it has the place
abbrev pub entry_of : List Entry → Row ℕ → Entry
entry_of wholes r = entry_in (λ k. slice_index_or wholes k (Abandon 0)) r

-- the place of a row is one of those that are kept whole
abbrev pub IsWithin : ℕ → Row ℕ → Type 0
IsWithin many (row.Whole k) = k < many
IsWithin many r = Unit {0}

abbrev pub AreWithin : ℕ → List (Row ℕ) → Type 0
AreWithin many rows = AllByRecursion (IsWithin many) rows
