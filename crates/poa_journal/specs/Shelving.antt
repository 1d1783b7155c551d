-- Rows that are read one behind the other: those of the last adapter wait, and the others are stored.
use Rattle.std.specs.Prelude.{◌≡◌, ℕ, List, [], ◌∷◌, ◌++◌, map, Option, None, Some, Result, Ok, Err, true, false, ⊤}
use Rattle.std.specs.FinMap.{entries}
use Rattle.poa_base.specs.declared.State.{State}
use Rattle.poa_base.specs.Store.{Place, Slots, states}
use Rattle.text_words.specs.Path.{path_of}
use Rattle.text_words.specs.Token as token
use Rattle.text_words.specs.Token.{spell, texts}
use Rattle.text_words.specs.declared.fault.WordFault.{WordFault}
use Rattle.text_words.specs.declared.fault.WordFault.TheVariants as word_fault
use Rattle.poa_journal.specs.declared.value_words.Mark.TheVariants as mark
use Rattle.poa_journal.specs.ValueWords.{mark_word}
use Rattle.poa_journal.specs.Row.{row_behind, row_tokens}
use Rattle.poa_journal.specs.Whole.{is_above, row_above}
use Rattle.poa_journal.specs.declared.fault.JournalFault.{JournalFault}
use Rattle.poa_journal.specs.declared.fault.JournalFault.TheVariants.{BadLine, WantMemory}
use Rattle.poa_journal.specs.declared.shelving.Shelving.{Shelving}

-- a row as the slot that has its state
abbrev pub slot : Place × State → Place × Option State
slot row = (row.0, Some row.1)

-- the rows of an adapter with these ids and states
abbrev pub rows_at : List (List ℕ) → List (List ℕ × State) → List (Place × State)
rows_at path waiting = map (λ w. ((path, w.0), w.1)) waiting

-- the rows that were read: those that are stored, and then those that wait
abbrev pub rows_in : Shelving → List (Place × State)
rows_in it = states it.store ++ rows_at it.path it.waiting.items

-- each row stands above the one before it, the first above this place
abbrev pub Ascends : Option Place → List (Place × State) → Type 0
Ascends last [] = Unit {0}
Ascends last (row ∷ rows) = (is_above last row.0 ≡ true) × Ascends (Some row.0) rows

-- the place of the last row, or else this one
abbrev pub last_from : Option Place → List (Place × State) → Option Place
last_from last [] = last
last_from last (row ∷ rows) = last_from (Some row.0) rows

-- a store of these rows and no place more
abbrev pub StoresAll : List (Place × State) → Slots → Type 0
StoresAll rows store = entries store ≡ map slot rows

-- the rows ascend, each place of the store is one of them, and the word writes the path
pub record IsShelving (it : Shelving) : Type 0 where
  pub stored : StoresAll (states it.store) it.store
  pub rises : Ascends None (rows_in it)
  pub known : path_of it.word.now ≡ Some it.path
  pub spells : it.word.now ≡ spell (token.path it.path)

-- where none wait there are none
abbrev pub HasBegun : Shelving → Type 0
HasBegun it = it.waiting.items ≡ [] → rows_in it ≡ []

-- a row of this line came behind those that were read, or doesn't stand above them
abbrev pub Shelves : Result (Unit {0}) JournalFault → ℕ → Place × State → List (Place × State) → List (Place × State) → Type 0
Shelves (Ok done) line row old new = (is_above (last_from None old) row.0 ≡ true) × (new ≡ old ++ row ∷ [])
Shelves (Err (BadLine k)) line row old new = (is_above (last_from None old) row.0 ≡ false) × (k ≡ line)
Shelves (Err WantMemory) line row old new = ⊤

-- the row of the words of this line came behind those that were read
pub record IsTaken (line : ℕ) (words : List (List ℕ)) (old new : List (Place × State)) : Type 0 where
  pub row : Place × State
  pub reads : row_above line (last_from None old) (row_behind words) ≡ Ok row
  pub spells : mark_word mark.Store ∷ words ≡ texts (row_tokens row)
  pub is : new ≡ old ++ row ∷ []

-- it did, or the line is refused
abbrev pub Takes : Result (Unit {0}) JournalFault → ℕ → List (List ℕ) → List (Place × State) → List (Place × State) → Type 0
Takes (Ok done) line words old new = IsTaken line words old new
Takes (Err (BadLine k)) line words old new = row_above line (last_from None old) (row_behind words) ≡ Err k
Takes (Err WantMemory) line words old new = ⊤

-- the fault of a line with a word that wasn't read
abbrev pub IsAtLine : WordFault → ℕ → JournalFault → Type 0
IsAtLine word_fault.OutOfForm line fault = fault ≡ BadLine line
IsAtLine word_fault.WantMemory line fault = fault ≡ WantMemory
