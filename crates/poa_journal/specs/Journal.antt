-- The text of a journal: a head line with the run, a line for each row of the opening store, and one for each entry; and
-- that of a store alone.
use Rattle.std.specs.Prelude.{ℕ, ◌^◌, List, [], ◌∷◌, ◌++◌, map}
use Rattle.std.specs.List.{AllByRecursion}
use Rattle.poa_base.specs.declared.Journal.{Journal}
use Rattle.poa_base.specs.declared.State.{State}
use Rattle.poa_base.specs.Store.{Place, Slots, states}
use Rattle.text_words.specs.Token.{Token, keyword, number, spelled, AllFit}
use Rattle.poa_journal.specs.declared.value_words.Mark.TheVariants as mark
use Rattle.poa_journal.specs.ValueWords.{mark_word}
use Rattle.poa_journal.specs.Row.{row_tokens}
use Rattle.poa_journal.specs.Entry.{entry_tokens, IsWritten}

-- `journal 1 run N`
abbrev pub head_tokens : ℕ → List Token
head_tokens run = keyword (mark_word mark.Journal) ∷ keyword (mark_word mark.One) ∷ keyword (mark_word mark.Run) ∷ number (2 ^ 32) run ∷ []

-- lines, each with its end
abbrev pub text_of : List (List Token) → List ℕ
text_of [] = []
text_of (line ∷ lines) = spelled line ++ 10 ∷ text_of lines

-- the rows of the opening store and the entries
abbrev pub body_lines : Journal → List (List Token)
body_lines journal = map row_tokens (states journal.opening) ++ map entry_tokens journal.entries

abbrev pub journal_lines : Journal → List (List Token)
journal_lines journal = head_tokens journal.run ∷ body_lines journal

abbrev pub journal_text : Journal → List ℕ
journal_text journal = text_of (journal_lines journal)

-- a row that can be written
abbrev pub IsRow : Place × State → Type 0
IsRow row = AllFit (row_tokens row)

-- a journal whose names, numbers and bytes are such as can be written
pub record IsJournal (journal : Journal) : Type 0 where
  pub run : AllFit (head_tokens journal.run)
  pub rows : AllByRecursion IsRow (states journal.opening)
  pub entries : AllByRecursion IsWritten journal.entries

-- the lines of a state file: a line for each row of the store
abbrev pub store_lines : Slots → List (List Token)
store_lines store = map row_tokens (states store)

abbrev pub store_text : Slots → List ℕ
store_text store = text_of (store_lines store)

-- a store whose paths, ids and states are such as can be written
abbrev pub IsStore : Slots → Type 0
IsStore store = AllByRecursion IsRow (states store)
