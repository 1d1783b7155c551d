-- The journal of a text, or the number of its first line that is outside the grammar.
use Rattle.std.specs.Prelude.{◌≡◌, ℕ, ◌+◌, ◌^◌, ⊤, Bool, true, List, [], ◌∷◌, Option, Some, None, Result, Ok, Err, if◌then◌else◌}
use Rattle.std.specs.Ordering.{is_lt}
use Rattle.poa_base.specs.declared.Entry.{Entry}
use Rattle.poa_base.specs.declared.Journal.{Journal}
use Rattle.poa_base.specs.declared.State.{State}
use Rattle.poa_base.specs.Store.{Place, place_cmp, states}
use Rattle.text_words.specs.Cuts.{lines_of, words_of}
use Rattle.text_words.specs.Number.{number_of}
use Rattle.poa_journal.specs.declared.rows.Opening.{Opening}
use Rattle.poa_journal.specs.declared.fault.JournalFault.{JournalFault}
use Rattle.poa_journal.specs.declared.fault.JournalFault.TheVariants.{BadLine, WantMemory}
use Rattle.text_words.specs.Chain.{◌>>=◌}
use Rattle.poa_journal.specs.declared.value_words.Mark.TheVariants as mark
use Rattle.poa_journal.specs.ValueWords.{expected}
use Rattle.poa_journal.specs.Row.{row_behind, row_words_of}
use Rattle.poa_journal.specs.Reading.{entry_of}

-- the rows at the front of lines, the number of the next line, and the lines from there on
abbrev pub Front : Type 0
Front = List (Place × State) × ℕ × List (List ℕ)

-- rows ascend by path and then by id, so each place stands once
abbrev pub is_above : Option Place → Place → Bool
is_above None place = true
is_above (Some last) place = is_lt (place_cmp last place)

-- a row that was read at line k, where it stands above the last
abbrev pub row_above : ℕ → Option Place → Option (Place × State) → Result (Place × State) ℕ
row_above k last None = Err k
row_above k last (Some row) = if is_above last row.0 then Ok row else Err k

abbrev pub put_row : Place × State → Result Front ℕ → Result Front ℕ
put_row row (Err k) = Err k
put_row row (Ok front) = Ok (row ∷ front.0, front.1, front.2)

abbrev pub after_row : (Place → Result Front ℕ) → Result (Place × State) ℕ → Result Front ℕ
after_row more (Err k) = Err k
after_row more (Ok row) = put_row row (more row.0)

abbrev pub at_line : ℕ → Option Place → List (List ℕ) → (Place → Result Front ℕ) → Option (List (List ℕ)) → Result Front ℕ
at_line k last lines more None = Ok ([], k, lines)
at_line k last lines more (Some ws) = after_row more (row_above k last (row_behind ws))

-- the rows at the front of lines that are numbered from k on, above the last row before them
abbrev pub rows_front : ℕ → Option Place → List (List ℕ) → Result Front ℕ
rows_front k last [] = Ok ([], k, [])
rows_front k last (l ∷ ls) = at_line k last (l ∷ ls) (λ place. rows_front (k + 1) (Some place) ls) (row_words_of (words_of l))

-- the entry that was read at line k
abbrev pub entry_at : ℕ → Option Entry → Result Entry ℕ
entry_at k None = Err k
entry_at k (Some e) = Ok e

abbrev pub put_entry : Result Entry ℕ → Result (List Entry) ℕ → Result (List Entry) ℕ
put_entry (Err k) more = Err k
put_entry (Ok e) (Err k) = Err k
put_entry (Ok e) (Ok es) = Ok (e ∷ es)

-- the entries of lines that are numbered from k on
abbrev pub entries_of : ℕ → List (List ℕ) → Result (List Entry) ℕ
entries_of k [] = Ok []
entries_of k (l ∷ ls) = put_entry (entry_at k (entry_of (words_of l))) (entries_of (k + 1) ls)

-- the run of a head line
abbrev pub run_of : List (List ℕ) → Option ℕ
run_of (j ∷ o ∷ r ∷ n ∷ []) = do
  first ← expected mark.Journal j
  second ← expected mark.One o
  third ← expected mark.Run r
  number_of (2 ^ 32) n
run_of ws = None

-- what a journal holds: the run, the rows of the opening store, and the entries
pub record Contents : Type 0 where
  pub run : ℕ
  pub rows : List (Place × State)
  pub entries : List Entry

abbrev pub with_entries : ℕ → List (Place × State) → Result (List Entry) ℕ → Result Contents ℕ
with_entries run rows (Err k) = Err k
with_entries run rows (Ok es) = Ok (record { run = run; rows = rows; entries = es })

abbrev pub with_front : ℕ → Result Front ℕ → Result Contents ℕ
with_front run (Err k) = Err k
with_front run (Ok front) = with_entries run front.0 (entries_of front.1 front.2)

-- the run of line 1
abbrev pub numbered : Option ℕ → Result ℕ ℕ
numbered None = Err 1
numbered (Some run) = Ok run

abbrev pub head_of : List (List ℕ) → Result ℕ ℕ
head_of ws = numbered (run_of ws)

abbrev pub with_run : List (List ℕ) → Result ℕ ℕ → Result Contents ℕ
with_run ls (Err k) = Err k
with_run ls (Ok run) = with_front run (rows_front 2 None ls)

-- a text without a line lacks its first
abbrev pub contents_of_lines : List (List ℕ) → Result Contents ℕ
contents_of_lines [] = Err 1
contents_of_lines (l ∷ ls) = with_run ls (head_of (words_of l))

abbrev pub contents_of : List ℕ → Result Contents ℕ
contents_of text = contents_of_lines (lines_of text)

-- no line is left
abbrev pub no_line : ℕ → List (List ℕ) → Result (Unit {0}) ℕ
no_line k [] = Ok tt
no_line k (l ∷ ls) = Err k

abbrev pub with_rows : List (Place × State) → Result (Unit {0}) ℕ → Result (List (Place × State)) ℕ
with_rows rows (Err k) = Err k
with_rows rows (Ok u) = Ok rows

abbrev pub all_rows : Result Front ℕ → Result (List (Place × State)) ℕ
all_rows (Err k) = Err k
all_rows (Ok front) = with_rows front.0 (no_line front.1 front.2)

-- the rows of a text that has nothing else
abbrev pub rows_of : List ℕ → Result (List (Place × State)) ℕ
rows_of text = all_rows (rows_front 1 None (lines_of text))

abbrev pub front_seen : Opening → Front
front_seen front = (states front.store, front.line, lines_of front.rest.now)

abbrev pub contents : Journal → Contents
contents journal = record { run = journal.run; rows = states journal.opening; entries = journal.entries }

-- what a reader's answer says: the value, or the number of the first line outside the grammar; `view` is what a clause
-- sees of the value
abbrev pub JournalReads : {X Y : Type 0} → (X → Y) → Result X JournalFault → Result Y ℕ → Type 0
JournalReads view (Ok x) meant = meant ≡ Ok (view x)
JournalReads view (Err (BadLine k)) meant = meant ≡ Err k
JournalReads view (Err WantMemory) meant = ⊤
