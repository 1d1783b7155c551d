-- Rows and entries that were read line by line.
use Rattle.std.proofs.Common.{◌≡◌, ℕ, ◌+◌, ◌<◌, ◌≤◌, List, [], ◌∷◌, ◌++◌, length, map, Some, None, Result, Ok, Err, refl, ap, sym, ◌∙◌, arith, append_assoc, append-nil, subst}
use Rattle.poa_base.specs.declared.Entry.{Entry}
use Rattle.poa_base.specs.declared.State.{State}
use Rattle.poa_base.specs.Store.{Place}
use Rattle.text_words.specs.Cuts.{lines_of, words_of}
use Rattle.text_words.specs.Token.{spelled}
use Rattle.poa_journal.specs.Entry.{entry_tokens}
use Rattle.poa_journal.specs.Reading.{entry_of}
use Rattle.poa_journal.specs.Row.{row_tokens, row_behind, row_words_of}
use Rattle.poa_journal.specs.Whole.{Front, row_above, put_row, after_row, at_line, rows_front, entry_at, put_entry, entries_of}
use Rattle.poa_journal.specs.Shelving.{last_from}
use Rattle.poa_journal.proofs.Stored.{last_more}

abbrev pub behind_rows : List (Place × State) → Result Front ℕ → Result Front ℕ
behind_rows rows (Err k) = Err k
behind_rows rows (Ok front) = Ok (rows ++ front.0, front.1, front.2)

abbrev pub behind_entries : List Entry → Result (List Entry) ℕ → Result (List Entry) ℕ
behind_entries entries (Err k) = Err k
behind_entries entries (Ok more) = Ok (entries ++ more)

behind_row : (rows : List (Place × State)) (row : Place × State) (more : Result Front ℕ)
    → behind_rows (rows ++ row ∷ []) more ≡ behind_rows rows (put_row row more)
behind_row rows row (Err k) = refl
behind_row rows row (Ok front) = ap (λ all. Ok (all, front.1, front.2)) (simp append_assoc)

behind_entry : (entries : List Entry) (entry : Entry) (more : Result (List Entry) ℕ)
    → behind_entries (entries ++ entry ∷ []) more ≡ behind_entries entries (put_entry (Ok entry) more)
behind_entry entries entry (Err k) = refl
behind_entry entries entry (Ok es) = ap Ok (simp append_assoc)

behind_none : (more : Result Front ℕ) → behind_rows [] more ≡ more
behind_none (Err k) = refl
behind_none (Ok front) = refl

behind_no_entry : (more : Result (List Entry) ℕ) → behind_entries [] more ≡ more
behind_no_entry (Err k) = refl
behind_no_entry (Ok es) = refl

-- entries were read of a text from line `first` on; the next line is `line`, where `rest` begins
pub record EntriesRead (first : ℕ) (text : List ℕ) (entries : List Entry) (line : ℕ) (rest : List ℕ) : Type 0 where
  pub read : behind_entries entries (entries_of line (lines_of rest)) ≡ entries_of first (lines_of text)
  pub lines : map spelled (map entry_tokens entries) ++ lines_of rest ≡ lines_of text
  pub bound : line + length rest ≤ first + length text

pub entries_begin : (first : ℕ) (text : List ℕ) → EntriesRead first text [] first text
entries_begin first text = record { read = behind_no_entry (entries_of first (lines_of text)); lines = refl; bound = omega arith }

spelled_last : (entries : List Entry) (e : Entry) (more : List (List ℕ))
    → map spelled (map entry_tokens (entries ++ e ∷ [])) ++ more ≡ map spelled (map entry_tokens entries) ++ spelled (entry_tokens e) ∷ more
spelled_last [] e more = refl
spelled_last (x ∷ entries) e more = ap (λ ls. spelled (entry_tokens x) ∷ ls) (spelled_last entries e more)

-- one more entry was read
pub entries_step : (first : ℕ) (text : List ℕ) (entries : List Entry) (line : ℕ) (rest l after : List ℕ) (e : Entry)
    → EntriesRead first text entries line rest → lines_of rest ≡ l ∷ lines_of after → length after < length rest
    → entry_at line (entry_of (words_of l)) ≡ Ok e → l ≡ spelled (entry_tokens e)
    → EntriesRead first text (entries ++ e ∷ []) (line + 1) after
entries_step first text entries line rest l after e so_far cut shorter is spells = record {
  read =
      behind_entry entries e (entries_of (line + 1) (lines_of after))
      ∙ ap (λ r. behind_entries entries (put_entry r (entries_of (line + 1) (lines_of after)))) (sym is)
      ∙ ap (λ ls. behind_entries entries (entries_of line ls)) (sym cut) ∙ so_far.read;
  lines =
      spelled_last entries e (lines_of after) ∙ ap (λ x. map spelled (map entry_tokens entries) ++ x ∷ lines_of after) (sym spells)
      ∙ ap (λ ls. map spelled (map entry_tokens entries) ++ ls) (sym cut) ∙ so_far.lines;
  bound = omega (arith, so_far.bound);
}

-- a line is no entry's
pub entries_refused : (first : ℕ) (text : List ℕ) (entries : List Entry) (line : ℕ) (rest l after : List ℕ) (k : ℕ)
    → EntriesRead first text entries line rest → lines_of rest ≡ l ∷ lines_of after
    → entry_at line (entry_of (words_of l)) ≡ Err k → entries_of first (lines_of text) ≡ Err k
entries_refused first text entries line rest l after k so_far cut is =
    sym so_far.read ∙ ap (λ ls. behind_entries entries (entries_of line ls)) cut
    ∙ ap (λ r. behind_entries entries (put_entry r (entries_of (line + 1) (lines_of after)))) is

-- no line is left
pub entries_ended : (first : ℕ) (text : List ℕ) (entries : List Entry) (line : ℕ) (rest : List ℕ)
    → EntriesRead first text entries line rest → lines_of rest ≡ []
    → entries_of first (lines_of text) ≡ Ok entries
entries_ended first text entries line rest so_far none =
    sym so_far.read ∙ ap (λ ls. behind_entries entries (entries_of line ls)) none ∙ ap Ok (append-nil entries)

pub entries_lines : (first : ℕ) (text : List ℕ) (entries : List Entry) (line : ℕ) (rest : List ℕ)
    → EntriesRead first text entries line rest → lines_of rest ≡ []
    → lines_of text ≡ map spelled (map entry_tokens entries)
entries_lines first text entries line rest so_far none =
    sym so_far.lines ∙ ap (λ ls. map spelled (map entry_tokens entries) ++ ls) none ∙ append-nil (map spelled (map entry_tokens entries))

-- rows were read of a text from line `first` on; the next line is `line`, where `rest` begins
pub record RowsRead (first : ℕ) (text : List ℕ) (rows : List (Place × State)) (line : ℕ) (rest : List ℕ) : Type 0 where
  pub read : behind_rows rows (rows_front line (last_from None rows) (lines_of rest)) ≡ rows_front first None (lines_of text)
  pub lines : map spelled (map row_tokens rows) ++ lines_of rest ≡ lines_of text
  pub bound : line + length rest ≤ first + length text

pub rows_begin : (first : ℕ) (text : List ℕ) (rows : List (Place × State)) → rows ≡ [] → RowsRead first text rows first text
rows_begin first text rows none =
    subst (λ (rs : List (Place × State)). RowsRead first text rs first text) (sym none)
    (record { read = behind_none (rows_front first None (lines_of text)); lines = refl; bound = omega arith })

spelled_last_row : (rows : List (Place × State)) (r : Place × State) (more : List (List ℕ))
    → map spelled (map row_tokens (rows ++ r ∷ [])) ++ more ≡ map spelled (map row_tokens rows) ++ spelled (row_tokens r) ∷ more
spelled_last_row [] r more = refl
spelled_last_row (x ∷ rows) r more = ap (λ ls. spelled (row_tokens x) ∷ ls) (spelled_last_row rows r more)

module _ (first : ℕ) (text : List ℕ) (rows : List (Place × State)) (line : ℕ) (rest : List ℕ) (so_far : RowsRead first text rows line rest) where
  module _ (l after : List ℕ) (cut : lines_of rest ≡ l ∷ lines_of after) where
    abbrev further : Place → Result Front ℕ
    further place = rows_front (line + 1) (Some place) (lines_of after)

    -- what the next line gives, where it is a row's
    row_line : (ws : List (List ℕ)) → row_words_of (words_of l) ≡ Some ws
        → rows_front first None (lines_of text) ≡ behind_rows rows (after_row further (row_above line (last_from None rows) (row_behind ws)))
    row_line ws is =
        sym so_far.read ∙ ap (λ ls. behind_rows rows (rows_front line (last_from None rows) ls)) cut
        ∙ ap (λ o. behind_rows rows (at_line line (last_from None rows) (l ∷ lines_of after) further o)) is

    -- one more row was read
    pub rows_step : (ws : List (List ℕ)) (row : Place × State) → length after < length rest → row_words_of (words_of l) ≡ Some ws
        → row_above line (last_from None rows) (row_behind ws) ≡ Ok row → l ≡ spelled (row_tokens row)
        → RowsRead first text (rows ++ row ∷ []) (line + 1) after
    rows_step ws row shorter begins is spells = record {
      read =
          ap (λ last. behind_rows (rows ++ row ∷ []) (rows_front (line + 1) last (lines_of after))) (last_more None rows row)
          ∙ behind_row rows row (further row.0) ∙ ap (λ r. behind_rows rows (after_row further r)) (sym is) ∙ sym (row_line ws begins);
      lines =
          spelled_last_row rows row (lines_of after) ∙ ap (λ x. map spelled (map row_tokens rows) ++ x ∷ lines_of after) (sym spells)
          ∙ ap (λ ls. map spelled (map row_tokens rows) ++ ls) (sym cut) ∙ so_far.lines;
      bound = omega (arith, so_far.bound, shorter);
    }

    -- a row's line is refused
    pub rows_refused : (ws : List (List ℕ)) (k : ℕ) → row_words_of (words_of l) ≡ Some ws
        → row_above line (last_from None rows) (row_behind ws) ≡ Err k → rows_front first None (lines_of text) ≡ Err k
    rows_refused ws k begins is = row_line ws begins ∙ ap (λ r. behind_rows rows (after_row further r)) is

    -- the next line is no row's
    pub rows_ended : row_words_of (words_of l) ≡ None → rows_front first None (lines_of text) ≡ Ok (rows, line, lines_of rest)
    rows_ended ends =
        sym so_far.read ∙ ap (λ ls. behind_rows rows (rows_front line (last_from None rows) ls)) cut
        ∙ ap (λ o. behind_rows rows (at_line line (last_from None rows) (l ∷ lines_of after) further o)) ends
        ∙ ap (λ all. Ok (all, line, l ∷ lines_of after)) (append-nil rows) ∙ ap (λ ls. Ok (rows, line, ls)) (sym cut)

  -- no line is left
  pub rows_all : lines_of rest ≡ [] → rows_front first None (lines_of text) ≡ Ok (rows, line, lines_of rest)
  rows_all none =
      sym so_far.read ∙ ap (λ ls. behind_rows rows (rows_front line (last_from None rows) ls)) none
      ∙ ap (λ all. Ok (all, line, [])) (append-nil rows) ∙ ap (λ ls. Ok (rows, line, ls)) (sym none)
