-- The text of a journal reads back.
use Rattle.std.proofs.Common.{◌≡◌, ℕ, ◌+◌, ◌^◌, List, [], ◌∷◌, ◌++◌, length, map, Option, Some, None, Ok, refl, ap, sym, ◌∙◌, arith, append-nil}
use Rattle.std.specs.List.{AllByRecursion}
use Rattle.poa_base.specs.declared.Entry.{Entry}
use Rattle.poa_base.specs.declared.Journal.{Journal}
use Rattle.poa_base.specs.declared.State.{State}
use Rattle.poa_base.specs.Store.{Place, Slots, states}
use Rattle.text_words.specs.Cuts.{lines_of, words_of}
use Rattle.text_words.specs.Token.{Token, AllFit, texts, spelled, keyword, number, path, identity}
use Rattle.text_words.proofs.Lines.{words_spelled, line_first}
use Rattle.text_words.proofs.Numbers.{number_back}
use Rattle.poa_journal.specs.ValueWords.{mark_word}
use Rattle.poa_journal.specs.Fixed.{kind_word}
use Rattle.poa_journal.specs.declared.value_words.Mark.TheVariants as mark
use Rattle.poa_journal.specs.Row.{row_tokens, state_tokens}
use Rattle.poa_journal.specs.Entry.{entry_tokens, body_tokens, kind_in, IsWritten}
use Rattle.poa_journal.specs.Journal.{head_tokens, text_of, journal_lines, journal_text, IsRow, IsJournal, store_lines, store_text, IsStore}
use Rattle.poa_journal.specs.Whole.{rows_front, entries_of, numbered, head_of, contents_of_lines, contents_of, contents, all_rows, rows_of}
use Rattle.poa_journal.proofs.Entries.{entry_back}
use Rattle.poa_journal.proofs.LineRows.{row_back, row_starts, entry_starts}
use Rattle.poa_journal.specs.Shelving.{Ascends}
use Rattle.poa_journal.proofs.Ascending.{states_ascend}

-- lines of tokens that fit
abbrev pub AllLinesFit : List (List Token) → Type 0
AllLinesFit ls = AllByRecursion AllFit ls

-- the lines of a text of lines
pub lines_back : (ls : List (List Token)) → AllLinesFit ls → lines_of (text_of ls) ≡ map spelled ls
lines_back [] h = refl
lines_back (l ∷ ls) h = line_first l (text_of ls) h.0 ∙ ap (λ more. spelled l ∷ more) (lines_back ls h.1)

entry_words : (e : Entry) → IsWritten e → words_of (spelled (entry_tokens e)) ≡ texts (entry_tokens e)
entry_words e w = words_spelled (keyword (kind_word (kind_in e))) (body_tokens e) w.fits

-- the entries of their lines
pub entries_back : (k : ℕ) (es : List Entry) → AllByRecursion IsWritten es → entries_of k (map spelled (map entry_tokens es)) ≡ Ok es
entries_back k [] h = refl
entries_back k (e ∷ es) h =
    rw (entry_words e h.0, entry_back e h.0, entries_back (k + 1) es h.1) refl

-- no rows stand where entries begin
no_rows : (k : ℕ) (last : Option Place) (es : List Entry) → AllByRecursion IsWritten es
    → rows_front k last (map spelled (map entry_tokens es)) ≡ Ok ([], k, map spelled (map entry_tokens es))
no_rows k last [] h = refl
no_rows k last (e ∷ es) h = rw (entry_words e h.0, entry_starts (kind_in e) (texts (body_tokens e))) refl

row_words : (place : Place) (state : State) → IsRow (place, state) → words_of (spelled (row_tokens (place, state))) ≡ texts (row_tokens (place, state))
row_words place state h = words_spelled (keyword (mark_word mark.Store)) (path place.0 ∷ identity place.1 ∷ state_tokens state) h

-- the rows of their lines, before entries
pub rows_back : (k : ℕ) (last : Option Place) (rows : List (Place × State)) (es : List Entry)
    → AllByRecursion IsRow rows → Ascends last rows → AllByRecursion IsWritten es
    → rows_front k last (map spelled (map row_tokens rows ++ map entry_tokens es)) ≡ Ok (rows, k + length rows, map spelled (map entry_tokens es))
rows_back k last [] es fits rise h = rw (no_rows k last es h) (ap (λ n. Ok ([], n, map spelled (map entry_tokens es))) (omega arith))
rows_back k last ((place, state) ∷ rows) es fits rise h =
    rw (
      row_words place state fits.0,
      row_starts (texts (path place.0 ∷ identity place.1 ∷ state_tokens state)),
      row_back place state fits.0,
      rise.0,
      rows_back
          (k + 1) (Some place) rows es fits.1 rise.1 h,
    )
    (ap (λ n. Ok ((place, state) ∷ rows, n, map spelled (map entry_tokens es))) (omega arith))

head_back : (run : ℕ) → AllFit (head_tokens run) → head_of (words_of (spelled (head_tokens run))) ≡ Ok run
unfolding mark_word
head_back run h =
    ap head_of (words_spelled (keyword (mark_word mark.Journal)) (keyword (mark_word mark.One) ∷ keyword (mark_word mark.Run) ∷ number (2 ^ 32) run ∷ []) h)
    ∙ ap numbered (number_back (2 ^ 32) run h.1.1.1.0.0 (omega arith))

rows_fit : (rows : List (Place × State)) (es : List Entry) → AllByRecursion IsRow rows → AllByRecursion IsWritten es
    → AllLinesFit (map row_tokens rows ++ map entry_tokens es)
rows_fit [] [] fits h = tt
rows_fit [] (e ∷ es) fits h = (h.0.fits, rows_fit [] es tt h.1)
rows_fit (r ∷ rows) es fits h = (fits.0, rows_fit rows es fits.1 h)

-- what a journal's lines read as
pub journal_lines_back : (journal : Journal) → IsJournal journal → contents_of_lines (map spelled (journal_lines journal)) ≡ Ok (contents journal)
journal_lines_back journal h =
    rw (
      head_back journal.run h.run,
      rows_back 2 None (states journal.opening) journal.entries h.rows (states_ascend journal.opening) h.entries,
      entries_back
          (2 + length (states journal.opening)) journal.entries h.entries,
    ) refl

-- what a journal's text reads as
pub journal_back : (journal : Journal) → IsJournal journal → contents_of (journal_text journal) ≡ Ok (contents journal)
journal_back journal h =
    ap contents_of_lines (lines_back (journal_lines journal) (h.run, rows_fit (states journal.opening) journal.entries h.rows h.entries))
    ∙ journal_lines_back journal h

-- the rows of the lines of a store
pub store_lines_back : (store : Slots) → IsStore store → all_rows (rows_front 1 None (map spelled (store_lines store))) ≡ Ok (states store)
store_lines_back store h =
    ap (λ ls. all_rows (rows_front 1 None (map spelled ls))) (sym (append-nil (store_lines store)))
    ∙ ap all_rows (rows_back 1 None (states store) [] h (states_ascend store) tt)

store_fits : (rows : List (Place × State)) → AllByRecursion IsRow rows → AllLinesFit (map row_tokens rows)
store_fits [] h = tt
store_fits (row ∷ rows) h = (h.0, store_fits rows h.1)

-- the text of a store gives its rows
pub store_back : (store : Slots) → IsStore store → rows_of (store_text store) ≡ Ok (states store)
store_back store h =
    ap (λ ls. all_rows (rows_front 1 None ls)) (lines_back (store_lines store) (store_fits (states store) h)) ∙ store_lines_back store h
