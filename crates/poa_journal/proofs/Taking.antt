-- A row whose words were read, behind those that were read before.
use Rattle.std.proofs.Common.{◌≡◌, ℕ, Bool, true, false, cond, List, ◌∷◌, Some, None, Result, Ok, Err, refl, sym, ap, ◌∙◌}
use Rattle.poa_base.specs.declared.State.{State}
use Rattle.poa_base.specs.Store.{Place}
use Rattle.text_words.specs.Path.{path_of}
use Rattle.text_words.specs.Token.{identity, path, spell, texts}
use Rattle.poa_journal.specs.declared.value_words.Mark.TheVariants as mark
use Rattle.poa_journal.specs.ValueWords.{mark_word}
use Rattle.poa_journal.specs.Row.{row_behind, slot_behind, state_tokens}
use Rattle.poa_journal.specs.Shelving.{Shelves, Takes, last_from}
use Rattle.poa_journal.specs.Whole.{is_above, row_above}
use Rattle.poa_journal.specs.declared.fault.JournalFault.{JournalFault}
use Rattle.poa_journal.specs.declared.fault.JournalFault.TheVariants.{BadLine, WantMemory}

module _ (line : ℕ) (word : List ℕ) (words : List (List ℕ)) (p : List (List ℕ)) (oid : List ℕ) (state : State) (old new : List (Place × State))
    (known : path_of word ≡ Some p) (slot : slot_behind words ≡ Some (oid, state)) where
  row_is : row_behind (word ∷ words) ≡ Some ((p, oid), state)
  row_is = rw (known, slot) refl

  above_is : (above : Bool) → is_above (last_from None old) (p, oid) ≡ above
      → row_above line (last_from None old) (row_behind (word ∷ words)) ≡ cond above (Ok ((p, oid), state)) (Err line)
  above_is above is = ap (row_above line (last_from None old)) row_is ∙ ap (λ test. cond test (Ok ((p, oid), state)) (Err line)) is

pub taken_by : (result : Result (Unit {0}) JournalFault) (line : ℕ) (word : List ℕ) (words : List (List ℕ)) (p : List (List ℕ)) (oid : List ℕ)
    (state : State) (old new : List (Place × State)) → path_of word ≡ Some p → slot_behind words ≡ Some (oid, state) → word ≡ spell (path p)
    → words ≡ texts (identity oid ∷ state_tokens state) → Shelves result line ((p, oid), state) old new → Takes result line (word ∷ words) old new
taken_by (Ok done) line word words p oid state old new known slot written spelled shelves = record {
  row = ((p, oid), state);
  reads = above_is line word words p oid state old new known slot true shelves.0;
  spells = ap (λ w. mark_word mark.Store ∷ w ∷ words) written ∙ ap (λ more. mark_word mark.Store ∷ spell (path p) ∷ more) spelled;
  is = shelves.1;
}
taken_by (Err (BadLine k)) line word words p oid state old new known slot written spelled shelves =
    above_is line word words p oid state old new known slot false shelves.0 ∙ ap Err (sym shelves.1)
taken_by (Err WantMemory) line word words p oid state old new known slot written spelled shelves = tt
