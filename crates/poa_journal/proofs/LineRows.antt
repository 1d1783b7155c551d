-- The words of a row give the row, and tell it from an entry.
use Rattle.std.proofs.Common.{◌≡◌, ℕ, List, [], ◌∷◌, map, Some, None, refl}
use Rattle.std.specs.Prelude.{codes}
use Rattle.poa_base.specs.declared.State.{State}
use Rattle.poa_base.specs.declared.State.TheVariants.{Register, Book, Echo, Fault}
use Rattle.poa_base.specs.Store.{Place}
use Rattle.text_words.specs.Token.{AllFit, texts, path, identity}
use Rattle.text_words.proofs.ReadBack.{path_back, printed_id_back, signed_back, prefixed_back}
use Rattle.poa_journal.specs.declared.value_words.Mark.TheVariants as mark
use Rattle.poa_journal.specs.ValueWords.{mark_word}
use Rattle.poa_journal.specs.declared.fixed.Kind.{Kind}
use Rattle.poa_journal.specs.declared.fixed.Kind.TheVariants as kind
use Rattle.poa_journal.specs.Fixed.{holding_word, kind_word}
use Rattle.poa_journal.specs.Row.{page_token, pages_of, row_behind, row_tokens, row_words_of, state_tokens}

pages_back : (pages : List (List ℕ)) → AllFit (map page_token pages) → pages_of (texts (map page_token pages)) ≡ Some pages
pages_back [] h = refl
pages_back (p ∷ pages) h = rw (prefixed_back (codes "x") p h.0.1, pages_back pages h.1) refl

-- what stands behind `store`
pub row_back : (place : Place) (state : State) → AllFit (row_tokens (place, state))
    → row_behind (texts (path place.0 ∷ identity place.1 ∷ state_tokens state)) ≡ Some (place, state)
unfolding holding_word
row_back p (Register n) h = rw (path_back p.0 h.1.0.0 h.1.0.1, printed_id_back p.1 h.1.1.0.0 h.1.1.0.1, signed_back n h.1.1.1.1.0) refl
row_back p (Book pages) h = rw (path_back p.0 h.1.0.0 h.1.0.1, printed_id_back p.1 h.1.1.0.0 h.1.1.0.1, pages_back pages h.1.1.1.1) refl
row_back p Echo h = rw (path_back p.0 h.1.0.0 h.1.0.1, printed_id_back p.1 h.1.1.0.0 h.1.1.0.1) refl
row_back p Fault h = rw (path_back p.0 h.1.0.0 h.1.0.1, printed_id_back p.1 h.1.1.0.0 h.1.1.0.1) refl

-- a row's line begins with `store`
pub row_starts : (ws : List (List ℕ)) → row_words_of (mark_word mark.Store ∷ ws) ≡ Some ws
unfolding mark_word
row_starts ws = refl

-- and no entry's line does
pub entry_starts : (k : Kind) (ws : List (List ℕ)) → row_words_of (kind_word k ∷ ws) ≡ None
unfolding mark_word kind_word
entry_starts kind.Entered ws = refl
entry_starts kind.Arrive ws = refl
entry_starts kind.Filled ws = refl
entry_starts kind.Left ws = refl
entry_starts kind.Collect ws = refl
entry_starts kind.Admit ws = refl
entry_starts kind.Tried ws = refl
entry_starts kind.Incarnated ws = refl
entry_starts kind.Run ws = refl
entry_starts kind.Done ws = refl
entry_starts kind.TakeOut ws = refl
entry_starts kind.Etherealized ws = refl
entry_starts kind.Abandon ws = refl
