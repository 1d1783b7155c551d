-- The number of the line behind the rows of a journal's opening store.
use Rattle.std.proofs.Common.{◌≡◌, ℕ, ◌+◌, List, [], ◌∷◌, length, Option, Some, None, Result, Ok, Err, refl, subst, arith}
use Rattle.poa_base.specs.declared.State.{State}
use Rattle.poa_base.specs.Store.{Place}
use Rattle.text_words.specs.Cuts.{words_of}
use Rattle.poa_journal.specs.Row.{row_behind, row_words_of}
use Rattle.poa_journal.specs.Whole.{Front, row_above, put_row, after_row, at_line, rows_front}

-- so many rows stand in front of the line
abbrev IsNumbered : ℕ → Front → Type 0
IsNumbered k front = front.1 ≡ k + length front.0

none_before : (k : ℕ) (lines : List (List ℕ)) (front : Front) → ◌≡◌ {A = Result Front ℕ} (Ok ([], k, lines)) (Ok front) → IsNumbered k front
none_before k lines front is =
    let here : Front = ([], k, lines) in
    let same : here ≡ front = cc in
    subst (IsNumbered k) same (omega arith)

one_before : (k : ℕ) (row : Place × State) (rest front : Front) → IsNumbered (k + 1) rest
    → ◌≡◌ {A = Result Front ℕ} (Ok (row ∷ rest.0, rest.1, rest.2)) (Ok front) → IsNumbered k front
one_before k row rest front counts is =
    let here : Front = (row ∷ rest.0, rest.1, rest.2) in
    let same : here ≡ front = cc in
    let longer : rest.1 ≡ k + length (row ∷ rest.0) = omega (arith, counts) in
    subst (IsNumbered k) same longer

module _ (k : ℕ) (last : Option Place) (lines : List (List ℕ)) (more : Place → Result Front ℕ) (front : Front)
    (counts : (place : Place) (rest : Front) → more place ≡ Ok rest → IsNumbered (k + 1) rest) where
  behind_row : (row : Place × State) (rest : Result Front ℕ) → more row.0 ≡ rest → put_row row rest ≡ Ok front → IsNumbered k front
  behind_row row (Err n) is put = cc
  behind_row row (Ok rest) is put = one_before k row rest front (counts row.0 rest is) put

  after : (row : Result (Place × State) ℕ) → after_row more row ≡ Ok front → IsNumbered k front
  after (Err n) is = cc
  after (Ok row) is = behind_row row (more row.0) refl is

  at : (ws : Option (List (List ℕ))) → at_line k last lines more ws ≡ Ok front → IsNumbered k front
  at None is = none_before k lines front is
  at (Some ws) is = after (row_above k last (row_behind ws)) is

pub numbered : (k : ℕ) (last : Option Place) (ls : List (List ℕ)) (front : Front) → rows_front k last ls ≡ Ok front → front.1 ≡ k + length front.0
numbered k last [] front is = none_before k [] front is
numbered k last (l ∷ ls) front is =
    at k last (l ∷ ls) (λ place. rows_front (k + 1) (Some place) ls) front (λ place rest more. numbered (k + 1) (Some place) ls rest more)
    (row_words_of (words_of l)) is
