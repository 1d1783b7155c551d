-- A text cut at each place where a byte stands: lines at LF, words at a space.
use Rattle.std.specs.Prelude.{ℕ, ◌==◌, List, [], ◌∷◌, if◌then◌else◌, filter, Bool, not, length}
use Rattle.std.specs.List.{list_all}

-- one more byte in front of the first part
abbrev pub onto : ℕ → List (List ℕ) → List (List ℕ)
onto c [] = (c ∷ []) ∷ []
onto c (w ∷ ws) = (c ∷ w) ∷ ws

-- the parts between the bytes s, `end` standing for the empty text
abbrev pub cut : ℕ → List (List ℕ) → List ℕ → List (List ℕ)
cut s end [] = end
cut s end (c ∷ cs) = if c == s then [] ∷ cut s end cs else onto c (cut s end cs)

-- the parts of a text, one more than it has bytes s
abbrev pub parts_of : ℕ → List ℕ → List (List ℕ)
parts_of s text = cut s ([] ∷ []) text

-- the words of a line whose words exactly one space parts
abbrev pub words_of : List ℕ → List (List ℕ)
words_of line = parts_of 32 line

abbrev pub is_filled : List ℕ → Bool
is_filled w = not (length w == 0)

-- the words of a line whose words any number of spaces parts, at its ends too
abbrev pub loose_words_of : List ℕ → List (List ℕ)
loose_words_of line = filter is_filled (words_of line)

-- the lines of a text, each without its LF; that of the last line may be missing
abbrev pub lines_of : List ℕ → List (List ℕ)
lines_of text = cut 10 [] text

-- whether a text has no byte s
abbrev pub lacks : ℕ → List ℕ → Bool
lacks s text = list_all (λ c. not (c == s)) text
