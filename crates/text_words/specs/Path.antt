-- Paths of adapters: `/`, or each name behind a `/`.
use Rattle.std.specs.Prelude.{ℕ, ◌==◌, nat_le, List, [], ◌∷◌, ◌++◌, length, Option, Some, None, if◌then◌else◌}
use Rattle.text_words.specs.Chain.{◌>>=◌}
use Rattle.text_words.specs.Name.{name_of}
use Rattle.text_words.specs.Cuts.{parts_of}

-- each name behind its `/`, whose code is 47
abbrev pub below_root : List (List ℕ) → List ℕ
below_root [] = []
below_root (n ∷ ns) = (47 ∷ n) ++ below_root ns

abbrev pub path_text : List (List ℕ) → List ℕ
path_text [] = 47 ∷ []
path_text (n ∷ ns) = below_root (n ∷ ns)

-- the words themselves where each is a name
abbrev pub all_names_of : List (List ℕ) → Option (List (List ℕ))
all_names_of [] = Some []
all_names_of (w ∷ ws) = do
  n ← name_of w
  ns ← all_names_of ws
  Some (n ∷ ns)

-- the names of a path below the root
abbrev pub names_behind : List ℕ → Option (List (List ℕ))
names_behind [] = Some []
names_behind (c ∷ cs) = all_names_of (parts_of 47 (c ∷ cs))

-- the names of a path of any depth, none for `/`
abbrev pub path_names_of : List ℕ → Option (List (List ℕ))
path_names_of [] = None
path_names_of (c ∷ cs) = if c == 47 then names_behind cs else None

-- at most 16 names
abbrev pub few_enough : List (List ℕ) → Option (List (List ℕ))
few_enough ns = if nat_le (length ns) 16 then Some ns else None

-- the names of the path whose text the word is
abbrev pub path_of : List ℕ → Option (List (List ℕ))
path_of w = do
  ns ← path_names_of w
  few_enough ns
