-- The arguments among the words of a command line.
use Rattle.std.specs.Prelude.{ℕ, ◌==◌, Bool, true, false, if◌then◌else◌, List, [], ◌∷◌, Option, Some, None, option_map, codes}
use Rattle.std.specs.Str.{bytes_eq}

-- a word that isn't empty
abbrev pub filled : List ℕ → Option (List ℕ)
filled [] = None
filled (c ∷ cs) = Some (c ∷ cs)

-- a word that isn't empty and doesn't begin with `-`, whose code is 45
abbrev pub plain : List ℕ → Option (List ℕ)
plain [] = None
plain (c ∷ cs) = if c == 45 then None else Some (c ∷ cs)

-- the argument that a word is, where the flag says that `--` came before: behind it an argument may begin with `-`
abbrev pub argument : Bool → List ℕ → Option (List ℕ)
argument true w = filled w
argument false w = plain w

abbrev pub with_argument : Option (List ℕ) → Option (List (List ℕ)) → Option (List (List ℕ))
with_argument None more = None
with_argument (Some w) None = None
with_argument (Some w) (Some ws) = Some (w ∷ ws)

-- the arguments that words are, where the flag says that `--` came before
abbrev pub arguments_of : Bool → List (List ℕ) → Option (List (List ℕ))
arguments_of marked [] = Some []
arguments_of true (w ∷ ws) = with_argument (argument true w) (arguments_of true ws)
arguments_of false (w ∷ ws) =
    if bytes_eq w (codes "--") then arguments_of true ws else with_argument (argument false w) (arguments_of false ws)

-- the only argument, if there is one
abbrev pub at_most_one : Option (List (List ℕ)) → Option (Option (List ℕ))
at_most_one None = None
at_most_one (Some []) = Some None
at_most_one (Some (a ∷ [])) = Some (Some a)
at_most_one (Some (a ∷ b ∷ ws)) = None

abbrev pub exactly_one : Option (List (List ℕ)) → Option (List ℕ)
exactly_one None = None
exactly_one (Some []) = None
exactly_one (Some (a ∷ [])) = Some a
exactly_one (Some (a ∷ b ∷ ws)) = None

abbrev pub exactly_two : Option (List (List ℕ)) → Option (List ℕ × List ℕ)
exactly_two None = None
exactly_two (Some []) = None
exactly_two (Some (a ∷ [])) = None
exactly_two (Some (a ∷ b ∷ [])) = Some (a, b)
exactly_two (Some (a ∷ b ∷ c ∷ ws)) = None

-- the only argument, which may be required
abbrev pub single : Bool → Option (List (List ℕ)) → Option (Option (List ℕ))
single true arguments = option_map Some (exactly_one arguments)
single false arguments = at_most_one arguments
