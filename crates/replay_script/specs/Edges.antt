-- What stands at the edges of a line.
use Rattle.std.specs.Prelude.{ℕ, ◌==◌, ◌||◌, not, Bool, true, List, [], ◌∷◌, reverse, if◌then◌else◌}
use Rattle.replay_script.specs.declared.edges.Class.{Class}
use Rattle.replay_script.specs.declared.edges.Class.TheVariants.{Blank, Space, Ink}

-- blanks are the space, 32, and the tab, 9
abbrev pub belongs : Class → ℕ → Bool
belongs Blank c = c == 32 || c == 9
belongs Space c = c == 32
belongs Ink c = not (c == 32)

-- a line that is skipped: an empty one, or a comment behind `#`, 35
abbrev pub is_skipped : List ℕ → Bool
is_skipped [] = true
is_skipped (c ∷ cs) = c == 35

-- what stands behind the bytes of a class at the front
abbrev pub passed : Class → List ℕ → List ℕ
passed class [] = []
passed class (c ∷ cs) = if belongs class c then passed class cs else c ∷ cs

-- without the blanks at the end
abbrev pub end_trimmed : List ℕ → List ℕ
end_trimmed text = reverse (passed Blank (reverse text))

-- without the blanks at both ends
abbrev pub trimmed : List ℕ → List ℕ
trimmed line = end_trimmed (passed Blank line)

-- what stands behind the first word and the spaces after it
abbrev pub behind_word : List ℕ → List ℕ
behind_word text = passed Space (passed Ink text)
