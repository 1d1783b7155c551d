-- What is heard of an administrator: the commands of its lines, up to one that is too long.
use Rattle.std.specs.Prelude.{◌≡◌, ℕ, suc, ◌+◌, ◌==◌, nat_lt, not, Bool, false, if◌then◌else◌, List, [], ◌∷◌, ◌++◌, ◌-◌, length, slice_index, take}
use Rattle.poa_base.specs.declared.Call.TheVariants.{Line}
use Rattle.text_words.specs.Cuts.{parts_of}
use Rattle.admin_line.specs.Reading.{command_of_line}
use Rattle.session_laws.specs.Hearing.{Heard, Stop, over, bad}

-- a line without the CR that may end it
abbrev pub without_return : List ℕ → List ℕ
without_return raw = if slice_index raw (length raw - 1) == 13 then take (length raw - 1) raw else raw

-- neither empty nor a comment
abbrev pub is_spoken : List ℕ → Bool
is_spoken [] = false
is_spoken (b ∷ bs) = not (b == 35)

-- a line longer than 4,096 bytes
abbrev pub is_long : List ℕ → Bool
is_long raw = nat_lt 4096 (length (without_return raw))

-- the call of the line of this number: an empty line and a comment give none
abbrev pub spoken : ℕ → List ℕ → List Heard
spoken number line = if is_spoken line then record { call = Line number (command_of_line line); size = length line } ∷ [] else []

-- the calls of lines that are numbered from here on. The last part is no line: no LF ends it
abbrev pub calls_in : ℕ → List (List ℕ) → List Heard
calls_in number [] = []
calls_in number (part ∷ []) = []
calls_in number (raw ∷ more) = if is_long raw then [] else spoken number (without_return raw) ++ calls_in (suc number) more

-- where lines stop, the first of which begins at this place: at the first that is too long, or behind all of them
abbrev pub stop_in : ℕ → List (List ℕ) → Stop
stop_in place [] = over 0
stop_in place (part ∷ []) = if is_long part then bad place else over (length part)
stop_in place (raw ∷ more) = if is_long raw then bad place else stop_in (place + length raw + 1) more

-- these are the calls of lines, the first of which has this number and begins at this place, and so they stop
abbrev pub HearsLinesFrom : ℕ → ℕ → List ℕ → List Heard → Stop → Type 0
HearsLinesFrom place number text calls stop = (calls ≡ calls_in number (parts_of 10 text)) × (stop ≡ stop_in place (parts_of 10 text))

-- these are the calls of the text, whose lines are counted from 1, and so it stops
abbrev pub HearsLines : List ℕ → List Heard → Stop → Type 0
HearsLines = HearsLinesFrom 0 1
