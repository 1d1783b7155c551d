-- The words behind the name of a command that has options: its arguments, and options in any place.
use Rattle.std.specs.Prelude.{ℕ, ◌==◌, nat_lt, Bool, true, false, if◌then◌else◌, List, [], ◌∷◌, ◌++◌, length, Option, Some, None, option_map, codes}
use Rattle.std.specs.List.{after_first, before_first, position_or_len}
use Rattle.std.specs.Str.{bytes_eq}
use Rattle.command_words.specs.Arguments.{argument, at_most_one, exactly_one}
use Rattle.command_words.specs.declared.optioned.Optioned.{Optioned}
use Rattle.command_words.specs.declared.optioned.Optioned.TheVariants.{Serve, Call, Audit, Explain}
use Rattle.command_words.specs.declared.place.Place.{Place as PlaceOfReader}
use Rattle.command_words.specs.declared.place.Place.TheVariants as place
use Rattle.command_words.specs.declared.setting.Setting.{Setting as SettingAsRead}

-- one step of reading after another
infixl 10 ◌>>=◌
abbrev pub ◌>>=◌ : {A B : Type 0} → Option A → (A → Option B) → Option B
None >>= f = None
Some x >>= f = f x

-- the value that words give an option; an argument has the empty name
pub record Setting : Type 0 where
  pub name : List ℕ
  pub value : List ℕ

-- where a word stands
pub data Place : Type 0 where
  among : Place  -- it may be an option, an argument, or the `--` behind which no options come
  behind : List ℕ → Place  -- it is the value of this option, or the second one of its two
  before : List ℕ → Place  -- it is the first of the two values of this option
  last : Place  -- it is an argument

-- the names of the options of a command
abbrev pub is_option : Optioned → List ℕ → Bool
is_option Serve name = if bytes_eq name (codes "--lanes") then true else (if bytes_eq name (codes "--workers") then true else (
    if bytes_eq name (codes "--run") then true else (if bytes_eq name (codes "--state") then true else (
    if bytes_eq name (codes "--journal") then true else bytes_eq name (codes "--limit")))))
is_option Audit name = if bytes_eq name (codes "--limit") then true else (
    if bytes_eq name (codes "--conn") then true else (if bytes_eq name (codes "--in") then true else bytes_eq name (codes "--out")))
is_option Explain name = if bytes_eq name (codes "--arrival") then true else (if bytes_eq name (codes "--call") then true else (
    if bytes_eq name (codes "--object") then true else (if bytes_eq name (codes "--picture") then true else (
    if bytes_eq name (codes "--from") then true else (if bytes_eq name (codes "--to") then true else bytes_eq name (codes "--limit"))))))
is_option Call name = if bytes_eq name (codes "--as") then true else bytes_eq name (codes "--hops")

-- the option has no value
abbrev pub takes_none : Optioned → List ℕ → Bool
takes_none Serve name = false
takes_none Audit name = false
takes_none Explain name = bytes_eq name (codes "--picture")
takes_none Call name = false

-- the option has two values
abbrev pub takes_two : Optioned → List ℕ → Bool
takes_two Serve name = false
takes_two Audit name = false
takes_two Explain name = if bytes_eq name (codes "--call") then true else bytes_eq name (codes "--object")
takes_two Call name = false

-- the place of the word behind an option's name, and behind its first value
abbrev pub behind_name : Optioned → List ℕ → Place
behind_name command name = if takes_two command name then before name else behind name

abbrev pub behind_value : Optioned → List ℕ → Place
behind_value command name = if takes_two command name then behind name else among

-- `=` has the code 61
abbrev pub is_equals : ℕ → Bool
is_equals c = c == 61

-- what a word says in front of its first `=`, and behind it where it has one
abbrev pub name_in : List ℕ → List ℕ
name_in w = before_first is_equals w

abbrev pub value_in : List ℕ → Option (List ℕ)
value_in w = if nat_lt (position_or_len is_equals w) (length w) then Some (after_first is_equals w) else None

-- a setting, and the place of the word behind it
abbrev pub sets : List ℕ → Place → List ℕ → Option Setting × Place
sets name next value = (Some (record { name = name; value = value }), next)

-- an option with a value in the same word, and one by its name alone, which stands for itself where it has no value
abbrev pub valued : Optioned → List ℕ → List ℕ → Option (Option Setting × Place)
valued command name value =
    if takes_none command name then None else option_map (sets name (behind_value command name)) (argument false value)

abbrev pub bare : Optioned → List ℕ → Option Setting × Place
bare command name = if takes_none command name then sets name among [] else (None, behind_name command name)

-- an option whose name the word says, and perhaps its value
abbrev pub option_of : Optioned → List ℕ → Option (List ℕ) → Option (Option Setting × Place)
option_of command name None = if is_option command name then Some (bare command name) else None
option_of command name (Some value) = if is_option command name then valued command name value else None

-- what a word in front of `--` gives; 45 is `-`
abbrev pub free_word : Optioned → List ℕ → Option (Option Setting × Place)
free_word command [] = None
free_word command (c ∷ cs) =
    if bytes_eq (c ∷ cs) (codes "--") then Some (None, last) else (
    if c == 45 then option_of command (name_in (c ∷ cs)) (value_in (c ∷ cs)) else Some (sets [] among (c ∷ cs)))

-- the setting that a word in this place gives, if any, and the place of the next word
abbrev pub word_at : Optioned → Place → List ℕ → Option (Option Setting × Place)
word_at command among w = free_word command w
word_at command (behind name) w = option_map (sets name among) (argument false w)
word_at command (before name) w = option_map (sets name (behind name)) (argument false w)
word_at command last w = option_map (sets [] last) (argument true w)

-- with a setting more in front, and behind, if there is one
abbrev pub followed : Option Setting → List Setting → List Setting
followed None more = more
followed (Some s) more = s ∷ more

abbrev pub noted : Option Setting → List Setting → List Setting
noted None done = done
noted (Some s) done = done ++ s ∷ []

-- the settings of words, of which the first stands in this place
abbrev pub settings_of : Optioned → Place → List (List ℕ) → Option (List Setting)
settings_of command among [] = Some []
settings_of command (behind name) [] = None
settings_of command (before name) [] = None
settings_of command last [] = Some []
settings_of command place (w ∷ ws) = word_at command place w >>= (λ r. option_map (followed r.0) (settings_of command r.1 ws))

-- the values that are given this name, in order
abbrev pub values_of : List ℕ → List Setting → List (List ℕ)
values_of name [] = []
values_of name (s ∷ more) = if bytes_eq s.name name then s.value ∷ values_of name more else values_of name more

abbrev pub only : List ℕ → List Setting → Option (List ℕ)
only name settings = exactly_one (Some (values_of name settings))

-- the values of an option that may be absent
abbrev pub perhaps : List ℕ → List Setting → Option (Option (List ℕ))
perhaps name settings = at_most_one (Some (values_of name settings))

-- the same, as the program has them
abbrev pub seen_setting : SettingAsRead → Setting
seen_setting s = record { name = s.name.now; value = s.value.now }

abbrev pub seen_place : PlaceOfReader → Place
seen_place place.Among = among
seen_place (place.Behind name) = behind name.now
seen_place (place.Before name) = before name.now
seen_place place.Last = last

abbrev pub seen_step : Option SettingAsRead × PlaceOfReader → Option Setting × Place
seen_step step = (option_map seen_setting step.0, seen_place step.1)
