-- The words of a command line.
use Rattle.std.specs.Prelude.{ℕ, ◌≤◌, false, if◌then◌else◌, List, [], ◌∷◌, Option, Some, None, option_map, codes, String, string_bytes, map}
use Rattle.std.specs.declared.alloc.Global.{Global}
use Rattle.std.specs.Str.{bytes_eq}
use Rattle.command_words.specs.Numbers.{long_number, number_in}
pub use Rattle.command_words.specs.Arguments.{filled, plain, argument, with_argument, arguments_of, at_most_one, exactly_one, exactly_two, single}
use Rattle.command_words.specs.Auditing.{Audit, audit_behind, seen_audit}
use Rattle.command_words.specs.Explaining.{Explain, explain_behind, seen_explain}
use Rattle.command_words.specs.declared.command.Command.{Command}
use Rattle.command_words.specs.declared.command.Command.TheVariants as command

-- what a command asks for
pub data Meant : Type 0 where
  answer : Option (List ℕ) → Meant  -- to serve by the configuration in the file of this name, or by the built-in one
  show : List ℕ → Meant  -- to print the reference that this text is
  check : List ℕ → Meant  -- to check the configuration in the file of this name
  iors : List ℕ → Meant  -- to print the references of the configuration in the file of this name
  migrate : List ℕ → List ℕ → Meant  -- to print, with the tags of the configuration in the file of the first name, the reference that the second text is
  loc : List ℕ → Meant  -- to print the corbaloc text of the reference that this text is
  replay : List ℕ → List ℕ → Meant  -- to play, on the configuration in the first file, the script in the second
  load : ℕ → ℕ → Meant  -- to play so many draws of the generator that starts with the second number
  audit : Audit → Meant  -- to audit a journal
  explain : Explain → Meant  -- to explain calls of a journal
  names : Meant  -- to serve by naming contexts

-- a load, of both its numbers
abbrev pub both : Option ℕ → Option ℕ → Option Meant
both (Some n) (Some start) = Some (load n start)
both calls start = None

-- of at most 200,000 calls, from a number below 2^64
abbrev pub load_of : Option (List ℕ × List ℕ) → Option Meant
load_of None = None
load_of (Some words) = both (number_in 0 200000 words.0) (long_number words.1)

-- to serve by naming contexts, where there is no argument
abbrev pub names_of : Option (List (List ℕ)) → Option Meant
names_of None = None
names_of (Some []) = Some names
names_of (Some (a ∷ ws)) = None

-- the command of a first word, and of the arguments behind it
abbrev pub named : List ℕ → Option (List (List ℕ)) → Option Meant
named word arguments =
    if bytes_eq word (codes "answer") then option_map answer (at_most_one arguments) else (
    if bytes_eq word (codes "show") then option_map show (exactly_one arguments) else (
    if bytes_eq word (codes "check") then option_map check (exactly_one arguments) else (
    if bytes_eq word (codes "iors") then option_map iors (exactly_one arguments) else (
    if bytes_eq word (codes "migrate") then option_map (λ words. migrate words.0 words.1) (exactly_two arguments) else (
    if bytes_eq word (codes "loc") then option_map loc (exactly_one arguments) else (
    if bytes_eq word (codes "replay") then option_map (λ files. replay files.0 files.1) (exactly_two arguments) else (
    if bytes_eq word (codes "load") then load_of (exactly_two arguments) else (
    if bytes_eq word (codes "names") then names_of arguments else None))))))))

abbrev pub command_of : List (List ℕ) → Option Meant
command_of [] = None
command_of (w ∷ ws) =
    if bytes_eq w (codes "audit") then option_map audit (audit_behind ws) else (
    if bytes_eq w (codes "explain") then option_map explain (explain_behind ws) else named w (arguments_of false ws))

-- the command that the words are, if they are one
abbrev pub command_in : List (String Global) → Option Meant
command_in words = command_of (map string_bytes words)

-- a load is of at most 200,000 calls, and the run of a journal takes 1 to 4,000,000
abbrev pub IsWithin : Meant → Type 0
IsWithin (load n start) = n ≤ 200000
IsWithin (audit a) = (1 ≤ a.limit) × (a.limit ≤ 4000000)
IsWithin (explain a) = (1 ≤ a.limit) × (a.limit ≤ 4000000)
IsWithin m = Unit {0}

-- a command as the program has it
abbrev pub seen : Command → Meant
seen (command.Answer name) = answer (option_map (λ n. n.now) name)
seen (command.Show text) = show text.now
seen (command.Check name) = check name.now
seen (command.Iors name) = iors name.now
seen (command.Migrate config text) = migrate config.now text.now
seen (command.Loc text) = loc text.now
seen (command.Replay config script) = replay config.now script.now
seen (command.Load calls start) = load calls start
seen (command.Audit a) = audit (seen_audit a)
seen (command.Explain a) = explain (seen_explain a)
seen command.Names = names
