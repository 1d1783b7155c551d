-- The commands as clap has them, and what it makes of words.
use Rattle.std.specs.Prelude.{◌≡◌, Bool, true, false, List, [], codes, is_some}
use Rattle.clap.specs.Words.{App, Rule, Text, fault_of, found_of, matches_of, new_app, new_rule, rows_of, with_rule}
use Rattle.clap.specs.declared.parser.matches.ArgMatches.{ArgMatches}
use Rattle.command_words.specs.Words.{arguments_of}

-- a command with no arguments, whose words are its arguments alone
abbrev pub bare : Text → App
bare name = record (new_app name) {
  top = record (new_app name).top {
    no_binary_name = true;
    disable_help_flag = true;
    disable_version_flag = true;
  };
}

abbrev pub placed : Text → Bool → Rule
placed id is_required = record (new_rule id) { required = is_required }

-- a command with one argument
abbrev pub of_one : Text → Bool → App
of_one name is_required = with_rule (bare name) (placed (codes "first") is_required)

-- a command with two arguments, which are required
abbrev pub of_two : Text → App
of_two name = with_rule (of_one name true) (placed (codes "second") true)

-- each word may be an argument
abbrev pub AreArguments : List Text → Type 0
AreArguments words = is_some (arguments_of false words) ≡ true

-- the words may be arguments, and clap takes them with these matches
abbrev pub Takes : App → List Text → ArgMatches → Type 0
Takes app words m = AreArguments words × (fault_of app words ≡ []) × (rows_of (found_of m) ≡ matches_of app words)

-- a word may be no argument, or clap takes the words for none of the command's
abbrev pub Refuses : App → List Text → Type 0
Refuses app words = AreArguments words → fault_of app words ≡ [] → ⊥
