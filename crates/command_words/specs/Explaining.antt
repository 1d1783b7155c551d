-- The words behind `explain`: the file of a configuration, that of a journal, and options in any place.
use Rattle.std.specs.Prelude.{ℕ, List, [], ◌∷◌, Option, Some, None, option_map, codes}
use Rattle.text_words.specs.Identity.{id_of}
use Rattle.text_words.specs.Path.{path_of}
use Rattle.command_words.specs.Arguments.{exactly_two}
use Rattle.command_words.specs.Numbers.{number_in}
use Rattle.command_words.specs.Serving.{limit_of}
use Rattle.command_words.specs.Settings.{◌>>=◌, Setting, among, perhaps, settings_of, values_of}
use Rattle.command_words.specs.declared.calls_asked.CallsAsked.{CallsAsked}
use Rattle.command_words.specs.declared.calls_asked.CallsAsked.TheVariants.{Arrival, Call, Object, Picture, All}
use Rattle.command_words.specs.declared.explain_words.ExplainWords.{ExplainWords}
use Rattle.command_words.specs.declared.optioned.Optioned.TheVariants as optioned

-- the calls of a journal that words ask for
pub record Explain : Type 0 where
  pub config : List ℕ  -- the name of the file with the configuration of its run
  pub journal : List ℕ  -- the name of the journal's file
  pub calls : CallsAsked
  pub limit : ℕ  -- how many calls the run takes

abbrev pub explain_with : List ℕ → List ℕ → CallsAsked → ℕ → Explain
explain_with config journal calls limit = record { config = config; journal = journal; calls = calls; limit = limit }

-- the two values of an option that may be absent
abbrev pub pair_of : List (List ℕ) → Option (Option (List ℕ × List ℕ))
pair_of [] = Some None
pair_of (a ∷ []) = None
pair_of (a ∷ b ∷ []) = Some (Some (a, b))
pair_of (a ∷ b ∷ c ∷ values) = None

-- a request id on a connection
abbrev pub call_of : List ℕ × List ℕ → Option CallsAsked
call_of words = number_in 0 3999999 words.0 >>= (λ conn. option_map (Call conn) (number_in 0 4294967295 words.1))

-- an object's id in the adapters of a path
abbrev pub object_of : List ℕ × List ℕ → Option CallsAsked
object_of words = path_of words.0 >>= (λ path. option_map (Object path) (id_of words.1))

-- the number of an entry that a word says, which isn't below this one; where there is no word it is the other
abbrev pub entry_of : Option (List ℕ) → ℕ → ℕ → Option ℕ
entry_of None least otherwise = Some otherwise
entry_of (Some word) least otherwise = number_in least 4294967295 word

-- the first and the last entry of a picture: `--from` and `--to` stand with `--picture` alone
abbrev pub span_by : Option (List ℕ) → Option (List ℕ) → Option (List ℕ) → Option (Option (ℕ × ℕ))
span_by (Some flag) from to = entry_of from 0 0 >>= (λ first. option_map (λ last. Some (first, last)) (entry_of to first 4294967295))
span_by None None None = Some None
span_by None from to = None

abbrev pub span_of : List Setting → Option (Option (ℕ × ℕ))
span_of settings =
    perhaps (codes "--picture") settings >>= (λ picture.
    perhaps (codes "--from") settings >>= (λ from.
    perhaps (codes "--to") settings >>= (λ to. span_by picture from to)))

-- one of these: a call by its number or by its id, an object, a picture; or what came of all
abbrev pub calls_by : Option (List ℕ) → Option (List ℕ × List ℕ) → Option (List ℕ × List ℕ) → Option (ℕ × ℕ) → Option CallsAsked
calls_by None None None None = Some All
calls_by (Some word) None None None = option_map Arrival (number_in 0 3999999 word)
calls_by None (Some words) None None = call_of words
calls_by None None (Some words) None = object_of words
calls_by None None None (Some span) = Some (Picture span.0 span.1)
calls_by arrival call object span = None

abbrev pub calls_of : List Setting → Option CallsAsked
calls_of settings =
    perhaps (codes "--arrival") settings >>= (λ arrival.
    pair_of (values_of (codes "--call") settings) >>= (λ call.
    pair_of (values_of (codes "--object") settings) >>= (λ object.
    span_of settings >>= calls_by arrival call object)))

-- two files, what is asked, and the other option at most once
abbrev pub explain_of : List Setting → Option Explain
explain_of settings =
    exactly_two (Some (values_of [] settings)) >>= (λ files.
    (perhaps (codes "--limit") settings >>= limit_of) >>= (λ limit.
    calls_of settings >>= (λ calls.
    Some (explain_with files.0 files.1 calls limit))))

-- of the words behind `explain`
abbrev pub explain_behind : List (List ℕ) → Option Explain
explain_behind ws = settings_of optioned.Explain among ws >>= explain_of

-- the same, as the program has it
abbrev pub seen_explain : ExplainWords → Explain
seen_explain a = explain_with a.config.now a.journal.now a.calls a.limit
