-- What activators answered, in a journal.
use Rattle.std.specs.Prelude.{ℕ, ◌^◌, List, [], ◌∷◌, Option, Some, None}
use Rattle.poa_base.specs.declared.Attempt.{Attempt}
use Rattle.poa_base.specs.declared.Attempt.TheVariants as attempt
use Rattle.poa_base.specs.declared.Incarnation.{Incarnation}
use Rattle.poa_base.specs.declared.Incarnation.TheVariants.{Fresh, Named, Double, Forward, Raise}
use Rattle.text_words.specs.Chain.{◌>>=◌}
use Rattle.text_words.specs.Keyword.{named_in}
use Rattle.text_words.specs.Token.{Token, keyword, number, named}
use Rattle.text_words.specs.Parts.{endpoint_tokens, alone, last_number, last_name, last_endpoint}
use Rattle.poa_journal.specs.declared.value_words.Trial.{Trial}
use Rattle.poa_journal.specs.declared.value_words.Trial.TheVariants as trial
use Rattle.poa_journal.specs.declared.value_words.Bringing.{Bringing}
use Rattle.poa_journal.specs.declared.value_words.Bringing.TheVariants as bringing
use Rattle.poa_journal.specs.ValueWords.{trial_word, trials, bringing_word, bringings}
use Rattle.poa_journal.specs.Exception as exception

abbrev pub attempt_tokens : Attempt → List Token
attempt_tokens (attempt.Yes n) = keyword (trial_word trial.Yes) ∷ number (2 ^ 32) n ∷ []
attempt_tokens attempt.No = keyword (trial_word trial.No) ∷ []
attempt_tokens attempt.Raised = keyword (trial_word trial.Raised) ∷ []
attempt_tokens attempt.Dying = keyword (trial_word trial.Dying) ∷ []

abbrev pub incarnation_tokens : Incarnation → List Token
incarnation_tokens (Fresh n) = keyword (bringing_word bringing.Fresh) ∷ number (2 ^ 32) n ∷ []
incarnation_tokens (Named servant) = keyword (bringing_word bringing.Named) ∷ named servant ∷ []
incarnation_tokens Double = keyword (bringing_word bringing.Double) ∷ []
incarnation_tokens (Forward endpoint) = keyword (bringing_word bringing.Forward) ∷ endpoint_tokens endpoint
incarnation_tokens (Raise e) = keyword (bringing_word bringing.Raise) ∷ exception.exception_tokens e

-- an incarnation whose text tells all of it
abbrev pub IsTold : Incarnation → Type 0
IsTold (Raise e) = exception.IsTold e
IsTold incarnation = Unit {0}

abbrev pub attempt_behind : Trial → List (List ℕ) → Option Attempt
attempt_behind trial.Yes ws = do
  n ← last_number ws
  Some (attempt.Yes n)
attempt_behind trial.No ws = alone attempt.No ws
attempt_behind trial.Raised ws = alone attempt.Raised ws
attempt_behind trial.Dying ws = alone attempt.Dying ws

abbrev pub trial_of : List ℕ → Option Trial
trial_of w = named_in trial_word trials w

abbrev pub attempt_of : List (List ℕ) → Option Attempt
attempt_of [] = None
attempt_of (w ∷ ws) = do
  t ← trial_of w
  attempt_behind t ws

abbrev pub incarnation_behind : Bringing → List (List ℕ) → Option Incarnation
incarnation_behind bringing.Fresh ws = do
  n ← last_number ws
  Some (Fresh n)
incarnation_behind bringing.Named ws = do
  servant ← last_name ws
  Some (Named servant)
incarnation_behind bringing.Double ws = alone Double ws
incarnation_behind bringing.Forward ws = do
  endpoint ← last_endpoint ws
  Some (Forward endpoint)
incarnation_behind bringing.Raise ws = do
  e ← exception.exception_of ws
  Some (Raise e)

abbrev pub bringing_of : List ℕ → Option Bringing
bringing_of w = named_in bringing_word bringings w

abbrev pub incarnation_of : List (List ℕ) → Option Incarnation
incarnation_of [] = None
incarnation_of (w ∷ ws) = do
  b ← bringing_of w
  incarnation_behind b ws
