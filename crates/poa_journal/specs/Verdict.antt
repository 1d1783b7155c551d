-- Verdicts in a journal.
use Rattle.std.specs.Prelude.{ℕ, ◌^◌, List, [], ◌∷◌, Option, Some, None}
use Rattle.poa_base.specs.declared.Verdict.{Verdict}
use Rattle.poa_base.specs.declared.Verdict.TheVariants.{Serve, Preset, Locator, Incarnate, Try, Refuse, Forward, Addressing, Here, Unknown, Answer, Wait}
use Rattle.text_words.specs.Chain.{◌>>=◌}
use Rattle.text_words.specs.Keyword.{named_in}
use Rattle.text_words.specs.Token.{Token, keyword, number, named}
use Rattle.text_words.specs.Parts.{endpoint_tokens, alone, last_number, last_name, last_endpoint}
use Rattle.admin_line.specs.Answer.{answer_tokens, answer_of}
use Rattle.poa_journal.specs.declared.value_words.Ruling.{Ruling}
use Rattle.poa_journal.specs.declared.value_words.Ruling.TheVariants as ruling
use Rattle.poa_journal.specs.ValueWords.{ruling_word, rulings}
use Rattle.poa_journal.specs.Exception as exception

abbrev pub verdict_tokens : Verdict → List Token
verdict_tokens (Serve n) = keyword (ruling_word ruling.Serve) ∷ number (2 ^ 32) n ∷ []
verdict_tokens (Preset servant) = keyword (ruling_word ruling.Preset) ∷ named servant ∷ []
verdict_tokens (Locator servant) = keyword (ruling_word ruling.Locator) ∷ named servant ∷ []
verdict_tokens (Incarnate n) = keyword (ruling_word ruling.Incarnate) ∷ number (2 ^ 32) n ∷ []
verdict_tokens Try = keyword (ruling_word ruling.Try) ∷ []
verdict_tokens (Refuse e) = keyword (ruling_word ruling.Refuse) ∷ exception.exception_tokens e
verdict_tokens (Forward endpoint) = keyword (ruling_word ruling.Forward) ∷ endpoint_tokens endpoint
verdict_tokens Addressing = keyword (ruling_word ruling.Addressing) ∷ []
verdict_tokens Here = keyword (ruling_word ruling.Here) ∷ []
verdict_tokens Unknown = keyword (ruling_word ruling.Unknown) ∷ []
verdict_tokens (Answer answer) = keyword (ruling_word ruling.Answer) ∷ answer_tokens answer
verdict_tokens Wait = keyword (ruling_word ruling.Wait) ∷ []

-- a verdict whose text tells all of it
abbrev pub IsTold : Verdict → Type 0
IsTold (Refuse e) = exception.IsTold e
IsTold verdict = Unit {0}

abbrev pub verdict_behind : Ruling → List (List ℕ) → Option Verdict
verdict_behind ruling.Serve ws = do
  n ← last_number ws
  Some (Serve n)
verdict_behind ruling.Preset ws = do
  servant ← last_name ws
  Some (Preset servant)
verdict_behind ruling.Locator ws = do
  servant ← last_name ws
  Some (Locator servant)
verdict_behind ruling.Incarnate ws = do
  n ← last_number ws
  Some (Incarnate n)
verdict_behind ruling.Try ws = alone Try ws
verdict_behind ruling.Refuse ws = do
  e ← exception.exception_of ws
  Some (Refuse e)
verdict_behind ruling.Forward ws = do
  endpoint ← last_endpoint ws
  Some (Forward endpoint)
verdict_behind ruling.Addressing ws = alone Addressing ws
verdict_behind ruling.Here ws = alone Here ws
verdict_behind ruling.Unknown ws = alone Unknown ws
verdict_behind ruling.Answer ws = do
  answer ← answer_of ws
  Some (Answer answer)
verdict_behind ruling.Wait ws = alone Wait ws

abbrev pub ruling_of : List ℕ → Option Ruling
ruling_of w = named_in ruling_word rulings w

abbrev pub verdict_of : List (List ℕ) → Option Verdict
verdict_of [] = None
verdict_of (w ∷ ws) = do
  r ← ruling_of w
  verdict_behind r ws
