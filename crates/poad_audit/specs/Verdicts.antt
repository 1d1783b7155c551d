-- A verdict on a call, in words.
use Rattle.std.specs.Prelude.{ℕ, List, [], ◌∷◌, ◌++◌, codes, decimal, Option}
use Rattle.poa_base.specs.declared.Answer.{Answer}
use Rattle.poa_base.specs.declared.Endpoint.{Endpoint}
use Rattle.poa_base.specs.declared.SysExc.{SysExc}
use Rattle.poa_base.specs.declared.Verdict.{Verdict}
use Rattle.poa_base.specs.declared.Verdict.TheVariants as verdict
use Rattle.text_words.specs.Token.{minor, tails}
use Rattle.text_words.specs.Parts.{endpoint_tokens}
use Rattle.admin_line.specs.Answer.{answer_tokens}
use Rattle.poa_journal.specs.ValueWords.{exception_word}
use Rattle.journal_explain.specs.declared.Service.{Service}
use Rattle.poad_audit.specs.Servants.{service_text}

-- the exception's standard name, and its minor code in eight hexadecimal digits
abbrev pub exception_text : SysExc → List ℕ
exception_text e = exception_word e.name ++ (codes " minor" ++ tails (minor e.minor ∷ []))

abbrev pub refused_text : SysExc → List ℕ
refused_text e = codes "refused: " ++ exception_text e

abbrev pub forwarded_text : Endpoint → List ℕ
forwarded_text endpoint = codes "forwarded to" ++ tails (endpoint_tokens endpoint)

-- an answer by the words in which an administrator reads it
abbrev pub answered_text : Answer → List ℕ
answered_text answer = codes "answered" ++ tails (answer_tokens answer)

abbrev pub verdict_text : Verdict → List ℕ
verdict_text (verdict.Serve n) = codes "served by activation " ++ decimal n
verdict_text (verdict.Preset servant) = codes "served by the default servant " ++ servant
verdict_text (verdict.Locator servant) = codes "served by the located servant " ++ servant
verdict_text (verdict.Incarnate n) = codes "begins activation " ++ decimal n
verdict_text verdict.Try = codes "waits for the adapter activator"
verdict_text (verdict.Refuse e) = refused_text e
verdict_text (verdict.Forward endpoint) = forwarded_text endpoint
verdict_text verdict.Addressing = codes "asked for the whole reference"
verdict_text verdict.Here = codes "answered that the object is here"
verdict_text verdict.Unknown = codes "answered that the object is unknown"
verdict_text (verdict.Answer answer) = answered_text answer
verdict_text verdict.Wait = codes "done, and its answer waits"

-- and what is told of the activation that serves the call
abbrev pub decided_text : Verdict → Option Service → List ℕ
decided_text v service = verdict_text v ++ service_text service
