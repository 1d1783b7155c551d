-- The words of each answer, and the answer of words.
use Rattle.std.specs.Prelude.{ℕ, ◌^◌, List, [], ◌∷◌, Option, Some, None}
use Rattle.poa_base.specs.declared.Answer.{Answer}
use Rattle.poa_base.specs.declared.Answer.TheVariants.{Good, GoodId, GoodIor, No}
use Rattle.poa_base.specs.declared.Reason.{Reason}
use Rattle.poa_base.specs.declared.Reason.TheVariants as reason
use Rattle.text_words.specs.Chain.{◌>>=◌}
use Rattle.text_words.specs.Hexadecimal.{reference_of}
use Rattle.text_words.specs.Identity.{printed_id_of}
use Rattle.text_words.specs.Keyword.{named_in}
use Rattle.text_words.specs.Parts.{alone, last_number}
use Rattle.text_words.specs.Token.{Token, keyword, number, identity, reference}
use Rattle.admin_line.specs.declared.fixed_answer.Success.{Success}
use Rattle.admin_line.specs.declared.fixed_answer.Success.TheVariants as success
use Rattle.admin_line.specs.declared.fixed_answer.Objection.{Objection}
use Rattle.admin_line.specs.declared.fixed_answer.Objection.TheVariants as objection
use Rattle.admin_line.specs.FixedAnswer.{success_word, successes, objection_word, objections}

-- the kind of a reason
abbrev pub objection_in : Reason → Objection
objection_in reason.NoManager = objection.NoManager
objection_in reason.AdapterInactive = objection.AdapterInactive
objection_in reason.AdapterNonExistent = objection.AdapterNonExistent
objection_in reason.NoTemplate = objection.NoTemplate
objection_in reason.AdapterAlreadyExists = objection.AdapterAlreadyExists
objection_in (reason.TooMany count) = objection.TooMany
objection_in reason.WrongPolicy = objection.WrongPolicy
objection_in reason.NoServant = objection.NoServant
objection_in reason.ServantAlreadyActive = objection.ServantAlreadyActive
objection_in reason.BadId = objection.BadId
objection_in reason.ObjectAlreadyActive = objection.ObjectAlreadyActive
objection_in reason.ObjectNotActive = objection.ObjectNotActive
objection_in reason.ServantNotActive = objection.ServantNotActive
objection_in reason.NoForward = objection.NoForward
objection_in (reason.BadWord word) = objection.BadWord

-- the number that stands behind `TooMany` and `BadWord`
abbrev pub number_tokens : Reason → List Token
number_tokens (reason.TooMany count) = number (2 ^ 32) count ∷ []
number_tokens (reason.BadWord word) = number (2 ^ 32) word ∷ []
number_tokens r = []

abbrev pub reason_tokens : Reason → List Token
reason_tokens r = keyword (objection_word (objection_in r)) ∷ number_tokens r

abbrev pub success_in : Answer → Success
success_in (No r) = success.No
success_in answer = success.Ok

abbrev pub value_tokens : Answer → List Token
value_tokens Good = []
value_tokens (GoodId id) = identity id ∷ []
value_tokens (GoodIor text) = reference text ∷ []
value_tokens (No r) = reason_tokens r

-- `ok`, `ok VALUE` or `no REASON`
abbrev pub answer_tokens : Answer → List Token
answer_tokens answer = keyword (success_word (success_in answer)) ∷ value_tokens answer

abbrev pub reason_behind : Objection → List (List ℕ) → Option Reason
reason_behind objection.NoManager ws = alone reason.NoManager ws
reason_behind objection.AdapterInactive ws = alone reason.AdapterInactive ws
reason_behind objection.AdapterNonExistent ws = alone reason.AdapterNonExistent ws
reason_behind objection.NoTemplate ws = alone reason.NoTemplate ws
reason_behind objection.AdapterAlreadyExists ws = alone reason.AdapterAlreadyExists ws
reason_behind objection.TooMany ws = do
  n ← last_number ws
  Some (reason.TooMany n)
reason_behind objection.WrongPolicy ws = alone reason.WrongPolicy ws
reason_behind objection.NoServant ws = alone reason.NoServant ws
reason_behind objection.ServantAlreadyActive ws = alone reason.ServantAlreadyActive ws
reason_behind objection.BadId ws = alone reason.BadId ws
reason_behind objection.ObjectAlreadyActive ws = alone reason.ObjectAlreadyActive ws
reason_behind objection.ObjectNotActive ws = alone reason.ObjectNotActive ws
reason_behind objection.ServantNotActive ws = alone reason.ServantNotActive ws
reason_behind objection.NoForward ws = alone reason.NoForward ws
reason_behind objection.BadWord ws = do
  n ← last_number ws
  Some (reason.BadWord n)

abbrev pub objection_of : List ℕ → Option Objection
objection_of w = named_in objection_word objections w

abbrev pub reason_of : List (List ℕ) → Option Reason
reason_of [] = None
reason_of (w ∷ ws) = do
  o ← objection_of w
  reason_behind o ws

abbrev pub id_or_reference : List ℕ → Option (List ℕ) → Option Answer
id_or_reference w (Some id) = Some (GoodId id)
id_or_reference w None = do
  text ← reference_of w
  Some (GoodIor text)

abbrev pub behind_ok : List (List ℕ) → Option Answer
behind_ok [] = Some Good
behind_ok (w ∷ []) = id_or_reference w (printed_id_of w)
behind_ok ws = None

abbrev pub answer_behind : Success → List (List ℕ) → Option Answer
answer_behind success.Ok ws = behind_ok ws
answer_behind success.No ws = do
  r ← reason_of ws
  Some (No r)

abbrev pub success_of : List ℕ → Option Success
success_of w = named_in success_word successes w

-- the answer of words
abbrev pub answer_of : List (List ℕ) → Option Answer
answer_of [] = None
answer_of (w ∷ ws) = do
  s ← success_of w
  answer_behind s ws
