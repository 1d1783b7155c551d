-- The words of an answer read back.
use Rattle.std.proofs.Common.{◌≡◌, Some, refl}
use Rattle.poa_base.specs.declared.Answer.{Answer}
use Rattle.poa_base.specs.declared.Answer.TheVariants.{Good, GoodId, GoodIor, No}
use Rattle.poa_base.specs.declared.Reason.{Reason}
use Rattle.poa_base.specs.declared.Reason.TheVariants as reason
use Rattle.text_words.specs.Token.{AllFit, texts}
use Rattle.text_words.proofs.Numbers.{back32}
use Rattle.text_words.proofs.ReadBack.{printed_id_back, reference_back, reference_no_id}
use Rattle.admin_line.specs.Answer.{reason_tokens, reason_of, answer_tokens, answer_of}
use Rattle.admin_line.specs.FixedAnswer.{success_word, objection_word}

-- the words of a reason give the reason
reason_back : (r : Reason) → AllFit (reason_tokens r) → reason_of (texts (reason_tokens r)) ≡ Some r
unfolding objection_word
reason_back reason.NoManager h = refl
reason_back reason.AdapterInactive h = refl
reason_back reason.AdapterNonExistent h = refl
reason_back reason.NoTemplate h = refl
reason_back reason.AdapterAlreadyExists h = refl
reason_back reason.WrongPolicy h = refl
reason_back reason.NoServant h = refl
reason_back reason.ServantAlreadyActive h = refl
reason_back reason.BadId h = refl
reason_back reason.ObjectAlreadyActive h = refl
reason_back reason.ObjectNotActive h = refl
reason_back reason.ServantNotActive h = refl
reason_back reason.NoForward h = refl
reason_back (reason.TooMany n) h = rw (back32 n h.1.0.0) refl
reason_back (reason.BadWord n) h = rw (back32 n h.1.0.0) refl

-- the words of an answer give the answer
pub answer_back : (a : Answer) → AllFit (answer_tokens a) → answer_of (texts (answer_tokens a)) ≡ Some a
unfolding success_word
answer_back Good h = refl
answer_back (GoodId id) h = rw (printed_id_back id h.1.0.0 h.1.0.1) refl
answer_back (GoodIor text) h = rw (reference_no_id text h.1.0, reference_back text h.1.0) refl
answer_back (No r) h = rw (reason_back r h.1) refl
