-- The words of calls, verdicts and outcomes read back.
use Rattle.std.proofs.Common.{◌≡◌, ℕ, Bool, true, false, List, Option, Some, None, refl, ap, sym, ◌∙◌}
use Rattle.std.specs.Prelude.{codes}
use Rattle.poa_base.specs.declared.Call.{Call}
use Rattle.poa_base.specs.declared.Call.TheVariants.{Request, Locate, Line}
use Rattle.poa_base.specs.declared.Head.{Head}
use Rattle.poa_base.specs.declared.Body.{Body}
use Rattle.poa_base.specs.declared.Verdict.{Verdict}
use Rattle.poa_base.specs.declared.Verdict.TheVariants.{Serve, Preset, Locator, Incarnate, Try, Refuse, Forward, Addressing, Here, Unknown, Answer, Wait}
use Rattle.poa_base.specs.declared.Attempt.{Attempt}
use Rattle.poa_base.specs.declared.Attempt.TheVariants as attempt
use Rattle.poa_base.specs.declared.Incarnation.{Incarnation}
use Rattle.poa_base.specs.declared.Incarnation.TheVariants as incarnation
use Rattle.poa_base.specs.declared.ExcName.{ExcName}
use Rattle.poa_base.specs.declared.ExcName.TheVariants as exception
use Rattle.poa_base.specs.declared.SysExc.{SysExc}
use Rattle.admin_line.specs.declared.Source.TheVariants.{Journal}
use Rattle.poa_journal.specs.ValueWords.{call_word, order_word, order_for, is_little, ruling_word, trial_word, bringing_word, mark_word, exception_word}
use Rattle.poa_base.specs.Minors.{completion_of}
use Rattle.poa_journal.specs.Exception.{exception_tokens, exception_of, exception_name_of}
use Rattle.poa_journal.specs.Verdict.{verdict_tokens, verdict_of}
use Rattle.poa_journal.specs.Call.{call_tokens, call_of, target_token, target_of, order_of}
use Rattle.poa_journal.specs.Outcome.{attempt_tokens, attempt_of, incarnation_tokens, incarnation_of}
use Rattle.poa_journal.specs.Exception as exceptions
use Rattle.poa_journal.specs.Verdict as verdicts
use Rattle.poa_journal.specs.Call as calls
use Rattle.poa_journal.specs.Outcome as outcomes
use Rattle.text_words.specs.Token.{AllFit, Fits, texts, spell}
use Rattle.text_words.proofs.Numbers.{back8, back32, back64}
use Rattle.text_words.proofs.ReadBack.{endpoint_back, name_back, minor_back, prefixed_back}
use Rattle.admin_line.proofs.ReadBack.{command_back}
use Rattle.admin_line.proofs.AnswerReadBack.{answer_back}

exception_name_back : (name : ExcName) → exception_name_of (exception_word name) ≡ Some name
unfolding exception_word
exception_name_back exception.ObjectNotExist = refl
exception_name_back exception.Transient = refl
exception_name_back exception.ObjAdapter = refl
exception_name_back exception.BadOperation = refl
exception_name_back exception.Marshal = refl
exception_name_back exception.Unknown = refl

exception_back : (e : SysExc) → AllFit (exception_tokens e) → exceptions.IsTold e → exception_of (texts (exception_tokens e)) ≡ Some e
exception_back e h told =
    rw (exception_name_back e.name, minor_back e.minor h.1.0) (ap (λ done. Some (record { name = e.name; minor = e.minor; done = done })) (sym told))

order_back : (little : Bool) → order_of (order_word (order_for little)) ≡ Some (order_for little)
unfolding order_word
order_back true = refl
order_back false = refl

target_back : (target : Option (List ℕ)) → Fits (target_token target) → target_of (spell (target_token target)) ≡ Some target
unfolding mark_word
target_back None h = refl
target_back (Some key) h = rw (prefixed_back (codes "h:") key h.1) refl

pub verdict_back : (v : Verdict) → AllFit (verdict_tokens v) → verdicts.IsTold v → verdict_of (texts (verdict_tokens v)) ≡ Some v
unfolding ruling_word
verdict_back (Serve n) h told = rw (back32 n h.1.0.0) refl
verdict_back (Preset s) h told = rw (name_back s h.1.0) refl
verdict_back (Locator s) h told = rw (name_back s h.1.0) refl
verdict_back (Incarnate n) h told = rw (back32 n h.1.0.0) refl
verdict_back Try h told = refl
verdict_back (Refuse e) h told = rw (exception_back e h.1 told) refl
verdict_back (Forward e) h told = rw (endpoint_back e h.1) refl
verdict_back Addressing h told = refl
verdict_back Here h told = refl
verdict_back Unknown h told = refl
verdict_back (Answer a) h told = rw (answer_back a h.1) refl
verdict_back Wait h told = refl

pub attempt_back : (a : Attempt) → AllFit (attempt_tokens a) → attempt_of (texts (attempt_tokens a)) ≡ Some a
unfolding trial_word
attempt_back (attempt.Yes n) h = rw (back32 n h.1.0.0) refl
attempt_back attempt.No h = refl
attempt_back attempt.Raised h = refl
attempt_back attempt.Dying h = refl

pub incarnation_back : (i : Incarnation) → AllFit (incarnation_tokens i) → outcomes.IsTold i → incarnation_of (texts (incarnation_tokens i)) ≡ Some i
unfolding bringing_word
incarnation_back (incarnation.Fresh n) h told = rw (back32 n h.1.0.0) refl
incarnation_back (incarnation.Named s) h told = rw (name_back s h.1.0) refl
incarnation_back incarnation.Double h told = refl
incarnation_back (incarnation.Forward e) h told = rw (endpoint_back e h.1) refl
incarnation_back (incarnation.Raise e) h told = rw (exception_back e h.1 told) refl

little_back : (little : Bool) → is_little (order_for little) ≡ little
little_back true = refl
little_back false = refl

-- what a request's text leaves out
request_same : (head : Head) (target : Option (List ℕ)) (operation : List ℕ) (body : Body) → head.locate ≡ false → body.little ≡ head.little
    → ◌≡◌ {A = Option Call}
    (Some (Request (record { id = head.id; minor = head.minor; little = head.little; flags = head.flags; locate = false }) target operation
    (record { bytes = body.bytes; little = head.little; base = body.base })))
    (Some (Request head target operation body))
request_same head target operation body request same =
    ap (λ (l : Bool). Some
    (Request (record { id = head.id; minor = head.minor; little = head.little; flags = head.flags; locate = l }) target operation
    (record { bytes = body.bytes; little = head.little; base = body.base }))) (sym request)
    ∙ ap (λ (l : Bool). Some (Request head target operation (record { bytes = body.bytes; little = l; base = body.base }))) (sym same)

-- what a locate's text leaves out
locate_same : (head : Head) (target : Option (List ℕ)) → head.locate ≡ true → head.flags ≡ 0
    → ◌≡◌ {A = Option Call} (Some (Locate (record { id = head.id; minor = head.minor; little = head.little; flags = 0; locate = true }) target))
    (Some (Locate head target))
locate_same head target locate none =
    ap (λ (l : Bool). Some (Locate (record { id = head.id; minor = head.minor; little = head.little; flags = 0; locate = l }) target)) (sym locate)
    ∙ ap (λ (n : ℕ). Some (Locate (record { id = head.id; minor = head.minor; little = head.little; flags = n; locate = head.locate }) target)) (sym none)

pub call_back : (c : Call) → AllFit (call_tokens c) → calls.IsTold c → call_of (texts (call_tokens c)) ≡ Some c
unfolding call_word
call_back (Request head target operation body) h told =
    rw (
      back32 head.id h.1.0.0,
      back8 head.minor h.1.1.0.0,
      order_back head.little,
      back8 head.flags h.1.1.1.1.0.0,
      target_back target h.1.1.1.1.1.0,
      prefixed_back (codes "h:") operation h.1.1.1.1.1.1.0.1,
      back64 body.base h.1.1.1.1.1.1.1.0.0,
      prefixed_back (codes "h:") body.bytes h.1.1.1.1.1.1.1.1.0.1,
      little_back head.little,
    )
    (request_same head target operation body told.0 told.1)
call_back (Locate head target) h told =
    rw (back32 head.id h.1.0.0, back8 head.minor h.1.1.0.0, order_back head.little, target_back target h.1.1.1.1.0, little_back head.little)
    (locate_same head target told.0 told.1)
call_back (Line n command) h told = rw (back64 n h.1.0.0, command_back Journal command tt h.1.1) refl
