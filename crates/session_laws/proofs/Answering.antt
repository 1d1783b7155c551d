-- Replies that fit a call answer the head of its message.
use Rattle.std.specs.Prelude.{◌≡◌, ℕ, ◌≤◌, Bool, true, false, List, Some, Ok}
use Rattle.std.proofs.Common.{ap, ◌∙◌, subst, sym}
use Rattle.poa_base.specs.declared.Call.{Call}
use Rattle.poa_base.specs.declared.Call.TheVariants.{Request, Locate, Line}
use Rattle.poa_base.specs.declared.Head.{Head}
use Rattle.poa_base.specs.declared.Reply.{Reply}
use Rattle.poa_base.specs.declared.Reply.TheVariants.{Outcome, Forward, Addressing, Here, UnknownObject, Answer}
use Rattle.giop_msg.specs.declared.Incoming.TheVariants as incoming
use Rattle.giop_msg.specs.Call.{CallOf}
use Rattle.giop_answer.specs.Reply.{AnswersHead}
use Rattle.poa_history.specs.Heads.{head_of}
use Rattle.poa_history.specs.Fits.{FitsCall, fits_request, fits_locate}
use Rattle.session_laws.specs.Calls.{IsHeaded, IsSaid, IsReplyTo}

request_answers : (head : Head) (reply : Reply) → head.locate ≡ false → fits_request reply ≡ true → AnswersHead head reply
request_answers head (Outcome outcome) is fits = is
request_answers head (Forward endpoint key) is fits = tt
request_answers head Addressing is fits = tt
request_answers head Here is fits = absurd (let f : false ≡ true = fits in cc)
request_answers head UnknownObject is fits = absurd (let f : false ≡ true = fits in cc)
request_answers head (Answer number answer) is fits = absurd (let f : false ≡ true = fits in cc)

locate_answers : (head : Head) (reply : Reply) → head.locate ≡ true → fits_locate reply ≡ true → AnswersHead head reply
locate_answers head (Outcome outcome) is fits = absurd (let f : false ≡ true = fits in cc)
locate_answers head (Forward endpoint key) is fits = tt
locate_answers head Addressing is fits = tt
locate_answers head Here is fits = is
locate_answers head UnknownObject is fits = is
locate_answers head (Answer number answer) is fits = absurd (let f : false ≡ true = fits in cc)

pub reply_answers : (call : Call) (reply : Reply) → IsHeaded call → FitsCall (Some call) reply → IsReplyTo (head_of (Some call)) reply
reply_answers (Request head target operation body) reply headed fits = (headed.0, request_answers head reply headed.1 fits)
reply_answers (Locate head target) reply headed fits = (headed.0, locate_answers head reply headed.1 fits)
reply_answers (Line number command) reply headed fits = absurd headed

pub message_headed : (bytes : List ℕ) (call : Call) → CallOf bytes (Ok (incoming.Call call)) → IsHeaded call
message_headed bytes (Request head target operation body) asks =
    (subst (λ n. n ≤ 2) (sym (ap (λ (h : Head). h.minor) asks.1.is_head)) asks.1.known, ap (λ (h : Head). h.locate) asks.1.is_head)
message_headed bytes (Locate head target) asks =
    (subst (λ n. n ≤ 2) (sym (ap (λ (h : Head). h.minor) asks.1.is_head)) asks.1.known, ap (λ (h : Head). h.locate) asks.1.is_head)
message_headed bytes (Line number command) asks = absurd asks
