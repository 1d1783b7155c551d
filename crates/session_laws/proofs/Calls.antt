-- What holds of each call that arrived, and what is given out for it.
use Rattle.std.specs.Prelude.{◌≡◌, ℕ, Bool, true, false, ◌==◌, if◌then◌else◌, List, [], ◌∷◌, Option, Some, None, refl}
use Rattle.std.proofs.Common.{sym, ap, ◌∙◌, subst, inl, inr}
use Rattle.std.proofs.lemmas.Bool.{cases_Bool}
use Rattle.poa_base.specs.declared.Answer.{Answer as AnswerData}
use Rattle.poa_base.specs.declared.Call.{Call}
use Rattle.poa_base.specs.declared.Call.TheVariants.{Request, Locate, Line}
use Rattle.poa_base.specs.declared.Entry.{Entry}
use Rattle.poa_base.specs.declared.Entry.TheVariants.{Arrive}
use Rattle.poa_base.specs.declared.Head.{Head}
use Rattle.poa_base.specs.declared.Reply.{Reply}
use Rattle.poa_base.specs.declared.Reply.TheVariants.{Outcome, Forward, Addressing, Here, UnknownObject, Answer}
use Rattle.history_standing.specs.Arrivals.{arrivals, call_of}
use Rattle.poa_history.specs.Heads.{head_of}
use Rattle.poa_history.specs.Fits.{FitsCall, fits_line}
use Rattle.session_laws.specs.Calls.{Each, IsGivenTo, IsHeaded, IsReplyTo, IsSaid}
use Rattle.session_laws.proofs.Answering.{reply_answers}

-- none arrived yet
pub each_none : (P : Call → Type 0) (h : List Entry) → ((r : ℕ) → call_of h r ≡ None) → Each P h
each_none P h none r call is = absurd (let f : None ≡ Some call = sym (none r) ∙ is in cc)

-- the same calls as before
pub each_same : (P : Call → Type 0) (old new : List Entry) → ((r : ℕ) → call_of new r ≡ call_of old r) → Each P old → Each P new
each_same P old new same each r call is = each r call (sym (same r) ∙ is)

-- one more
pub each_more : (P : Call → Type 0) (conn size : ℕ) (call : Call) (past : List Entry) → P call → Each P past → Each P (Arrive conn size call ∷ past)
each_more P conn size call past is each r found there =
    elim (cases_Bool (r == arrivals past)) [
      | inl at ↦
          (let same : Some call ≡ Some found = (ap (λ b. if b then Some call else call_of past r) (sym at))
          ∙ there in subst P (let e : call ≡ found = (let f : Some call ≡ Some found = same in cc) in e) is)
      | inr other ↦ each r found (ap (λ b. if b then Some call else call_of past r) (sym other) ∙ there)
    ]

-- what is given out for a call of a message can be written
reply_given : (call : Option Call) (reply : Reply) → ((c : Call) → call ≡ Some c → IsHeaded c) → FitsCall call reply → IsReplyTo (head_of call) reply
reply_given None reply headed fits = absurd (let f : false ≡ true = fits in cc)
reply_given (Some call) reply headed fits = reply_answers call reply (headed call refl) fits

pub given_answers : (h : List Entry) (r : ℕ) (head : Head) (reply : Reply) → Each IsHeaded h → head ≡ head_of (call_of h r) → FitsCall (call_of h r) reply
    → IsReplyTo head reply
given_answers h r head reply each is fits = subst (λ (x : Head). IsReplyTo x reply) (sym is) (reply_given (call_of h r) reply (λ c there. each r c there) fits)

-- the same where lines are said, too
reply_is_given : (head : Head) (reply : Reply) → IsReplyTo head reply → IsGivenTo head reply
reply_is_given head (Outcome outcome) is = is
reply_is_given head (Forward endpoint key) is = is
reply_is_given head Addressing is = is
reply_is_given head Here is = is
reply_is_given head UnknownObject is = is
reply_is_given head (Answer number answer) is = tt

line_given : (head : Head) (reply : Reply) → fits_line reply ≡ true → IsGivenTo head reply
line_given head (Answer number answer) fits = tt
line_given head (Outcome outcome) fits = absurd (let f : false ≡ true = fits in cc)
line_given head (Forward endpoint key) fits = absurd (let f : false ≡ true = fits in cc)
line_given head Addressing fits = absurd (let f : false ≡ true = fits in cc)
line_given head Here fits = absurd (let f : false ≡ true = fits in cc)
line_given head UnknownObject fits = absurd (let f : false ≡ true = fits in cc)

said_given : (call : Call) (reply : Reply) → IsSaid call → FitsCall (Some call) reply → IsGivenTo (head_of (Some call)) reply
said_given (Request head target operation body) reply said fits = reply_is_given head reply (reply_answers (Request head target operation body) reply said fits)
said_given (Locate head target) reply said fits = reply_is_given head reply (reply_answers (Locate head target) reply said fits)
said_given (Line number command) reply said fits = line_given (head_of (Some (Line number command))) reply fits

pub some_given : (call : Option Call) (reply : Reply) → ((c : Call) → call ≡ Some c → IsSaid c) → FitsCall call reply → IsGivenTo (head_of call) reply
some_given None reply said fits = absurd (let f : false ≡ true = fits in cc)
some_given (Some call) reply said fits = said_given call reply (said call refl) fits

pub given_said : (h : List Entry) (r : ℕ) (head : Head) (reply : Reply) → Each IsSaid h → head ≡ head_of (call_of h r) → FitsCall (call_of h r) reply
    → IsGivenTo head reply
given_said h r head reply each is fits = subst (λ (x : Head). IsGivenTo x reply) (sym is) (some_given (call_of h r) reply (λ c there. each r c there) fits)

-- what isn't the answer to a line
pub given_written : (head : Head) (reply : Reply) → IsGivenTo head reply → ((number : ℕ) (answer : AnswerData) → reply ≡ Answer number answer → ⊥)
    → IsReplyTo head reply
given_written head (Outcome outcome) is other = is
given_written head (Forward endpoint key) is other = is
given_written head Addressing is other = is
given_written head Here is other = is
given_written head UnknownObject is other = is
given_written head (Answer number answer) is other = absurd (other number answer refl)

-- a call of a message is said
pub headed_said : (call : Call) → IsHeaded call → IsSaid call
headed_said (Request head target operation body) headed = headed
headed_said (Locate head target) headed = headed
headed_said (Line number command) headed = absurd headed
