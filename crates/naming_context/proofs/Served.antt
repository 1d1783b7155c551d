-- What was done, as what a call gives.
use Rattle.std.proofs.Common.{◌≡◌, ◌≢◌, ℕ, List, [], ◌++◌, Result, Ok, Err, None, Option, inr, refl, sym, ap, ◌∙◌, subst, false}
use Rattle.std.specs.Prelude.{IfOk, OnOk, if◌then◌else◌}
use Rattle.cdr_core.specs.declared.CdrFault.{CdrFault}
use Rattle.cdr_core.specs.declared.CdrFault.TheVariants.{WantMemory}
use Rattle.cdr_core.specs.Draft.{Draft, empty_draft, with_field}
use Rattle.cdr_core.specs.Field.{ulong, text}
use Rattle.cdr_core.specs.Fields.{with_fields}
use Rattle.poa_base.specs.declared.Body.{Body}
use Rattle.poa_base.specs.declared.Call.{Call}
use Rattle.poa_base.specs.declared.Call.TheVariants.{Request, Locate}
use Rattle.poa_base.specs.declared.Head.{Head}
use Rattle.poa_base.specs.declared.Outcome.{Outcome}
use Rattle.poa_base.specs.declared.Outcome.TheVariants.{User}
use Rattle.poa_base.specs.declared.Reply.{Reply}
use Rattle.giop_answer.specs.declared.kind.TheConstants.{HEADER, REPLY}
use Rattle.giop_answer.specs.Outgoing.{framed}
use Rattle.giop_answer.specs.Reply.{hides_results, reply_bytes, reply_opening}
use Rattle.naming_context.specs.declared.answer.Answer.{Answer}
use Rattle.naming_context.specs.declared.answer.Answer.TheVariants as answer
use Rattle.naming_context.specs.declared.asked.Asked.{Asked}
use Rattle.naming_context.specs.declared.component.Component.{Component}
use Rattle.naming_context.specs.declared.operation.Operation.{Operation}
use Rattle.naming_context.specs.declared.reached.Reached.{Reached}
use Rattle.naming_context.specs.declared.reason.Reason.{Reason}
use Rattle.naming_context.specs.Asking.{ReadsAsked, body_start}
use Rattle.naming_context.specs.Names.{name_fields}
use Rattle.naming_context.specs.Outcomes.{bad_arguments, not_found_id, reason_number}
use Rattle.naming_context.specs.Replies.{answer_bytes, asks_reply, reply_with, with_not_found}
use Rattle.naming_context.specs.Serving.{CallGives, DoesAt, DoesWord, IsDoneAt, IsDoneBy, Locates, Operates, ServesCall}
use Rattle.naming_context.specs.Standing.{Standing}
use Rattle.naming_context.specs.Table.{answering}

-- the arguments couldn't be read
pub unread_done : {E : Type 0} (r : Result Answer E) (o : Operation) (n : ℕ) (body : Body) (s : Standing) (fault : CdrFault)
    → IfOk r (λ told. told ≡ answer.Outcome bad_arguments) → OnOk r (fault ≢ WantMemory)
    → (fault ≢ WantMemory → (asked : Asked) → ReadsAsked o (body_start body) asked → ⊥) → IfOk r (λ told. Operates o n body s told s)
unread_done (Ok told) o n body s fault is other none = record {
  what = answering (answer.Outcome bad_arguments);
  does = inr (none other, refl);
  is_done = record { answered = is; stands = refl };
}
unread_done (Err e) o n body s fault is other none = tt

-- an outcome is answered, and nothing changes
pub answered_at : (reached r : Reached) (word : List ℕ) (body : Body) (s : Standing) (told plain : Outcome) → reached ≡ r
    → DoesAt r s word body (answering (answer.Outcome plain)) → told ≡ plain → IsDoneAt reached word body s (answer.Outcome told) s
answered_at reached r word body s told plain is does same = record {
  what = answering (answer.Outcome plain);
  does = subst (λ (x : Reached). DoesAt x s word body (answering (answer.Outcome plain))) (sym is) does;
  is_done = record { answered = ap answer.Outcome same; stands = refl };
}

-- a word that is no operation
pub no_operation : (found : Option Operation) (s : Standing) (n : ℕ) (body : Body) (plain : Outcome) → found ≡ None
    → DoesWord None s n body (answering (answer.Outcome plain)) → DoesWord found s n body (answering (answer.Outcome plain))
no_operation found s n body plain none does =
    subst (λ (o : Option Operation). DoesWord o s n body (answering (answer.Outcome plain))) (sym none) does

-- a request was served
pub request_served : {T E : Type 0} (r : Result T E) (call : Call) (head : Head) (target : Option (List ℕ)) (word : List ℕ) (body : Body)
    (old new : Standing) (told : Answer) (before after : List ℕ) → call ≡ Request head target word body → IsDoneBy target word body old told new
    → OnOk r (after ≡ before ++ (if asks_reply head then answer_bytes head told else [])) → OnOk r (ServesCall call old new before after)
request_served (Ok x) call head target word body old new told before after is done waits = record {
  bytes = if asks_reply head then answer_bytes head told else [];
  change = done.what.change;
  gives = subst (λ (k : Call). CallGives old k (if asks_reply head then answer_bytes head told else []) done.what.change) (sym is)
      (done.what, (done.does, refl, ap (λ (a : Answer). if asks_reply head then answer_bytes head a else []) done.is_done.answered));
  stands = done.is_done.stands;
  waits = waits;
}
request_served (Err e) call head target word body old new told before after is done waits = tt

-- a locate was served
pub locate_served : {T E : Type 0} (r : Result T E) (call : Call) (head : Head) (target : Option (List ℕ)) (s : Standing) (told : Reply)
    (before after : List ℕ) → call ≡ Locate head target → Locates s target told → OnOk r (after ≡ before ++ reply_bytes head told)
    → OnOk r (ServesCall call s s before after)
locate_served (Ok x) call head target s told before after is tells waits = record {
  bytes = reply_bytes head told;
  change = None;
  gives = subst (λ (k : Call). CallGives s k (reply_bytes head told) None) (sym is) (told, (tells, refl, refl));
  stands = refl;
  waits = waits;
}
locate_served (Err e) call head target s told before after is tells waits = tt

-- the exception of a name that isn't found
pub not_found_bytes : (head : Head) (why : Reason) (rest : List Component) (w : Draft) (bytes : List ℕ) → hides_results head ≡ false
    → w ≡ with_fields (name_fields rest) (with_field (ulong (reason_number why))
    (with_field (text not_found_id) (with_fields (reply_opening head 1) (empty_draft head.little HEADER))))
    → bytes ≡ framed head.minor REPLY head.little w.bytes → bytes ≡ reply_with head (User not_found_id) (with_not_found why rest)
not_found_bytes head why rest w bytes shown written is =
    rw shown (is ∙ ap (λ (d : Draft). framed head.minor REPLY head.little d.bytes) written)

pub not_found_written : (head : Head) (why : Reason) (rest : List Component) (a b c d e : Draft) (n : ℕ) → a ≡ empty_draft head.little HEADER
    → b ≡ with_fields (reply_opening head 1) a → c ≡ with_field (text not_found_id) b → n ≡ reason_number why → d ≡ with_field (ulong n) c
    → e ≡ with_fields (name_fields rest) d
    → e ≡ with_fields (name_fields rest) (with_field (ulong (reason_number why))
    (with_field (text not_found_id) (with_fields (reply_opening head 1) (empty_draft head.little HEADER))))
not_found_written head why rest a b c d e n first opening id number told name =
    name
    ∙ ap (with_fields (name_fields rest)) (
    told
    ∙ ap (λ (m : ℕ). with_field (ulong m) c) number
    ∙ ap (with_field (ulong (reason_number why))) (id ∙ ap (with_field (text not_found_id)) (opening ∙ ap (with_fields (reply_opening head 1)) first))
    )

-- the message of an exception that was written
pub not_found_framed : {E : Type 0} (r : Result (List ℕ) E) (head : Head) (why : Reason) (rest : List Component) (w : Draft) (content : List ℕ)
    → hides_results head ≡ false → w ≡ with_fields (name_fields rest) (with_field (ulong (reason_number why))
    (with_field (text not_found_id) (with_fields (reply_opening head 1) (empty_draft head.little HEADER)))) → content ≡ w.bytes
    → IfOk r (λ bytes. bytes ≡ framed head.minor REPLY head.little content)
    → IfOk r (λ bytes. bytes ≡ reply_with head (User not_found_id) (with_not_found why rest))
not_found_framed (Ok bytes) head why rest w content shown written is framed_so =
    not_found_bytes head why rest w bytes shown written (framed_so ∙ ap (framed head.minor REPLY head.little) is)
not_found_framed (Err e) head why rest w content shown written is framed_so = tt

-- a request that doesn't tell its object by a key
pub no_target : (target : Option (List ℕ)) (word : List ℕ) (body : Body) (s : Standing) → target ≡ None
    → IsDoneBy target word body s answer.Addressing s
no_target target word body s is =
    subst (λ (t : Option (List ℕ)). IsDoneBy t word body s answer.Addressing s) (sym is)
    (record { what = answering answer.Addressing; does = refl; is_done = record { answered = refl; stands = refl } })
