-- A reply that is written behind other bytes.
use Rattle.std.proofs.Common.{◌≡◌, ◌≤◌, ℕ, Bool, true, false, List, [], ◌++◌, length, take, drop, refl, sym, ap, ◌∙◌, arith, subst, append_assoc}
use Rattle.std.proofs.lemmas.List.{append-nil, length-take, take-append-le, take-append-drop}
use Rattle.std.proofs.Math.Seq.{take-append_seam}
use Rattle.std.specs.Prelude.{Result, Ok, Err, OnOk}
use Rattle.cdr_core.specs.Field.{Field}
use Rattle.cdr_core.specs.Draft.{empty_draft, draft_behind}
use Rattle.cdr_core.specs.Fields.{with_fields}
use Rattle.cdr_core.specs.Laws.{IsBehind}
use Rattle.cdr_core.proofs.Behind.{written_behind}
use Rattle.poa_base.specs.declared.Head.{Head}
use Rattle.poa_base.specs.declared.Reply.{Reply}
use Rattle.giop_answer.specs.declared.kind.TheConstants.{HEADER}
use Rattle.giop_answer.specs.Outgoing.{framed}
use Rattle.giop_answer.specs.Reply.{reply_bytes, reply_fields, reply_kind, opening_of, content_draft}

begins_behind : (little : Bool) (front : List ℕ) → IsBehind front (draft_behind little HEADER front) (empty_draft little HEADER)
begins_behind little front = record { order = refl; bytes = sym (append-nil front); aligned = omega arith }

fields_behind :
    (little : Bool) (front : List ℕ) (opening body : List Field) →
    (with_fields body (with_fields opening (draft_behind little HEADER front))).bytes
    ≡ front ++ (with_fields body (with_fields opening (empty_draft little HEADER))).bytes
fields_behind little front opening body =
    (written_behind front body _ _ (written_behind front opening _ _ (begins_behind little front))).bytes

content_as :
    (locate : Bool) (head : Head) (answer : Reply) → head.locate ≡ locate →
    (with_fields (reply_fields head answer) (with_fields (opening_of head answer) (empty_draft head.little HEADER))).bytes
    ≡ (content_draft head answer).bytes
content_as true head answer is = rw is refl
content_as false head answer is = rw is refl

-- what follows the header, behind other bytes
pub content_behind :
    (head : Head) (answer : Reply) (front : List ℕ) →
    (with_fields (reply_fields head answer) (with_fields (opening_of head answer) (draft_behind head.little HEADER front))).bytes
    ≡ front ++ (content_draft head answer).bytes
content_behind head answer front =
    fields_behind head.little front (opening_of head answer) (reply_fields head answer)
    ∙ ap (λ (x : List ℕ). front ++ x) (content_as head.locate head answer refl)

reply_framed_as : (locate : Bool) (head : Head) (answer : Reply) → head.locate ≡ locate
    → framed head.minor (reply_kind head) head.little (content_draft head answer).bytes ≡ reply_bytes head answer
reply_framed_as true head answer is = rw is refl
reply_framed_as false head answer is = rw is refl

-- the message is its header and what follows
pub reply_framed : (head : Head) (answer : Reply) → framed head.minor (reply_kind head) head.little (content_draft head answer).bytes ≡ reply_bytes head answer
reply_framed head answer = reply_framed_as head.locate head answer refl

-- what stands in front of a part stands in front of what goes on behind it
pub front_through : (a b d : List ℕ) → take (length a) b ≡ a → take (length b) d ≡ b → take (length a) d ≡ a
front_through a b d first second =
    let shorter : length a ≤ length b = omega (arith, ap (λ (x : List ℕ). length x) first, length-take (length a) b) in
    let whole : b ++ drop (length b) d ≡ d = ap (λ (x : List ℕ). x ++ drop (length b) d) (sym second) ∙ take-append-drop (length b) d in
    subst (λ (x : List ℕ). take (length a) x ≡ a) whole (take-append-le (length a) b (drop (length b) d) shorter ∙ first)

pub on_ok : {T E : Type 0} (r : Result T E) (P Q : Type 0) → (P → Q) → OnOk r P → OnOk r Q
on_ok (Ok x) P Q f p = f p
on_ok (Err e) P Q f p = tt

-- what is written back to a vector as long as it
pub written_back : (n : ℕ) (new old : List ℕ) → length new ≡ n → take n (new ++ drop (length new) old) ≡ new
written_back n new old is = ap (λ k. take k (new ++ drop (length new) old)) (sym is) ∙ take-append_seam new (drop (length new) old)

-- a header and then what it is a header of, one behind the other
pub headed : (minor kind told : ℕ) (little : Bool) (old first second content : List ℕ) → first ≡ old ++ framed minor told little [] → told ≡ kind
    → second ≡ first ++ content → second ≡ old ++ (framed minor kind little [] ++ content)
headed minor kind told little old first second content header same more =
    more
    ∙ (ap (λ x. x ++ content) (header ∙ ap (λ (k : ℕ). old ++ framed minor k little []) same)
    ∙ append_assoc old (framed minor kind little []) content)

pub header_len : (minor kind : ℕ) (little : Bool) → length (framed minor kind little []) ≡ HEADER
header_len minor kind true = refl
header_len minor kind false = refl
