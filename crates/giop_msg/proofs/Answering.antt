-- What a message gives is answered, and nothing else.
use Rattle.std.proofs.Common.{◌≡◌, ℕ, ◌≤◌, List, length, Result, Ok, Err, ap, subst, sym, ◌⊎◌, inl, inr}
use Rattle.std.specs.Prelude.{IfOk, IfErr}
use Rattle.poa_base.specs.declared.Ask.{Ask}
use Rattle.giop_msg.specs.declared.incoming.Incoming.{Incoming}
use Rattle.giop_msg.specs.declared.incoming.Incoming.TheVariants as incoming
use Rattle.giop_msg.specs.declared.fault.MsgFault.{MsgFault}
use Rattle.giop_msg.specs.declared.fault.MsgFault.TheVariants.{WantMemory}
use Rattle.giop_answer.specs.declared.kind.TheConstants.{HEADER}
use Rattle.giop_msg.specs.declared.seen.Seen.{Seen}
use Rattle.giop_msg.specs.declared.view_fault.ViewFault.{ViewFault}
use Rattle.giop_msg.specs.Call.{CallOf}
use Rattle.giop_msg.specs.Seen.{asked_by, told_by, answer_of}
use Rattle.giop_msg.specs.Lent.{LendsParts}
use Rattle.giop_msg.specs.Ask.{request_bytes, call_of, IsAsk}
use Rattle.giop_msg.proofs.Calls.{one_call}
use Rattle.giop_msg.proofs.Asking.{written_asks}
use Rattle.giop_msg.proofs.Lending.{lends_parts}

pub only_answer :
    (bytes : List ℕ) (r : Result Incoming MsgFault) → IfOk r (λ asked. CallOf bytes (Ok asked)) →
    IfErr r (λ fault. (fault ≡ WantMemory) ⊎ CallOf bytes (Err fault)) → (answer : Result Incoming MsgFault) →
    CallOf bytes answer → (r ≡ answer) ⊎ (r ≡ Err WantMemory)
only_answer bytes (Ok asked) call fault answer gives = inl (one_call bytes (Ok asked) answer call gives)
only_answer bytes (Err e) call (inl memory) answer gives = inr (ap (λ (f : MsgFault). Err f) memory)
only_answer bytes (Err e) call (inr fault) answer gives = inl (one_call bytes (Err e) answer fault gives)

pub written_answer :
    (bytes : List ℕ) (r : Result Incoming MsgFault) → IfOk r (λ asked. CallOf bytes (Ok asked)) →
    IfErr r (λ fault. (fault ≡ WantMemory) ⊎ CallOf bytes (Err fault)) → (ask : Ask) → IsAsk ask →
    bytes ≡ request_bytes ask → (r ≡ Ok (incoming.Call (call_of ask))) ⊎ (r ≡ Err WantMemory)
written_answer bytes r call fault ask is same =
    only_answer bytes r call fault (Ok (incoming.Call (call_of ask)))
    (subst (λ (l : List ℕ). CallOf l (Ok (incoming.Call (call_of ask)))) (sym same) (written_asks ask is))

-- the same of a view
pub seen_answers :
    (bytes : List ℕ) (r : Result Seen ViewFault) → IfOk r (λ seen. CallOf bytes (Ok (asked_by seen))) →
    IfErr r (λ fault. CallOf bytes (Err (told_by fault))) → CallOf bytes (answer_of r)
seen_answers bytes (Ok seen) call fault = call
seen_answers bytes (Err e) call fault = fault

pub only_seen :
    (bytes : List ℕ) (r : Result Seen ViewFault) → IfOk r (λ seen. CallOf bytes (Ok (asked_by seen))) →
    IfErr r (λ fault. CallOf bytes (Err (told_by fault))) → (answer : Result Incoming MsgFault) → CallOf bytes answer →
    answer_of r ≡ answer
only_seen bytes r call fault answer gives = one_call bytes (answer_of r) answer (seen_answers bytes r call fault) gives

pub seen_lends :
    (bytes : List ℕ) (r : Result Seen ViewFault) → HEADER ≤ length bytes →
    IfOk r (λ seen. CallOf bytes (Ok (asked_by seen))) → IfOk r (λ seen. LendsParts bytes (asked_by seen))
seen_lends bytes (Ok seen) whole call = lends_parts bytes (asked_by seen) whole call
seen_lends bytes (Err e) whole call = tt
