-- A text gives one answer.
use Rattle.std.proofs.Common.{◌≡◌, ℕ, List, Result, Ok, Err, refl, sym, ◌∙◌, ap, subst, ◌⊎◌, inl, inr}
use Rattle.std.specs.Prelude.{IfOk, IfErr}
use Rattle.cdr_core.specs.Cursor.{Cursor}
use Rattle.poa_base.specs.declared.Ior.{Ior}
use Rattle.ior_text.specs.declared.fault.IorFault.{IorFault}
use Rattle.ior_text.specs.declared.fault.IorFault.TheVariants.{NoPrefix, OddDigits, BadDigit, Malformed, WantMemory}
use Rattle.ior_text.specs.ReferenceFields.{ReadsIor, IorBreaks}
use Rattle.ior_text.specs.Encapsulation.{Encloses, Spoils}
use Rattle.ior_text.specs.Text.{bytes_of, TextGives}
use Rattle.ior_text.proofs.OneReading.{one_ior, ior_stands, one_ior_place}

pub one_enclosed : (bytes : List ℕ) (i j : Ior) → Encloses bytes i → Encloses bytes j → i ≡ j
one_enclosed bytes i j r s =
    let start : r.start ≡ s.start = cc (r.opened, s.opened) in
    (one_ior i j s.start r.after s.after (subst (λ (x : Cursor). ReadsIor i x r.after) start r.read) s.read).0

pub enclosed_stands : (bytes : List ℕ) (i : Ior) (at : ℕ) → Encloses bytes i → Spoils bytes at → ⊥
enclosed_stands bytes i at r (inl none) = cc (r.opened, none.0)
enclosed_stands bytes i at r (inr breaks) =
    let start : breaks.start ≡ r.start = cc (r.opened, breaks.opened) in
    ior_stands i r.start r.after at r.read (subst (λ (x : Cursor). IorBreaks x at) start breaks.breaks)

pub one_spoiled : (bytes : List ℕ) (m n : ℕ) → Spoils bytes m → Spoils bytes n → m ≡ n
one_spoiled bytes m n (inl a) (inl b) = a.1 ∙ sym b.1
one_spoiled bytes m n (inl a) (inr b) = cc (a.0, b.opened)
one_spoiled bytes m n (inr a) (inl b) = cc (b.0, a.opened)
one_spoiled bytes m n (inr a) (inr b) =
    let start : a.start ≡ b.start = cc (a.opened, b.opened) in
    one_ior_place b.start m n (subst (λ (x : Cursor). IorBreaks x m) start a.breaks) b.breaks

-- what the bytes of a text give
abbrev BytesGive : Result (List ℕ) IorFault → Result Ior IorFault → Type 0
BytesGive (Err fault) answer = answer ≡ Err fault
BytesGive (Ok bytes) (Ok ior) = Encloses bytes ior
BytesGive (Ok bytes) (Err NoPrefix) = ⊥
BytesGive (Ok bytes) (Err OddDigits) = ⊥
BytesGive (Ok bytes) (Err (BadDigit at)) = ⊥
BytesGive (Ok bytes) (Err (Malformed at)) = Spoils bytes at
BytesGive (Ok bytes) (Err WantMemory) = ⊥

by_bytes : (text : List ℕ) (answer : Result Ior IorFault) → TextGives text answer → BytesGive (bytes_of text) answer
by_bytes text (Ok ior) gives = subst (λ b. BytesGive b (Ok ior)) (sym gives.stands) gives.encloses
by_bytes text (Err NoPrefix) gives = subst (λ b. BytesGive b (Err NoPrefix)) (sym gives) refl
by_bytes text (Err OddDigits) gives = subst (λ b. BytesGive b (Err OddDigits)) (sym gives) refl
by_bytes text (Err (BadDigit at)) gives = subst (λ b. BytesGive b (Err (BadDigit at))) (sym gives) refl
by_bytes text (Err (Malformed at)) gives = subst (λ b. BytesGive b (Err (Malformed at))) (sym gives.stands) gives.spoils
by_bytes text (Err WantMemory) gives = absurd gives

one_of_bytes : (read : Result (List ℕ) IorFault) (a b : Result Ior IorFault) → BytesGive read a → BytesGive read b → a ≡ b
one_of_bytes (Err fault) a b r s = r ∙ sym s
one_of_bytes (Ok bytes) (Ok i) (Ok j) r s = ap Ok (one_enclosed bytes i j r s)
one_of_bytes (Ok bytes) (Ok i) (Err (Malformed n)) r s = absurd (enclosed_stands bytes i n r s)
one_of_bytes (Ok bytes) (Ok i) (Err NoPrefix) r s = absurd s
one_of_bytes (Ok bytes) (Ok i) (Err OddDigits) r s = absurd s
one_of_bytes (Ok bytes) (Ok i) (Err (BadDigit n)) r s = absurd s
one_of_bytes (Ok bytes) (Ok i) (Err WantMemory) r s = absurd s
one_of_bytes (Ok bytes) (Err NoPrefix) b r s = absurd r
one_of_bytes (Ok bytes) (Err OddDigits) b r s = absurd r
one_of_bytes (Ok bytes) (Err (BadDigit m)) b r s = absurd r
one_of_bytes (Ok bytes) (Err WantMemory) b r s = absurd r
one_of_bytes (Ok bytes) (Err (Malformed m)) (Ok j) r s = absurd (enclosed_stands bytes j m s r)
one_of_bytes (Ok bytes) (Err (Malformed m)) (Err (Malformed n)) r s = ap (λ at. Err (Malformed at)) (one_spoiled bytes m n r s)
one_of_bytes (Ok bytes) (Err (Malformed m)) (Err NoPrefix) r s = absurd s
one_of_bytes (Ok bytes) (Err (Malformed m)) (Err OddDigits) r s = absurd s
one_of_bytes (Ok bytes) (Err (Malformed m)) (Err (BadDigit n)) r s = absurd s
one_of_bytes (Ok bytes) (Err (Malformed m)) (Err WantMemory) r s = absurd s

pub one_answer : (text : List ℕ) (a b : Result Ior IorFault) → TextGives text a → TextGives text b → a ≡ b
one_answer text a b r s = one_of_bytes (bytes_of text) a b (by_bytes text a r) (by_bytes text b s)

-- an answer that the text gives, or want of memory, is the one that the text gives, or want of memory
pub only_this : (text : List ℕ) (result : Result Ior IorFault) → IfOk result (λ ior. TextGives text (Ok ior))
    → IfErr result (λ fault. (fault ≡ WantMemory) ⊎ TextGives text (Err fault)) → (answer : Result Ior IorFault) → TextGives text answer → (result ≡ answer)
    ⊎ (result ≡ Err WantMemory)
only_this text (Ok ior) ok err answer gives = inl (one_answer text (Ok ior) answer ok gives)
only_this text (Err fault) ok (inl memory) answer gives = inr (ap Err memory)
only_this text (Err fault) ok (inr told) answer gives = inl (one_answer text (Err fault) answer told gives)
