-- Where CDR refuses a string none is read.
use Rattle.std.proofs.Common.{◌≡◌, ◌≢◌, ℕ, zero, suc, ◌-◌, ◌<◌, ◌%◌, List, length, take, get_or, sym, ◌∙◌, ap, subst, inl, inr, arith, ◌⊎◌, Option, Some, None, Result, Ok, Err, IfOk, OnOk, nat_lt, false, length-take-le, get_or-take, ne_eqb}
use Rattle.std.proofs.lemmas.Bool.{cond-false, le-ltb}
use Rattle.std.proofs.lemmas.Grind.{common_steps}
use Rattle.cdr_core.specs.declared.CdrFault.{CdrFault}
use Rattle.cdr_core.specs.declared.CdrFault.TheVariants.{WantMemory}
use Rattle.cdr_core.specs.Kind.{Text}
use Rattle.cdr_core.specs.Field.{ulong, text}
use Rattle.cdr_core.specs.Spelling.{gap}
use Rattle.cdr_core.specs.Cursor.{Cursor, Reads}
use Rattle.cdr_core.specs.Refusal.{IsShort, LacksBytes, LacksNul, Refuses}
use Rattle.poa_base.specs.declared.Body.{Body}
use Rattle.servant_kinds.specs.Arguments.{ulong_of, behind_ulong, counted_of, octets_of, front_of, ended_of, text_of}

-- the front of a body, with another count of the same alignment
abbrev pub front_at : ℕ → Body → Cursor
front_at place body = record { little = body.little; place = place; rest = body.bytes }

-- bytes of which the last isn't NUL are no string
pub front_of-none : (n : ℕ) (bytes : List ℕ) → 0 < n → get_or bytes (n - 1) 0 ≢ 0 → front_of n bytes ≡ None
front_of-none zero bytes some last = absurd (omega arith)
front_of-none (suc n) bytes some last =
    let before : suc n - 1 ≡ n = omega arith in
    let other : get_or bytes n 0 ≢ 0 = subst (λ k. get_or bytes k 0 ≢ 0) before last in
    cond-false _ _ _ (ne_eqb _ _ other)

pub short_none : (body : Body) (place : ℕ) (fault : CdrFault) → gap 4 place ≡ gap 4 body.base → IsShort 4 (front_at place body) fault → octets_of body ≡ None
short_none body place fault same short = grind (arith, common_steps)

pub counted_is : (body : Body) (place len : ℕ) (after : Cursor) → gap 4 place ≡ gap 4 body.base → Reads (ulong len) (front_at place body) after
    → (ulong_of body ≡ Some len) × (behind_ulong body ≡ after.rest)
counted_is body place len after same reads = (grind (arith, common_steps), grind (arith, common_steps))

pub bytes_none : (body : Body) (place : ℕ) (fault : CdrFault) → gap 4 place ≡ gap 4 body.base → LacksBytes (front_at place body) fault → octets_of body ≡ None
bytes_none body place fault same lacks = let at = counted_is body place lacks.len lacks.after same lacks.counted in grind (arith, common_steps)

pub nul_none : (body : Body) (place : ℕ) (fault : CdrFault) → gap 4 place ≡ gap 4 body.base → LacksNul (front_at place body) fault → text_of body ≡ None
nul_none body place fault same lacks = let at = counted_is body place lacks.len lacks.after same lacks.counted in
    let rest : List ℕ = lacks.after.rest in
    let below : lacks.len - 1 < lacks.len = omega (arith, lacks.some) in
    let enough : nat_lt (length rest) lacks.len ≡ false = le-ltb (length rest) lacks.len lacks.whole in
    let whole : octets_of body ≡ Some (take lacks.len rest) =
    ap (λ n. counted_of n (behind_ulong body)) at.0 ∙ ap (λ b. counted_of (Some lacks.len) b) at.1 ∙ cond-false _ _ _ enough in
    let len : length (take lacks.len rest) ≡ lacks.len = length-take-le lacks.len rest lacks.whole in
    ap ended_of whole ∙ front_of-none (length (take lacks.len rest)) (take lacks.len rest) (omega (arith, len, lacks.some))
    (subst (λ n. get_or (take lacks.len rest) (n - 1) 0 ≢ 0) (sym len) (λ e. lacks.last (sym (get_or-take lacks.len rest (lacks.len - 1) 0 below) ∙ e)))

-- no string is read where CDR refuses one
pub text_none : (body : Body) (place : ℕ) (fault : CdrFault) → gap 4 place ≡ gap 4 body.base → Refuses Text (front_at place body) fault → text_of body ≡ None
text_none body place fault same (inl short) = ap ended_of (short_none body place fault same short)
text_none body place fault same (inr (inl lacks)) = ap ended_of (bytes_none body place fault same lacks)
text_none body place fault same (inr (inr lacks)) = nul_none body place fault same lacks

-- a string is read where CDR spells one
pub text_is : (body : Body) (place : ℕ) (value : List ℕ) (after : Cursor) → gap 4 place ≡ gap 4 body.base → Reads (text value) (front_at place body) after
    → text_of body ≡ Some value
text_is body place value after same reads = grind (arith, common_steps)

-- the alignment of a place is that of its remainder
pub gap-4 : (place : ℕ) → gap 4 (place % 8) ≡ gap 4 place
gap-4 place = let same : place % 8 % 4 ≡ place % 4 = omega arith in ap (λ n. (4 - n) % 4) same

-- where reading was refused, and memory didn't lack, there is no string
pub refused_text : {E : Type 0} (body : Body) (place : ℕ) (fault : CdrFault) (result : Result (Option (List ℕ)) E) → gap 4 place ≡ gap 4 body.base
    → ((fault ≡ WantMemory) ⊎ Refuses Text (front_at place body) fault) → IfOk result (λ text. text ≡ None) → OnOk result (fault ≢ WantMemory)
    → IfOk result (λ text. text ≡ text_of body)
refused_text body place fault (Err e) same refused none other = tt
refused_text body place fault (Ok x) same (inl memory) none other = absurd (other memory)
refused_text body place fault (Ok x) same (inr refuses) none other = none ∙ sym (text_none body place fault same refuses)
