-- One reading: two values whose bytes begin one text are one value, and leave the same rest.
use Rattle.std.proofs.Common.{◌≡◌, ℕ, ◌<◌, ◌^◌, List, [], ◌∷◌, ◌++◌, length, refl, sym, ◌∙◌, ap, ap₂, arith, append_assoc, Option, Some, None}
use Rattle.std.specs.Prelude.{IfSome, Bool, true, false, ◌==◌, get_or}
use Rattle.std.proofs.Common.{cond}
use Rattle.std.proofs.lemmas.Bool.{eqb-true}
use Rattle.std.specs.Int.{w16, w32, to_be_bytes, from_be_bytes}
use Rattle.std.proofs.lemmas.List.{append_cancel_left}
use Rattle.std.proofs.lemmas.Nat.{from_be_bytes-to_be_bytes_2, from_be_bytes-to_be_bytes_4}
use Rattle.poa_base.specs.declared.Stamp.{Stamp}
use Rattle.object_key.specs.Spelling.{tag_bytes, lifespan_bytes, name_bytes, path_bytes, oid_bytes, IsStamp}
use Rattle.object_key.specs.Reading.{names_bytes}

-- two lists of one length at the front of one list
pub same_front : (a b x y : List ℕ) → length a ≡ length b → a ++ x ≡ b ++ y → (a ≡ b) × (x ≡ y)
same_front [] [] x y len e = (refl, e)
same_front [] (v ∷ b) x y len e = absurd (omega arith)
same_front (u ∷ a) [] x y len e = absurd (omega arith)
same_front (u ∷ a) (v ∷ b) x y len e =
    let head : u ≡ v = cc in
    let tail : a ++ x ≡ b ++ y = cc in
    let short : length a ≡ length b = omega arith in
    let rest = same_front a b x y short tail in
    (ap₂ (λ z zs. z ∷ zs) head rest.0, rest.1)

pub one_ushort : (m n : ℕ) (x y : List ℕ) → m < 2 ^ 16 → n < 2 ^ 16 → to_be_bytes w16 m ++ x ≡ to_be_bytes w16 n ++ y → (m ≡ n) × (x ≡ y)
one_ushort m n x y fits_m fits_n e =
    let both = same_front (to_be_bytes w16 m) (to_be_bytes w16 n) x y refl e in
    (sym (from_be_bytes-to_be_bytes_2 m fits_m) ∙ ap (from_be_bytes w16) both.0 ∙ from_be_bytes-to_be_bytes_2 n fits_n, both.1)

pub one_ulong : (m n : ℕ) (x y : List ℕ) → m < 2 ^ 32 → n < 2 ^ 32 → to_be_bytes w32 m ++ x ≡ to_be_bytes w32 n ++ y → (m ≡ n) × (x ≡ y)
one_ulong m n x y fits_m fits_n e =
    let both = same_front (to_be_bytes w32 m) (to_be_bytes w32 n) x y refl e in
    (sym (from_be_bytes-to_be_bytes_4 m fits_m) ∙ ap (from_be_bytes w32) both.0 ∙ from_be_bytes-to_be_bytes_4 n fits_n, both.1)

-- the form of a persistent key, and what is behind it
abbrev tag_form : (tag : ℕ) → Bool → List ℕ
tag_form tag untagged = cond untagged (1 ∷ 1 ∷ []) (2 ∷ 1 ∷ to_be_bytes w16 tag)

-- a persistent key is spelled as no transient one
no_form : (tag : ℕ) (untagged : Bool) (x y : List ℕ) → tag_form tag untagged ++ x ≡ 1 ∷ 0 ∷ y → ⊥
no_form tag true x y e = let second : 1 ≡ 0 = ap (λ l. get_or l 1 0) e in omega (arith, second)
no_form tag false x y e = let first : 2 ≡ 1 = ap (λ l. get_or l 0 0) e in omega (arith, first)

no_tag : (tag none : ℕ) (x : List ℕ) (t : Stamp) (y : List ℕ) → tag_bytes tag ++ x ≡ lifespan_bytes (Some t) none ++ y → ⊥
no_tag tag none x t y e = no_form tag (tag == 0) x ((to_be_bytes w32 t.run ++ to_be_bytes w32 t.number) ++ y) e

one_form : (m n : ℕ) (p q : Bool) (x y : List ℕ) → m == 0 ≡ p → n == 0 ≡ q → m < 2 ^ 16 → n < 2 ^ 16 → tag_form m p ++ x ≡ tag_form n q ++ y
    → (m ≡ n) × (x ≡ y)
one_form m n true true x y is_m is_n fits_m fits_n e = (omega (arith, eqb-true m 0 is_m, eqb-true n 0 is_n), append_cancel_left (1 ∷ 1 ∷ []) x y e)
one_form m n true false x y is_m is_n fits_m fits_n e = absurd (let first : 1 ≡ 2 = ap (λ l. get_or l 0 0) e in omega (arith, first))
one_form m n false true x y is_m is_n fits_m fits_n e = absurd (let first : 2 ≡ 1 = ap (λ l. get_or l 0 0) e in omega (arith, first))
one_form m n false false x y is_m is_n fits_m fits_n e = one_ushort m n x y fits_m fits_n (append_cancel_left (2 ∷ 1 ∷ []) _ _ e)

-- a persistent key's tag, by the form and what is behind it
pub one_tag : (m n : ℕ) (x y : List ℕ) → m < 2 ^ 16 → n < 2 ^ 16 → tag_bytes m ++ x ≡ tag_bytes n ++ y → (m ≡ n) × (x ≡ y)
one_tag m n x y fits_m fits_n e = one_form m n (m == 0) (n == 0) x y refl refl fits_m fits_n e

one_stamp : (s t : Stamp) (x y : List ℕ) → IsStamp (Some s) → IsStamp (Some t)
    → (to_be_bytes w32 s.run ++ to_be_bytes w32 s.number) ++ x ≡ (to_be_bytes w32 t.run ++ to_be_bytes w32 t.number) ++ y → (s ≡ t) × (x ≡ y)
one_stamp s t x y fits_s fits_t e =
    let run = one_ulong s.run t.run (to_be_bytes w32 s.number ++ x) (to_be_bytes w32 t.number ++ y) fits_s.0 fits_t.0 (cc) in
    let number = one_ulong s.number t.number x y fits_s.1 fits_t.1 run.1 in
    (ap₂ (λ r n. let it : Stamp = record { run = r; number = n } in it) run.0 number.0, number.1)

pub one_lifespan : (s t : Option Stamp) (m n : ℕ) (x y : List ℕ) → IsStamp s → IsStamp t → m < 2 ^ 16 → n < 2 ^ 16 → IfSome s (λ _. m ≡ 0)
    → IfSome t (λ _. n ≡ 0) → lifespan_bytes s m ++ x ≡ lifespan_bytes t n ++ y → (s ≡ t) × (m ≡ n) × (x ≡ y)
one_lifespan None None m n x y fits_s fits_t fits_m fits_n untagged_s untagged_t e =
    let tag = one_tag m n x y fits_m fits_n e in (refl, tag.0, tag.1)
one_lifespan None (Some t) m n x y fits_s fits_t fits_m fits_n untagged_s untagged_t e = absurd (no_tag m n x t y e)
one_lifespan (Some s) None m n x y fits_s fits_t fits_m fits_n untagged_s untagged_t e = absurd (no_tag n m y s x (sym e))
one_lifespan (Some s) (Some t) m n x y fits_s fits_t fits_m fits_n untagged_s untagged_t e =
    let stamp = one_stamp s t x y fits_s fits_t (cc) in (ap (λ z. Some z) stamp.0, untagged_s ∙ sym untagged_t, stamp.1)

pub one_name : (a b x y : List ℕ) → name_bytes a ++ x ≡ name_bytes b ++ y → (a ≡ b) × (x ≡ y)
one_name a b x y e = let len : length a ≡ length b = cc in same_front a b x y len (cc)

pub one_names : (a b : List (List ℕ)) (x y : List ℕ) → length a ≡ length b → names_bytes a ++ x ≡ names_bytes b ++ y → (a ≡ b) × (x ≡ y)
one_names [] [] x y len e = (refl, e)
one_names [] (v ∷ b) x y len e = absurd (omega arith)
one_names (u ∷ a) [] x y len e = absurd (omega arith)
one_names (u ∷ a) (v ∷ b) x y len e =
    let name =
    one_name u v (names_bytes a ++ x) (names_bytes b ++ y)
    (sym (append_assoc (name_bytes u) (names_bytes a) x) ∙ e ∙ append_assoc (name_bytes v) (names_bytes b) y) in
    let short : length a ≡ length b = omega arith in
    let names = one_names a b x y short name.1 in
    (ap₂ (λ n ns. n ∷ ns) name.0 names.0, names.1)

pub one_path : (a b : List (List ℕ)) (x y : List ℕ) → path_bytes a ++ x ≡ path_bytes b ++ y → (a ≡ b) × (x ≡ y)
one_path a b x y e = let len : length a ≡ length b = cc in one_names a b x y len (cc)

pub one_oid : (a b x y : List ℕ) → length a < 2 ^ 16 → length b < 2 ^ 16 → oid_bytes a ++ x ≡ oid_bytes b ++ y → (a ≡ b) × (x ≡ y)
one_oid a b x y fits_a fits_b e =
    let len = one_ushort (length a) (length b) (a ++ x) (b ++ y) fits_a fits_b e in
    same_front a b x y len.0 len.1
