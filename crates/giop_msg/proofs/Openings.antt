-- The fields of a Request in front of its target, in the versions before 1.2.
use Rattle.std.proofs.Common.{◌≡◌, ◌⊎◌, ℕ, zero, suc, true, false, List, [], ◌∷◌, refl, sym, ap, ◌∙◌, subst, arith, inl, inr}
use Rattle.cdr_core.specs.declared.CdrFault.{CdrFault}
use Rattle.cdr_core.specs.Kind.{ULong, Octet}
use Rattle.cdr_core.specs.Field.{ulong, octet}
use Rattle.cdr_core.specs.Cursor.{Cursor, Reads}
use Rattle.cdr_core.specs.Refusal.{Refuses}
use Rattle.cdr_core.proofs.Refusals.{none_where_refused}
use Rattle.giop_msg.specs.Fields.{ReadsAll}
use Rattle.giop_msg.specs.Contexts.{IsContexts}
use Rattle.giop_msg.specs.Opening.{opening_fields, asked_fields, reserved_fields, HasFlags, IsAsked, IsReserved, IsNewestOpening, IsEarlierOpening, IsOpening}
use Rattle.giop_msg.specs.Version.{is_newest, ByVersion}
use Rattle.giop_msg.proofs.Fields.{one_reading_of_all, stuck}
use Rattle.giop_msg.proofs.ContextFields.{one_contexts}

-- in version 1.2 they are read in one way
one_newest : (i j f g : ℕ) (a b c : Cursor) → IsNewestOpening i f a b → IsNewestOpening j g a c → (i ≡ j) × (f ≡ g) × (b ≡ c)
one_newest i j f g a b c here there =
    let one = one_reading_of_all (opening_fields i f here.a here.b here.c) (opening_fields j g there.a there.b there.c) a b c refl here.read there.read in
    same one.0 one.1
  where
    same : opening_fields i f here.a here.b here.c ≡ opening_fields j g there.a there.b there.c → b ≡ c → (i ≡ j) × (f ≡ g) × (b ≡ c)
    same fields end = (cc, cc, end)

-- one octet stands for one list of flags
one_flags : (o p f g : ℕ) → o ≡ p → HasFlags o f → HasFlags p g → f ≡ g
one_flags o p f g same (inl here) (inl there) = here.1 ∙ sym there.1
one_flags o p f g same (inr here) (inr there) = here.1 ∙ sym there.1
one_flags o p f g same (inl here) (inr there) = absurd (omega (arith, same, here.0, there.0))
one_flags o p f g same (inr here) (inl there) = absurd (omega (arith, same, here.0, there.0))

same_asked : (i j o p : ℕ) → asked_fields i o ≡ asked_fields j p → (i ≡ j) × (o ≡ p)
same_asked i j o p fields = (cc, cc)

pub one_asked : (i j f g : ℕ) (a b c : Cursor) → IsAsked i f a b → IsAsked j g a c → (i ≡ j) × (f ≡ g) × (b ≡ c)
one_asked i j f g a b c here there =
    let one = one_reading_of_all (asked_fields i here.asked) (asked_fields j there.asked) a b c refl here.read there.read in
    let same = same_asked i j here.asked there.asked one.0 in
    (same.0, one_flags here.asked there.asked f g same.1 here.has_flags there.has_flags, one.1)

one_reserved : (minor : ℕ) (a b c : Cursor) → IsReserved minor a b → IsReserved minor a c → b ≡ c
one_reserved zero a b c here there = here ∙ sym there
one_reserved (suc minor) a b c here there =
    (one_reading_of_all (reserved_fields here.0 here.1 here.2) (reserved_fields there.0 there.1 there.2) a b c refl here.3 there.3).1

-- what was read of the contexts is in front of the rest
asked_at : (minor i f : ℕ) (a b after : Cursor) → IsContexts a b → (is : IsEarlierOpening minor i f a after) → IsAsked i f b is.behind_asked
asked_at minor i f a b after contexts is =
    subst (λ (z : Cursor). IsAsked i f z is.behind_asked) (one_contexts a is.behind_contexts b is.contexts contexts) is.asked

reserved_at : (minor i j f g : ℕ) (a b d after : Cursor) → IsContexts a b → IsAsked j g b d → (is : IsEarlierOpening minor i f a after)
    → IsReserved minor d after
reserved_at minor i j f g a b d after contexts asked is =
    subst (λ (z : Cursor). IsReserved minor z after) (one_asked i j f g b is.behind_asked d (asked_at minor i f a b after contexts is) asked).2 is.reserved

one_earlier : (minor i j f g : ℕ) (a b c : Cursor) → IsEarlierOpening minor i f a b → IsEarlierOpening minor j g a c → (i ≡ j) × (f ≡ g) × (b ≡ c)
one_earlier minor i j f g a b c here there =
    let asked = asked_at minor i f a there.behind_contexts b there.contexts here in
    let one = one_asked i j f g there.behind_contexts here.behind_asked there.behind_asked asked there.asked in (
      one.0,
      one.1,
      one_reserved minor there.behind_asked b c
          (reserved_at minor i j f g a there.behind_contexts there.behind_asked b there.contexts there.asked here) there.reserved,
    )

-- by the version
pub one_opening : (minor i j f g : ℕ) (a b c : Cursor) → IsOpening minor i f a b → IsOpening minor j g a c → (i ≡ j) × (f ≡ g) × (b ≡ c)
one_opening minor i j f g a b c =
    elim (is_newest minor) as (λ v. ByVersion v (IsNewestOpening i f a b) (IsEarlierOpening minor i f a b)
    → ByVersion v (IsNewestOpening j g a c) (IsEarlierOpening minor j g a c) → (i ≡ j) × (f ≡ g) × (b ≡ c)) [
      | true ↦ one_newest i j f g a b c
      | false ↦ one_earlier minor i j f g a b c
    ]

-- the contexts can't be read
pub no_earlier_contexts : (minor : ℕ) (a : Cursor) → ((after : Cursor) → IsContexts a after → ⊥) → (id flags : ℕ) (after : Cursor)
    → IsEarlierOpening minor id flags a after → ⊥
no_earlier_contexts minor a none id flags after is = none is.behind_contexts is.contexts

-- or what says whether a reply is asked
pub no_earlier_asked : (minor : ℕ) (a b : Cursor) → IsContexts a b → ((id flags : ℕ) (after : Cursor) → IsAsked id flags b after → ⊥) → (id flags : ℕ)
    (after : Cursor) → IsEarlierOpening minor id flags a after → ⊥
no_earlier_asked minor a b contexts none id flags after is = none id flags is.behind_asked (asked_at minor id flags a b after contexts is)

-- or what is reserved
pub no_earlier_reserved : (minor i f : ℕ) (a b d : Cursor) → IsContexts a b → IsAsked i f b d → ((after : Cursor) → IsReserved minor d after → ⊥)
    → (id flags : ℕ) (after : Cursor) → IsEarlierOpening minor id flags a after → ⊥
no_earlier_reserved minor i f a b d contexts asked none id flags after is =
    none after (reserved_at minor id i flags f a b d after contexts asked is)

-- no id, no octet behind it, or one that is no boolean
pub no_asked_id : (a : Cursor) (fault : CdrFault) → Refuses ULong a fault → (id flags : ℕ) (after : Cursor) → IsAsked id flags a after → ⊥
no_asked_id a fault refused id flags after is = none_where_refused (ulong id) a is.read.0 fault refused is.read.1.0

pub no_asked_octet : (i : ℕ) (a b : Cursor) (fault : CdrFault) → Reads (ulong i) a b → Refuses Octet b fault → (id flags : ℕ) (after : Cursor)
    → IsAsked id flags a after → ⊥
no_asked_octet i a b fault id_read refused id flags after is =
    stuck (ulong i ∷ []) (asked_fields id is.asked) Octet [] a b after fault refl (b, (id_read, refl)) refused is.read

pub no_asked_flags : (i o : ℕ) (a b d : Cursor) → Reads (ulong i) a b → Reads (octet o) b d → ((flags : ℕ) → HasFlags o flags → ⊥) → (id flags : ℕ)
    (after : Cursor) → IsAsked id flags a after → ⊥
no_asked_flags i o a b d id_read octet_read none id flags after is =
    let here : ReadsAll (asked_fields i o) a d = (b, (id_read, (d, (octet_read, refl)))) in
    let one = one_reading_of_all (asked_fields i o) (asked_fields id is.asked) a d after refl here is.read in
    none flags (subst (λ (n : ℕ). HasFlags n flags) (sym (same_asked i id o is.asked one.0).1) is.has_flags)

-- of the octets that are reserved so many were read, and the next can't be
pub no_reserved_octet : (minor : ℕ) (a : Cursor) (fault : CdrFault) → (minor ≡ 0 → ⊥) → Refuses Octet a fault → (after : Cursor) → IsReserved minor a after → ⊥
no_reserved_octet zero a fault some refused after is = some refl
no_reserved_octet (suc minor) a fault some refused after is = none_where_refused (octet is.0) a is.3.0 fault refused is.3.1.0

pub no_second_octet : (minor x : ℕ) (a b : Cursor) (fault : CdrFault) → (minor ≡ 0 → ⊥) → Reads (octet x) a b → Refuses Octet b fault → (after : Cursor)
    → IsReserved minor a after → ⊥
no_second_octet zero x a b fault some first refused after is = some refl
no_second_octet (suc minor) x a b fault some first refused after is =
    stuck (octet x ∷ []) (reserved_fields is.0 is.1 is.2) Octet (Octet ∷ []) a b after fault refl (b, (first, refl)) refused is.3

pub no_third_octet : (minor x y : ℕ) (a b d : Cursor) (fault : CdrFault) → (minor ≡ 0 → ⊥) → Reads (octet x) a b → Reads (octet y) b d
    → Refuses Octet d fault → (after : Cursor) → IsReserved minor a after → ⊥
no_third_octet zero x y a b d fault some first second refused after is = some refl
no_third_octet (suc minor) x y a b d fault some first second refused after is =
    stuck (octet x ∷ octet y ∷ []) (reserved_fields is.0 is.1 is.2) Octet [] a d after fault refl (b, (first, (d, (second, refl)))) refused is.3

pub reserved_read : (minor x y z : ℕ) (a b d e : Cursor) → (minor ≡ 0 → ⊥) → Reads (octet x) a b → Reads (octet y) b d → Reads (octet z) d e
    → IsReserved minor a e
reserved_read zero x y z a b d e some first second third = absurd (some refl)
reserved_read (suc minor) x y z a b d e some first second third = (x, y, z, (b, (first, (d, (second, (e, (third, refl)))))))
