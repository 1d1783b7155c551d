-- One reading: from one cursor one reference is read, or reading breaks at one place, and never both.
use Rattle.std.proofs.Common.{◌≡◌, ℕ, ◌<◌, List, [], ◌∷◌, length, refl, sym, ◌∙◌, ap, ap₂, subst, arith, inl, inr}
use Rattle.cdr_core.specs.Field.{ulong, text, octets}
use Rattle.cdr_core.specs.Cursor.{Cursor, Reads}
use Rattle.cdr_core.proofs.OneReading.{one_ulong_read, one_octets_read, one_text_read}
use Rattle.poa_base.specs.declared.Ior.{Ior}
use Rattle.poa_base.specs.declared.Profile.{Profile}
use Rattle.ior_text.specs.Tagged.{ReadsProfile, ProfileBreaks, ReadsProfiles}
use Rattle.ior_text.specs.ReferenceFields.{ReadsIor, IorBreaks}

abbrev profile_with : ℕ → List ℕ → Profile
profile_with tag bytes = record { tag = tag; bytes = bytes }

pub one_profile : (p q : Profile) (c a b : Cursor) → ReadsProfile p c a → ReadsProfile q c b → (p ≡ q) × (a ≡ b)
one_profile p q c a b r s =
    let tag = one_ulong_read p.tag q.tag c r.tagged s.tagged r.tag s.tag in
    let bytes = one_octets_read p.bytes q.bytes s.tagged a b (subst (λ (x : Cursor). Reads (octets p.bytes) x a) tag.1 r.bytes) s.bytes in
    (ap₂ profile_with tag.0 bytes.0, bytes.1)

pub one_profiles : (ps qs : List Profile) (c a b : Cursor) → length ps ≡ length qs → ReadsProfiles ps c a → ReadsProfiles qs c b → (ps ≡ qs) × (a ≡ b)
one_profiles [] [] c a b same r s = (refl, r ∙ sym s)
one_profiles [] (q ∷ qs) c a b same r s = absurd (omega arith)
one_profiles (p ∷ ps) [] c a b same r s = absurd (omega arith)
one_profiles (p ∷ ps) (q ∷ qs) c a b same r s =
    let first = one_profile p q c r.0 s.0 r.1 s.1 in
    let short : length ps ≡ length qs = omega arith in
    let others = one_profiles ps qs s.0 a b short (subst (λ (x : Cursor). ReadsProfiles ps x a) first.1 r.2) s.2 in
    (ap₂ (λ x xs. x ∷ xs) first.0 others.0, others.1)

-- where a profile stands reading doesn't break
pub profile_stands : (p : Profile) (c a : Cursor) (at : ℕ) → ReadsProfile p c a → ProfileBreaks c at → ⊥
profile_stands p c a at r (inl no_tag) = no_tag.unreadable (ulong p.tag) r.tagged refl r.tag
profile_stands p c a at r (inr no_data) =
    let tag = one_ulong_read p.tag no_data.number c r.tagged no_data.tagged r.tag no_data.tag in
    no_data.breaks.unreadable (octets p.bytes) a refl (subst (λ (x : Cursor). Reads (octets p.bytes) x a) tag.1 r.bytes)

pub profiles_stand : (ps found : List Profile) (c a behind : Cursor) (at : ℕ) → length found < length ps → ReadsProfiles ps c a → ReadsProfiles found c behind
    → ProfileBreaks behind at → ⊥
profiles_stand [] found c a behind at fewer r s breaks = absurd (omega arith)
profiles_stand (p ∷ ps) [] c a behind at fewer r s breaks = profile_stands p c r.0 at r.1 (subst (λ (x : Cursor). ProfileBreaks x at) s breaks)
profiles_stand (p ∷ ps) (q ∷ qs) c a behind at fewer r s breaks =
    let first = one_profile p q c r.0 s.0 r.1 s.1 in
    let short : length qs < length ps = omega arith in
    profiles_stand ps qs s.0 a behind at short (subst (λ (x : Cursor). ReadsProfiles ps x a) first.1 r.2) s.2 breaks

-- one profile breaks at one place
pub one_profile_place : (c : Cursor) (m n : ℕ) → ProfileBreaks c m → ProfileBreaks c n → m ≡ n
one_profile_place c m n (inl a) (inl b) = a.begins ∙ sym b.begins
one_profile_place c m n (inl a) (inr b) = absurd (a.unreadable (ulong b.number) b.tagged refl b.tag)
one_profile_place c m n (inr a) (inl b) = absurd (b.unreadable (ulong a.number) a.tagged refl a.tag)
one_profile_place c m n (inr a) (inr b) =
    let tag = one_ulong_read a.number b.number c a.tagged b.tagged a.tag b.tag in
    a.breaks.begins ∙ ap (λ (x : Cursor). x.place) tag.1 ∙ sym b.breaks.begins

pub one_profiles_place : (ps qs : List Profile) (c a b : Cursor) (m n : ℕ) → ReadsProfiles ps c a → ProfileBreaks a m → ReadsProfiles qs c b → ProfileBreaks b n
    → m ≡ n
one_profiles_place [] [] c a b m n r x s y =
    one_profile_place c m n (subst (λ (k : Cursor). ProfileBreaks k m) r x) (subst (λ (k : Cursor). ProfileBreaks k n) s y)
one_profiles_place [] (q ∷ qs) c a b m n r x s y = absurd (profile_stands q c s.0 m s.1 (subst (λ (k : Cursor). ProfileBreaks k m) r x))
one_profiles_place (p ∷ ps) [] c a b m n r x s y = absurd (profile_stands p c r.0 n r.1 (subst (λ (k : Cursor). ProfileBreaks k n) s y))
one_profiles_place (p ∷ ps) (q ∷ qs) c a b m n r x s y =
    let first = one_profile p q c r.0 s.0 r.1 s.1 in
    one_profiles_place ps qs s.0 a b m n (subst (λ (k : Cursor). ReadsProfiles ps k a) first.1 r.2) x s.2 y

abbrev ior_with : List ℕ → List Profile → Ior
ior_with type_id profiles = record { type_id = type_id; profiles = profiles }

pub one_ior : (i j : Ior) (c a b : Cursor) → ReadsIor i c a → ReadsIor j c b → (i ≡ j) × (a ≡ b)
one_ior i j c a b r s =
    let name = one_text_read i.type_id j.type_id c r.named s.named r.type_id s.type_id in
    let count =
    one_ulong_read (length i.profiles) (length j.profiles) s.named r.counted s.counted
    (subst (λ (x : Cursor). Reads (ulong (length i.profiles)) x r.counted) name.1 r.count) s.count in
    let profiles =
    one_profiles i.profiles j.profiles s.counted a b count.0 (subst (λ (x : Cursor). ReadsProfiles i.profiles x a) count.1 r.profiles) s.profiles in
    (ap₂ ior_with name.0 profiles.0, profiles.1)

-- where a reference stands reading doesn't break
pub ior_stands : (i : Ior) (c a : Cursor) (at : ℕ) → ReadsIor i c a → IorBreaks c at → ⊥
ior_stands i c a at r (inl no_name) = no_name.unreadable (text i.type_id) r.named refl r.type_id
ior_stands i c a at r (inr (inl no_count)) =
    let name = one_text_read i.type_id no_count.name c r.named no_count.named r.type_id no_count.type_id in
    no_count.breaks.unreadable (ulong (length i.profiles)) r.counted refl (subst (λ (x : Cursor). Reads (ulong (length i.profiles)) x r.counted) name.1 r.count)
ior_stands i c a at r (inr (inr no_list)) =
    let name = one_text_read i.type_id no_list.name c r.named no_list.named r.type_id no_list.type_id in
    let count =
    one_ulong_read (length i.profiles) no_list.total no_list.named r.counted no_list.counted
    (subst (λ (x : Cursor). Reads (ulong (length i.profiles)) x r.counted) name.1 r.count) no_list.count in
    let fewer : length no_list.breaks.found < length i.profiles = omega (arith, no_list.breaks.fewer, count.0) in
    profiles_stand i.profiles no_list.breaks.found no_list.counted a no_list.breaks.behind at fewer
    (subst (λ (x : Cursor). ReadsProfiles i.profiles x a) count.1 r.profiles) no_list.breaks.read no_list.breaks.breaks

-- one place at which reading a reference breaks
pub one_ior_place : (c : Cursor) (m n : ℕ) → IorBreaks c m → IorBreaks c n → m ≡ n
one_ior_place c m n (inl a) (inl b) = a.begins ∙ sym b.begins
one_ior_place c m n (inl a) (inr (inl b)) = absurd (a.unreadable (text b.name) b.named refl b.type_id)
one_ior_place c m n (inl a) (inr (inr b)) = absurd (a.unreadable (text b.name) b.named refl b.type_id)
one_ior_place c m n (inr (inl a)) (inl b) = absurd (b.unreadable (text a.name) a.named refl a.type_id)
one_ior_place c m n (inr (inr a)) (inl b) = absurd (b.unreadable (text a.name) a.named refl a.type_id)
one_ior_place c m n (inr (inl a)) (inr (inl b)) =
    let name = one_text_read a.name b.name c a.named b.named a.type_id b.type_id in
    a.breaks.begins ∙ ap (λ (x : Cursor). x.place) name.1 ∙ sym b.breaks.begins
one_ior_place c m n (inr (inl a)) (inr (inr b)) =
    let name = one_text_read a.name b.name c a.named b.named a.type_id b.type_id in
    absurd (a.breaks.unreadable (ulong b.total) b.counted refl (subst (λ (x : Cursor). Reads (ulong b.total) x b.counted) (sym name.1) b.count))
one_ior_place c m n (inr (inr a)) (inr (inl b)) =
    let name = one_text_read a.name b.name c a.named b.named a.type_id b.type_id in
    absurd (b.breaks.unreadable (ulong a.total) a.counted refl (subst (λ (x : Cursor). Reads (ulong a.total) x a.counted) name.1 a.count))
one_ior_place c m n (inr (inr a)) (inr (inr b)) =
    let name = one_text_read a.name b.name c a.named b.named a.type_id b.type_id in
    let count = one_ulong_read a.total b.total b.named a.counted b.counted (subst (λ (x : Cursor). Reads (ulong a.total) x a.counted) name.1 a.count) b.count in
    one_profiles_place a.breaks.found b.breaks.found b.counted a.breaks.behind b.breaks.behind m n
    (subst (λ (x : Cursor). ReadsProfiles a.breaks.found x a.breaks.behind) count.1 a.breaks.read) a.breaks.breaks b.breaks.read b.breaks.breaks
