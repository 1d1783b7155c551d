-- Whether profiles and references stand at a cursor is decided.
use Rattle.std.proofs.Common.{◌≡◌, ℕ, List, [], ◌∷◌, length, zero, suc, refl, sym, subst, arith, inl}
use Rattle.cdr_core.specs.Field.{ulong, text, octets}
use Rattle.cdr_core.specs.Cursor.{Cursor, Reads}
use Rattle.cdr_core.proofs.OneReading.{one_ulong_read, one_text_read}
use Rattle.poa_base.specs.declared.Ior.{Ior}
use Rattle.poa_base.specs.declared.Profile.{Profile}
use Rattle.ior_text.specs.ReferenceFields.{ReadsIor}
use Rattle.ior_text.specs.Components.{HasComponents}
use Rattle.ior_text.specs.Tagged.{ReadsProfile, ReadsProfiles}
use Rattle.ior_text.proofs.OneReading.{one_profile}
use Rattle.giop_msg.proofs.Deciding.{Decided, decided_as, decided_then, Stands, StandsThen}
use Rattle.giop_msg.proofs.Numbers.{ulong_decided}
use Rattle.giop_msg.proofs.Strings.{octets_decided, text_decided}

-- a profile: a tag and its data
abbrev TagThen : Cursor → Type 0
TagThen c = StandsThen ℕ (λ (n : ℕ). Reads (ulong n)) (λ (n : ℕ) (a : Cursor). Stands (List ℕ) (λ (xs : List ℕ). Reads (octets xs)) a) c

profile_there : (c : Cursor) → TagThen c → Stands Profile ReadsProfile c
profile_there c s = (record { tag = s.0; bytes = s.3.0 }, s.3.1, record { tagged = s.1; tag = s.2; bytes = s.3.2 })

profile_back : (c : Cursor) → Stands Profile ReadsProfile c → TagThen c
profile_back c s = (s.0.tag, s.2.tagged, s.2.tag, (s.0.bytes, s.1, s.2.bytes))

pub profile_decided : (c : Cursor) → Decided (Stands Profile ReadsProfile c)
profile_decided c =
    decided_as (TagThen c) (Stands Profile ReadsProfile c) (profile_there c) (profile_back c)
    (decided_then ℕ (λ (n : ℕ). Reads (ulong n)) (λ (n : ℕ) (a : Cursor). Stands (List ℕ) (λ (xs : List ℕ). Reads (octets xs)) a) c
    (λ m n a b p q. one_ulong_read m n c a b p q) (λ n a. octets_decided a) (ulong_decided c))

-- so many profiles
abbrev HasProfiles : ℕ → Cursor → Type 0
HasProfiles n c = (ps : List Profile) × (after : Cursor) × ReadsProfiles ps c after × (length ps ≡ n)

abbrev ProfileThen : ℕ → Cursor → Type 0
ProfileThen n c = StandsThen Profile ReadsProfile (λ (p : Profile) (a : Cursor). HasProfiles n a) c

profiles_there : (n : ℕ) (c : Cursor) → ProfileThen n c → HasProfiles (suc n) c
profiles_there n c s = (s.0 ∷ s.3.0, s.3.1, (s.1, s.2, s.3.2), omega (arith, s.3.3))

profiles_back : (n : ℕ) (c after : Cursor) (ps : List Profile) → ReadsProfiles ps c after → length ps ≡ suc n → ProfileThen n c
profiles_back n c after [] read long = absurd (omega (arith, long))
profiles_back n c after (p ∷ ps) read long = (p, read.0, read.1, (ps, after, read.2, omega (arith, long)))

profiles_decided : (n : ℕ) (c : Cursor) → Decided (HasProfiles n c)
profiles_decided zero c = inl ([], c, refl, refl)
profiles_decided (suc n) c =
    decided_as (ProfileThen n c) (HasProfiles (suc n) c) (profiles_there n c) (λ s. profiles_back n c s.1 s.0 s.2 s.3)
    (decided_then Profile ReadsProfile (λ (p : Profile) (a : Cursor). HasProfiles n a) c (λ p q a b r s. one_profile p q c a b r s)
    (λ p a. profiles_decided n a) (profile_decided c))

-- a count and so many profiles
abbrev CountThen : Cursor → Type 0
CountThen c = StandsThen ℕ (λ (n : ℕ). Reads (ulong n)) HasProfiles c

count_then : (c : Cursor) → Decided (CountThen c)
count_then c = decided_then ℕ (λ (n : ℕ). Reads (ulong n)) HasProfiles c (λ m n a b p q. one_ulong_read m n c a b p q) profiles_decided (ulong_decided c)

-- components, which have the fields of profiles
components_there : (c : Cursor) → CountThen c → HasComponents c
components_there c s = (
  s.3.0,
  record {
    counted = s.1;
    after = s.3.1;
    count = subst (λ (n : ℕ). Reads (ulong n) c s.1) (sym s.3.3) s.2;
    each = s.3.2;
  },
)

components_back : (c : Cursor) → HasComponents c → CountThen c
components_back c has = (length has.0, has.1.counted, has.1.count, (has.0, has.1.after, has.1.each, refl))

pub components_decided : (c : Cursor) → Decided (HasComponents c)
components_decided c = decided_as (CountThen c) (HasComponents c) (components_there c) (components_back c) (count_then c)

-- a reference: a type id, a count and the profiles
abbrev NameThen : Cursor → Type 0
NameThen c = StandsThen (List ℕ) (λ (xs : List ℕ). Reads (text xs)) (λ (xs : List ℕ) (a : Cursor). CountThen a) c

ior_there : (c : Cursor) → NameThen c → Stands Ior ReadsIor c
ior_there c s = (
  record { type_id = s.0; profiles = s.3.3.0 },
  s.3.3.1,
  record {
    named = s.1;
    counted = s.3.1;
    type_id = s.2;
    count = subst (λ (n : ℕ). Reads (ulong n) s.1 s.3.1) (sym s.3.3.3) s.3.2;
    profiles = s.3.3.2;
  },
)

ior_back : (c : Cursor) → Stands Ior ReadsIor c → NameThen c
ior_back c s = (s.0.type_id, s.2.named, s.2.type_id, (length s.0.profiles, s.2.counted, s.2.count, (s.0.profiles, s.1, s.2.profiles, refl)))

pub ior_decided : (c : Cursor) → Decided (Stands Ior ReadsIor c)
ior_decided c =
    decided_as (NameThen c) (Stands Ior ReadsIor c) (ior_there c) (ior_back c)
    (decided_then (List ℕ) (λ (xs : List ℕ). Reads (text xs)) (λ (xs : List ℕ) (a : Cursor). CountThen a) c (λ xs ys a b p q. one_text_read xs ys c a b p q)
    (λ xs a. count_then a) (text_decided c))
