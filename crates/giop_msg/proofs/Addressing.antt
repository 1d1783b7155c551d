-- Whether a target stands at a cursor is decided.
use Rattle.std.proofs.Common.{◌≡◌, ℕ, List, Option, Some, refl, sym, subst, arith, inl, inr}
use Rattle.std.specs.Prelude.{slice_get}
use Rattle.cdr_core.specs.Field.{ushort, ulong, octets}
use Rattle.cdr_core.specs.Cursor.{Cursor, Reads}
use Rattle.cdr_core.proofs.OneReading.{one_ushort_read, one_ulong_read}
use Rattle.poa_base.specs.declared.Ior.{Ior}
use Rattle.poa_base.specs.declared.Profile.{Profile}
use Rattle.ior_text.specs.Key.{TellsKey}
use Rattle.ior_text.specs.ReferenceFields.{ReadsIor}
use Rattle.ior_text.specs.Tagged.{ReadsProfile}
use Rattle.giop_msg.specs.declared.target.TheConstants.{KEY_ADDRESS, PROFILE_ADDRESS, REFERENCE_ADDRESS}
use Rattle.giop_msg.specs.Target.{Target, by_key, by_profile, by_reference, disposition_of, ReadsAddress, GivesKey, IsAddress, IsTarget}
use Rattle.giop_msg.proofs.Deciding.{Decided, decided_as, decided_then, is_decided, Stands, StandsThen}
use Rattle.giop_msg.proofs.Numbers.{ushort_decided, ulong_decided}
use Rattle.giop_msg.proofs.Strings.{octets_decided}
use Rattle.giop_msg.proofs.Profiles.{profile_decided, ior_decided}
use Rattle.giop_msg.proofs.Telling.{SomeGiven, given_by, given_at, told_decided}

-- each address gives a key, or none
some_given : (object : Target) → SomeGiven (GivesKey object)
some_given (by_key key) = (Some key, refl)
some_given (by_profile profile) = given_by (TellsKey profile) (told_decided profile)
some_given (by_reference index ior) = given_at ior index (slice_get ior.profiles index) refl

-- an address of this disposition
record Addresses (n : ℕ) (object : Target) (c after : Cursor) : Type 0 where
  is : disposition_of object ≡ n
  read : ReadsAddress object c after

abbrev IndexThen : Cursor → Type 0
IndexThen c = StandsThen ℕ (λ (n : ℕ). Reads (ulong n)) (λ (n : ℕ) (a : Cursor). Stands Ior ReadsIor a) c

index_then : (c : Cursor) → Decided (IndexThen c)
index_then c =
    decided_then ℕ (λ (n : ℕ). Reads (ulong n)) (λ (n : ℕ) (a : Cursor). Stands Ior ReadsIor a) c (λ m n a b p q. one_ulong_read m n c a b p q)
    (λ n a. ior_decided a) (ulong_decided c)

key_back : (c after : Cursor) (object : Target) → Addresses KEY_ADDRESS object c after → Stands (List ℕ) (λ (xs : List ℕ). Reads (octets xs)) c
key_back c after (by_key key) a = (key, after, a.read)
key_back c after (by_profile profile) a = absurd (omega (arith, a.is))
key_back c after (by_reference index ior) a = absurd (omega (arith, a.is))

profile_of : (c after : Cursor) (object : Target) → Addresses PROFILE_ADDRESS object c after → Stands Profile ReadsProfile c
profile_of c after (by_key key) a = absurd (omega (arith, a.is))
profile_of c after (by_profile profile) a = (profile, after, a.read)
profile_of c after (by_reference index ior) a = absurd (omega (arith, a.is))

reference_of : (c after : Cursor) (object : Target) → Addresses REFERENCE_ADDRESS object c after → IndexThen c
reference_of c after (by_key key) a = absurd (omega (arith, a.is))
reference_of c after (by_profile profile) a = absurd (omega (arith, a.is))
reference_of c after (by_reference index ior) a = (index, a.read.0, a.read.1.0, (ior, after, a.read.1.1))

no_other : (n : ℕ) (c after : Cursor) (object : Target) → (n ≡ KEY_ADDRESS → ⊥) → (n ≡ PROFILE_ADDRESS → ⊥) → (n ≡ REFERENCE_ADDRESS → ⊥)
    → Addresses n object c after → ⊥
no_other n c after (by_key key) no_key no_profile no_reference a = no_key (omega (arith, a.is))
no_other n c after (by_profile profile) no_key no_profile no_reference a = no_profile (omega (arith, a.is))
no_other n c after (by_reference index ior) no_key no_profile no_reference a = no_reference (omega (arith, a.is))

address_by : (n : ℕ) (c : Cursor) → Decided (n ≡ KEY_ADDRESS) → Decided (n ≡ PROFILE_ADDRESS) → Decided (n ≡ REFERENCE_ADDRESS)
    → Decided (Stands Target (Addresses n) c)
address_by n c (inl key) no_profile no_reference =
    subst (λ (m : ℕ). Decided (Stands Target (Addresses m) c)) (sym key)
    (decided_as (Stands (List ℕ) (λ (xs : List ℕ). Reads (octets xs)) c) (Stands Target (Addresses KEY_ADDRESS) c)
    (λ s. (by_key s.0, s.1, record { is = refl; read = s.2 })) (λ s. key_back c s.1 s.0 s.2) (octets_decided c))
address_by n c (inr no_key) (inl profile) no_reference =
    subst (λ (m : ℕ). Decided (Stands Target (Addresses m) c)) (sym profile)
    (decided_as (Stands Profile ReadsProfile c) (Stands Target (Addresses PROFILE_ADDRESS) c)
    (λ s. (by_profile s.0, s.1, record { is = refl; read = s.2 })) (λ s. profile_of c s.1 s.0 s.2) (profile_decided c))
address_by n c (inr no_key) (inr no_profile) (inl reference) =
    subst (λ (m : ℕ). Decided (Stands Target (Addresses m) c)) (sym reference)
    (decided_as (IndexThen c) (Stands Target (Addresses REFERENCE_ADDRESS) c)
    (λ s. (by_reference s.0 s.3.0, s.3.1, record { is = refl; read = (s.1, (s.2, s.3.2)) })) (λ s. reference_of c s.1 s.0 s.2) (index_then c))
address_by n c (inr no_key) (inr no_profile) (inr no_reference) = inr (λ s. no_other n c s.1 s.0 no_key no_profile no_reference s.2)

address_decided : (n : ℕ) (c : Cursor) → Decided (Stands (Option (List ℕ)) (IsAddress n) c)
address_decided n c =
    decided_as (Stands Target (Addresses n) c) (Stands (Option (List ℕ)) (IsAddress n) c)
    (λ s. let given = some_given s.0 in (given.0, s.1, record { object = s.0; is = s.2.is; read = s.2.read; gives = given.1 }))
    (λ s. (s.2.object, s.1, record { is = s.2.is; read = s.2.read }))
    (address_by n c (is_decided n KEY_ADDRESS) (is_decided n PROFILE_ADDRESS) (is_decided n REFERENCE_ADDRESS))

-- a target: a disposition and its address
abbrev DispositionThen : Cursor → Type 0
DispositionThen c = StandsThen ℕ (λ (n : ℕ). Reads (ushort n)) (λ (n : ℕ) (a : Cursor). Stands (Option (List ℕ)) (IsAddress n) a) c

pub target_decided : (c : Cursor) → Decided (Stands (Option (List ℕ)) IsTarget c)
target_decided c =
    decided_as (DispositionThen c) (Stands (Option (List ℕ)) IsTarget c)
    (λ s. (s.3.0, s.3.1, record { disposition = s.0; behind = s.1; told = s.2; address = s.3.2 }))
    (λ s. (s.2.disposition, s.2.behind, s.2.told, (s.0, s.1, s.2.address)))
    (decided_then ℕ (λ (n : ℕ). Reads (ushort n)) (λ (n : ℕ) (a : Cursor). Stands (Option (List ℕ)) (IsAddress n) a) c
    (λ m n a b p q. one_ushort_read m n c a b p q) address_decided (ushort_decided c))
