-- Why a target can't be read, and that it is read in one way.
use Rattle.std.proofs.Common.{◌≡◌, ℕ, ◌≤◌, Bool, true, false, List, Option, Some, None, refl, sym, ap, ap₂, ◌∙◌, subst, arith}
use Rattle.std.specs.Prelude.{option_map}
use Rattle.std.proofs.lemmas.Bool.{eqb-true}
use Rattle.giop_answer.specs.declared.kind.TheConstants.{MINOR}
use Rattle.cdr_core.specs.declared.CdrFault.{CdrFault}
use Rattle.cdr_core.specs.Kind.{ULong, Octets}
use Rattle.cdr_core.specs.Field.{ushort, ulong, octets}
use Rattle.cdr_core.specs.Cursor.{Cursor, Reads}
use Rattle.cdr_core.specs.Refusal.{Refuses}
use Rattle.cdr_core.proofs.OneReading.{one_ushort_read, one_ulong_read, one_octets_read}
use Rattle.cdr_core.proofs.Refusals.{none_where_refused}
use Rattle.poa_base.specs.declared.Profile.{Profile}
use Rattle.ior_text.specs.Tagged.{ProfileBreaks}
use Rattle.ior_text.specs.ReferenceFields.{ReadsIor, IorBreaks}
use Rattle.ior_text.specs.Key.{TellsKey, HasKey, IsKeyOr}
use Rattle.ior_text.proofs.OneReading.{one_profile, one_ior, profile_stands, ior_stands}
use Rattle.ior_text.proofs.Keys.{one_told_key, one_key, one_found, found_at}
use Rattle.ior_text.specs.declared.ProfileView.{ProfileView}
use Rattle.ior_text.specs.Seen.{seen_profile, SeesProfile}
use Rattle.giop_msg.specs.declared.target.TheConstants.{KEY_ADDRESS, PROFILE_ADDRESS, REFERENCE_ADDRESS}
use Rattle.giop_msg.specs.Target.{Target, by_key, by_profile, by_reference, disposition_of, ReadsAddress, GivesKey, IsAddress, IsTarget, IsKey, IsAddressed}
use Rattle.giop_msg.specs.Version.{is_newest, ByVersion}
use Rattle.giop_msg.specs.Reading.{NoTarget, NoAddress}

-- an address of a disposition is read in one way
same_address : (x y : Target) (a b c : Cursor) → disposition_of x ≡ disposition_of y → ReadsAddress x a b → ReadsAddress y a c → (x ≡ y) × (b ≡ c)
same_address (by_key k) (by_key l) a b c same here there =
    let key = one_octets_read k l a b c here there in
    (ap by_key key.0, key.1)
same_address (by_key k) (by_profile q) a b c same here there = absurd (omega (arith, same))
same_address (by_key k) (by_reference j y) a b c same here there = absurd (omega (arith, same))
same_address (by_profile p) (by_key l) a b c same here there = absurd (omega (arith, same))
same_address (by_profile p) (by_profile q) a b c same here there =
    let profile = one_profile p q a b c here there in
    (ap by_profile profile.0, profile.1)
same_address (by_profile p) (by_reference j y) a b c same here there = absurd (omega (arith, same))
same_address (by_reference i x) (by_key l) a b c same here there = absurd (omega (arith, same))
same_address (by_reference i x) (by_profile q) a b c same here there = absurd (omega (arith, same))
same_address (by_reference i x) (by_reference j y) a b c same here there =
    let index = one_ulong_read i j a here.0 there.0 here.1.0 there.1.0 in
    let ior = one_ior x y there.0 b c (subst (λ (z : Cursor). ReadsIor x z b) index.1 here.1.1) there.1.1 in
    (ap₂ by_reference index.0 ior.0, ior.1)

-- and gives one key, or none
one_given : (x : Target) (t u : Option (List ℕ)) → GivesKey x t → GivesKey x u → t ≡ u
one_given (by_key key) t u here there = here ∙ sym there
one_given (by_profile profile) t u here there = one_found (TellsKey profile) (one_told_key profile) t u here there
one_given (by_reference index ior) t u here there = one_found (HasKey ior index) (one_key ior index) t u here there

one_address : (n : ℕ) (t u : Option (List ℕ)) (a b c : Cursor) → IsAddress n t a b → IsAddress n u a c → (t ≡ u) × (b ≡ c)
one_address n t u a b c here there =
    let one = same_address here.object there.object a b c (here.is ∙ sym there.is) here.read there.read in
    (one_given there.object t u (subst (λ (x : Target). GivesKey x t) one.0 here.gives) there.gives, one.1)

-- the address stands where the disposition that was read ends
pub address_at : (n : ℕ) (t : Option (List ℕ)) (a b after : Cursor) → Reads (ushort n) a b → IsTarget t a after → IsAddress n t b after
address_at n t a b after told is =
    let disposition = one_ushort_read is.disposition n a is.behind b is.told told in
    subst (λ (z : Cursor). IsAddress n t z after) disposition.1 (subst (λ (m : ℕ). IsAddress m t is.behind after) disposition.0 is.address)

-- a target is read in one way
pub one_target : (t u : Option (List ℕ)) (a b c : Cursor) → IsTarget t a b → IsTarget u a c → (t ≡ u) × (b ≡ c)
one_target t u a b c here there =
    one_address there.disposition t u there.behind b c (address_at there.disposition t a there.behind b there.told here) there.address

one_key_read : (t u : Option (List ℕ)) (a b c : Cursor) → IsKey t a b → IsKey u a c → (t ≡ u) × (b ≡ c)
one_key_read t u a b c here there =
    let key = one_octets_read here.key there.key a b c here.read there.read in
    (here.gives ∙ (ap (λ (k : List ℕ). Some k) key.0 ∙ sym there.gives), key.1)

-- by the version
pub one_addressed : (minor : ℕ) (t u : Option (List ℕ)) (a b c : Cursor) → IsAddressed minor t a b → IsAddressed minor u a c → (t ≡ u) × (b ≡ c)
one_addressed minor t u a b c =
    elim (is_newest minor) as (λ v. ByVersion v (IsTarget t a b) (IsKey t a b) → ByVersion v (IsTarget u a c) (IsKey u a c) → (t ≡ u) × (b ≡ c)) [
      | true ↦ one_target t u a b c
      | false ↦ one_key_read t u a b c
    ]

-- no key where there is no octets
pub no_key_read : (a : Cursor) (fault : CdrFault) → Refuses Octets a fault → (t : Option (List ℕ)) (after : Cursor) → IsKey t a after → ⊥
no_key_read a fault refused t after is = none_where_refused (octets is.key) a after fault refused is.read

-- another version than the newest
not_newest : (minor : ℕ) → (minor ≡ MINOR → ⊥) → is_newest minor ≡ false
not_newest minor other = by (is_newest minor) refl
  where
    by : (b : Bool) → is_newest minor ≡ b → is_newest minor ≡ false
    by true is = absurd (other (eqb-true minor MINOR is))
    by false is = is

pub no_key_addressed : (minor : ℕ) (a : Cursor) (fault : CdrFault) → (minor ≡ MINOR → ⊥) → Refuses Octets a fault → (t : Option (List ℕ))
    (after : Cursor) → IsAddressed minor t a after → ⊥
no_key_addressed minor a fault other refused t after is =
    no_key_read a fault refused t after (subst (λ v. ByVersion v (IsTarget t a after) (IsKey t a after)) (not_newest minor other) is)

-- without an address there is no target
pub no_target_behind : (n : ℕ) (a b : Cursor) → Reads (ushort n) a b → NoAddress n b → NoTarget a
no_target_behind n a b told none target after is = none target after (address_at n target a b after told is)

-- no key can be read
pub no_key : (a : Cursor) (fault : CdrFault) → Refuses Octets a fault → NoAddress KEY_ADDRESS a
no_key a fault refused target after is = at is.object is.is is.read
  where
    at : (object : Target) → disposition_of object ≡ KEY_ADDRESS → ReadsAddress object a after → ⊥
    at (by_key key) same read = none_where_refused (octets key) a after fault refused read
    at (by_profile profile) same read = omega (arith, same)
    at (by_reference index ior) same read = omega (arith, same)

-- no profile
pub no_profile : (a : Cursor) (place : ℕ) → ProfileBreaks a place → NoAddress PROFILE_ADDRESS a
no_profile a place breaks target after is = at is.object is.is is.read
  where
    at : (object : Target) → disposition_of object ≡ PROFILE_ADDRESS → ReadsAddress object a after → ⊥
    at (by_key key) same read = omega (arith, same)
    at (by_profile profile) same read = profile_stands profile a after place read breaks
    at (by_reference index ior) same read = omega (arith, same)

-- no index, or no reference behind it
pub no_index : (a : Cursor) (fault : CdrFault) → Refuses ULong a fault → NoAddress REFERENCE_ADDRESS a
no_index a fault refused target after is = at is.object is.is is.read
  where
    at : (object : Target) → disposition_of object ≡ REFERENCE_ADDRESS → ReadsAddress object a after → ⊥
    at (by_key key) same read = omega (arith, same)
    at (by_profile profile) same read = omega (arith, same)
    at (by_reference index ior) same read = none_where_refused (ulong index) a read.0 fault refused read.1.0

pub no_reference : (n : ℕ) (a b : Cursor) (place : ℕ) → Reads (ulong n) a b → IorBreaks b place → NoAddress REFERENCE_ADDRESS a
no_reference n a b place told breaks target after is = at is.object is.is is.read
  where
    at : (object : Target) → disposition_of object ≡ REFERENCE_ADDRESS → ReadsAddress object a after → ⊥
    at (by_key key) same read = omega (arith, same)
    at (by_profile profile) same read = omega (arith, same)
    at (by_reference index ior) same read =
        let one = one_ulong_read index n a read.0 b read.1.0 told in
        ior_stands ior b after place (subst (λ (z : Cursor). ReadsIor ior z after) one.1 read.1.1) breaks

-- there is no other disposition
pub other_disposition : (n : ℕ) (a : Cursor) → 3 ≤ n → NoAddress n a
other_disposition n a above target after is = at is.object is.is
  where
    at : (object : Target) → disposition_of object ≡ n → ⊥
    at (by_key key) same = omega (arith, same, above)
    at (by_profile profile) same = omega (arith, same, above)
    at (by_reference index ior) same = omega (arith, same, above)

-- the key of the profile at the index that was read, or none
pub key_in_reference :
    (n : ℕ) (found : Option ProfileView) (profile : ProfileView) (key : Option (List ℕ)) (a b after : Cursor) →
    Reads (ulong n) a b → SeesProfile n (option_map seen_profile found) b after → found ≡ Some profile →
    IsKeyOr (TellsKey (seen_profile profile)) key → IsAddress REFERENCE_ADDRESS key a after
key_in_reference n found profile key a b after told sees is tells = record {
  object = by_reference n sees.ior;
  is = refl;
  read = (b, (told, sees.read));
  gives = found_at sees.ior n (seen_profile profile) (sym sees.is ∙ ap (option_map seen_profile) is) key tells;
}

pub none_in_reference :
    (n : ℕ) (found : Option ProfileView) (a b after : Cursor) → Reads (ulong n) a b →
    SeesProfile n (option_map seen_profile found) b after → found ≡ None → IsAddress REFERENCE_ADDRESS None a after
none_in_reference n found a b after told sees is = record {
  object = by_reference n sees.ior;
  is = refl;
  read = (b, (told, sees.read));
  gives = λ key has. nothing (ap (option_map seen_profile) (sym is) ∙ sees.is ∙ has.stands);
}
  where
    nothing : {profile : Profile} → None ≡ Some profile → ⊥
    nothing e = cc
