-- The location of a reference: that it has one at most, and where it has none.
use Rattle.std.proofs.Common.{◌≡◌, ◌≢◌, ℕ, ◌+◌, ◌<◌, true, List, [], ◌∷◌, ◌++◌, length, take, get_or, zero, suc, Option, Some, None, refl, sym, ◌∙◌, ap, ap₂, subst, arith}
use Rattle.std.specs.Prelude.{MatchOption}
use Rattle.std.proofs.lemmas.List.{take_more}
use Rattle.poa_base.specs.declared.Ior.{Ior}
use Rattle.poa_base.specs.declared.Profile.{Profile}
use Rattle.ior_text.specs.declared.body.ProfileBody.{ProfileBody}
use Rattle.ior_text.specs.Body.{HasBody}
use Rattle.ior_text.specs.Key.{HasKey}
use Rattle.ior_text.proofs.Keys.{one_key}
use Rattle.ior_text.proofs.OneBody.{one_body}
use Rattle.ior_text.specs.declared.address.Address.{Address}
use Rattle.ior_text.specs.declared.location.Location.{Location}
use Rattle.ior_text.specs.AddressText.{is_address}
use Rattle.ior_text.specs.CorbalocProfile.{body_of}
use Rattle.ior_text.specs.CorbalocText.{location_text}
use Rattle.ior_text.specs.Reference.{IsAt, AreAt, IsLocated, HasText}

-- a profile without a body has no address
pub none_at :
    (profile : Profile) (key : List ℕ) → ((body : ProfileBody) → HasBody profile body → ⊥) → (address : Address) →
    IsAt key address profile → ⊥
none_at profile key none address at = none (body_of address key) at.body

-- the address in the body of a profile is the profile's
pub found_at :
    (profile : Profile) (body : ProfileBody) (key : List ℕ) (found : Option Address) → HasBody profile body →
    MatchOption found ((address : Address) → body ≡ body_of address key → is_address address ≡ true → ⊥)
    (λ address. (body ≡ body_of address key) × (is_address address ≡ true)) →
    MatchOption found ((address : Address) → IsAt key address profile → ⊥) (λ address. IsAt key address profile)
found_at profile body key None has none =
    λ address at. none address (one_body profile body (body_of address key) has at.body) at.grammar
found_at profile body key (Some address) has is =
    record { body = subst (λ (b : ProfileBody). HasBody profile b) is.0 has; grammar = is.1 }

-- one more profile
pub are_more :
    (key : List ℕ) (addresses : List Address) (profiles : List Profile) (address : Address) (profile : Profile) →
    AreAt key addresses profiles → IsAt key address profile → AreAt key (addresses ++ address ∷ []) (profiles ++ profile ∷ [])
are_more key [] [] address profile are at = (at, tt)
are_more key [] (q ∷ profiles) address profile are at = absurd are
are_more key (a ∷ addresses) [] address profile are at = absurd are
are_more key (a ∷ addresses) (q ∷ profiles) address profile are at = (are.0, are_more key addresses profiles address profile are.1 at)

pub are_further :
    (key : List ℕ) (addresses : List Address) (profiles : List Profile) (i : ℕ) (address : Address) (profile : Profile) →
    i < length profiles → profile ≡ get_or profiles i profile → AreAt key addresses (take i profiles) →
    IsAt key address profile → AreAt key (addresses ++ address ∷ []) (take (i + 1) profiles)
are_further key addresses profiles i address profile below is are at =
    rw (take_more profiles i profile below, sym is) (are_more key addresses (take i profiles) address profile are at)

-- each profile has an address
each_at :
    (key : List ℕ) (addresses : List Address) (profiles : List Profile) (i : ℕ) (d : Profile) →
    AreAt key addresses profiles → i < length profiles → (address : Address) × IsAt key address (get_or profiles i d)
each_at key [] [] i d are below = absurd (omega arith)
each_at key [] (q ∷ profiles) i d are below = absurd are
each_at key (a ∷ addresses) [] i d are below = absurd are
each_at key (a ∷ addresses) (q ∷ profiles) zero d are below = (a, are.0)
each_at key (a ∷ addresses) (q ∷ profiles) (suc i) d are below = each_at key addresses profiles i d are.1 (omega arith)

-- where one profile has no address, they are none of a location
pub none_are :
    (key : List ℕ) (profiles : List Profile) (i : ℕ) (profile : Profile) → i < length profiles →
    profile ≡ get_or profiles i profile → ((address : Address) → IsAt key address profile → ⊥) →
    (addresses : List Address) → AreAt key addresses profiles → ⊥
none_are key profiles i profile below is none addresses are =
    let one = each_at key addresses profiles i profile are below in
    none one.0 (subst (λ (p : Profile). IsAt key one.0 p) (sym is) one.1)

-- a location has the key of the first profile
first_key :
    (ior : Ior) (key : List ℕ) (addresses : List Address) (profiles : List Profile) → profiles ≡ ior.profiles →
    profiles ≢ [] → AreAt key addresses profiles → HasKey ior 0 key
first_key ior key [] [] is some are = absurd (some refl)
first_key ior key [] (q ∷ profiles) is some are = absurd are
first_key ior key (a ∷ addresses) [] is some are = absurd are
first_key ior key (a ∷ addresses) (q ∷ profiles) is some are = record {
  profile = q;
  stands = rw (sym is) refl;
  tells = record { body = body_of a key; has = are.0.body; is_key = refl };
}

located_key : (ior : Ior) (location : Location) → IsLocated ior location → HasKey ior 0 location.key
located_key ior location located = first_key ior location.key location.addresses ior.profiles refl located.some located.profiles

pub no_key : (ior : Ior) → ((key : List ℕ) → HasKey ior 0 key → ⊥) → (location : Location) → IsLocated ior location → ⊥
no_key ior none location located = none location.key (located_key ior location located)

pub no_addresses :
    (ior : Ior) (key : List ℕ) → HasKey ior 0 key → ((addresses : List Address) → AreAt key addresses ior.profiles → ⊥) →
    (location : Location) → IsLocated ior location → ⊥
no_addresses ior key has none location located =
    let same : location.key ≡ key = one_key ior 0 location.key key (located_key ior location located) has in
    none location.addresses (subst (λ (k : List ℕ). AreAt k location.addresses ior.profiles) same located.profiles)

-- a reference has one location
abbrev address_in : ProfileBody → Address
address_in body = record { minor = body.minor; endpoint = record { host = body.host; port = body.port } }

one_at : (key : List ℕ) (a b : Address) (profile : Profile) → IsAt key a profile → IsAt key b profile → a ≡ b
one_at key a b profile r s = ap address_in (one_body profile (body_of a key) (body_of b key) r.body s.body)

same_addresses :
    (key : List ℕ) (xs ys : List Address) (profiles : List Profile) → AreAt key xs profiles → AreAt key ys profiles → xs ≡ ys
same_addresses key [] [] profiles r s = refl
same_addresses key [] (b ∷ ys) [] r s = absurd s
same_addresses key [] (b ∷ ys) (q ∷ profiles) r s = absurd r
same_addresses key (a ∷ xs) [] [] r s = absurd r
same_addresses key (a ∷ xs) [] (q ∷ profiles) r s = absurd s
same_addresses key (a ∷ xs) (b ∷ ys) [] r s = absurd r
same_addresses key (a ∷ xs) (b ∷ ys) (q ∷ profiles) r s =
    ap₂ (λ x others. x ∷ others) (one_at key a b q r.0 s.0) (same_addresses key xs ys profiles r.1 s.1)

abbrev location_with : List Address → List ℕ → Location
location_with addresses key = record { addresses = addresses; key = key }

one_location : (ior : Ior) (l m : Location) → IsLocated ior l → IsLocated ior m → l ≡ m
one_location ior l m r s =
    let key : l.key ≡ m.key = one_key ior 0 l.key m.key (located_key ior l r) (located_key ior m s) in
    let addresses : l.addresses ≡ m.addresses =
    same_addresses m.key l.addresses m.addresses ior.profiles
    (subst (λ (k : List ℕ). AreAt k l.addresses ior.profiles) key r.profiles) s.profiles in
    ap₂ location_with addresses key

pub one_text : (ior : Ior) (a b : List ℕ) → HasText ior a → HasText ior b → a ≡ b
one_text ior a b r s =
    r.spelled ∙ ap location_text (one_location ior r.location s.location r.located s.located) ∙ sym s.spelled
