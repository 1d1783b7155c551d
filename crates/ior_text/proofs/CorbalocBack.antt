-- The text that is written of a reference gives a reference with its location.
use Rattle.std.proofs.Common.{◌≡◌, ◌≢◌, ℕ, ◌+◌, ◌<◌, ◌^◌, true, List, [], ◌∷◌, ◌++◌, length, map, Ok, refl, ◌∙◌, ap, arith, append-nil}
use Rattle.hex.specs.Hex.{IsBytes}
use Rattle.poa_base.specs.declared.Ior.{Ior}
use Rattle.poa_base.specs.declared.Profile.{Profile}
use Rattle.ior_text.specs.declared.address.Address.{Address}
use Rattle.ior_text.specs.declared.location.Location.{Location}
use Rattle.ior_text.specs.Cut.{before}
use Rattle.ior_text.specs.Address.{address_of}
use Rattle.ior_text.specs.AddressText.{is_address, address_text}
use Rattle.ior_text.specs.KeyString.{key_at, key_text}
use Rattle.ior_text.specs.CorbalocProfile.{profile_of}
use Rattle.ior_text.specs.CorbalocText.{scheme, listed_at, location_of, behind_commas, list_text, location_text}
use Rattle.ior_text.specs.Reference.{reference_at, referred, IsAt, AreAt, IsLocated, LeadsBack}
use Rattle.ior_text.proofs.Cutting.{lacks, all_before, none_behind, cut_before, cut_behind, lacks-append}
use Rattle.ior_text.proofs.Numbers.{port_below}
use Rattle.ior_text.proofs.AddressTexts.{parts_of_address, address_lacks, address_back}
use Rattle.ior_text.proofs.Listing.{found_before, one_listed, more_listed}
use Rattle.ior_text.proofs.KeyStrings.{key_back}
use Rattle.ior_text.proofs.Profiles.{profile_back}

-- each address can be written
abbrev AllWritten : List Address → Type 0
AllWritten [] = Unit {0}
AllWritten (address ∷ addresses) = (is_address address ≡ true) × AllWritten addresses

no_comma : (address : Address) → is_address address ≡ true → lacks 44 (address_text address) ≡ true
no_comma address h = address_lacks 44 address h refl refl refl refl refl

no_slash : (address : Address) → is_address address ≡ true → lacks 47 (address_text address) ≡ true
no_slash address h = address_lacks 47 address h refl refl refl refl refl

commas_lack : (addresses : List Address) → AllWritten addresses → lacks 47 (behind_commas addresses) ≡ true
commas_lack [] all = refl
commas_lack (address ∷ addresses) all =
    lacks-append 47 (address_text address) (behind_commas addresses) (no_slash address all.0) (commas_lack addresses all.1)

list_lacks : (addresses : List Address) → AllWritten addresses → lacks 47 (list_text addresses) ≡ true
list_lacks [] all = refl
list_lacks (address ∷ addresses) all =
    lacks-append 47 (address_text address) (behind_commas addresses) (no_slash address all.0) (commas_lack addresses all.1)

-- a list that is written is read as its addresses
list_back :
    (address : Address) (addresses : List Address) → is_address address ≡ true → AllWritten addresses → (at : ℕ) →
    listed_at at (list_text (address ∷ addresses)) ≡ Ok (address ∷ addresses)
list_back address [] h all at =
    let clear = no_comma address h in
    let alone = append-nil (address_text address) in
    ap (listed_at at) alone
    ∙ one_listed at (address_text address) address (ap address_of (all_before 44 (address_text address) clear) ∙ address_back address h)
    (none_behind 44 (address_text address) clear)
list_back address (next ∷ addresses) h all at =
    let clear = no_comma address h in
    let rest : List ℕ = list_text (next ∷ addresses) in
    let text : List ℕ = address_text address ++ 44 ∷ rest in
    more_listed at text rest address (ap address_of (cut_before 44 (address_text address) rest clear) ∙ address_back address h)
    (cut_behind 44 (address_text address) rest clear)
    ∙ ap (found_before (address ∷ [])) (list_back next addresses all.0 all.1 (at + length (before 44 text) + 1))

abbrev location_with : List Address → List ℕ → Location
location_with addresses key = record { addresses = addresses; key = key }

parts_back :
    (list key_string : List ℕ) (addresses : List Address) (key : List ℕ) → lacks 47 list ≡ true →
    listed_at 9 list ≡ Ok addresses → ((at : ℕ) → key_at at key_string ≡ Ok key) →
    location_of (scheme ++ list ++ 47 ∷ key_string) ≡ Ok (location_with addresses key)
parts_back list key_string addresses key clear listed read =
    rw (cut_before 47 list key_string clear, cut_behind 47 list key_string clear, listed, read (9 + length list + 1)) refl

-- a text that is written is read as its location
text_back :
    (address : Address) (addresses : List Address) (key : List ℕ) → is_address address ≡ true → AllWritten addresses →
    IsBytes key →
    location_of (location_text (location_with (address ∷ addresses) key)) ≡ Ok (location_with (address ∷ addresses) key)
text_back address addresses key h all bytes =
    parts_back (list_text (address ∷ addresses)) (key_text key) (address ∷ addresses) key
    (list_lacks (address ∷ addresses) (h, all)) (list_back address addresses h all 9) (key_back key bytes)

-- an address that a profile has is that of the profile which is written of it
one_back : (key : List ℕ) (address : Address) (profile : Profile) → IsAt key address profile → IsAt key address (profile_of address key)
one_back key address profile at =
    let parts = parts_of_address address at.grammar in
    let port : address.endpoint.port < 2 ^ 16 = port_below address.endpoint.port parts.port in
    let long : length key < 2 ^ 32 = at.body.encloses.read.key.spelled.fits in
    record {
      body = profile_back address key (omega (arith, parts.minor)) (omega (arith, parts.short)) port long;
      grammar = at.grammar;
    }

are_back :
    (key : List ℕ) (addresses : List Address) (profiles : List Profile) → AreAt key addresses profiles →
    AreAt key addresses (map (λ address. profile_of address key) addresses)
are_back key [] [] are = tt
are_back key [] (profile ∷ profiles) are = absurd are
are_back key (address ∷ addresses) [] are = absurd are
are_back key (address ∷ addresses) (profile ∷ profiles) are =
    (one_back key address profile are.0, are_back key addresses profiles are.1)

all_written : (key : List ℕ) (addresses : List Address) (profiles : List Profile) → AreAt key addresses profiles → AllWritten addresses
all_written key [] [] are = tt
all_written key [] (profile ∷ profiles) are = absurd are
all_written key (address ∷ addresses) [] are = absurd are
all_written key (address ∷ addresses) (profile ∷ profiles) are =
    (are.0.grammar, all_written key addresses profiles are.1)

leads_by :
    (ior : Ior) (key : List ℕ) (addresses : List Address) (profiles : List Profile) → profiles ≡ ior.profiles →
    profiles ≢ [] → AreAt key addresses profiles → IsLocated ior (location_with addresses key) →
    IsBytes key → LeadsBack ior (location_text (location_with addresses key))
leads_by ior key [] [] is some are located bytes = absurd (some refl)
leads_by ior key [] (profile ∷ profiles) is some are located bytes = absurd are
leads_by ior key (address ∷ addresses) [] is some are located bytes = absurd are
leads_by ior key (address ∷ addresses) (profile ∷ profiles) is some are located bytes =
    let location : Location = location_with (address ∷ addresses) key in
    record {
      location = location;
      located = located;
      given = reference_at location;
      gives = ap referred (text_back address addresses key are.0.grammar (all_written key addresses profiles are.1) bytes);
      same = record { some = λ none. cc; profiles = are_back key (address ∷ addresses) (profile ∷ profiles) are };
    }

pub leads_back : (ior : Ior) (location : Location) → IsLocated ior location → IsBytes location.key → LeadsBack ior (location_text location)
leads_back ior location located bytes =
    leads_by ior location.key location.addresses ior.profiles refl located.some located.profiles located bytes
