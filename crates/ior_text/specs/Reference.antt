-- The reference of a corbaloc text, and the corbaloc text of a reference.
use Rattle.std.specs.Prelude.{◌≡◌, ◌≢◌, ⊤, ℕ, true, List, [], ◌∷◌, map, Result, Ok, Err}
use Rattle.poa_base.specs.declared.Ior.{Ior}
use Rattle.poa_base.specs.declared.Profile.{Profile}
use Rattle.ior_text.specs.Body.{HasBody}
use Rattle.ior_text.specs.declared.address.Address.{Address}
use Rattle.ior_text.specs.declared.location.Location.{Location}
use Rattle.ior_text.specs.declared.corbaloc_fault.LocFault.{LocFault}
use Rattle.ior_text.specs.AddressText.{is_address}
use Rattle.ior_text.specs.CorbalocProfile.{body_of, profile_of}
use Rattle.ior_text.specs.CorbalocText.{location_of, location_text}

-- an empty type id, and a profile for each address
abbrev pub reference_at : Location → Ior
reference_at location = record { type_id = []; profiles = map (λ address. profile_of address location.key) location.addresses }

abbrev pub referred : Result Location LocFault → Result Ior LocFault
referred (Ok location) = Ok (reference_at location)
referred (Err fault) = Err fault

-- the reference that a text gives, or its first fault
abbrev pub reference_of : List ℕ → Result Ior LocFault
reference_of text = referred (location_of text)

-- the profile is an IIOP profile of an address that can be written, with this key
pub record IsAt (key : List ℕ) (address : Address) (profile : Profile) : Type 0 where
  pub body : HasBody profile (body_of address key)
  pub grammar : is_address address ≡ true

-- the profiles are those of the addresses, in order
abbrev pub AreAt : List ℕ → List Address → List Profile → Type 0
AreAt key [] [] = ⊤
AreAt key [] (profile ∷ profiles) = ⊥
AreAt key (address ∷ addresses) [] = ⊥
AreAt key (address ∷ addresses) (profile ∷ profiles) = IsAt key address profile × AreAt key addresses profiles

-- the reference has this location: one profile at least, all of them IIOP profiles with the one key
pub record IsLocated (ior : Ior) (location : Location) : Type 0 where
  pub some : ior.profiles ≢ []
  pub profiles : AreAt location.key location.addresses ior.profiles

-- the text is written of the reference
pub record HasText (ior : Ior) (text : List ℕ) : Type 0 where
  pub location : Location
  pub located : IsLocated ior location
  pub spelled : text ≡ location_text location

-- the text gives a reference with the versions, the endpoints and the key of this one, in order
pub record LeadsBack (ior : Ior) (text : List ℕ) : Type 0 where
  pub location : Location
  pub located : IsLocated ior location
  pub given : Ior
  pub gives : reference_of text ≡ Ok given
  pub same : IsLocated given location
