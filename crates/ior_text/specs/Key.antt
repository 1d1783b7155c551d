-- The object key that a profile or a reference tells.
use Rattle.std.specs.Prelude.{◌≡◌, ℕ, List, Option, Some, MatchOption, slice_get}
use Rattle.poa_base.specs.declared.Ior.{Ior}
use Rattle.poa_base.specs.declared.Profile.{Profile}
use Rattle.ior_text.specs.declared.body.ProfileBody.{ProfileBody}
use Rattle.ior_text.specs.Body.{HasBody}

-- the profile is an IIOP profile with this object key
pub record TellsKey (profile : Profile) (key : List ℕ) : Type 0 where
  pub body : ProfileBody
  pub has : HasBody profile body
  pub is_key : body.key ≡ key

-- the reference has at this index an IIOP profile with this object key
pub record HasKey (ior : Ior) (index : ℕ) (key : List ℕ) : Type 0 where
  pub profile : Profile
  pub stands : slice_get ior.profiles index ≡ Some profile
  pub tells : TellsKey profile key

-- the key that is told so, or none where none is
abbrev pub IsKeyOr : (List ℕ → Type 0) → Option (List ℕ) → Type 0
IsKeyOr Tells found = MatchOption found ((key : List ℕ) → Tells key → ⊥) Tells
