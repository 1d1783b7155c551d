-- The printed form of a reference: its type, and a line or two for each profile. A line ends with LF, 10.
use Rattle.std.specs.Prelude.{◌≡◌, ℕ, ◌+◌, List, [], ◌∷◌, ◌++◌, codes, decimal, ◌⊎◌}
use Rattle.poa_base.specs.declared.Ior.{Ior}
use Rattle.poa_base.specs.declared.Profile.{Profile}
use Rattle.ior_text.specs.declared.ProfileBody.{ProfileBody}
use Rattle.ior_text.specs.Body.{HasBody}
use Rattle.poad_files.specs.Printed.{hexed, printed}
use Rattle.poad_files.specs.KeyLine.{KeyShown}

-- the version and the address of an IIOP profile
abbrev pub body_line : ℕ → ProfileBody → List ℕ
body_line index body =
    (codes "profile " ++ (decimal index ++ (codes " iiop " ++ (decimal body.major ++ (codes "." ++ (decimal body.minor ++ codes " "))))))
    ++ (printed body.host ++ (codes " " ++ (decimal body.port ++ 10 ∷ [])))

-- the tag and the octets of a profile
abbrev pub tag_line : ℕ → Profile → List ℕ
tag_line index profile =
    (codes "profile " ++ (decimal index ++ (codes " tag " ++ (decimal profile.tag ++ codes " ")))) ++ (hexed profile.bytes ++ 10 ∷ [])

-- an IIOP profile that can be read is printed by its body, and then its key
pub record ShowsBody (index : ℕ) (profile : Profile) (text : List ℕ) : Type 0 where
  pub body : ProfileBody
  pub has : HasBody profile body
  pub line : List ℕ
  pub key : KeyShown body.key line
  pub is_text : text ≡ body_line index body ++ line

-- any other profile by its octets
pub record ShowsTag (index : ℕ) (profile : Profile) (text : List ℕ) : Type 0 where
  pub none : (body : ProfileBody) → HasBody profile body → ⊥
  pub is_text : text ≡ tag_line index profile

-- the lines of a profile
abbrev pub ProfileShown : ℕ → Profile → List ℕ → Type 0
ProfileShown index profile text = ShowsBody index profile text ⊎ ShowsTag index profile text

-- the profiles in their order, the first with this index
abbrev pub ProfilesShown : ℕ → List Profile → List ℕ → Type 0
ProfilesShown index [] text = text ≡ []
ProfilesShown index (profile ∷ profiles) text =
    (first : List ℕ) × (others : List ℕ) × ProfileShown index profile first × ProfilesShown (index + 1) profiles others
    × (text ≡ first ++ others)

-- the line of the type id
abbrev pub type_line : List ℕ → List ℕ
type_line type_id = codes "type " ++ (printed type_id ++ 10 ∷ [])

-- the text is the printed form of the reference
pub record Shows (ior : Ior) (text : List ℕ) : Type 0 where
  pub profiles : List ℕ
  pub shown : ProfilesShown 0 ior.profiles profiles
  pub is_text : text ≡ type_line ior.type_id ++ profiles

-- a text of the kind was added at the end
pub record Adds (IsText : List ℕ → Type 0) (before after : List ℕ) : Type 0 where
  pub text : List ℕ
  pub is_text : IsText text
  pub added : after ≡ before ++ text
