-- What `migrate` makes of a reference: the tag of its adapter's entry comes into each key.
use Rattle.std.specs.Prelude.{◌≡◌, ℕ, ◌≤◌, not, ◌&&◌, is_none, if◌then◌else◌, List, [], ◌∷◌, Option, Some, None, ◌⊎◌}
use Rattle.poa_base.specs.declared.Config.{Config}
use Rattle.poa_base.specs.declared.Ior.{Ior}
use Rattle.poa_base.specs.declared.Key.{Key}
use Rattle.poa_base.specs.declared.Profile.{Profile}
use Rattle.object_key.specs.Spelling.{key_spelling, IsKey}
use Rattle.ior_text.specs.declared.ProfileBody.{ProfileBody}
use Rattle.ior_text.specs.declared.ProfileParts.{ProfileParts}
use Rattle.ior_text.specs.Body.{HasBody}
use Rattle.ior_text.specs.Parts.{HasParts, profile_with, with_key}
use Rattle.poad_files.specs.Counts.{is_root}
use Rattle.poad_files.specs.Tags.{tag_at}

-- the tag that a key gets: that of the entry for its path, where the key is persistent and not of the root
abbrev pub new_tag : Config → Key → Option ℕ
new_tag c key = if is_none key.stamp && not (is_root key.path) then tag_at c.adapters key.path else None

-- a body of version 1.0 to 1.2 whose octets spell a key that gets this tag
pub record Moves (c : Config) (body : ProfileBody) (key : Key) (tag : ℕ) : Type 0 where
  pub major : body.major ≡ 1
  pub minor : body.minor ≤ 2
  pub is_key : IsKey key
  pub spelled : key_spelling key ≡ body.key
  pub tagged : new_tag c key ≡ Some tag

-- the key with this tag
abbrev pub retagged : Key → ℕ → Key
retagged key tag = record key { tag = tag }

-- all that the profile says, but with this tag in its key
abbrev pub moved_parts : Key → ℕ → ProfileParts → ProfileParts
moved_parts key tag parts = with_key (key_spelling (retagged key tag)) parts

-- such a profile is written anew: its version, its host, its port and its components stay, and its key has the tag
pub record IsAnew (c : Config) (profile new : Profile) : Type 0 where
  pub parts : ProfileParts
  pub key : Key
  pub tag : ℕ
  pub has : HasParts profile parts
  pub moves : Moves c parts.body key tag
  pub is : new ≡ profile_with (moved_parts key tag parts)
  pub says : HasParts new (moved_parts key tag parts)

-- any other stays byte for byte
pub record Stays (c : Config) (profile new : Profile) : Type 0 where
  pub none : (body : ProfileBody) (key : Key) (tag : ℕ) → HasBody profile body → Moves c body key tag → ⊥
  pub same : new ≡ profile

abbrev pub ProfileMigrated : Config → Profile → Profile → Type 0
ProfileMigrated c profile new = IsAnew c profile new ⊎ Stays c profile new

abbrev pub AreMigrated : Config → List Profile → List Profile → Type 0
AreMigrated c [] new = new ≡ []
AreMigrated c (p ∷ ps) [] = ⊥
AreMigrated c (p ∷ ps) (q ∷ qs) = ProfileMigrated c p q × AreMigrated c ps qs

-- the type id stays, and so does the order of the profiles
pub record IsMigrated (c : Config) (ior migrated : Ior) : Type 0 where
  pub type_id : migrated.type_id ≡ ior.type_id
  pub profiles : AreMigrated c ior.profiles migrated.profiles

-- the octets spell, with the tag that it gets, the key that the body's octets spell
pub record MovesTo (c : Config) (body : ProfileBody) (octets : List ℕ) : Type 0 where
  pub key : Key
  pub tag : ℕ
  pub moves : Moves c body key tag
  pub is : octets ≡ key_spelling (retagged key tag)

-- the same of the key itself
pub record TagsTo (c : Config) (key : Key) (octets : List ℕ) : Type 0 where
  pub tag : ℕ
  pub tagged : new_tag c key ≡ Some tag
  pub is : octets ≡ key_spelling (retagged key tag)
