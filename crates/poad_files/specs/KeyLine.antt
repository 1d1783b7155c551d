-- The line of a key. A line ends with LF, 10.
use Rattle.std.specs.Prelude.{◌≡◌, ◌≢◌, ◌==◌, ℕ, List, [], ◌∷◌, ◌++◌, codes, decimal, Option, Some, None, if◌then◌else◌, ◌⊎◌}
use Rattle.std.specs.List.{list_all}
use Rattle.poa_base.specs.declared.Key.{Key}
use Rattle.poa_base.specs.declared.Stamp.{Stamp}
use Rattle.object_key.specs.Spelling.{key_spelling, IsKey}
use Rattle.text_words.specs.Path.{path_text}
use Rattle.poad_files.specs.Printed.{is_plain, hexed}

-- the lifespan, and a transient key's run and adapter
abbrev pub stamp_words : Option Stamp → List ℕ
stamp_words None = codes "key persistent "
stamp_words (Some stamp) = codes "key transient " ++ (decimal stamp.run ++ (codes " " ++ (decimal stamp.number ++ codes " ")))

-- the tag, where the key has one
abbrev pub tag_words : ℕ → List ℕ
tag_words tag = if tag == 0 then [] else codes " tag " ++ decimal tag

-- what is printed of octets in a key's place
abbrev pub hexed_key : List ℕ → List ℕ
hexed_key octets = codes "key " ++ (hexed octets ++ 10 ∷ [])

-- what is printed of a key: its parts, where each name of its path shows
abbrev pub key_line : Key → List ℕ
key_line key =
    if list_all is_plain key.path
    then stamp_words key.stamp ++ (path_text key.path ++ (codes " " ++ (hexed key.oid ++ (tag_words key.tag ++ 10 ∷ []))))
    else hexed_key (key_spelling key)

-- the octets are the spelling of a key, which is printed
pub record ShowsKey (octets line : List ℕ) : Type 0 where
  pub key : Key
  pub is_key : IsKey key
  pub spelled : key_spelling key ≡ octets
  pub is_line : line ≡ key_line key

-- the octets are no key, and are printed themselves
pub record ShowsNoKey (octets line : List ℕ) : Type 0 where
  pub none : (key : Key) → IsKey key → key_spelling key ≢ octets
  pub is_line : line ≡ hexed_key octets

-- the line of octets in a key's place
abbrev pub KeyShown : List ℕ → List ℕ → Type 0
KeyShown octets line = ShowsKey octets line ⊎ ShowsNoKey octets line
