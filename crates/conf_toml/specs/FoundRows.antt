-- What the entry of an adapter keeps, as far as reading it tells: by the names that were noted before.
use Rattle.std.specs.Prelude.{◌≡◌, ℕ, ◌≤◌, true, List, [], ◌∷◌, None, length, ◌⊎◌}
use Rattle.std.specs.List.{list_all}
use Rattle.poa_base.specs.declared.AdapterConf.{AdapterConf}
use Rattle.text_words.specs.Name.{is_name}
use Rattle.text_words.specs.Path.{path_text}
use Rattle.conf_fields.specs.Numbers.{Find, IsNumber, place_of}
use Rattle.poa_policy.specs.Adapters.{IsTemplate}
use Rattle.conf_toml.specs.Adapters.{parent_boots, parent_text, adapter_paths}

-- the number of a manager: that of `root`, or one that some name has
abbrev pub IsManagerNumber : Find → ℕ → Type 0
IsManagerNumber managers n = (n ≡ 0) ⊎ IsNumber managers n

-- its managers and servants were found by their names
abbrev pub IsFound : Find → Find → AdapterConf → Type 0
IsFound managers servants a = IsTemplate (IsManagerNumber managers) (IsNumber servants) a

-- the path isn't the root's, and its parent is the root, or an entry listed before that is created at the start
abbrev pub HasParent : Find → List AdapterConf → List (List ℕ) → Type 0
HasParent find done [] = ⊥
HasParent find done (n ∷ ns) = parent_boots find done (parent_text (path_text (n ∷ ns))) ≡ true

pub record IsRead (managers servants paths : Find) (done : List AdapterConf) (a : AdapterConf) : Type 0 where
  pub few : length a.path ≤ 16
  pub named : list_all is_name a.path ≡ true
  pub fresh : paths (path_text a.path) ≡ None
  pub boot : a.boot ≡ true → HasParent paths done a.path
  pub template : IsFound managers servants a

-- after the entries before it
abbrev pub IsReadAfter : Find → Find → List AdapterConf → AdapterConf → Type 0
IsReadAfter managers servants done a = IsRead managers servants (place_of (adapter_paths done)) done a
