-- The tags that the entries of adapters give.
use Rattle.std.specs.Prelude.{ℕ, nat_eq, if◌then◌else◌, List, [], ◌∷◌, Option, Some, None}
use Rattle.std.specs.Cmp.Lexicographic.{pointwise}
use Rattle.poa_base.specs.declared.AdapterConf.{AdapterConf}

-- the tag of the entry with this path, if there is one
abbrev pub tag_at : List AdapterConf → List (List ℕ) → Option ℕ
tag_at [] path = None
tag_at (a ∷ as') path = if pointwise (pointwise nat_eq) a.path path then Some a.tag else tag_at as' path
