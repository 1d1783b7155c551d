-- Where a key stands in a configuration, and how its path is written.
use Rattle.std.specs.Prelude.{ℕ, List, [], ◌++◌, codes, decimal}
use Rattle.conf_fields.specs.declared.place.Place.{Place}
use Rattle.conf_fields.specs.declared.place.Place.TheVariants.{Top, Manager, Servant, Adapter, Rule, Object, Forward}

-- a name with its bracket, an index, and what stands behind it
abbrev pub indexed : List ℕ → ℕ → List ℕ → List ℕ
indexed name i behind = name ++ (decimal i ++ behind)

-- the path of a table, as `adapter[0].rule[1]`
unfoldable pub table_path : Place → List ℕ
table_path Top = []
table_path (Manager i) = indexed (codes "manager[") i (codes "]")
table_path (Servant i) = indexed (codes "servant[") i (codes "]")
table_path (Adapter i) = indexed (codes "adapter[") i (codes "]")
table_path (Rule i j) = indexed (codes "adapter[") i (indexed (codes "].rule[") j (codes "]"))
table_path (Object i) = indexed (codes "object[") i (codes "]")
table_path (Forward i) = indexed (codes "forward[") i (codes "]")

-- the path of a key, as `run` or `adapter[0].rule[1].id`
unfoldable pub key_path : Place → List ℕ → List ℕ
key_path Top key = key
key_path (Manager i) key = indexed (codes "manager[") i (codes "]." ++ key)
key_path (Servant i) key = indexed (codes "servant[") i (codes "]." ++ key)
key_path (Adapter i) key = indexed (codes "adapter[") i (codes "]." ++ key)
key_path (Rule i j) key = indexed (codes "adapter[") i (indexed (codes "].rule[") j (codes "]." ++ key))
key_path (Object i) key = indexed (codes "object[") i (codes "]." ++ key)
key_path (Forward i) key = indexed (codes "forward[") i (codes "]." ++ key)
