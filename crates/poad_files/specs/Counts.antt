-- What `check` prints of a configuration: how many there are of each kind.
use Rattle.std.specs.Prelude.{ℕ, suc, ◌+◌, Bool, true, false, if◌then◌else◌, List, [], ◌∷◌, ◌++◌, length, codes, decimal}
use Rattle.poa_base.specs.declared.AdapterConf.{AdapterConf}
use Rattle.poa_base.specs.declared.Config.{Config}

abbrev pub is_root : List (List ℕ) → Bool
is_root [] = true
is_root (n ∷ ns) = false

-- the entries of adapters below the root
abbrev pub below_root : List AdapterConf → ℕ
below_root [] = 0
below_root (a ∷ as') = if is_root a.path then below_root as' else suc (below_root as')

-- a line, with its end
abbrev pub count_line : List ℕ → ℕ → List ℕ
count_line name n = name ++ (codes " " ++ (decimal n ++ codes "\n"))

-- the manager `root` and the root adapter count too, the root once, with or without an entry
abbrev pub counts_text : Config → List ℕ
counts_text c =
    count_line (codes "managers") (length c.managers + 1)
    ++ (count_line (codes "servants") (length c.servants)
    ++ (count_line (codes "adapters") (below_root c.adapters + 1)
    ++ (count_line (codes "objects") (length c.objects)
    ++ count_line (codes "forwards") (length c.forwards))))
