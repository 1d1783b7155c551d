-- The entries that were read, and their names.
use Rattle.std.proofs.Common.{◌≡◌, ◌==◌, List, [], ◌∷◌, ◌++◌, length, codes, refl, ap, arith}
use Rattle.std.proofs.lemmas.Bool.Decides.{nat_tests}
use Rattle.toml.specs.declared.value.Value.{Value}
use Rattle.toml.specs.View.{items_view}
use Rattle.poa_base.specs.declared.ManagerConf.{ManagerConf}
use Rattle.poa_base.specs.declared.ServantConf.{ServantConf}
use Rattle.poa_base.specs.declared.AdapterConf.{AdapterConf}
use Rattle.conf_fields.proofs.Finds.{map-last}
use Rattle.text_words.specs.Path.{path_text}
use Rattle.conf_toml.specs.Managers.{manager_names}
use Rattle.conf_toml.specs.Servants.{servant_names}
use Rattle.conf_toml.specs.Adapters.{adapter_paths}
use Rattle.conf_toml.specs.Rules.{is_empty}

pub emptiness : (vs : List Value) → is_empty (items_view vs) ≡ (length vs == 0)
emptiness [] = refl
emptiness (v ∷ vs) = grind (arith, nat_tests)

pub manager_names_more : (done : List ManagerConf) (m : ManagerConf) → manager_names (done ++ m ∷ []) ≡ manager_names done ++ m.name ∷ []
manager_names_more done m = ap (λ names. codes "root" ∷ names) (map-last (λ x. x.name) done m)

pub servant_names_more : (done : List ServantConf) (s : ServantConf) → servant_names (done ++ s ∷ []) ≡ servant_names done ++ s.name ∷ []
servant_names_more done s = map-last (λ x. x.name) done s

pub adapter_paths_more : (done : List AdapterConf) (a : AdapterConf) → adapter_paths (done ++ a ∷ []) ≡ adapter_paths done ++ path_text a.path ∷ []
adapter_paths_more done a = map-last (λ x. path_text x.path) done a
