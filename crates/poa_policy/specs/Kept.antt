-- The rules that every configuration keeps.
use Rattle.std.specs.Prelude.{◌≡◌, ◌≢◌, ◌≤◌, true, List, [], length, codes}
use Rattle.poa_base.specs.declared.limits.TheConstants.{OBJECTS}
use Rattle.poa_base.specs.declared.Config.{Config}
use Rattle.poa_base.specs.declared.ForwardConf.{ForwardConf}
use Rattle.poa_base.specs.declared.ManagerConf.{ManagerConf}
use Rattle.poa_base.specs.declared.ServantConf.{ServantConf}
use Rattle.std.specs.List.{list_all}
use Rattle.text_words.specs.Name.{is_name}
use Rattle.poa_policy.specs.Entries.{EachAfter, IsNew}
use Rattle.poa_policy.specs.Adapters.{IsAdapter, IsEndpoint}
use Rattle.poa_policy.specs.Objects.{IsObject}

-- `root` is there already
pub record IsManager (done : List ManagerConf) (m : ManagerConf) : Type 0 where
  pub named : is_name m.name ≡ true
  pub other : m.name ≢ codes "root"
  pub new : IsNew (λ x. x.name) done m

pub record IsServant (done : List ServantConf) (s : ServantConf) : Type 0 where
  pub named : is_name s.name ≡ true
  pub new : IsNew (λ x. x.name) done s

pub record IsForward (done : List ForwardConf) (f : ForwardConf) : Type 0 where
  pub few : length f.path ≤ 16
  pub named : list_all is_name f.path ≡ true
  pub new : IsNew (λ x. x.path) done f
  pub endpoint : IsEndpoint f.endpoint

-- the limits on the numbers of entries
pub record AreFew (c : Config) : Type 0 where
  pub managers : length c.managers ≤ 1024
  pub servants : length c.servants ≤ 1024
  pub adapters : length c.adapters ≤ 1024
  pub objects : length c.objects ≤ OBJECTS
  pub forwards : length c.forwards ≤ 1024

pub record KeepsRules (c : Config) : Type 0 where
  pub endpoint : IsEndpoint (record { host = c.host; port = c.port })
  pub admin_port : 1 ≤ c.admin_port
  pub gate : c.gate_ms ≤ 10000
  pub few : AreFew c
  pub managers : EachAfter IsManager [] c.managers
  pub servants : EachAfter IsServant [] c.servants
  pub adapters : EachAfter (IsAdapter (length c.managers) (length c.servants)) [] c.adapters
  pub objects : EachAfter (IsObject c.adapters (length c.servants)) [] c.objects
  pub forwards : EachAfter IsForward [] c.forwards
