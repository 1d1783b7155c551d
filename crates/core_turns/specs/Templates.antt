-- What is asked of a template.
use Rattle.std.specs.Prelude.{◌≡◌}
use Rattle.poa_base.specs.declared.AdapterConf.{AdapterConf}
use Rattle.core_turns.specs.declared.template.Template.{Template}

-- it says what the template does
pub record IsTemplate (a : AdapterConf) (t : Template) : Type 0 where
  pub policies : t.policies ≡ a.policies
  pub manager : t.manager ≡ a.manager
  pub children : t.children ≡ a.children
  pub rules : t.rules.now ≡ a.rules
  pub tag : t.tag ≡ a.tag
  pub old_keys : t.old_keys ≡ a.old_keys
