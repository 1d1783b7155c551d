-- The tag of an adapter's persistent references, and whether it still serves those without one.
use Rattle.std.specs.Prelude.{ℕ, Bool, true, ◌==◌, ◌||◌, codes, Result, Ok, if◌then◌else◌}
use Rattle.poa_base.specs.declared.PolicySet.{PolicySet}
use Rattle.poa_base.specs.Policies.{is_persistent}
use Rattle.toml.specs.Data.{Members, as_bool}
use Rattle.conf_fields.specs.Chain.{◌>>=◌}
use Rattle.conf_fields.specs.Look.{with_default, number_in, only_if}
use Rattle.conf_fields.specs.declared.ConfFault.{ConfFault}
use Rattle.conf_fields.specs.declared.Place.{Place}
use Rattle.conf_toml.specs.Rules.{has}

-- the tag, which is above 0 only with PERSISTENT
unfoldable pub tag_at : Place → PolicySet → Members → Result ℕ ConfFault
tag_at at policies ms = do
  tag ← with_default (number_in 0 65535) 0 at (codes "tag") ms
  allowed ← only_if (tag == 0 || is_persistent policies.lifespan) at (codes "tag")
  Ok tag

-- whether references without a tag are served, which is asked only with PERSISTENT
abbrev pub old_keys_given : Place → PolicySet → Members → Result Bool ConfFault
old_keys_given at policies ms = do
  allowed ← only_if (is_persistent policies.lifespan) at (codes "old_keys")
  with_default as_bool true at (codes "old_keys") ms

unfoldable pub old_keys_at : Place → PolicySet → Members → Result Bool ConfFault
old_keys_at at policies ms = if has (codes "old_keys") ms then old_keys_given at policies ms else Ok true
