-- The policies of an adapter in a configuration.
use Rattle.std.specs.Prelude.{ℕ, List, [], codes, Result, Ok, Err}
use Rattle.poa_base.specs.declared.Policy.{Policy}
use Rattle.poa_base.specs.declared.PolicySet.{PolicySet}
use Rattle.poa_policy.specs.Settled.{settled}
use Rattle.poa_policy.specs.declared.InvalidPolicy.{InvalidPolicy}
use Rattle.toml.specs.Data.{Data, Members}
use Rattle.conf_fields.specs.Chain.{◌>>=◌}
use Rattle.conf_fields.specs.Entries.{entries_of}
use Rattle.conf_fields.specs.Look.{or_field, text_in, items_at}
use Rattle.conf_fields.specs.Words.{policy_of}
use Rattle.conf_fields.specs.declared.ConfFault.{ConfFault}
use Rattle.conf_fields.specs.declared.ConfFault.TheVariants as fault
use Rattle.conf_fields.specs.declared.Place.{Place}

-- one word of the list
abbrev pub policy_after : Place → List Policy → Data → Result Policy ConfFault
policy_after at done d = or_field at (codes "policies") (text_in policy_of d)

-- the set that the list settles to, or Policy with the index of the wrong one
abbrev pub or_policy : List (List ℕ) → Result PolicySet InvalidPolicy → Result PolicySet ConfFault
or_policy path (Ok set) = Ok set
or_policy path (Err bad) = Err (fault.Policy path bad.index)

-- the policies of the adapter with the path
unfoldable pub policies_at : Place → List (List ℕ) → Members → Result PolicySet ConfFault
policies_at at path ms = do
  ds ← items_at at (codes "policies") ms
  list ← entries_of (policy_after at) [] ds
  or_policy path (settled list)
