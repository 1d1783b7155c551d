use Rattle.conf_fields.proofs.Entries.{Reached}
use Rattle.conf_toml.specs.Policies.{policy_after}
use Rattle.conf_toml.proofs.policies.entries.Given as goal

abbrev pub invariant-loop-value : goal.invariant-loop-value
invariant-loop-value l = Reached (policy_after l.at) l.values l.value-index l.list.items
