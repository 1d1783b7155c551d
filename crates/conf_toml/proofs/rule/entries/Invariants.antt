use Rattle.std.specs.List.{AllByRecursion}
use Rattle.conf_fields.specs.Numbers.{IsNumber, find_in}
use Rattle.conf_fields.proofs.Entries.{Reached}
use Rattle.poa_policy.specs.Adapters.{GivesWithin}
use Rattle.conf_toml.specs.Rules.{rule_after}
use Rattle.conf_toml.proofs.rule.entries.Given as goal

abbrev pub invariant-loop-j : goal.invariant-loop-j
invariant-loop-j l = record {
  reached : Reached (rule_after l.i (find_in l.servants) l.policies) l.values l.j l.rules.items;
  within : AllByRecursion (λ r. GivesWithin (IsNumber (find_in l.servants)) l.policies r.gives) l.rules.items;
}
