use Rattle.std.proofs.Common.{sym, ap, ◌∙◌, codes}
use Rattle.conf_fields.specs.Look.{or_field}
use Rattle.conf_fields.proofs.Entries.{reached_more}
use Rattle.conf_toml.specs.Policies.{policy_after}
use Rattle.conf_toml.proofs.policies.entries.Goals as goal

pub loop-value-preserved : goal.loop-value-preserved
loop-value-preserved c =
    let here = ap (λ found. or_field c.args.at (codes "policies") found) (sym c.word_in.ensures) ∙ c.in_ok-policy.ensures.value in
    rw c.in-Ok.ensures.items
    (reached_more (policy_after c.args.at) c.args.values.now c.loop-value.value-index c.loop-value.list.items c.value-item.result c.in_ok-policy.policy
    c.loop-value-test.true c.value-item.is c.loop-value.invariant here)
