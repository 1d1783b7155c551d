use Rattle.poa_base.specs.declared.RuleConf.{RuleConf}
use Rattle.conf_fields.specs.Numbers.{IsNumber, find_in}
use Rattle.conf_fields.proofs.Entries.{reached_more}
use Rattle.poa_policy.specs.Adapters.{GivesWithin}
use Rattle.conf_toml.specs.Rules.{rule_after}
use Rattle.conf_toml.proofs.AdaptersKept.{all_push}
use Rattle.conf_toml.proofs.rule.entries.Goals as goal

pub loop-j-preserved : goal.loop-j-preserved
loop-j-preserved c =
    let inv = c.loop-j.invariant in
    let done = c.loop-j.rules.items in
    let servants = find_in c.args.servants.now in
    rw c.in-Ok.ensures.items (record {
      reached =
          reached_more (rule_after c.args.i servants c.args.policies.now) c.args.values.now c.loop-j.j done c.index-values-j.result c.in_ok-rule.rule
          c.loop-j-test.true c.index-values-j.is inv.reached (rw inv.reached.count c.in_ok-rule.ensures.value);
      within =
          all_push (λ (r : RuleConf). GivesWithin (IsNumber servants) c.args.policies.now r.gives) done c.in_ok-rule.rule inv.within
          c.in_ok-rule.ensures.within;
    })
