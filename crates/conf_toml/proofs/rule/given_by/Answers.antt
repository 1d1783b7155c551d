use Rattle.conf_fields.specs.Numbers.{find_in}
use Rattle.conf_toml.proofs.rule.given_by.Goals as goal

pub returns-in-Fresh-clause-within : goal.returns-in-Fresh-clause-within
returns-in-Fresh-clause-within c = c.fresh_at.ensures.within (find_in c.args.servants.now)

pub returns-in-Servant-clause-within : goal.returns-in-Servant-clause-within
returns-in-Servant-clause-within c = c.servant_given.ensures.within c.args.policies.now

pub returns-in-Forward-clause-within : goal.returns-in-Forward-clause-within
returns-in-Forward-clause-within c = c.forward_given.ensures.within (find_in c.args.servants.now) c.args.policies.now

pub returns-in-Raise-clause-within : goal.returns-in-Raise-clause-within
returns-in-Raise-clause-within c = c.raise_given.ensures.within (find_in c.args.servants.now) c.args.policies.now
