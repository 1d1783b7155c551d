use Rattle.std.proofs.Common.{[], length}
use Rattle.poa_policy.specs.Adapters.{IsAdapter}
use Rattle.poa_policy.proofs.Each.{each_at}
use Rattle.poa_policy.proofs.laws.adapters_keep_their_rule.Goals as goal

pub returns : goal.returns
returns c = λ config k a keeps here. each_at (IsAdapter (length config.managers) (length config.servants)) [] config.adapters k a keeps.adapters here
