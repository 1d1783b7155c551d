use Rattle.std.proofs.Common.{[], length}
use Rattle.poa_policy.specs.Objects.{IsObject}
use Rattle.poa_policy.proofs.Each.{each_at}
use Rattle.poa_policy.proofs.laws.objects_keep_their_rule.Goals as goal

pub returns : goal.returns
returns c = λ config k o keeps here. each_at (IsObject config.adapters (length config.servants)) [] config.objects k o keeps.objects here
