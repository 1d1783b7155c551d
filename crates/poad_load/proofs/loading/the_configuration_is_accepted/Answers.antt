use Rattle.poad_load.proofs.Configured.{configuration_accepted}
use Rattle.poad_load.proofs.loading.the_configuration_is_accepted.Goals as goal

pub returns : goal.returns
returns c = configuration_accepted
