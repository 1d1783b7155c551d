use Rattle.poad_files.proofs.Accepted.{reads_accepted}
use Rattle.poad_load.proofs.Configured.{configuration_accepted}
use Rattle.poad_load.proofs.loading.configuration.Goals as goal

pub returns-clause-read : goal.returns-clause-read
returns-clause-read c = reads_accepted _ configuration_accepted c.config_of.result c.config_of.ensures.read
