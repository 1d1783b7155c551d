-- The text of the configuration is one: it is computed.
use Rattle.std.proofs.Common.{refl}
use Rattle.poad_files.specs.Taking.{IsAccepted}
use Rattle.poad_files.proofs.Accepted.{accepted, config_on_literals}
use Rattle.poad_load.specs.declared.loading.TheConstants.{CONFIGURATION}

pub configuration_accepted : IsAccepted CONFIGURATION.now
unfolding config_on_literals
configuration_accepted = accepted CONFIGURATION.now (CONFIGURATION.now, (refl, refl)) refl
