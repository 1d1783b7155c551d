-- The built-in text is a configuration: it is computed.
use Rattle.std.proofs.Common.{refl}
use Rattle.poad_files.specs.Taking.{IsAccepted}
use Rattle.poad_files.proofs.Accepted.{accepted, config_on_literals}
use Rattle.poad_answer.specs.declared.configured.TheConstants.{BUILT_IN}

pub built_in_accepted : IsAccepted BUILT_IN.now
unfolding config_on_literals
built_in_accepted = accepted BUILT_IN.now (BUILT_IN.now, (refl, refl)) refl
