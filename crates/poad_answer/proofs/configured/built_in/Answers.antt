use Rattle.poad_files.proofs.Accepted.{reads_accepted}
use Rattle.poad_answer.proofs.BuiltIn.{built_in_accepted}
use Rattle.poad_answer.proofs.configured.built_in.Goals as goal

pub returns-clause-read : goal.returns-clause-read
returns-clause-read c = reads_accepted _ built_in_accepted c.config_of.result c.config_of.ensures.read
