use Rattle.std.proofs.Common.{List, ℕ, subst}
use Rattle.poad_files.specs.Taking.{ReadsConfig}
use Rattle.poad_files.proofs.Files.{config_taken}
use Rattle.poad_files.proofs.taking.take_config.Goals as goal

pub returns-in-Ok-clause-taken : goal.returns-in-Ok-clause-taken
returns-in-Ok-clause-taken g c = config_taken c.args.name.now c.in-Ok.content c.config_of.result _ _ c.in-Ok.ensures.taken
    (subst (λ (bytes : List ℕ). ReadsConfig bytes c.config_of.result) c.as_slice.ensures c.config_of.ensures.read)
