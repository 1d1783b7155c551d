use Rattle.std.proofs.Common.{◌∙◌, arith}
use Rattle.poad_files.proofs.Moving.{key_moved}
use Rattle.poad_files.proofs.migration.moved_key.Goals as goal

pub returns-in-Ok : goal.returns-in-Ok
returns-in-Ok c =
    key_moved c.args.config.now c.args.body.now c.in-Ok.key c.retagged.result (omega arith) (omega arith) c.in-Ok.ensures.spelled.0
    (c.in-Ok.ensures.spelled.1 ∙ c.as_slice.ensures) c.retagged.ensures
