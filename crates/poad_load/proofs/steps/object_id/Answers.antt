use Rattle.std.proofs.Common.{rules}
use Rattle.poad_load.proofs.Parts.{short_id}
use Rattle.poad_load.proofs.steps.object_id.Goals as goal

pub unwrap-requires : goal.unwrap-requires
unwrap-requires c = c.from_vec.ensures.exact.1 (short_id c.args.draw.bits _ (search rules))
