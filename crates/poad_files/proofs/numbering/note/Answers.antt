use Rattle.std.proofs.Math.Path.{fun_ext}
use Rattle.poad_files.proofs.numbering.note.Goals as goal

pub returns : goal.returns
returns c = fun_ext (λ q. c.in-Ok.ensures.updates.0 q)
