use Rattle.std.proofs.Common.{refl}
use Rattle.poa_base.specs.declared.Entry.TheVariants.{Filled}
use Rattle.core_run.proofs.Quieted.{quiet_where}
use Rattle.core_run.proofs.Filling.{filled_room, filled_kept}
use Rattle.core_run.proofs.arriving.fill.Goals as goal

pub quiet-requires-clause-room : goal.quiet-requires-clause-room
quiet-requires-clause-room c = filled_room c.args.conn c.args.size c.args.inside.now c.requires.kept c.requires.may

pub quiet-requires-clause-quiet : goal.quiet-requires-clause-quiet
quiet-requires-clause-quiet c =
    quiet_where (Filled c.args.conn c.args.size) c.args.inside.now c.requires.kept.agrees c.requires.may refl
    (λ fs filed. record { which = filed.which; each = filed.each })

pub returns-clause-kept : goal.returns-clause-kept
returns-clause-kept c =
    filled_kept c.args.conn c.args.size c.args.inside.now c.requires.kept c.requires.may c.quiet.new.inside c.quiet.ensures
