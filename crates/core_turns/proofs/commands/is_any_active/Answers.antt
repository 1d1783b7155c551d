use Rattle.std.proofs.Common.{◌∙◌, ◌&&◌}
use Rattle.history_standing.specs.Standings.{is_active, is_of}
use Rattle.core_turns.proofs.Looking.{lent_any}
use Rattle.core_turns.proofs.commands.is_any_active.Goals as goal

pub returns : goal.returns
returns c =
    c.is_some.ensures ∙ lent_any (λ a. is_of c.args.adapter c.args.oid.now a && is_active a) c.args.activations.now.kept c.active_of.result c.active_of.ensures
