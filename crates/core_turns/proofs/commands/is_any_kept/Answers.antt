use Rattle.std.proofs.Common.{◌∙◌, ◌&&◌, not}
use Rattle.history_standing.specs.Ends.{is_over}
use Rattle.history_standing.specs.Standings.{is_of}
use Rattle.core_turns.proofs.Looking.{lent_any}
use Rattle.core_turns.proofs.commands.is_any_kept.Goals as goal

pub returns : goal.returns
returns c =
    c.is_some.ensures ∙ lent_any (λ a. is_of c.args.adapter c.args.oid.now a && not (is_over c.args.config.now a)) c.args.activations.now.kept
    c.live_of.result c.live_of.ensures
