use Rattle.std.proofs.Common.{not, ◌∙◌}
use Rattle.history_standing.specs.Ends.{is_over}
use Rattle.core_standing.proofs.Exchange.{exchanged}
use Rattle.core_standing.proofs.ends.are_lived_under.Goals as goal

pub returns : goal.returns
returns c = c.are_lived_in.ensures ∙ exchanged (λ a. not (is_over c.args.config.now a)) c.args.nodes.now c.args.path.now c.args.activations.now.kept
