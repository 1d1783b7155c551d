use Rattle.std.proofs.Common.{rules}
use Rattle.std.specs.Prelude.{◌==◌, not}
use Rattle.std.proofs.lemmas.Fn.{filter_same}
use Rattle.core_standing.proofs.flying.take_off.Goals as goal

pub returns : goal.returns
returns c = filter_same _ (λ f. not (f.arrival == c.args.arrival)) _ (λ x b f' k. search rules) _ _ c.retain.ensures.filtered
