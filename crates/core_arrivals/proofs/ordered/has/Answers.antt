use Rattle.std.proofs.Common.{◌∙◌}
use Rattle.core_arrivals.proofs.Numbers.{is_found}
use Rattle.core_arrivals.proofs.ordered.has.Goals as goal

pub returns : goal.returns
returns c = λ up. c.is_ok.ensures.value ∙ is_found c.args.numbers.now.items c.args.number c.binary_search.result up c.binary_search.ensures.position
