use Rattle.std.proofs.Common.{length, sym, ap, ◌∙◌}
use Rattle.history_standing.specs.Arrivals.{arrivals}
use Rattle.history_standing.specs.Stages.{is_unadmitted}
use Rattle.poa_history.proofs.Numbers.{counted}
use Rattle.core_arrivals.proofs.queue.count.Goals as goal

pub returns : goal.returns
returns c = λ h is. (c.len.ensures ∙ c.args.queue.now.unadmitted.ok.0) ∙ (ap length is.unadmitted_are ∙ sym (counted (is_unadmitted h) (arrivals h)))
