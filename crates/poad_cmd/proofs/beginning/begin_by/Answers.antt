use Rattle.command_words.specs.Serving.{seen_serve}
use Rattle.poad_cmd.proofs.Opening.{begins_with, is_unbegun}
use Rattle.poad_cmd.proofs.beginning.begin_by.Goals as goal

pub returns-in-Ok-opening-clause-begins : goal.returns-in-Ok-opening-clause-begins
returns-in-Ok-opening-clause-begins g c = begins_with c.args.words c.in-Ok.config c.in-Ok-opening.store c.begin_with.result _ _ _
    c.in-Ok.ensures.taken c.take_config.ensures.contents c.opening.ensures.contents c.in-Ok-opening.ensures.opens
    c.begin_with.ensures.words c.begin_with.ensures.core c.begin_with.ensures.memory

pub returns-in-Err-opening-clause-begins : goal.returns-in-Err-opening-clause-begins
returns-in-Err-opening-clause-begins g c = is_unbegun (seen_serve c.args.words) c.in-Ok.config c.in-Err-opening.status _ _ _
    c.in-Ok.ensures.taken c.take_config.ensures.contents c.opening.ensures.contents c.in-Err-opening.ensures.opens
