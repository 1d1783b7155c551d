-- The replies were written, and then what stands behind them.
use Rattle.poad_answer.specs.Stop.{last_words}
use Rattle.poad_answer.proofs.Pieces.{hands_part, hands_then}
use Rattle.poad_answer.proofs.closing.write_all.Goals as goal

pub returns-then-not-deliver-clause-held : goal.returns-then-not-deliver-clause-held
returns-then-not-deliver-clause-held g c = hands_part _ _ c.args.replies.now (last_words c.args.minor c.args.why) c.if-not-deliver.ensures.held

pub returns-clause-held : goal.returns-clause-held
returns-clause-held g c =
    hands_then _ _ _ c.args.replies.now (last_words c.args.minor c.args.why) c.write_last.result c.if-not-deliver.ensures.held c.write_last.ensures.held
