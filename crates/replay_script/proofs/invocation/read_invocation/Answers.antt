use Rattle.replay_script.proofs.Words.{too_few_words}
use Rattle.replay_script.proofs.invocation.read_invocation.Goals as goal

pub returns-in_default : goal.returns-in_default
returns-in_default c = too_few_words (λ w. w.now) c.args.words.now c.in_default.len_below
