use Rattle.core_state.proofs.Answering.{answers}
use Rattle.core_state.proofs.laws.what_is_kept_answers.Goals as goal

pub returns : goal.returns
returns c = answers
