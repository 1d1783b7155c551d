use Rattle.ior_text.proofs.OneText.{one_answer}
use Rattle.ior_text.proofs.law.one_answer.Goals as goal

pub returns : goal.returns
returns c = one_answer
