-- What the input knows of the first message.
use Rattle.session_laws.specs.declared.peer.Peer.TheVariants.{Client}
use Rattle.session_laws.proofs.Answers.{if_ok}
use Rattle.poad_answer.proofs.closing.closing_minor.Goals as goal

pub returns-clause-first : goal.returns-clause-first
returns-clause-first c = if_ok c.closing_minor.result _ _ (λ minor told text knows closing. told Client text knows) c.closing_minor.ensures.first
