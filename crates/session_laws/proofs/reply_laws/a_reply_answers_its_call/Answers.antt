use Rattle.session_laws.proofs.Answering.{message_headed, reply_answers}
use Rattle.session_laws.proofs.reply_laws.a_reply_answers_its_call.Goals as goal

pub returns-clause-headed : goal.returns-clause-headed
returns-clause-headed c = message_headed

pub returns-clause-answers : goal.returns-clause-answers
returns-clause-answers c = reply_answers
