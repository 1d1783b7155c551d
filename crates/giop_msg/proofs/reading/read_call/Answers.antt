-- The answer is the message's, of which there is one.
use Rattle.giop_msg.proofs.Answering.{only_answer, written_answer}
use Rattle.giop_msg.proofs.reading.read_call.Goals as goal

pub returns-clause-only : goal.returns-clause-only
returns-clause-only c =
    only_answer c.args.message.now.bytes c.read_message.result c.read_message.ensures.call c.read_message.ensures.fault

pub returns-clause-back : goal.returns-clause-back
returns-clause-back c =
    written_answer c.args.message.now.bytes c.read_message.result c.read_message.ensures.call c.read_message.ensures.fault
