use Rattle.std.proofs.Common.{[], subst}
use Rattle.giop_frame.specs.Framer.{FramerAnswers}
use Rattle.session_laws.specs.Hearing.{message_limit}
use Rattle.session_laws.proofs.Messages.{framer_bad}
use Rattle.session_laws.proofs.Answers.{if_ok, told_message}
use Rattle.session_laws.proofs.ear.next_message.Goals as goal

pub returns-in-Message-clause-told : goal.returns-in-Message-clause-told
returns-in-Message-clause-told c =
    if_ok c.read.result _ _
    (λ t asks. told_message c.args.framer.now c.next.new.self c.in-Message.message t
    (subst (λ n. FramerAnswers c.args.framer.now n c.next.new.self) c.in-Message.is c.in_ok-message.ensures.answer) asks)
    c.read.ensures

pub returns-in-Bad-clause-told : goal.returns-in-Bad-clause-told
returns-in-Bad-clause-told c = λ next.
    framer_bad c.args.framer.now c.next.new.self c.in-Bad.at c.in-Bad.why next
    (subst (λ n. FramerAnswers c.args.framer.now n c.next.new.self) c.in-Bad.is c.in_ok-message.ensures.answer)

pub returns-in-Bad-clause-first : goal.returns-in-Bad-clause-first
returns-in-Bad-clause-first c = c.next.ensures.first message_limit
