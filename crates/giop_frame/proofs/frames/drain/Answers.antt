use Rattle.std.proofs.Common.{List, subst, sym, ◌∙◌}
use Rattle.giop_frame.specs.declared.next.Next.{Next}
use Rattle.giop_frame.specs.Stream.{Framed}
use Rattle.giop_frame.specs.Framer.{HasGiven, FramerAnswers}
use Rattle.giop_frame.proofs.Cutting.{given_message, given_same, stream_waits, stream_fails_here}
use Rattle.giop_frame.proofs.frames.drain.Goals as goal

pub loop-message-preserved : goal.loop-message-preserved
loop-message-preserved c =
    let f = c.loop-message.framer in
    let took = subst (λ (n : Next). FramerAnswers f n c.next.new.self) c.in-Message.is c.in_ok-message.ensures.answer in (
      (λ limit fed h. subst (λ (ms : List Framed). HasGiven limit fed ms c.next.new.self) (sym c.in_ok-push-in-Message.ensures.items)
          (given_message limit fed c.loop-message.messages.items c.in-Message.message f c.next.new.self (c.loop-message.invariant.0 limit fed h) took)),
      c.next.ensures.reached ∙ c.loop-message.invariant.1,
    )

pub returns-in-NeedMore-clause-given : goal.returns-in-NeedMore-clause-given
returns-in-NeedMore-clause-given c limit fed h =
    let f = c.loop-message.framer in
    let given = c.loop-message.messages.items in
    let waits = subst (λ (n : Next). FramerAnswers f n c.next.new.self) c.in-NeedMore.is c.in_ok-message.ensures.answer in (
      given_same limit fed given f c.next.new.self (c.loop-message.invariant.0 limit fed h) waits.1,
      stream_waits limit fed given c.in-NeedMore.have f c.next.new.self (c.loop-message.invariant.0 limit fed h) waits,
    )

pub returns-in-Bad-clause-given : goal.returns-in-Bad-clause-given
returns-in-Bad-clause-given c limit fed h =
    let f = c.loop-message.framer in
    let given = c.loop-message.messages.items in
    let fails = subst (λ (n : Next). FramerAnswers f n c.next.new.self) c.in-Bad.is c.in_ok-message.ensures.answer in (
      given_same limit fed given f c.next.new.self (c.loop-message.invariant.0 limit fed h) fails.1,
      stream_fails_here limit fed given c.in-Bad.at c.in-Bad.why f c.next.new.self (c.loop-message.invariant.0 limit fed h) fails,
    )
