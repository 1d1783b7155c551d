-- The parts that complete no message keep the first one, and what is answered then is noted.
use Rattle.std.proofs.Common.{Option, subst}
use Rattle.std.specs.Prelude.{MatchOption, ⊤}
use Rattle.giop_frame.specs.declared.next.Next.{Next}
use Rattle.giop_frame.specs.Framer.{FramerAnswers, JoinsPart, KeepsFirst}
use Rattle.giop_frame.proofs.First.{first_kept, first_behind}
use Rattle.giop_frame.proofs.framer.Framer.next.Goals as goal

pub returns-in-Some-2-clause-first : goal.returns-in-Some-2-clause-first
returns-in-Some-2-clause-first c = λ limit fed knows.
    (let f = c.loop-next.self in
    let g = c.step.new.self in
    let answers = subst (λ (o : Option Next). MatchOption o (JoinsPart f g) (λ a. FramerAnswers f a g)) c.in-Some-2.is c.in_ok-next.ensures.answer in
    let noted = subst (λ (o : Option Next). MatchOption o ⊤ (λ a. KeepsFirst f a g)) c.in-Some-2.is c.in_ok-next.ensures.first in
    let before = first_kept limit fed c.args.self.now f knows c.loop-next.invariant.0 c.loop-next.invariant.5 in
    first_behind limit fed f g before c.in-Some-2.next answers noted)
