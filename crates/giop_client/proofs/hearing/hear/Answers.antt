-- What the framer says next is what the text says.
use Rattle.std.proofs.Common.{subst}
use Rattle.giop_frame.specs.declared.next.Next.{Next}
use Rattle.giop_frame.specs.Framer.{FramerAnswers}
use Rattle.giop_client.proofs.Hearings.{hears_message, hears_waiting, hears_bad}
use Rattle.giop_client.proofs.hearing.hear.Goals as goal

pub returns-in_ok-said-in-Message-clause-hears : goal.returns-in_ok-said-in-Message-clause-hears
returns-in_ok-said-in-Message-clause-hears c = λ text has counted.
    hears_message c.args.id text c.args.piece.now _ _ c.args.framer.now c.feed.new.self c.next.new.self c.a_framer_goes_on.ensures has
    (record { fed = c.in_ok-feed.ensures.fed })
    (subst (λ (n : Next). FramerAnswers c.feed.new.self n c.next.new.self) c.in-Message.is c.in_ok-next.ensures.answer)
    c.in_ok-said-in-Message.ensures

pub returns-in-NeedMore-clause-hears : goal.returns-in-NeedMore-clause-hears
returns-in-NeedMore-clause-hears c = λ text has counted.
    hears_waiting c.args.id _ c.args.heard text c.args.piece.now _ c.args.framer.now c.feed.new.self c.next.new.self counted c.so_far.ensures.said has
    (record { fed = c.in_ok-feed.ensures.fed })
    (subst (λ (n : Next). FramerAnswers c.feed.new.self n c.next.new.self) c.in-NeedMore.is c.in_ok-next.ensures.answer)

pub returns-in-Bad-clause-hears : goal.returns-in-Bad-clause-hears
returns-in-Bad-clause-hears c = λ text has counted.
    hears_bad c.args.id _ _ text c.args.piece.now c.args.framer.now c.feed.new.self c.next.new.self has
    (record { fed = c.in_ok-feed.ensures.fed })
    (subst (λ (n : Next). FramerAnswers c.feed.new.self n c.next.new.self) c.in-Bad.is c.in_ok-next.ensures.answer)
