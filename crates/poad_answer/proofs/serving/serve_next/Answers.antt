-- What stands next: a call, what asks nothing, or what stops it.
use Rattle.std.proofs.Common.{subst}
use Rattle.session_laws.specs.declared.told.Told.{Told}
use Rattle.session_laws.specs.declared.peer.Peer.TheVariants.{Client}
use Rattle.session_laws.specs.HearingPieces.{AsTold, OfIntake, TakesBytes, unread_of}
use Rattle.poad_answer.proofs.Serves.{next_headed, turn_bad, turn_call, turn_closed, turn_more, turn_nothing, turn_wanting}
use Rattle.poad_answer.proofs.serving.serve_next.Goals as goal

pub returns-in_default-clause-turns : goal.returns-in_default-clause-turns
returns-in_default-clause-turns g c =
    turn_wanting g.A.Answerer.meaning c.args.answerer.now c.args.input.now c.next.new.self c.args.replies.now.items c.next.ensures.taken
    (c.next.ensures.first Client)

pub serve_call-requires-clause-headed : goal.serve_call-requires-clause-headed
serve_call-requires-clause-headed g c =
    let tells = subst (λ (t : Told). AsTold t (OfIntake c.args.input.now) (OfIntake c.next.new.self)) c.in-Call.is c.in-Ok.ensures.told in
    next_headed c.args.input.now c.next.new.self c.in-Call.call c.in-Call.size c.requires.client tells.0

pub serve_call-requires-clause-sized : goal.serve_call-requires-clause-sized
serve_call-requires-clause-sized g c =
    let tells = subst (λ (t : Told). AsTold t (OfIntake c.args.input.now) (OfIntake c.next.new.self)) c.in-Call.is c.in-Ok.ensures.told in
    tells.1

pub returns-in-Call-clause-turns : goal.returns-in-Call-clause-turns
returns-in-Call-clause-turns g c =
    let tells = subst (λ (t : Told). AsTold t (OfIntake c.args.input.now) (OfIntake c.next.new.self)) c.in-Call.is c.in-Ok.ensures.told in
    let fewer = subst (λ (t : Told). TakesBytes t (unread_of c.args.input.now.ear) (unread_of c.next.new.self.ear)) c.in-Call.is c.in-Ok.ensures.shorter in
    turn_call g.A.Answerer.meaning c.args.answerer.now c.args.input.now c.next.new.self c.args.replies.now.items c.next.ensures.taken
    (c.next.ensures.first Client) c.in-Call.call c.in-Call.size tells.0 fewer c.serve_call.result c.serve_call.new.answerer
    c.serve_call.new.replies.items c.serve_call.ensures.done

pub returns-in-Nothing-clause-turns : goal.returns-in-Nothing-clause-turns
returns-in-Nothing-clause-turns g c =
    turn_nothing g.A.Answerer.meaning c.args.answerer.now c.args.input.now c.next.new.self c.args.replies.now.items c.next.ensures.taken
    (c.next.ensures.first Client)
    (subst (λ (t : Told). AsTold t (OfIntake c.args.input.now) (OfIntake c.next.new.self)) c.in-Nothing.is c.in-Ok.ensures.told)
    (subst (λ (t : Told). TakesBytes t (unread_of c.args.input.now.ear) (unread_of c.next.new.self.ear)) c.in-Nothing.is c.in-Ok.ensures.shorter)

pub returns-in-More-clause-turns : goal.returns-in-More-clause-turns
returns-in-More-clause-turns g c =
    let tells = subst (λ (t : Told). AsTold t (OfIntake c.args.input.now) (OfIntake c.next.new.self)) c.in-More.is c.in-Ok.ensures.told in
    turn_more g.A.Answerer.meaning c.args.answerer.now c.args.input.now c.next.new.self c.args.replies.now.items c.next.ensures.taken
    (c.next.ensures.first Client) c.in-More.have tells.0 tells.1

pub returns-in-Closed-clause-turns : goal.returns-in-Closed-clause-turns
returns-in-Closed-clause-turns g c =
    turn_closed g.A.Answerer.meaning c.args.answerer.now c.args.input.now c.next.new.self c.args.replies.now.items c.next.ensures.taken
    (c.next.ensures.first Client)
    (subst (λ (t : Told). AsTold t (OfIntake c.args.input.now) (OfIntake c.next.new.self)) c.in-Closed.is c.in-Ok.ensures.told)

pub returns-in-Bad-clause-turns : goal.returns-in-Bad-clause-turns
returns-in-Bad-clause-turns g c =
    turn_bad g.A.Answerer.meaning c.args.answerer.now c.args.input.now c.next.new.self c.args.replies.now.items c.next.ensures.taken
    (c.next.ensures.first Client) c.in-Bad.at
    (subst (λ (t : Told). AsTold t (OfIntake c.args.input.now) (OfIntake c.next.new.self)) c.in-Bad.is c.in-Ok.ensures.told)
