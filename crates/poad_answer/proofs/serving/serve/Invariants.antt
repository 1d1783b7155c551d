use Rattle.session_laws.specs.HearingPieces.{unread_of}
use Rattle.poad_answer.specs.Piece.{server}
use Rattle.poad_answer.proofs.Serves.{ServesSome}
use Rattle.poad_answer.proofs.serving.serve.Given as goal

abbrev pub invariant-loop-why : goal.invariant-loop-why
invariant-loop-why g l = record {
  serves : ServesSome g.A.Answerer.meaning (server l.initial.answerer l.initial.input l.initial.replies.items) (server l.answerer l.input l.replies.items);
  fits : g.A.Answerer.meaning.fits l.answerer;
}

abbrev pub decreases-loop-why : goal.decreases-loop-why
decreases-loop-why g l = unread_of l.input.ear
