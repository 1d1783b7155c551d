-- The turns one behind the other.
use Rattle.poad_answer.specs.Piece.{server}
use Rattle.poad_answer.proofs.Serves.{serves_more, serves_none, serves_up_to}
use Rattle.poad_answer.proofs.serving.serve.Goals as goal

pub loop-why-init : goal.loop-why-init
loop-why-init g c = record {
  serves = serves_none g.A.Answerer.meaning (server c.args.answerer.now c.args.input.now c.args.replies.now.items);
  fits = c.requires.fits;
}

pub serve_next-requires-clause-client : goal.serve_next-requires-clause-client
serve_next-requires-clause-client g c = (c.requires.client.0, c.loop-why.invariant.serves.first c.requires.client.0 c.requires.client.1)

pub returns-in-Some-clause-served : goal.returns-in-Some-clause-served
returns-in-Some-clause-served g c =
    serves_up_to g.A.Answerer.meaning c.in-Some.why _ _ _ c.loop-why.invariant.fits c.loop-why.invariant.serves c.in-Some.ensures.turns

pub loop-why-preserved : goal.loop-why-preserved
loop-why-preserved g c = record {
  serves = serves_more g.A.Answerer.meaning _ _ _ c.loop-why.invariant.serves c.in_default.ensures.turns;
  fits = c.in_default.ensures.fits;
}
