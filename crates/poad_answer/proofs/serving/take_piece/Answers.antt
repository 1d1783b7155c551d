-- The piece was fed, or not.
use Rattle.std.proofs.Common.{◌++◌}
use Rattle.session_laws.specs.declared.peer.Peer.TheVariants.{Client}
use Rattle.poad_answer.proofs.Pieces.{piece_refused, piece_served}
use Rattle.poad_answer.proofs.serving.take_piece.Goals as goal

pub returns-in_default-clause-takes : goal.returns-in_default-clause-takes
returns-in_default-clause-takes g c =
    piece_refused g.A.Answerer.meaning c.args.answerer.now c.args.input.now c.feed.new.self c.args.replies.now.items c.args.piece.now c.requires.fits

pub serve-requires-clause-client : goal.serve-requires-clause-client
serve-requires-clause-client g c =
    (c.requires.client.0 ++ c.args.piece.now, c.in-Ok.ensures.first Client c.requires.client.0 c.requires.client.1)

pub returns-clause-takes : goal.returns-clause-takes
returns-clause-takes g c =
    piece_served g.A.Answerer.meaning c.args.answerer.now c.args.input.now c.feed.new.self c.args.replies.now.items c.args.piece.now c.in-Ok.ensures.fed
    c.in-Ok.ensures.first c.in-Ok.ensures.taken c.serve.result _ c.serve.ensures.served
