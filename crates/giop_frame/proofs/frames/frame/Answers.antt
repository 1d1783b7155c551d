use Rattle.std.proofs.Common.{◌≡◌, [], rules, subst, sym}
use Rattle.giop_frame.specs.Framer.{HasGiven}
use Rattle.giop_frame.specs.Frames.{joined_pieces}
use Rattle.giop_frame.proofs.frames.frame.Goals as goal

pub returns : goal.returns
returns c =
    let none : c.new-messages.result.items ≡ [] = search rules in
    let fresh = subst (λ given. HasGiven c.args.limit [] given c.new-framer.result) (sym none) c.new-framer.ensures.stream in
    (c.in_ok-last.ensures.given c.args.limit (joined_pieces c.args.pieces.now) (c.in_ok-feed_pieces.ensures c.args.limit fresh)).1
