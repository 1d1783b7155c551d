use Rattle.std.proofs.Common.{◌≡◌, ◌+◌, ◌<◌, ◌++◌, ℕ, List, [], length, get_or, take, ap, subst, sym, ◌∙◌, arith, length-append}
use Rattle.std.specs.Borrow.{Bor}
use Rattle.std.proofs.lemmas.List.{take_all, take_more, flat_map_more}
use Rattle.std.proofs.lemmas.List.Folds.{length-flat_map-take}
use Rattle.giop_frame.specs.Framer.{HasGiven}
use Rattle.giop_frame.specs.Frames.{joined_pieces}
use Rattle.giop_frame.proofs.Cutting.{given_fed}
use Rattle.giop_frame.proofs.frames.feed_pieces.Goals as goal

joined_pieces-more : (pieces : List (Bor (List ℕ))) (i : ℕ) (d : Bor (List ℕ)) → i < length pieces
    → joined_pieces (take (i + 1) pieces) ≡ joined_pieces (take i pieces) ++ (get_or pieces i d).now
joined_pieces-more pieces i d h =
    ap joined_pieces (take_more pieces i d h) ∙ sym (flat_map_more (λ (p : Bor (List ℕ)). p.now) [] (take i pieces) (get_or pieces i d))

pub feed-requires : goal.feed-requires
feed-requires c =
    let fits =
    length-flat_map-take (λ (p : Bor (List ℕ)). p.now) c.args.pieces.now c.loop-piece.piece-index
    (record { ref_ptr = (0, 0); now = [] }) c.loop-piece-test.true in
    omega (arith, fits, c.drain.ensures.reached, c.loop-piece.invariant.1)

pub loop-piece-preserved : goal.loop-piece-preserved
loop-piece-preserved c =
    let i = c.loop-piece.piece-index in
    let fed = joined_pieces (take i c.args.pieces.now) in
    let piece = (get_or c.args.pieces.now i (record { ref_ptr = (0, 0); now = [] })).now in
    let more : joined_pieces (take (i + 1) c.args.pieces.now) ≡ fed ++ piece =
    joined_pieces-more c.args.pieces.now i (record { ref_ptr = (0, 0); now = [] }) c.loop-piece-test.true in (
      (λ limit fresh.
          let drained = (c.in_ok-drain.ensures.given limit fed (c.loop-piece.invariant.0 limit fresh)).0 in
          subst (λ (t : List ℕ). HasGiven limit t c.drain.new.messages.items c.feed.new.self) (sym more)
          (given_fed limit fed piece c.drain.new.messages.items c.drain.new.framer c.feed.new.self drained c.in_ok-feed.ensures.fed)),
      omega (arith, c.feed.ensures.reached, c.drain.ensures.reached, c.loop-piece.invariant.1, ap length more, length-append fed piece),
    )

pub returns : goal.returns
returns c = λ limit fresh.
    (let whole : take c.loop-piece.piece-index c.args.pieces.now ≡ c.args.pieces.now =
    take_all c.loop-piece.piece-index c.args.pieces.now (omega arith) in
    subst (λ pieces. HasGiven limit (joined_pieces pieces) c.loop-piece.messages.items c.loop-piece.framer) whole (c.loop-piece.invariant.0 limit fresh))
