-- The text that was heard, piece by piece.
use Rattle.std.proofs.Common.{◌≡◌, ◌<◌, ◌+◌, Option, length, take, refl, arith, subst}
use Rattle.std.specs.Prelude.{IfNone}
use Rattle.giop_client.specs.declared.hop.Hop.{Hop}
use Rattle.giop_client.specs.declared.hearing.TheConstants.{READ_LIMIT}
use Rattle.giop_client.proofs.Listened.{SaysBehind, heard_none, heard_more, listens_said, listens_without, piece_length}
use Rattle.giop_client.proofs.listening.listen.Goals as goal

pub loop-quiets-init : goal.loop-quiets-init
loop-quiets-init g c = (
  heard_none c.args.id (g.L.Link.shown c.args.link.now) c.new-framer.result c.new-framer.ensures.stream,
  (omega arith, c.new-framer.ensures.limited, omega (arith, c.new-framer.ensures.nothing_fed)),
  ((λ some. absurd (omega (arith, some))), omega arith),
)

pub loop-quiets-preserved-in-Ok-None : goal.loop-quiets-preserved-in-Ok-None
loop-quiets-preserved-in-Ok-None g c =
    let now = c.loop-quiets.heard + c.in-Got.count in
    let front : c.front-piece.result.now ≡ take c.in-Got.count c.read_front.new.buffer = c.front-piece.ensures in
    let sized = piece_length c.in-Got.count c.read_front.new.buffer c.front-piece.result.now front
    (omega (arith, c.in-Got.ensures.within.1, c.in-Got.ensures.len)) in
    let more : IfNone c.in-Ok-None.field-0 (now < READ_LIMIT) = c.in-Ok-None.ensures.more in (
      heard_more c.args.id (g.L.Link.shown c.args.link.now) (g.L.Link.shown c.loop-quiets.link) (g.L.Link.shown c.read_front.new.link)
          c.loop-quiets.framer c.hear.new.framer c.loop-quiets.heard now c.in-Got.count c.read_front.new.buffer
          c.front-piece.result.now c.loop-quiets.invariant.0 front (omega (arith, c.in-Got.ensures.within.1, c.in-Got.ensures.len)) refl
          c.in-Got.ensures.bytes
          (subst (λ (o : Option Hop). SaysBehind c.args.id now c.loop-quiets.framer c.front-piece.result.now o c.hear.new.framer) c.in-Ok-None.field-0-is
          c.in-Ok-None.ensures.hears),
      (
        subst (λ (o : Option Hop). IfNone o (now < READ_LIMIT)) c.in-Ok-None.field-0-is more,
        c.in-Ok-None.ensures.limit,
        omega (arith, c.in-Ok-None.ensures.reached, c.loop-quiets.invariant.1.2, sized),
      ),
      ((λ some. omega (arith, c.loop-quiets.invariant.2.0 some, c.in-Got.ensures.quiet.later)), c.loop-quiets.invariant.2.1),
    )

pub returns-in-Ok-Some-clause-listens : goal.returns-in-Ok-Some-clause-listens
returns-in-Ok-Some-clause-listens g c =
    let now = c.loop-quiets.heard + c.in-Got.count in
    let front : c.front-piece.result.now ≡ take c.in-Got.count c.read_front.new.buffer = c.front-piece.ensures in
    listens_said c.args.id (g.L.Link.shown c.args.link.now) (g.L.Link.shown c.loop-quiets.link) (g.L.Link.shown c.read_front.new.link)
    c.loop-quiets.framer c.hear.new.framer c.loop-quiets.heard now c.in-Got.count c.read_front.new.buffer
    c.front-piece.result.now c.in-Ok-Some.said c.by.result c.loop-quiets.invariant.0 front
    (omega (arith, c.in-Got.ensures.within.1, c.in-Got.ensures.len)) refl c.in-Got.ensures.bytes
    (subst (λ (o : Option Hop). SaysBehind c.args.id now c.loop-quiets.framer c.front-piece.result.now o c.hear.new.framer) c.in-Ok-Some.field-0-is
    c.in-Ok-Some.ensures.hears)
    c.by.ensures

pub returns-in-Err-clause-listens : goal.returns-in-Err-clause-listens
returns-in-Err-clause-listens g c =
    listens_without c.args.id (g.L.Link.shown c.args.link.now) (g.L.Link.shown c.loop-quiets.link) (g.L.Link.shown c.read_front.new.link)
    c.loop-quiets.framer c.loop-quiets.heard _ c.loop-quiets.invariant.0 c.in-Got.ensures.bytes
