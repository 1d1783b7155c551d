use Rattle.std.proofs.Common.{arith}
use Rattle.poad_load.proofs.Parts.{bits_at, draws_more, id_at, number_at}
use Rattle.poad_load.proofs.playing.play_draws.Goals as goal

pub loop-done-preserved : goal.loop-done-preserved
loop-done-preserved c =
    let i = c.loop-done.done in
    let start = c.args.start in
    record {
      plays = draws_more start i c.loop-done.id c.draw-draw.result.bits c.args.play.now c.loop-done.play c.play_draw.new.play c.loop-done.invariant.id
          (bits_at start i c.loop-done.generator.number c.draw-draw.new.self.number c.draw-draw.result.bits c.loop-done.invariant.number
          c.draw-draw.ensures.number
          c.draw-draw.ensures.draw)
          c.loop-done.invariant.plays c.in_ok-play_draw.ensures;
      number = number_at start i c.loop-done.generator.number c.draw-draw.new.self.number c.loop-done.invariant.number c.draw-draw.ensures.number;
      id = id_at start i c.loop-done.id c.id_behind-id.result c.draw-draw.result.bits c.loop-done.invariant.id
          (bits_at start i c.loop-done.generator.number c.draw-draw.new.self.number c.draw-draw.result.bits c.loop-done.invariant.number
          c.draw-draw.ensures.number
          c.draw-draw.ensures.draw)
          c.id_behind-id.ensures.next;
      few = omega (arith, c.id_behind-id.ensures.most, c.loop-done.invariant.few);
    }
