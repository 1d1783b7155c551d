-- The source between two pieces, and each of its ends.
use Rattle.std.proofs.Common.{take, refl, subst, arith}
use Rattle.std.proofs.lemmas.List.{length-take-le}
use Rattle.poad_answer.specs.declared.end.End.{End}
use Rattle.poad_answer.specs.declared.stop.Stop.{Stop}
use Rattle.poad_answer.specs.Closing.{Closes, EndsAt}
use Rattle.poad_answer.specs.Piece.{TakesPiece, server}
use Rattle.poad_files.proofs.Causes.{cause_still, cause_from}
use Rattle.poad_answer.proofs.Running.{never_read, run_starts, run_still, run_goes_on, run_ends, run_fails, run_limited, run_finished, run_refused, run_unwritten, piece_same, end_still, end_left, cut_piece}
use Rattle.poad_answer.proofs.source.serve_source.Goals as goal

pub returns-in_default-clause-serves : goal.returns-in_default-clause-serves
returns-in_default-clause-serves g c = run_refused g.A.Answerer.meaning _ _ _ c.requires.fits

pub loop-taken-init : goal.loop-taken-init
loop-taken-init g c = record {
  runs = run_starts g.A.Answerer.meaning _ _ c.args.answerer.now c.new-input.result c.new-replies.result.items c.requires.fits c.new-input.ensures.expects
      c.new-input.ensures.first c.new-input.ensures.taken c.new-replies.ensures.items;
  within = omega arith;
  room_is = c.in-Ok.ensures.len;
  reads = omega arith;
  writes = omega arith;
  patient = c.requires.patient;
}

pub returns-in_default-waiting-clause-serves : goal.returns-in_default-waiting-clause-serves
returns-in_default-waiting-clause-serves g c =
    run_ends g.A.Answerer.meaning c.args.answerer.now _ _ _ _ _ c.loop-taken.taken c.loop-taken.left_over
    (server c.loop-taken.answerer c.loop-taken.input c.loop-taken.replies.items)
    c.loop-taken.invariant.runs (take c.in-Got.count c.read_front.new.buffer) c.in-Got.ensures.bytes
    (server c.take_piece-why.new.answerer c.take_piece-why.new.input c.take_piece-why.new.replies.items) c.take_piece-why.result
    (piece_same g.A.Answerer.meaning _ _ (take c.in-Got.count c.read_front.new.buffer)
    (server c.loop-taken.answerer c.loop-taken.input c.loop-taken.replies.items)
    (server c.take_piece-why.new.answerer c.take_piece-why.new.input c.take_piece-why.new.replies.items)
    (cut_piece c.in-Got.count c.loop-taken.buffer.len c.deref.result.now c.read_front.new.buffer _ c.deref.ensures.value
    (omega (arith, c.in-Got.ensures.within.1, c.deref_mut.ensures.len)) (omega (arith, c.in-Got.ensures.within.1, c.read_front.auto.buffer)))
    c.take_piece-why.ensures.takes)
    c.close.result _
    (subst (λ bytes. Closes c.close.result c.take_piece-why.result c.take_piece-why.new.input bytes (g.K.Sink.held c.loop-taken.sink)
    (g.K.Sink.held c.close.new.sink)) c.as_slice.ensures.value c.close.ensures.closes)

pub returns-in_default-waiting-clause-read : goal.returns-in_default-waiting-clause-read
returns-in_default-waiting-clause-read g c =
    cause_still _ _ _ (omega (arith, c.loop-taken.invariant.reads, c.in-Got.ensures.failed.later)) (never_read _ _ _ _ _ _ c.close.ensures.closes)

pub returns-in_default-waiting-clause-written : goal.returns-in_default-waiting-clause-written
returns-in_default-waiting-clause-written g c = cause_from _ _ _ _ _ c.loop-taken.invariant.writes c.close.ensures.written (λ e. e)

pub returns-then-not-write_replies-clause-serves : goal.returns-then-not-write_replies-clause-serves
returns-then-not-write_replies-clause-serves g c =
    run_unwritten g.A.Answerer.meaning c.args.answerer.now _ _ _ _ _ c.loop-taken.taken c.loop-taken.left_over
    (server c.loop-taken.answerer c.loop-taken.input c.loop-taken.replies.items)
    c.loop-taken.invariant.runs (take c.in-Got.count c.read_front.new.buffer) c.in-Got.ensures.bytes
    (server c.take_piece-why.new.answerer c.take_piece-why.new.input c.take_piece-why.new.replies.items) c.in-Some.have
    (subst (λ (w : Stop). TakesPiece g.A.Answerer.meaning w (take c.in-Got.count c.read_front.new.buffer)
    (server c.loop-taken.answerer c.loop-taken.input c.loop-taken.replies.items)
    (server c.take_piece-why.new.answerer c.take_piece-why.new.input c.take_piece-why.new.replies.items)) c.in-Some.ensures
    (piece_same g.A.Answerer.meaning _ _ (take c.in-Got.count c.read_front.new.buffer)
    (server c.loop-taken.answerer c.loop-taken.input c.loop-taken.replies.items)
    (server c.take_piece-why.new.answerer c.take_piece-why.new.input c.take_piece-why.new.replies.items)
    (cut_piece c.in-Got.count c.loop-taken.buffer.len c.deref.result.now c.read_front.new.buffer _ c.deref.ensures.value
    (omega (arith, c.in-Got.ensures.within.1, c.deref_mut.ensures.len)) (omega (arith, c.in-Got.ensures.within.1, c.read_front.auto.buffer)))
    c.take_piece-why.ensures.takes))
    _ c.if-not-write_replies.ensures.held

pub returns-then-not-write_replies-clause-read : goal.returns-then-not-write_replies-clause-read
returns-then-not-write_replies-clause-read g c =
    cause_still _ _ _ (omega (arith, c.loop-taken.invariant.reads, c.in-Got.ensures.failed.later)) (λ e. cc)

pub returns-then-not-write_replies-clause-written : goal.returns-then-not-write_replies-clause-written
returns-then-not-write_replies-clause-written g c =
    cause_from _ _ _ _ _ c.loop-taken.invariant.writes c.if-not-write_replies.ensures.failed (λ _. refl)

pub loop-taken-preserved : goal.loop-taken-preserved
loop-taken-preserved g c = record {
  runs = run_goes_on g.A.Answerer.meaning c.args.answerer.now _ _ _ _ _ c.loop-taken.taken c.loop-taken.left_over
      (server c.loop-taken.answerer c.loop-taken.input c.loop-taken.replies.items)
      c.loop-taken.invariant.runs (take c.in-Got.count c.read_front.new.buffer) c.in-Got.ensures.bytes
      (server c.take_piece-why.new.answerer c.take_piece-why.new.input c.take_piece-why.new.replies.items) c.in-Some.have
      (subst (λ (w : Stop). TakesPiece g.A.Answerer.meaning w (take c.in-Got.count c.read_front.new.buffer)
      (server c.loop-taken.answerer c.loop-taken.input c.loop-taken.replies.items)
      (server c.take_piece-why.new.answerer c.take_piece-why.new.input c.take_piece-why.new.replies.items)) c.in-Some.ensures
      (piece_same g.A.Answerer.meaning _ _ (take c.in-Got.count c.read_front.new.buffer)
      (server c.loop-taken.answerer c.loop-taken.input c.loop-taken.replies.items)
      (server c.take_piece-why.new.answerer c.take_piece-why.new.input c.take_piece-why.new.replies.items)
      (cut_piece c.in-Got.count c.loop-taken.buffer.len c.deref.result.now c.read_front.new.buffer _ c.deref.ensures.value
      (omega (arith, c.in-Got.ensures.within.1, c.deref_mut.ensures.len)) (omega (arith, c.in-Got.ensures.within.1, c.read_front.auto.buffer)))
      c.take_piece-why.ensures.takes))
      c.in-Got.count _ c.write_replies.new.replies.items
      (length-take-le c.in-Got.count c.read_front.new.buffer (omega (arith, c.in-Got.ensures.within.1, c.read_front.auto.buffer)))
      c.if-not-write_replies.ensures.held c.write_replies.ensures.none_waits;
  within = omega (arith, c.in-Got.ensures.most.1);
  room_is = c.loop-taken.invariant.room_is;
  reads = omega (arith, c.loop-taken.invariant.reads, c.in-Got.ensures.failed.later);
  writes = omega (arith, c.loop-taken.invariant.writes, c.write_replies.ensures.failed.later);
  patient = c.read_front.ensures.patient;
}

pub returns-in-End-clause-serves : goal.returns-in-End-clause-serves
returns-in-End-clause-serves g c =
    run_finished g.A.Answerer.meaning _ _ _ _ _ c.loop-taken.taken c.loop-taken.left_over
    (server c.loop-taken.answerer c.loop-taken.input c.loop-taken.replies.items)
    (run_still g.A.Answerer.meaning _ _ _ _ _ _ c.loop-taken.taken c.loop-taken.left_over
    (server c.loop-taken.answerer c.loop-taken.input c.loop-taken.replies.items) c.loop-taken.invariant.runs (end_still _ _ c.in-End.ensures.bytes))
    c.ended.result (end_left _ _ c.in-End.ensures.bytes) c.loop-taken-test.true c.ended.ensures

pub returns-in-End-clause-read : goal.returns-in-End-clause-read
returns-in-End-clause-read g c =
    cause_still _ _ _ (omega (arith, c.loop-taken.invariant.reads, c.in-End.ensures.failed.later))
    (λ e. subst (λ (end : End). EndsAt end c.loop-taken.left_over) e c.ended.ensures)

pub returns-in-End-clause-written : goal.returns-in-End-clause-written
returns-in-End-clause-written g c =
    cause_still _ _ _ c.loop-taken.invariant.writes (λ e. subst (λ (end : End). EndsAt end c.loop-taken.left_over) e c.ended.ensures)

pub returns-in-Failed-clause-serves : goal.returns-in-Failed-clause-serves
returns-in-Failed-clause-serves g c =
    run_fails g.A.Answerer.meaning _ _ _ _ _ c.loop-taken.taken c.loop-taken.left_over
    (server c.loop-taken.answerer c.loop-taken.input c.loop-taken.replies.items)
    (run_still g.A.Answerer.meaning _ _ _ _ _ _ c.loop-taken.taken c.loop-taken.left_over
    (server c.loop-taken.answerer c.loop-taken.input c.loop-taken.replies.items) c.loop-taken.invariant.runs c.in-Failed.ensures.bytes)
    c.loop-taken-test.true

pub returns-in-Failed-clause-read : goal.returns-in-Failed-clause-read
returns-in-Failed-clause-read g c = cause_from _ _ _ _ _ c.loop-taken.invariant.reads c.in-Failed.ensures.failed (λ _. refl)

pub returns-in-Failed-clause-written : goal.returns-in-Failed-clause-written
returns-in-Failed-clause-written g c = cause_still _ _ _ c.loop-taken.invariant.writes (λ e. cc)

pub returns-clause-serves : goal.returns-clause-serves
returns-clause-serves g c =
    run_limited g.A.Answerer.meaning _ _ _ _ _ c.loop-taken.taken c.loop-taken.left_over
    (server c.loop-taken.answerer c.loop-taken.input c.loop-taken.replies.items) c.loop-taken.invariant.runs
    (omega (arith, c.loop-taken.invariant.within, c.loop-taken-test.false))

pub returns-clause-read : goal.returns-clause-read
returns-clause-read g c = cause_still _ _ _ c.loop-taken.invariant.reads (λ e. cc)

pub returns-clause-written : goal.returns-clause-written
returns-clause-written g c = cause_still _ _ _ c.loop-taken.invariant.writes (λ e. cc)
