use Rattle.std.proofs.Common.{◌≡◌, ap, rules, subst, sym, true, Ok}
use Rattle.poa_shared.specs.declared.pause.Pause.TheVariants as pause
use Rattle.poa_shared.specs.Pauses.{MakesTurns}
use Rattle.poa_shared.proofs.Ending.{closes, gives_it_up, goes_further, stops}
use Rattle.seat_lock.specs.Seats.{view}
use Rattle.poa_shared.proofs.working.work.Goals as goal

pub loop-preserved-in-Ok-At : goal.loop-preserved-in-Ok-At
loop-preserved-in-Ok-At g c = record {
  ends = (tt, tt);
  seat = search rules;
  so_far = λ k given.
      subst (λ v. MakesTurns c.args.worker (view c.args.seat.now) v) (sym (ap (λ m. m.0) c.wake_another.ensures.2))
      (goes_further c.args.worker (view c.args.seat.now) (view c.loop.seat) (view c.listen-heard.new.seat) (view c.take_turns.new.seat) c.loop.invariant.so_far
      (ap (λ m. m.0) c.listen-heard.ensures.same.2) c.take_turns.result c.take_turns.ensures.turned k given);
}

pub loop-preserved-in-Ok-Idle-false : goal.loop-preserved-in-Ok-Idle-false
loop-preserved-in-Ok-Idle-false g c = record {
  ends = (tt, tt);
  seat = c.take_turns.ensures.seat;
  so_far =
      goes_further c.args.worker (view c.args.seat.now) (view c.loop.seat) (view c.listen-heard.new.seat) (view c.take_turns.new.seat) c.loop.invariant.so_far
      (ap (λ m. m.0) c.listen-heard.ensures.same.2) c.take_turns.result c.take_turns.ensures.turned;
}

pub loop-preserved : goal.loop-preserved
loop-preserved g c = record {
  ends = (tt, tt);
  seat = c.take_turns.ensures.seat;
  so_far =
      goes_further c.args.worker (view c.args.seat.now) (view c.loop.seat) (view c.listen-heard.new.seat) (view c.take_turns.new.seat) c.loop.invariant.so_far
      (ap (λ m. m.0) c.listen-heard.ensures.same.2) c.take_turns.result c.take_turns.ensures.turned;
}

pub returns-in-Ok-Idle-true-clause-worked : goal.returns-in-Ok-Idle-true-clause-worked
returns-in-Ok-Idle-true-clause-worked g c =
    let is : c.take_turns.result ≡ Ok (pause.Idle true) = cc (c.in-Ok-Idle-true.is, c.in-Ok-Idle-true.field-0-is, c.in-Ok-Idle-true.field-0-0-is) in
    closes c.args.worker (view c.args.seat.now) (view c.loop.seat) (view c.listen-heard.new.seat) (view c.take_turns.new.seat) c.loop.invariant.so_far
    (ap (λ m. m.0) c.listen-heard.ensures.same.2) c.take_turns.result c.take_turns.ensures.turned is

pub returns-in-Ok-Stopped-clause-worked : goal.returns-in-Ok-Stopped-clause-worked
returns-in-Ok-Stopped-clause-worked g c =
    let is : c.take_turns.result ≡ Ok pause.Stopped = cc (c.in-Ok-Stopped.is, c.in-Ok-Stopped.field-0-is) in
    stops c.args.worker (view c.args.seat.now) (view c.loop.seat) (view c.listen-heard.new.seat) (view c.take_turns.new.seat) c.loop.invariant.so_far
    (ap (λ m. m.0) c.listen-heard.ensures.same.2) c.take_turns.result c.take_turns.ensures.turned is

pub returns-in-Err-clause-worked : goal.returns-in-Err-clause-worked
returns-in-Err-clause-worked g c =
    gives_it_up c.args.worker (view c.args.seat.now) (view c.loop.seat) (view c.listen-heard.new.seat) (view c.take_turns.new.seat) c.loop.invariant.so_far
    (ap (λ m. m.0) c.listen-heard.ensures.same.2) c.take_turns.result c.take_turns.ensures.turned
    (view c.abandon.new.seat) (view c.wake_all.new.seat) c.abandon.ensures.abandoned (ap (λ m. m.0) c.wake_all.ensures.2)
