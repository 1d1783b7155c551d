use Rattle.std.proofs.Common.{rules}
use Rattle.poa_shared.proofs.Helped.{helps_none, steps_on}
use Rattle.seat_lock.specs.Seats.{view}
use Rattle.poa_shared.proofs.helping.help_within.Goals as goal

pub loop-init : goal.loop-init
loop-init g c = record {
  seat = search rules;
  so_far = λ k given. helps_none (view c.args.seat.now);
}

pub loop-preserved : goal.loop-preserved
loop-preserved g c = record {
  seat = c.step_running.ensures.seat;
  so_far =
      steps_on c.step_running.result (view c.args.seat.now) (view c.loop.seat)
      (view c.step_running.new.seat) c.loop.invariant.so_far c.step_running.ensures.stepped;
}

pub returns-in-Some-Ok-Did-2-clause-helps : goal.returns-in-Some-Ok-Did-2-clause-helps
returns-in-Some-Ok-Did-2-clause-helps g c =
    steps_on c.step_running.result (view c.args.seat.now) (view c.loop.seat)
    (view c.step_running.new.seat) c.loop.invariant.so_far c.step_running.ensures.stepped

pub returns-in_default-clause-helps : goal.returns-in_default-clause-helps
returns-in_default-clause-helps g c =
    steps_on c.step_running.result (view c.args.seat.now) (view c.loop.seat)
    (view c.step_running.new.seat) c.loop.invariant.so_far c.step_running.ensures.stepped

pub returns-in_default-2-clause-helps : goal.returns-in_default-2-clause-helps
returns-in_default-2-clause-helps g c =
    steps_on c.step_running.result (view c.args.seat.now) (view c.loop.seat)
    (view c.step_running.new.seat) c.loop.invariant.so_far c.step_running.ensures.stepped

pub returns-in_default-3-clause-helps : goal.returns-in_default-3-clause-helps
returns-in_default-3-clause-helps g c =
    steps_on c.step_running.result (view c.args.seat.now) (view c.loop.seat)
    (view c.step_running.new.seat) c.loop.invariant.so_far c.step_running.ensures.stepped
