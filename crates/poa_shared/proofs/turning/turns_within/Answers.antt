use Rattle.std.proofs.Common.{◌≡◌, ◌∙◌, Ok, subst, sym}
use Rattle.std.proofs.lemmas.Result.{err_from_is_err_and}
use Rattle.poa_core.specs.declared.step_out.StepOut.TheVariants as step_out
use Rattle.poa_shared.specs.Events.{Event}
use Rattle.poa_core.specs.Answers.{Steps}
use Rattle.poa_shared.specs.Pauses.{IsPaused}
use Rattle.poa_shared.proofs.Ending.{step_did, step_idle, step_stopped}
use Rattle.poa_shared.proofs.Steps.{steps_on}
use Rattle.seat_lock.specs.Seats.{view}
use Rattle.poa_shared.proofs.turning.turns_within.Goals as goal

pub returns-in_err-step_within-clause-turned : goal.returns-in_err-step_within-clause-turned
returns-in_err-step_within-clause-turned g c = λ k given.
    let failed = err_from_is_err_and c.from_residual.result c.from_residual.ensures.1 in (
      steps_on c.args.worker c.step_within.result (view c.args.seat.now) (view c.loop.seat)
          (view c.step_within.new.seat) c.loop.invariant.so_far c.step_within.ensures.stepped k given,
      subst (λ r. IsPaused k c.args.worker r (view c.step_within.new.seat)) (sym failed.1) tt,
    )

pub returns-then-not-is_open-clause-turned : goal.returns-then-not-is_open-clause-turned
returns-then-not-is_open-clause-turned g c = λ k given.
    let is : c.step_within.result ≡ Ok (step_out.Did c.in-Did.point) = cc in
    let so_far = c.loop.invariant.so_far k given in (
      steps_on c.args.worker c.step_within.result (view c.args.seat.now) (view c.loop.seat)
          (view c.step_within.new.seat) c.loop.invariant.so_far c.step_within.ensures.stepped k given,
      step_did c.args.worker k (view c.loop.seat) (view c.step_within.new.seat) (so_far.given ∙ given) c.in-Did.point
          (subst (λ r. Event (λ old new. Steps c.args.worker old r new) (view c.loop.seat) (view c.step_within.new.seat)) is c.step_within.ensures.stepped),
    )

pub returns-in-Idle-clause-turned : goal.returns-in-Idle-clause-turned
returns-in-Idle-clause-turned g c = λ k given.
    let is : c.step_within.result ≡ Ok (step_out.Idle c.in-Idle.over) = cc in
    let so_far = c.loop.invariant.so_far k given in (
      steps_on c.args.worker c.step_within.result (view c.args.seat.now) (view c.loop.seat)
          (view c.step_within.new.seat) c.loop.invariant.so_far c.step_within.ensures.stepped k given,
      step_idle c.args.worker k (view c.loop.seat) (view c.step_within.new.seat) (so_far.given ∙ given) c.in-Idle.over
          (subst (λ r. Event (λ old new. Steps c.args.worker old r new) (view c.loop.seat) (view c.step_within.new.seat)) is c.step_within.ensures.stepped),
    )

pub returns-in-Stopped-clause-turned : goal.returns-in-Stopped-clause-turned
returns-in-Stopped-clause-turned g c = λ k given.
    let is : c.step_within.result ≡ Ok step_out.Stopped = cc in
    let so_far = c.loop.invariant.so_far k given in (
      steps_on c.args.worker c.step_within.result (view c.args.seat.now) (view c.loop.seat)
          (view c.step_within.new.seat) c.loop.invariant.so_far c.step_within.ensures.stepped k given,
      step_stopped c.args.worker k (view c.loop.seat) (view c.step_within.new.seat) (so_far.given ∙ given)
          (subst (λ r. Event (λ old new. Steps c.args.worker old r new) (view c.loop.seat) (view c.step_within.new.seat)) is c.step_within.ensures.stepped),
    )

pub loop-preserved : goal.loop-preserved
loop-preserved g c = record {
  seat = c.step_within.ensures.seat;
  so_far =
      steps_on c.args.worker c.step_within.result (view c.args.seat.now) (view c.loop.seat)
      (view c.step_within.new.seat) c.loop.invariant.so_far c.step_within.ensures.stepped;
}
