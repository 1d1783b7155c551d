use Rattle.std.proofs.Common.{inl, inr}
use Rattle.poad_answer.proofs.Worked.{idle_so, stopped_so, did_so}
use Rattle.poad_answer.proofs.turns.take_turns.Goals as goal

pub returns-in-Idle : goal.returns-in-Idle
returns-in-Idle c =
    elim c.in-Idle.is [
      | inl at ↦ (let d = idle_so c.loop.core c.step.new.self c.in_ok-step.field-0 at.0 at.1 c.in_ok-step.ensures c.loop.invariant.serving in
          record { works = c.loop.invariant.works c.step.new.self d.0; serving = d.1 })
      | inr at ↦ (let d = stopped_so c.loop.core c.step.new.self c.in_ok-step.field-0 at c.in_ok-step.ensures c.loop.invariant.serving in
          record { works = c.loop.invariant.works c.step.new.self d.0; serving = d.1 })
    ]

pub loop-preserved : goal.loop-preserved
loop-preserved c =
    let d = did_so c.loop.core c.step.new.self c.in_ok-step.field-0 c.in-Did.field-0 c.in-Did.is c.in_ok-step.ensures c.loop.invariant.serving in
    record { works = λ last more. c.loop.invariant.works last (d.0 last more); serving = d.1 }
