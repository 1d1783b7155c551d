use Rattle.std.proofs.Common.{arith, ◌≤◌, Some, None, sym, ◌∙◌}
use Rattle.poa_policy.proofs.settling.settle.Goals as goal
use Rattle.poa_policy.proofs.Turns.{reached_more, few, answers_bad, answers_end}

pub overflow_cast-result : goal.overflow_cast-result
overflow_cast-result c = let short : c.loop-i.i ≤ 7 = few c.args.list.now c.loop-i.i c.loop-i.set c.loop-i.filled (omega arith) c.loop-i.invariant in
    omega arith

pub overflow_cast-result-in-Some : goal.overflow_cast-result-in-Some
overflow_cast-result-in-Some c = let short : c.loop-i.i ≤ 7 = few c.args.list.now c.loop-i.i c.loop-i.set c.loop-i.filled (omega arith) c.loop-i.invariant in
    omega (arith, c.last_named.ensures.within)

pub loop-i-preserved : goal.loop-i-preserved
loop-i-preserved c =
    rw (c.put-set.ensures, c.put-filled.ensures)
    (reached_more c.args.list.now c.loop-i.i c.loop-i.set c.loop-i.filled c.loop-i-test.true c.loop-i.invariant
    (sym c.completes.ensures ∙ c.if-not-completes.false))

pub returns-then-not-completes : goal.returns-then-not-completes
returns-then-not-completes c =
    let a = answers_bad c.args.list.now c.loop-i.i c.loop-i.set c.loop-i.filled c.loop-i-test.true c.loop-i.invariant
    (sym c.completes.ensures ∙ c.if-not-completes.true) in
    record { settled = a.settled; same = a.same }

pub returns-in-None : goal.returns-in-None
returns-in-None c =
    let a = answers_end c.args.list.now c.loop-i.i c.loop-i.set c.loop-i.filled None c.loop-i-test.false c.loop-i.invariant
    (sym c.in-None.is ∙ c.first_broken.ensures) in
    record { settled = a.settled; same = a.same }

pub returns-in-Some : goal.returns-in-Some
returns-in-Some c =
    let a = answers_end c.args.list.now c.loop-i.i c.loop-i.set c.loop-i.filled (Some c.in-Some.rule) c.loop-i-test.false c.loop-i.invariant
    (sym c.in-Some.is ∙ c.first_broken.ensures) in
    rw c.last_named.ensures.place (record { settled = a.settled; same = a.same })
