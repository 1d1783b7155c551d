use Rattle.std.proofs.Common.{rules}
use Rattle.poa_history.specs.Turns.{is_due}
use Rattle.core_standing.specs.Seen.{seen}
use Rattle.core_turns.proofs.Due.{due_leaves}
use Rattle.core_turns.proofs.turns.first_due.Goals as goal

pub loop-number-init : goal.loop-number-init
loop-number-init c =
    (let s = c.args.standing.now in
    let finds = c.leaving-number-items.ensures.finds (is_due c.args.config.now (seen s)) (due_leaves c.args.config.now (seen s)) in
    record { same = search (rules, finds); busy = λ k is. absurd (cc) })
