use Rattle.std.proofs.Common.{◌≡◌, ◌<◌, Some, sym, subst, ap, ◌∙◌, arith, length, slice_index_or}
use Rattle.std.proofs.lemmas.Grind.{common_steps}
use Rattle.history_standing.specs.Arrivals.{arrivals}
use Rattle.poa_history.specs.Verdicts.{verdict}
use Rattle.core_arrivals.specs.Firsts.{IsFirst}
use Rattle.core_arrivals.specs.Queued.{is_waiting_line}
use Rattle.core_turns.specs.Told.{history}
use Rattle.core_turns.proofs.Asking.{lines_held, line_first}
use Rattle.core_turns.proofs.known.Known.first_line.Goals as goal

pub returns-in-Some : goal.returns-in-Some
returns-in-Some c =
    (let known = c.args.self.now in
    let h = history known in
    let items = known.queue.now.lines.items in
    let low : c.loop-i.i < length items =
    (let below_ = c.loop-i-test.true in let end = c.len-i-end.ensures in let ok = known.queue.now.lines.ok.0 in omega (arith, below_, end, ok)) in
    let read = c.index-arrival.ensures in
    let at : slice_index_or items c.loop-i.i 0 ≡ c.index-arrival.result.now = grind (arith, common_steps) in
    subst (λ r. IsFirst (is_waiting_line h) (λ q. verdict known.config.now known.run h q c.args.worker) (arrivals h) (Some (r, c.in-Some.verdict))) at
    (line_first known.config.now known.run h c.args.worker items c.requires.queued.lines_are c.loop-i.i c.in-Some.verdict low c.loop-i.invariant
    (ap (λ r. verdict known.config.now known.run h r c.args.worker) at ∙ (sym c.in_ok-verdict.ensures ∙ c.in-Some.is))))

pub returns : goal.returns
returns c =
    (let known = c.args.self.now in
    let h = history known in
    lines_held known.config.now known.run h c.args.worker known.queue.now.lines.items c.requires.queued.lines_are c.loop-i.i
    (let past_ = c.loop-i-test.false in let end = c.len-i-end.ensures in let ok = known.queue.now.lines.ok.0 in omega (arith, past_, end, ok))
    c.loop-i.invariant)
