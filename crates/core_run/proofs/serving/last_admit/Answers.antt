use Rattle.std.proofs.Common.{◌≡◌, ◌+◌, ◌-◌, take, reverse, option_map, arith, sym, ap, ◌∙◌}
use Rattle.journal_entries.specs.Rows.{seen}
use Rattle.core_run.specs.Turning.{last_verdict}
use Rattle.core_run.proofs.Admitted.{found, passed}
use Rattle.core_run.proofs.serving.last_admit.Goals as goal

pub returns-then-admits : goal.returns-then-admits
returns-then-admits c =
    (let one : c.loop-place.place - 1 + 1 ≡ c.loop-place.place = let low = c.loop-place-test.true in omega (arith, low) in
    found c.args.entries.now.items (c.loop-place.place - 1) (seen c.in_ok-view.view) c.args.arrival
    (sym (ap (option_map seen) c.in_ok-view.was) ∙ c.get.ensures) (sym c.admits.ensures ∙ c.if-admits.true)
    ∙ ap (λ k. last_verdict (reverse (take k c.args.entries.now.items)) c.args.arrival) one ∙ c.loop-place.invariant)

pub loop-place-preserved : goal.loop-place-preserved
loop-place-preserved c =
    (let one : c.loop-place.place - 1 + 1 ≡ c.loop-place.place = let low = c.loop-place-test.true in omega (arith, low) in
    passed c.args.entries.now.items (c.loop-place.place - 1) (seen c.in_ok-view.view) c.args.arrival
    (sym (ap (option_map seen) c.in_ok-view.was) ∙ c.get.ensures) (sym c.admits.ensures ∙ c.if-admits.false)
    ∙ ap (λ k. last_verdict (reverse (take k c.args.entries.now.items)) c.args.arrival) one ∙ c.loop-place.invariant)
