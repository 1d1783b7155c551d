use Rattle.std.proofs.Common.{◌==◌, ◌∙◌, ap, sym}
use Rattle.history_standing.specs.Changes.{at_number}
use Rattle.history_standing.specs.Ends.{let_out}
use Rattle.core_standing.specs.Seen.{forgotten, seen}
use Rattle.core_standing.specs.Touched.{is_touched}
use Rattle.core_standing.proofs.Still.{changed_each, still_in, still_where}
use Rattle.core_standing.proofs.Staying.{none_goes, one_goes}
use Rattle.core_standing.proofs.settling.let_out_ended.Goals as goal

pub returns-in-Nothing : goal.returns-in-Nothing
returns-in-Nothing c = λ others.
    (let s = c.args.standing.now in
    ap (λ as'. record (seen s) { activations = as' })
    (none_goes c.args.config.now (seen s)
    (λ a there _. others a there (ap (λ t. is_touched t a.number) c.in-Nothing.is)) (seen s).activations (λ a there. there)))

pub returns-in-One : goal.returns-in-One
returns-in-One c = λ others.
    (let s = c.args.standing.now in
    let n = c.in-One.number in
    changed_each s _ (at_number n (let_out c.args.config.now (seen s)))
    (still_where (forgotten.number == n) _ (still_in c.args.config.now (seen s))) (c.let_out_at.ensures (seen s) (sym c.deref.ensures.value))
    ∙ ap (λ as'. record (seen s) { activations = as' })
    (one_goes c.args.config.now (seen s) n
    (λ a there untouched. others a there (ap (λ t. is_touched t a.number) c.in-One.is ∙ untouched)) (seen s).activations (λ a there. there)))

pub returns-in-All : goal.returns-in-All
returns-in-All c = λ others.
    (let s = c.args.standing.now in
    changed_each s _ (let_out c.args.config.now (seen s)) (still_in c.args.config.now (seen s)) (c.let_out.ensures (seen s) (sym c.deref-in-All.ensures.value)))
