use Rattle.std.proofs.Common.{ap, ◌∙◌, arith, length, slice_set, inl, inr}
use Rattle.std.proofs.lemmas.Bool.{cases_lt}
use Rattle.journal_explain.specs.declared.came.Came.{Came}
use Rattle.journal_explain.proofs.Decided.{decided_past, decided_set, is_there, not_there}
use Rattle.journal_explain.proofs.came.decide.Goals as goal

pub returns-in-Some : goal.returns-in-Some
returns-in-Some c =
    ap (λ (call : Came). slice_set c.args.came.now.items c.args.place (record call { outcome = c.args.outcome })) c.in-Some.ensures.value
    ∙ decided_set c.args.came.now.items c.args.place c.args.outcome c.in-Some.call.now
    (let low = is_there c.get_mut.result c.in-Some.call c.get_mut.ensures.variant c.in-Some.is in let ok = c.args.came.now.ok.0 in omega (arith, low, ok))

pub returns-in_default : goal.returns-in_default
returns-in_default c =
    decided_past c.args.came.now.items c.args.place c.args.outcome (elim (cases_lt c.args.place (length c.args.came.now.items)) [
      | inl low ↦ absurd (not_there c.get_mut.result c.get_mut.ensures.variant c.in_default.is (let ok = c.args.came.now.ok.0 in omega (arith, low, ok)))
      | inr high ↦ high
    ])
