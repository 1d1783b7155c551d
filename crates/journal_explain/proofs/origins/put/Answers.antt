use Rattle.std.proofs.Common.{ap, subst, sym, ◌∙◌}
use Rattle.std.specs.Prelude.{position}
use Rattle.journal_explain.specs.Origins.{same_setting}
use Rattle.journal_explain.specs.Watching.{IsPut}
use Rattle.journal_explain.proofs.Rows.{found_put, found_pushed}
use Rattle.journal_explain.proofs.origins.put.Goals as goal

pub returns-in-Some : goal.returns-in-Some
returns-in-Some c =
    found_put c.args.row c.args.rows.now.items c.in-Some.place
    (ap (position (λ o. same_setting o.setting c.args.row.setting)) (sym c.deref.ensures.value) ∙ sym c.place_of.ensures ∙ c.in-Some.is)

pub returns-in_ok-push-in-None : goal.returns-in_ok-push-in-None
returns-in_ok-push-in-None c =
    subst (IsPut c.args.row c.args.rows.now.items) (sym c.in_ok-push-in-None.ensures.items)
    (found_pushed c.args.row c.args.rows.now.items
    (ap (position (λ o. same_setting o.setting c.args.row.setting)) (sym c.deref.ensures.value) ∙ sym c.place_of.ensures ∙ c.in-None.is))
