use Rattle.std.proofs.Common.{◌∙◌, sym, ap, subst, option_copied}
use Rattle.std.proofs.lemmas.Result.{on_ok_weaker}
use Rattle.core_state.specs.Kept.{kept_in}
use Rattle.core_state.specs.Steps.{Brings}
use Rattle.core_state.proofs.bringing.bring.Goals as goal

pub returns-in-Some-clause-ok : goal.returns-in-Some-clause-ok
returns-in-Some-clause-ok c =
    let found = sym (ap option_copied c.in-Some.is) ∙ c.activation_numbered.ensures in
    on_ok_weaker c.bring_for.result
    (subst (λ o. Brings c.args.config.now c.args.number o (kept_in c.args.servants.now) (kept_in c.bring_for.new.servants)) found) c.bring_for.ensures.ok
