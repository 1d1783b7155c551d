use Rattle.std.proofs.Common.{◌≡◌, sym, ap, ◌∙◌}
use Rattle.std.specs.Prelude.{option_map}
use Rattle.poa_base.specs.declared.Entry.TheVariants.{Admit}
use Rattle.core_turns.specs.Told.{history}
use Rattle.core_turns.proofs.Asking.{admission_is}
use Rattle.core_turns.proofs.known.Known.admission.Goals as goal

pub returns-in-Some-clause-admission : goal.returns-in-Some-clause-admission
returns-in-Some-clause-admission c =
    (let known = c.args.self.now in
    sym (admission_is known.config.now known.run
    (history known) c.args.worker c.in_ok-line.line c.in_ok-message.message c.in_ok-line.ensures c.in_ok-message.ensures.first
    ∙ ap (λ o. option_map (λ x. Admit c.args.worker x.0 x.1) o) (sym c.earlier.ensures ∙ c.in-Some.is)))

pub returns-in-None-clause-admission : goal.returns-in-None-clause-admission
returns-in-None-clause-admission c =
    (let known = c.args.self.now in
    sym (admission_is known.config.now known.run
    (history known) c.args.worker c.in_ok-line.line c.in_ok-message.message c.in_ok-line.ensures c.in_ok-message.ensures.first
    ∙ ap (λ o. option_map (λ x. Admit c.args.worker x.0 x.1) o) (sym c.earlier.ensures ∙ c.in-None.is)))
