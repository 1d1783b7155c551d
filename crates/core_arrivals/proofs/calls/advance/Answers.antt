use Rattle.std.proofs.Common.{◌∷◌, ◌++◌, [], sym, subst, ap, ◌∙◌}
use Rattle.poa_base.specs.declared.Entry.TheVariants.{Arrive}
use Rattle.core_arrivals.specs.Placed.{CallsAgree}
use Rattle.core_arrivals.proofs.Placing.{calls_more, calls_kept, not_arriving}
use Rattle.core_arrivals.proofs.calls.advance.Goals as goal

pub returns-in-Arrive : goal.returns-in-Arrive
returns-in-Arrive c = λ past place knows.
    subst (λ e. CallsAgree (e ∷ past) c.push_reserved.new.self.items) (sym c.in-Arrive.is)
    (subst (CallsAgree (Arrive c.in-Arrive.conn c.in-Arrive.size c.in-Arrive.call ∷ past))
    (sym (c.push_reserved.ensures.items ∙ ap (λ n. c.args.calls.now.places.items ++ n ∷ []) place))
    (calls_more c.in-Arrive.conn c.in-Arrive.size c.in-Arrive.call past c.args.calls.now.places.items knows))

pub returns-in_default : goal.returns-in_default
returns-in_default c =
    λ past place knows. calls_kept c.args.entry.now past c.args.calls.now.places.items (not_arriving c.args.entry.now c.in_default.not-Arrive) knows
