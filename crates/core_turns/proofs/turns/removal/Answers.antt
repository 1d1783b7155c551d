use Rattle.std.proofs.Common.{Some, not, ap, sym, refl, ◌∙◌}
use Rattle.std.specs.Option.{option_copied, option_map}
use Rattle.poa_base.specs.declared.Entry.TheVariants.{TakeOut}
use Rattle.history_standing.specs.declared.activation.Activation.{Activation}
use Rattle.poa_history.specs.Turns.{is_due}
use Rattle.core_standing.specs.Seen.{seen}
use Rattle.core_standing.proofs.Behind.{find_behind}
use Rattle.core_turns.proofs.turns.removal.Goals as goal

pub returns-in-Some : goal.returns-in-Some
returns-in-Some c =
    (let s = c.args.standing.now in
    ap (option_map (λ (a : Activation). TakeOut c.args.worker a.number (not a.quiet)))
    (sym (ap option_copied c.in-Some.is) ∙ c.first_due.ensures
    ∙ sym (find_behind (is_due c.args.config.now (seen s)) refl s.activations.forgotten s.activations.kept)))

pub returns-in-None : goal.returns-in-None
returns-in-None c =
    (let s = c.args.standing.now in
    ap (option_map (λ (a : Activation). TakeOut c.args.worker a.number (not a.quiet)))
    (sym (ap option_copied c.in-None.is) ∙ c.first_due.ensures
    ∙ sym (find_behind (is_due c.args.config.now (seen s)) refl s.activations.forgotten s.activations.kept)))
