use Rattle.std.proofs.Common.{◌==◌, sym, ap, ◌∙◌, option_copied}
use Rattle.std.proofs.lemmas.Bool.{eqb-true}
use Rattle.history_standing.specs.Changes.{is_elsewhere}
use Rattle.history_standing.proofs.Finding.{find_in, find_none}
use Rattle.active_map.proofs.activations.Activations.remains.Goals as goal

pub returns-in-Some : goal.returns-in-Some
returns-in-Some c = λ a there hit.
    (let kept = c.args.self.now.kept in
    let b = c.in-Some.activation.now in
    let found = find_in (λ x. x.number == c.args.number) b kept (sym c.numbered.ensures ∙ ap option_copied c.in-Some.is) in
    c.is_elsewhere.ensures
    ∙ ap (is_elsewhere kept) (c.numbers.ensures.alone b a found.0 there (eqb-true b.number c.args.number found.1 ∙ sym (eqb-true a.number c.args.number hit))))

pub returns-in-None : goal.returns-in-None
returns-in-None c = λ a there hit.
    absurd (find_none (λ x. x.number == c.args.number) a c.args.self.now.kept (sym c.numbered.ensures ∙ ap option_copied c.in-None.is) there hit)
