use Rattle.std.proofs.Common.{◌==◌, ◌&&◌, ◌∙◌, not, sym, ap}
use Rattle.std.specs.Option.{option_copied}
use Rattle.std.proofs.lemmas.Bool.{and_parts, eqb-true}
use Rattle.history_standing.proofs.Finding.{find_in}
use Rattle.history_standing.specs.Ends.{is_over}
use Rattle.history_standing.proofs.Members.{some_in as one_of}
use Rattle.core_standing.proofs.Forgotten.{in_behind}
use Rattle.core_standing.proofs.settling.lives_on.Goals as goal
use Rattle.history_standing.proofs.Tests.{not_true}

pub returns-in-Some : goal.returns-in-Some
returns-in-Some c = λ lives.
    (let table = c.args.standing.now.activations in
    let a = find_in (λ x. x.number == c.in-One.number) c.in-Some.activation.now table.kept (sym c.numbered.ensures ∙ ap option_copied c.in-Some.is) in
    let b = one_of (λ x. (x.adapter == c.in-Some.activation.now.adapter) && not (is_over c.args.config.now x)) table.kept (sym c.has_live.ensures ∙ lives) in
    let parts = and_parts (b.0.adapter == c.in-Some.activation.now.adapter) (not (is_over c.args.config.now b.0)) b.2 in (
      c.in-One.number,
      c.in-One.is,
      c.in-Some.activation.now,
      b.0,
      in_behind table.forgotten table.kept c.in-Some.activation.now a.0,
      eqb-true c.in-Some.activation.now.number c.in-One.number a.1,
      in_behind table.forgotten table.kept b.0 b.1,
      not_true (is_over c.args.config.now b.0) parts.1,
      eqb-true b.0.adapter c.in-Some.activation.now.adapter parts.0,
    ))
