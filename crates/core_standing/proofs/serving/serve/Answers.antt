use Rattle.std.proofs.Common.{◌≡◌, ◌<◌, ◌==◌, ◌∙◌, Some, ap, sym, subst, List}
use Rattle.std.proofs.lemmas.Bool.{eqb-true}
use Rattle.std.specs.List.{find}
use Rattle.std.specs.Option.{option_copied}
use Rattle.history_standing.specs.declared.activation.Activation.{Activation}
use Rattle.history_standing.specs.declared.flight.Flight.{Flight}
use Rattle.history_standing.proofs.Finding.{find_in}
use Rattle.core_standing.specs.Seen.{seen}
use Rattle.core_standing.proofs.Forgotten.{in_behind}
use Rattle.core_standing.proofs.Served.{served_agrees}
use Rattle.core_standing.proofs.serving.serve.Goals as goal

pub returns-clause-serves : goal.returns-clause-serves
returns-clause-serves c = λ is conf run limit past w given alone within legal stands.
    (let old = c.args.standing.now in
    let b = c.in-Some.activation.now in
    let kept = old.activations.kept in
    let found : find (λ (a : Activation). a.number == c.args.number) kept ≡ Some b = sym c.numbered.ensures ∙ ap option_copied c.in-Some.is in
    let there = find_in (λ (a : Activation). a.number == c.args.number) b kept found in
    let numbered = eqb-true b.number c.args.number there.1 in
    served_agrees conf run limit past w c.args.arrival c.args.number given alone within legal (seen old) (seen (record old { flights = c.push.new.self })) stands
    (subst (λ k. k < 4294967296) c.in_ok-begun.ensures.begun c.in_ok-begun.ensures.few) b
    (in_behind old.activations.forgotten kept b there.0) numbered (subst (λ k. k < 4294967296) numbered (c.numbers.ensures.fit b there.0))
    (ap (λ (fs : List Flight). record (seen old) { flights = fs }) c.in_ok-push.ensures.items))
