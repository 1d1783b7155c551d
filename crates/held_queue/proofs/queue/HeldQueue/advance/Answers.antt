use Rattle.std.proofs.Common.{◌≡◌, ◌∷◌, Some, None, sym, subst, ap, ◌∙◌, true, map, List}
use Rattle.std.proofs.lemmas.Bool.{or_left, or_right, eq-eqb}
use Rattle.std.specs.Prelude.{◌==◌}
use Rattle.held_queue.specs.Held.{RowsAgree}
use Rattle.held_queue.specs.Numbers.{has}
use Rattle.held_queue.specs.Rows.{freed_row}
use Rattle.held_queue.specs.declared.row.Row.{Row}
use Rattle.held_queue.proofs.Entering.{known_after}
use Rattle.held_queue.proofs.queue.HeldQueue.advance.Goals as goal

pub returns-in-Some-clause-held : goal.returns-in-Some-clause-held
returns-in-Some-clause-held c = λ conf run limit past given alone within legal arrivals stage freed known.
    subst (λ (rows : List Row). RowsAgree conf run (c.args.entry.now ∷ past) c.push_reserved.new.self.heap rows)
    (sym (c.free.ensures ∙ ap (λ f. map (freed_row f) c.args.self.now.rows.items) freed))
    (known_after conf run limit past c.args.entry.now given alone within legal c.args.self.now.ready.heap c.push_reserved.new.self.heap
    c.args.self.now.rows.items
    (λ r is. c.push_reserved.ensures r ∙ or_right (c.in-Some.arrival == r) (has c.args.self.now.ready.heap r) is)
    (λ r came.
    (let e : Some c.in-Some.arrival ≡ Some r = sym c.in-Some.is
    ∙ (c.received.ensures.received past arrivals stage ∙ came) in let at : c.in-Some.arrival ≡ r = cc in
    c.push_reserved.ensures r ∙ or_left (c.in-Some.arrival == r) (has c.args.self.now.ready.heap r) (eq-eqb c.in-Some.arrival r at)))
    known)

pub returns-in_default-clause-held : goal.returns-in_default-clause-held
returns-in_default-clause-held c = λ conf run limit past given alone within legal arrivals stage freed known.
    subst (λ (rows : List Row). RowsAgree conf run (c.args.entry.now ∷ past) c.args.self.now.ready.heap rows)
    (sym (c.free.ensures ∙ ap (λ f. map (freed_row f) c.args.self.now.rows.items) freed))
    (known_after conf run limit past c.args.entry.now given alone within legal c.args.self.now.ready.heap c.args.self.now.ready.heap c.args.self.now.rows.items
    (λ r is. is)
    (λ r came. (let e : None ≡ Some r = sym c.in_default.is ∙ (c.received.ensures.received past arrivals stage ∙ came) in cc))
    known)
