use Rattle.std.proofs.Common.{◌≡◌, ◌==◌, sym, ap, ◌∙◌, Some, rules}
use Rattle.std.specs.List.{find}
use Rattle.std.specs.Option.{option_copied}
use Rattle.held_queue.specs.declared.freed.Freed.{Freed}
use Rattle.held_queue.specs.Frees.{landing}
use Rattle.history_standing.specs.declared.flight.Flight.{Flight}
use Rattle.poa_history.specs.Turns.{flight_of}
use Rattle.core_standing.specs.Seen.{seen}
use Rattle.core_run.proofs.freeing.landing.Goals as goal

pub returns-in-Some-flight_of : goal.returns-in-Some-flight_of
returns-in-Some-flight_of c =
    let found : flight_of (seen c.args.standing.now) c.in-Some.arrival ≡ Some c.in-Some-flight_of.flight.now =
    ap (find (λ (f : Flight). f.arrival == c.in-Some.arrival)) (sym c.deref.ensures.value)
    ∙ (sym c.flight_of.ensures ∙ ap option_copied c.in-Some-flight_of.is) in
    ap {A = Freed} (λ n. record
    { all = n.all; landed = Some c.in-Some-flight_of.flight.now.adapter; changed = n.changed; moved = c.in-Some-flight_of.flight.now.activation })
    c.nothing-in-Some-flight_of.ensures
    ∙ search rules
