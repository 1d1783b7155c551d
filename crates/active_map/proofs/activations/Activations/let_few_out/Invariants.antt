use Rattle.std.proofs.Common.{◌≡◌, map}
use Rattle.history_standing.specs.Ends.{let_out}
use Rattle.history_standing.specs.Standings.{Standing}
use Rattle.active_map.proofs.activations.Activations.let_few_out.Given as goal

abbrev pub invariant-loop : goal.invariant-loop
invariant-loop l =
    (l.self.forgotten ≡ l.initial.self.forgotten)
    × ((s : Standing) → s.flights ≡ l.flights → map (let_out l.config s) l.self.kept ≡ map (let_out l.config s) l.initial.self.kept)
