use Rattle.std.proofs.Common.{◌≡◌, ◌+◌, length}
use Rattle.active_map.specs.Live.{live}
use Rattle.active_map.proofs.activations.Activations.forget_few.Given as goal

abbrev pub invariant-loop : goal.invariant-loop
invariant-loop l =
    (live l.config l.self.kept ≡ live l.config l.initial.self.kept)
    × (l.self.forgotten + length l.self.kept ≡ l.initial.self.forgotten + length l.initial.self.kept)
