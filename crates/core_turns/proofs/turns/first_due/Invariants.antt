use Rattle.std.proofs.Common.{◌≡◌, ◌==◌, find}
use Rattle.std.specs.List.{filter_map}
use Rattle.poa_history.specs.Turns.{is_due}
use Rattle.core_standing.specs.Seen.{seen}
use Rattle.core_turns.specs.Busy.{IsBusy}
use Rattle.core_turns.proofs.turns.first_due.Given as goal

abbrev pub invariant-loop-number : goal.invariant-loop-number
invariant-loop-number l = record {
  same :
      find (is_due l.config (seen l.standing)) (filter_map (λ n. find (λ a. a.number == n) l.standing.activations.kept) l.number-iterator)
      ≡ find (is_due l.config (seen l.standing)) l.standing.activations.kept;
  busy : IsBusy l.config (seen l.standing) l.busy;
}
