use Rattle.std.proofs.Common.{◌≡◌, ◌||◌, ◌++◌, not, filter, take, drop}
use Rattle.history_standing.specs.Paths.{is_root}
use Rattle.history_standing.specs.Ends as ends
use Rattle.core_standing.specs.Seen.{seen}
use Rattle.core_standing.proofs.settling.drop_each.Given as goal

abbrev pub invariant-loop-i : goal.invariant-loop-i
invariant-loop-i l =
    seen l.standing ≡ record (seen l.initial.standing) {
      nodes = take l.i l.initial.standing.nodes.items
          ++ filter (λ n. is_root n.path || not (ends.is_done_with l.config (seen l.initial.standing) n)) (drop l.i l.initial.standing.nodes.items);
    }
