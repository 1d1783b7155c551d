use Rattle.std.proofs.Common.{◌≡◌, drop}
use Rattle.history_standing.specs.Opening as opens
use Rattle.core_standing.specs.Seen.{seen}
use Rattle.core_standing.proofs.beginning.add_objects.Given as goal

abbrev pub invariant-loop-object : goal.invariant-loop-object
invariant-loop-object l =
    opens.with_objects l.run (drop l.object-index l.objects) (seen l.standing) ≡ opens.with_objects l.run l.objects (seen l.initial.standing)
