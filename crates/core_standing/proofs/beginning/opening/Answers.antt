use Rattle.std.proofs.Common.{◌≡◌, rules}
use Rattle.history_standing.specs.Opening as opens
use Rattle.core_standing.specs.Seen.{seen}
use Rattle.core_standing.proofs.Overs.{opening_over}
use Rattle.core_standing.proofs.beginning.opening.Goals as goal

pub returns-clause-none_over : goal.returns-clause-none_over
returns-clause-none_over c =
    (let is : seen c.add_objects.new.standing ≡ opens.opening c.args.config.now c.args.run = search rules in
    opening_over c.args.config.now c.args.run (seen c.add_objects.new.standing) is)
