use Rattle.std.proofs.Common.{◌≡◌, drop}
use Rattle.std.specs.Prelude.{fold}
use Rattle.poa_base.specs.Templates.{digest, with_name}
use Rattle.poa_base.proofs.templates.digest.Given as goal

abbrev pub invariant-loop-name : goal.invariant-loop-name
invariant-loop-name l = fold with_name l.sum (drop l.name-index l.path) ≡ digest l.path
