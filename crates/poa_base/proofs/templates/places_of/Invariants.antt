use Rattle.std.proofs.Common.{◌≡◌, ℕ, drop}
use Rattle.std.specs.Option.{option_or}
use Rattle.std.specs.BTreeMap as tree
use Rattle.std.specs.List.{position_from}
use Rattle.std.specs.Ordering.{nat_cmp}
use Rattle.poa_base.specs.Templates.{has_digest}
use Rattle.poa_base.proofs.templates.places_of.Given as goal

-- what the table has, or else the first of the entries behind, is the first of all
abbrev pub invariant-loop-place : goal.invariant-loop-place
invariant-loop-place l = (sum : ℕ) → option_or (tree.get nat_cmp l.places sum) (position_from (has_digest sum) l.place (drop l.place l.entries))
    ≡ position_from (has_digest sum) 0 l.entries
