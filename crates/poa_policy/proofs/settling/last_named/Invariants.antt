use Rattle.std.proofs.Common.{◌≡◌, ◌≤◌, take}
use Rattle.poa_policy.specs.Kinds.{kind_of}
use Rattle.poa_policy.specs.Rules.{names}
use Rattle.poa_policy.specs.Settled.{last_place}
use Rattle.poa_policy.proofs.settling.last_named.Given as goal

-- the last place so far, and that it is one of those passed
abbrev pub invariant-loop-i : goal.invariant-loop-i
invariant-loop-i l = record {
  within : l.last ≤ l.i;
  place : l.last ≡ last_place (λ p. names l.rule (kind_of p)) (take l.i l.list);
}
