use Rattle.std.proofs.Common.{◌≡◌, ◌++◌, map, length}
use Rattle.text_words.specs.Cuts.{parts_of}
use Rattle.text_words.proofs.cuts.parts.Given as goal

abbrev pub invariant-loop-found : goal.invariant-loop-found
invariant-loop-found l = map (λ x. x.now) l.found.items ++ parts_of l.separator l.rest ≡ parts_of l.separator l.fn.text

abbrev pub decreases-loop-found : goal.decreases-loop-found
decreases-loop-found l = length l.rest
