-- The words of an invocation.
use Rattle.std.proofs.Common.{◌≡◌, ℕ, ◌<◌, List, [], ◌∷◌, None, length, map, refl, arith}
use Rattle.replay_script.specs.Reading.{invocation_of}

-- with fewer than three words there is none
pub too_few_words : {W : Type 0} (word : W → List ℕ) (ws : List W) → length ws < 3 → invocation_of (map word ws) ≡ None
too_few_words word [] few = refl
too_few_words word (a ∷ []) few = refl
too_few_words word (a ∷ b ∷ []) few = refl
too_few_words word (a ∷ b ∷ c ∷ ws) few = absurd (omega (arith, few))
