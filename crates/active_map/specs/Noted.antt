-- What is known of the activations that are on their way in or out.
use Rattle.std.specs.Prelude.{◌≡◌, ℕ, true, false, ◌==◌, List}
use Rattle.history_standing.specs.declared.activation.Activation.{Activation}
use Rattle.history_standing.specs.Trees.{In}
use Rattle.active_map.specs.Tables.{CoversOf, is_own, is_passing}
use Rattle.active_map.specs.declared.passing.Passing.{Passing}

-- the number of each that passes is known, and each servant that was made for one is its own, where it is said so
pub record IsNoted (known : Passing) (activations : List Activation) : Type 0 where
  pub passed : known.is_whole ≡ true → CoversOf is_passing known.numbers.items activations
  pub owned : known.are_own ≡ true → (a : Activation) → In a activations → is_own a ≡ true

-- what is known once an activation came or was changed
pub record NotedAs (a : Activation) (old new : Passing) : Type 0 where
  pub whole : new.is_whole ≡ true → old.is_whole ≡ true
  pub others : (n : ℕ) → In n old.numbers.items → (n == a.number) ≡ false → In n new.numbers.items
  pub its : new.is_whole ≡ true → is_passing a ≡ true → In a.number new.numbers.items
  pub was : new.are_own ≡ true → old.are_own ≡ true
  pub owns : new.are_own ≡ true → is_own a ≡ true
