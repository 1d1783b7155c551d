-- Which activations an entry touches.
use Rattle.std.specs.Prelude.{◌≡◌, ℕ, Bool, true, false, not, ◌||◌, ◌==◌, List, map}
use Rattle.poa_base.specs.declared.Config.{Config}
use Rattle.history_standing.specs.declared.activation.Activation.{Activation}
use Rattle.history_standing.specs.Ends.{is_done_with, is_over, let_out}
use Rattle.history_standing.specs.Standings.{Standing}
use Rattle.history_standing.specs.declared.node.Node.{Node}
use Rattle.history_standing.specs.Paths.{is_root}
use Rattle.history_standing.specs.Trees.{In}
use Rattle.core_standing.specs.Seen.{forgotten}
use Rattle.core_standing.specs.declared.touched.Touched.{Touched}
use Rattle.core_standing.specs.declared.touched.Touched.TheVariants.{Nothing, One, All}

-- the one of this number is among them
abbrev pub is_touched : Touched → ℕ → Bool
is_touched Nothing k = false
is_touched (One n) k = n == k
is_touched All k = true

-- none of the activations is to leave the map
abbrev pub Still : Config → Standing → Type 0
Still c s = (a : Activation) → In a s.activations → let_out c s a ≡ a

-- none but some that are touched
abbrev pub Others : Config → (ℕ → Bool) → Standing → Type 0
Others c touched s = (a : Activation) → In a s.activations → touched a.number ≡ false → let_out c s a ≡ a

-- but for those that are touched the activations are the same
pub record SameOthers (touched : ℕ → Bool) (before after : List Activation) : Type 0 where
  pub stood : (a : Activation) → In a after → touched a.number ≡ false → In a before
  pub stays : (a : Activation) → In a before → touched a.number ≡ false → In a after

-- of those that are over all are forgotten but some that are touched
abbrev pub OverTouched : Config → (ℕ → Bool) → Standing → Type 0
OverTouched c touched s = (a : Activation) → In a s.activations → touched a.number ≡ false → is_over c a ≡ true → a ≡ forgotten

-- what is to leave the map did
abbrev pub left : Config → Standing → Standing
left c s = record s { activations = map (let_out c s) s.activations }

-- no adapter goes where the adapter of the activation of this number has one that isn't over
abbrev pub Lasts : Config → ℕ → Standing → Type 0
Lasts c n s =
    (a b : Activation) → In a s.activations → a.number ≡ n → In b s.activations → is_over c b ≡ false → b.adapter ≡ a.adapter
    → (m : Node) → In m s.nodes → (is_root m.path || not (is_done_with c s m)) ≡ true
