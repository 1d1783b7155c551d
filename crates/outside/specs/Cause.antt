-- When an object of the outside gives an answer that is its own: its count of such answers rose.
use Rattle.std.specs.Prelude.{◌≡◌, ℕ, ◌-◌, ◌^◌, ◌<◌, ◌≤◌, ◌⊎◌}

-- a count rose, or stands at the end of its type
abbrev pub Rose : ℕ → ℕ → Type 0
Rose before now = (before < now) ⊎ (now ≡ 2 ^ 64 - 1)

-- a count never falls, and rose where the answer was given
pub record HasCause (before now : ℕ) (Answer : Type 0) : Type 0 where
  pub later : before ≤ now
  pub rose : Answer → Rose before now
