-- The first entry that isn't legal, of a history in the journal's order, the oldest entry first.
use Rattle.std.specs.Prelude.{◌≡◌, ℕ, ◌<◌, List, length, take, reverse, slice_get, Some}
use Rattle.poa_base.specs.declared.Config.{Config}
use Rattle.poa_base.specs.declared.Entry.{Entry}
use Rattle.poa_history.specs.Legal.{MayFollow, IsLegal}

-- the entries before the place are legal, and the entry at the place may not follow them
pub record IsFirstIllegal (c : Config) (run limit : ℕ) (h : List Entry) (place : ℕ) : Type 0 where
  pub stands : place < length h
  pub legal : IsLegal c run limit (reverse (take place h))
  pub refused : (e : Entry) → slice_get h place ≡ Some e → MayFollow c run limit (reverse (take place h)) e → ⊥
