-- The whole of a table of activations: its rows, and what they are found by.
use Rattle.std.specs.Prelude.{ℕ, List}
use Rattle.std.specs.BTreeMap.{BTreeMap}
use Rattle.std.specs.Map.{values_of}
use Rattle.history_standing.specs.declared.activation.Activation.{Activation}
use Rattle.active_map.specs.ById.{Ids}
use Rattle.active_map.specs.Noted.{IsNoted}
use Rattle.active_map.specs.Tables.{Covers, IsIndexed, IsTable}
use Rattle.active_map.specs.declared.passing.Passing.{Passing}

-- the rows, the index of their activations by id, the numbers of those that are leaving, and what is known of those that pass
pub record IsWhole (forgotten moving : ℕ) (ids : BTreeMap ℕ Ids) (leaving : List ℕ) (passing : Passing) (rows : List (ℕ × Activation)) : Type 0 where
  pub table : IsTable forgotten moving rows
  pub indexed : IsIndexed ids (values_of rows)
  pub covered : Covers leaving (values_of rows)
  pub noted : IsNoted passing (values_of rows)
