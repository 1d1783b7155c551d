-- A call that isn't taken fills the run.
use Rattle.std.proofs.Common.{ℕ, refl, length}
use Rattle.poa_base.specs.declared.Entry.TheVariants.{Filled}
use Rattle.poa_history.specs.Legal.{MayFill}
use Rattle.core_run.specs.declared.inside.Inside.{Inside}
use Rattle.core_run.specs.Agrees.{history}
use Rattle.core_run.specs.Noting.{HasRoomForEntry, IsNoted}
use Rattle.core_run.specs.ToCome.{stay}
use Rattle.core_run.specs.Kept.{IsKept}
use Rattle.core_run.proofs.Space.{stay_filled, stay_unfilled}
use Rattle.core_run.proofs.Connected.{brief_room, some_room, less_one}
use Rattle.core_run.proofs.Keeping.{kept_then}

module _ (conn size : ℕ) (i : Inside) (kept : IsKept i) (may : MayFill i.limit (history i) conn size) where
  pub filled_room : HasRoomForEntry (Filled conn size) i
  filled_room =
      brief_room (Filled conn size) i refl refl refl tt
      (some_room (length i.entries.items) i.desk.due (stay i.tables) (i.entries.capacity)
      (stay_unfilled (history i) i.tables may.first kept.agrees.tables) kept.space)

  pub filled_kept : (new : Inside) → IsNoted (Filled conn size) i new → IsKept new
  filled_kept new noted =
      kept_then 0 (Filled conn size) i new noted refl
      (less_one (stay i.tables) (stay new.tables) (stay_filled (history i) conn size i.tables new.tables may.first kept.agrees.tables noted.tables)) kept.space
