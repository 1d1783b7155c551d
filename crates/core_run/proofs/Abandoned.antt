-- A worker gives the run up.
use Rattle.std.proofs.Common.{◌≡◌, ℕ, ◌<◌, false, refl, length}
use Rattle.poa_base.specs.declared.Entry.TheVariants.{Abandon}
use Rattle.history_standing.specs.Stages.{is_abandoned}
use Rattle.core_run.specs.declared.inside.Inside.{Inside}
use Rattle.core_run.specs.Agrees.{history}
use Rattle.core_run.specs.Noting.{HasRoomForEntry, IsNoted}
use Rattle.core_run.specs.ToCome.{stay}
use Rattle.core_run.specs.Kept.{IsKept}
use Rattle.core_run.proofs.Connected.{brief_room, some_room, less_one}
use Rattle.core_run.proofs.Space.{stay_abandoned, stay_going}
use Rattle.core_run.proofs.Keeping.{kept_then}

module _ (w : ℕ) (i : Inside) (kept : IsKept i) (low : w < 16) (going : is_abandoned (history i) w ≡ false) where
  pub abandoned_room : HasRoomForEntry (Abandon w) i
  abandoned_room =
      brief_room (Abandon w) i refl refl refl tt
      (some_room (length i.entries.items) i.desk.due (stay i.tables) (i.entries.capacity)
      (stay_going (history i) w i.tables low going kept.agrees.tables) kept.space)

  pub abandoned_kept : (new : Inside) → IsNoted (Abandon w) i new → IsKept new
  abandoned_kept new noted =
      kept_then 0 (Abandon w) i new noted refl
      (less_one (stay i.tables) (stay new.tables) (stay_abandoned (history i) w i.tables new.tables low going kept.agrees.tables noted.tables)) kept.space
