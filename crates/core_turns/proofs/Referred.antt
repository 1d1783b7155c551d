-- The key of a reference has a tag only where it is persistent.
use Rattle.std.proofs.Common.{◌≡◌, ℕ, Bool, true, false, List, None, Some, if◌then◌else◌, refl}
use Rattle.std.specs.Prelude.{IfSome}
use Rattle.poa_base.specs.declared.Config.{Config}
use Rattle.poa_base.specs.declared.Stamp.{Stamp}
use Rattle.object_key.specs.Spelling.{TagsPersistent}
use Rattle.history_standing.specs.References.{key_for}
use Rattle.history_standing.specs.Templates.{policies_at, tag_at, lasts}

pub tags_persistent : (c : Config) (run k : ℕ) (p : List (List ℕ)) (oid : List ℕ) → TagsPersistent (key_for c run k p oid)
tags_persistent c run k p oid = by_lifespan (lasts (policies_at c p))
  where
    stamp : Stamp
    stamp = record { run = run; number = k }

    by_lifespan : (b : Bool) → IfSome (if b then None else Some stamp) (λ _. (if b then tag_at c p else 0) ≡ 0)
    by_lifespan true = tt
    by_lifespan false = refl
