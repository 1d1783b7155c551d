use Rattle.poad_files.proofs.Moving.{migrated_more}
use Rattle.poad_files.proofs.migration.migrated.Goals as goal

pub loop-profile-preserved : goal.loop-profile-preserved
loop-profile-preserved c =
    migrated_more _ _ _ _ _ _ _ c.loop-profile-test.true c.profile-item.is c.loop-profile.invariant c.in_ok-new.ensures c.in_ok-push.ensures.ok
