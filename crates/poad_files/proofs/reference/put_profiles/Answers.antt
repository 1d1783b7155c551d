use Rattle.poad_files.proofs.Adding.{profiles_more}
use Rattle.poad_files.proofs.reference.put_profiles.Goals as goal

pub loop-index-preserved : goal.loop-index-preserved
loop-index-preserved c = profiles_more _ _ _ _ _ _ c.loop-index-test.true c.index-profiles-index.is c.loop-index.invariant c.in_ok-put_profile.ensures
