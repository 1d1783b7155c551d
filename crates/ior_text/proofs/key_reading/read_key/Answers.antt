use Rattle.ior_text.proofs.KeyStrings.{read_more}
use Rattle.ior_text.proofs.key_reading.read_key.Goals as goal

pub loop-rest-preserved : goal.loop-rest-preserved
loop-rest-preserved c =
    rw c.in_ok-push.ensures.items (read_more _ _ _ _ _ _ c.loop-rest.invariant c.in-Some.ensures)
