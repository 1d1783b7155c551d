use Rattle.std.proofs.Common.{sym, refl, subst}
use Rattle.object_key.specs.Spelling.{TagsPersistent}
use Rattle.replay_run.specs.Asking.{stamp_for}
use Rattle.replay_run.proofs.Asked.{untagged}
use Rattle.replay_run.proofs.asking.key_bytes.Goals as goal

pub write_key-requires : goal.write_key-requires
write_key-requires c = subst TagsPersistent (sym c.in_ok-key.ensures) (untagged (stamp_for c.args.core.now c.args.path.now) 0 refl)
