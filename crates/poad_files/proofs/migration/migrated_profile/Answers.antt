use Rattle.poad_files.proofs.Moving.{stays, not_moved, anew}
use Rattle.poad_files.proofs.migration.migrated_profile.Goals as goal

pub returns-in_default : goal.returns-in_default
returns-in_default c =
    stays c.args.config.now c.args.profile.now c.copy.result
    (λ body key tag has moves. (rw c.in_default.is at c.in_ok-parts.ensures) body has) c.copy.ensures

pub returns-in-Some-2 : goal.returns-in-Some-2
returns-in-Some-2 c =
    let has = rw c.in-Some.is at c.in_ok-parts.ensures in
    let to = rw c.in-Some-2.is at c.in_ok-key.ensures in
    anew c.args.config.now c.args.profile.now c.in-Some.parts c.with_key.result c.in-Some-2.key c.write_parts.result has to c.with_key.ensures
    c.write_parts.ensures.profile c.write_parts.ensures.back

pub returns-in-None : goal.returns-in-None
returns-in-None c =
    let has = rw c.in-Some.is at c.in_ok-parts.ensures in
    let none = rw c.in-None.is at c.in_ok-key.ensures in
    stays c.args.config.now c.args.profile.now c.copy-in-None.result (not_moved c.args.config.now c.args.profile.now c.in-Some.parts has none) c.copy-in-None.ensures
