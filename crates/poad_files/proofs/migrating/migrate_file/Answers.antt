-- The file is taken as a configuration, or gives none.
use Rattle.std.proofs.Common.{inl, inr}
use Rattle.poad_files.proofs.Files.{same_held}
use Rattle.poad_files.proofs.migrating.migrate_file.Goals as goal

pub returns-in-Ok-clause-migrates : goal.returns-in-Ok-clause-migrates
returns-in-Ok-clause-migrates g c =
    inr (record { config = c.in-Ok.config; taken = c.in-Ok.ensures.taken; migrates = c.migrate_text.ensures.migrates })

pub returns-in-Err-clause-migrates : goal.returns-in-Err-clause-migrates
returns-in-Err-clause-migrates g c = inl (c.in-Err.ensures.taken, same_held _)
