use Rattle.std.proofs.Common.{List, ℕ, subst}
use Rattle.poad_files.specs.StateFile.{ReadsState}
use Rattle.poad_files.proofs.Files.{state_taken}
use Rattle.poad_files.proofs.state_file.take_state.Goals as goal

pub returns-in-Ok-clause-taken : goal.returns-in-Ok-clause-taken
returns-in-Ok-clause-taken g c = state_taken c.args.name.now c.in-Ok.content c.store_of.result _ _ c.in-Ok.ensures.taken
    (subst (λ (bytes : List ℕ). ReadsState bytes c.store_of.result) c.as_slice.ensures c.store_of.ensures.read)
