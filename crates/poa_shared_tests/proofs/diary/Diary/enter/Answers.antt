use Rattle.std.proofs.Common.{rules, arith}
use Rattle.poa_shared_tests.specs.Notes.{note}
use Rattle.poa_shared_tests.proofs.Notes.{has_push}
use Rattle.poa_shared_tests.proofs.diary.Diary.enter.Goals as goal

pub invariant_of-self-2 : goal.invariant_of-self-2
invariant_of-self-2 c = record {
  counted = search rules;
  known = has_push c.args.self.now.notes.items _ _ _ (note c.args.self.now.writers 0) (search rules) c.args.self.now.known (omega arith) (omega arith);
}
