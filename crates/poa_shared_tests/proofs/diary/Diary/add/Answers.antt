use Rattle.std.proofs.Common.{rules}
use Rattle.poa_shared_tests.proofs.Notes.{has_after}
use Rattle.poa_shared_tests.proofs.diary.Diary.add.Goals as goal

pub invariant_of-self : goal.invariant_of-self
invariant_of-self c = record {
  counted = search rules;
  known = has_after _ c.args.self.now.notes.items _ _ c.args.entry c.push.ensures.items c.args.self.now.known c.requires;
}
