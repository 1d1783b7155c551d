use Rattle.std.proofs.Common.{arith, sym, ap, ◌∙◌, option_map}
use Rattle.journal_entries.specs.Rows.{seen}
use Rattle.journal_entries.proofs.Rowing.{none_here}
use Rattle.poa_journal.proofs.Printed.{line_more}
use Rattle.poa_journal.proofs.writing.put_kept.Goals as goal
use Rattle.poa_journal.proofs.writing.put_kept.Goals.{in-Some+in_ok-put_line, in_default}

pub loop-place-preserved : goal.loop-place-preserved
loop-place-preserved c =
    elim c.match-get.branch [
      | in-Some+in_ok-put_line w ↦
          line_more c.match-get.out.items c.loop-place.out.items c.args.entries.now.items c.loop-place.place _ _
          (ap (λ v. v.items) w.out-is ∙ w.in_ok-put_line.ensures)
          (sym (ap (option_map seen) w.in-Some.is) ∙ c.get.ensures) c.loop-place.invariant
      | in_default w ↦
          absurd (none_here c.args.entries.now.items c.loop-place.place
          (let below = c.loop-place-test.true in let long = c.len-place-end.ensures in omega (arith, below, long))
          (sym (ap (option_map seen) w.in_default.is) ∙ c.get.ensures))
    ]
