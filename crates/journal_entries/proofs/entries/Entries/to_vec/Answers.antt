use Rattle.std.proofs.Common.{◌≡◌, ◌<◌, arith, sym, ap, ◌∙◌, option_map}
use Rattle.journal_entries.specs.Rows.{seen}
use Rattle.journal_entries.proofs.Rowing.{none_here, taken_more}
use Rattle.journal_entries.proofs.entries.Entries.to_vec.Goals as goal
use Rattle.journal_entries.proofs.entries.Entries.to_vec.Goals.{in-Some+in_ok-push_copy, in_default}

pub loop-place-preserved : goal.loop-place-preserved
loop-place-preserved c =
    elim c.match-get.branch [
      | in-Some+in_ok-push_copy w ↦ ap (λ v. v.items) w.entries-is
          ∙ taken_more c.args.self.now.items c.loop-place.entries.items _ c.loop-place.place _ c.loop-place.invariant w.in_ok-push_copy.ensures
          (sym (ap (option_map seen) w.in-Some.is) ∙ c.get.ensures)
      | in_default w ↦
          absurd (none_here c.args.self.now.items c.loop-place.place
          (let below = c.loop-place-test.true in let long = c.len-place-end.ensures in omega (arith, below, long))
          (sym (ap (option_map seen) w.in_default.is) ∙ c.get.ensures))
    ]
