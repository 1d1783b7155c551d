use Rattle.std.proofs.Common.{arith, ap, length, ◌∙◌}
use Rattle.core_run.proofs.Begun.{begun_kept}
use Rattle.core_run.proofs.beginning.begin.Goals as goal

pub returns-clause-kept : goal.returns-clause-kept
returns-clause-kept c =
    begun_kept _ (record {
      rules = c.requires.rules;
      numbered = c.ranges.run.fits;
      limited = c.requires.limit;
      state = c.in_ok-entries.ensures.state;
      tables = c.in_ok-entries.ensures.tables;
      owing = c.new.ensures.owing;
      files = c.new.ensures.files;
      entries = c.in_ok-entries.ensures.entries;
      len = ap length (c.in_ok-entries.ensures.entries);
      space = (let fits = c.in_ok-entries.ensures.room in omega (arith, fits));
    })
