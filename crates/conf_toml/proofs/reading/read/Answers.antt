use Rattle.std.proofs.Common.{[]}
use Rattle.poa_policy.proofs.Each.{each_more}
use Rattle.conf_fields.proofs.Entries.{reached_more}
use Rattle.conf_toml.proofs.reading.read.Goals as goal

pub loop-i-preserved : goal.loop-i-preserved
loop-i-preserved g c =
    let inv = c.loop-i.invariant in
    let done = c.loop-i.entries.items in
    let entry = c.in_ok-entry.entry in
    rw c.in-Ok.ensures.items (record {
      reached =
          reached_more (g.R.Reader.after c.args.reader.now) c.args.values.now c.loop-i.i done c.index-values-i.result entry
          c.loop-i-test.true c.index-values-i.is inv.reached (rw (← c.as_slice.ensures.value) c.in_ok-entry.ensures.value);
      rule = each_more (g.R.Reader.rule c.args.reader.now) [] done entry inv.rule (rw (← c.as_slice.ensures.value) c.in_ok-entry.ensures.rule);
      noted = rw (← c.as_slice.ensures.value) c.in_ok-entry.ensures.noted;
    })
