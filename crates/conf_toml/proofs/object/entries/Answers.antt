use Rattle.std.proofs.Common.{[]}
use Rattle.conf_fields.specs.Numbers.{find_in}
use Rattle.conf_fields.proofs.Entries.{reached_more}
use Rattle.poa_policy.proofs.Each.{each_more}
use Rattle.conf_toml.specs.Found.{IsReadAfter}
use Rattle.conf_toml.specs.Objects.{object_after}
use Rattle.conf_toml.proofs.Noting.{ids_next, taken_next}
use Rattle.conf_toml.proofs.object.entries.Goals as goal

pub loop-i-preserved : goal.loop-i-preserved
loop-i-preserved c =
    let inv = c.loop-i.invariant in
    let done = c.loop-i.objects.items in
    let o = c.in_ok-object.object in
    let one = object_after (find_in c.args.homes.now.paths.now) c.args.homes.now.adapters.now (find_in c.args.homes.now.servants.now) in
    rw c.in-Ok.ensures.items (record {
      reached =
          reached_more one c.args.values.now c.loop-i.i done c.index-values-i.result o c.loop-i-test.true c.index-values-i.is inv.reached
          (rw (inv.reached.count, ← inv.ids, ← inv.taken) c.in_ok-object.ensures.entry);
      read = each_more (IsReadAfter (find_in c.args.homes.now.paths.now) c.args.homes.now.adapters.now (find_in c.args.homes.now.servants.now))
          [] done o inv.read (rw (← inv.ids, ← inv.taken) c.in_ok-object.ensures.read);
      ids = ids_next done o (find_in c.loop-i.ids) (find_in c.next_object.new.ids) inv.ids c.in_ok-object.ensures.ids;
      taken = taken_next done o (find_in c.loop-i.taken) (find_in c.next_object.new.taken) inv.taken c.in_ok-object.ensures.taken;
    })
