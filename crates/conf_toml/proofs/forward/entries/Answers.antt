use Rattle.std.proofs.Common.{[], arith}
use Rattle.std.proofs.lemmas.List.{length-map}
use Rattle.text_words.specs.Path.{path_text}
use Rattle.conf_fields.specs.Numbers.{find_in}
use Rattle.conf_fields.proofs.Entries.{reached_more}
use Rattle.conf_fields.proofs.Finds.{noted_next}
use Rattle.poa_policy.specs.Kept.{IsForward}
use Rattle.poa_policy.proofs.Each.{each_more}
use Rattle.conf_toml.proofs.Kept.{forward_keeps}
use Rattle.conf_toml.specs.Forwards.{forward_after, forward_paths}
use Rattle.conf_toml.proofs.Noting.{forward_paths_more}
use Rattle.conf_toml.proofs.forward.entries.Goals as goal

pub loop-i-preserved : goal.loop-i-preserved
loop-i-preserved c =
    let inv = c.loop-i.invariant in
    let done = c.loop-i.forwards.items in
    let f = c.in_ok-forward.forward in
    rw c.in-Ok.ensures.items (record {
      reached =
          reached_more forward_after c.args.values.now c.loop-i.i done c.index-values-i.result f c.loop-i-test.true c.index-values-i.is inv.reached
          (rw (inv.reached.count, ← inv.noted) c.in_ok-forward.ensures.entry);
      kept = each_more IsForward [] done f inv.kept
          (forward_keeps done f (find_in c.loop-i.paths) inv.noted c.in_ok-forward.ensures.fresh c.in_ok-forward.ensures.written
          c.in_ok-forward.ensures.endpoint);
      noted = rw (forward_paths_more done f)
          (noted_next (find_in c.loop-i.paths) (find_in c.next_forward.new.paths) (forward_paths done) (path_text f.path) c.loop-i.i
          (omega (arith, length-map done (λ x. path_text x.path), inv.reached.count)) inv.noted c.in_ok-forward.ensures.fresh c.in_ok-forward.ensures.noted);
    })
