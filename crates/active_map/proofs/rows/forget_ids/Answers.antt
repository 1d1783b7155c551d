use Rattle.std.proofs.Common.{◌∙◌, ◌==◌, filter, not, sym, subst}
use Rattle.std.specs.Map.{values_of}
use Rattle.active_map.specs.ById.{IsAt, numbers_of}
use Rattle.active_map.proofs.IdsKept.{ForgetsUpTo, forgets_more, keeps_more, values_apart}
use Rattle.active_map.proofs.rows.forget_ids.Goals as goal

pub loop-activation-preserved-then-is_over : goal.loop-activation-preserved-then-is_over
loop-activation-preserved-then-is_over c =
    (let a = c.in-Some.activation.now in
    let all = values_of c.args.rows.now.entries in
    let rest = c.next.new.self in
    let so_far = subst (ForgetsUpTo c.args.config.now c.loop-activation.index all) c.in-Some.ensures.steps c.loop-activation.invariant in
    let others = values_apart c.args.rows.now.entries c.requires.keyed c.requires.ordered so_far.done rest a so_far.split in
    forgets_more c.args.config.now c.loop-activation.index all rest a so_far c.remove.new.index
    (sym c.is_over.ensures ∙ c.if-is_over.true) others.0 others.1
    (subst (λ oid. IsAt a.adapter oid (filter (λ n. not (n == a.number)) (numbers_of c.loop-activation.index a.adapter oid)) c.loop-activation.index
    c.remove.new.index) c.as_slice.ensures.value c.remove.ensures))

pub loop-activation-preserved : goal.loop-activation-preserved
loop-activation-preserved c =
    (let a = c.in-Some.activation.now in
    let so_far = subst (ForgetsUpTo c.args.config.now c.loop-activation.index (values_of c.args.rows.now.entries)) c.in-Some.ensures.steps
    c.loop-activation.invariant in
    keeps_more c.args.config.now c.loop-activation.index (values_of c.args.rows.now.entries) c.next.new.self a so_far
    (sym c.is_over.ensures ∙ c.if-is_over.false))
