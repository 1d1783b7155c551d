use Rattle.std.proofs.Common.{◌≡◌, ◌<◌, ◌∙◌, ◌++◌, ◌∷◌, ◌==◌, [], ap, arith, drop, filter, get_or, length, map, not, rules, take}
use Rattle.std.specs.List.{list_any}
use Rattle.history_standing.specs.Stages as begun
use Rattle.core_standing.specs.Seen.{seen}
use Rattle.core_outboxes.specs.Decided.{target_of}
use Rattle.core_outboxes.specs.Desk as desks
use Rattle.core_outboxes.specs.Outboxes.{replies_at}
use Rattle.core_outboxes.proofs.Filing.{file_step, kept_step, next_first, some_of}
use Rattle.core_outboxes.proofs.rows.file_decided.Goals as goal

pub loop-i-preserved : goal.loop-i-preserved
loop-i-preserved c =
    let decides = desks.is_decided c.args.config.now (seen c.args.standing.now) in
    let target = target_of c.args.decision in
    let now = decides target c.args.ordered in
    let os = c.args.owing.now.items in
    let inv = c.loop-i.invariant in
    let within : c.loop-i.i < length os = omega arith in
    let d = some_of os within in
    let one : take 1 c.loop-i.owing.items ≡ get_or os c.loop-i.i d ∷ [] =
    ap (take 1) inv.kept ∙ (next_first os (filter (λ o. not (now o)) (take c.loop-i.i os)) c.loop-i.i d within).0 in
    let rows = take 1 c.loop-i.owing.items in
    let step = file_step now c.args.decision os c.loop-i.i d c.loop-i.decision c.file_first.new.decision
    (λ n. replies_at c.args.outboxes.now.boxes.items n) (λ n. replies_at c.loop-i.outboxes.boxes.items n)
    (λ n. replies_at c.file_first.new.outboxes.boxes.items n) within c.requires.alone
    (λ n. (c.file_first.ensures.filed n
    ∙ ap (λ t. replies_at c.loop-i.outboxes.boxes.items n ++ filter (λ f. f.conn == n)
    (map (desks.file c.loop-i.decision) (filter (decides t c.args.ordered) rows))) inv.target
    ∙ ap (λ os. replies_at c.loop-i.outboxes.boxes.items n ++ filter (λ f. f.conn == n)
    (map (desks.file c.loop-i.decision) (filter now os))) one))
    (λ none. c.file_first.ensures.left (ap (λ t. list_any (λ o. begun.is_at o.arrival t) rows) inv.target
    ∙ ap (list_any (λ o. begun.is_at o.arrival target)) one ∙ none)) inv.filed inv.target inv.left in
    record {
      kept = kept_step now os c.loop-i.i d c.loop-i.owing.items c.file_first.new.owing.items within inv.kept
          (c.file_first.ensures.kept
          ∙ ap (λ t. drop 1 c.loop-i.owing.items ++ filter (λ o. not (decides t c.args.ordered o)) rows) inv.target);
      filed = step.0;
      awaited = c.file_first.ensures.awaited;
      target = c.file_first.ensures.target ∙ inv.target;
      left = step.1;
      fewer = search rules;
      places = search rules;
      room = λ n room. c.file_first.ensures.room n (inv.room n room);
    }
