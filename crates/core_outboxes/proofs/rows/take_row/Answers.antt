use Rattle.std.proofs.Common.{rules, ◌≡◌, ◌<◌, ◌∙◌, ap, length, option_to_list, slice_index_or, sym}
use Rattle.std.specs.VecDeque.{deque_len}
use Rattle.core_outboxes.proofs.Rising.{first_alone}
use Rattle.core_outboxes.proofs.rows.take_row.Goals as goal

pub returns-then-first-arrival-clause-row : goal.returns-then-first-arrival-clause-row
returns-then-first-arrival-clause-row c =
    let os = c.args.owing.now.items in
    let first = c.in-Some.first.now in
    let some : 0 < length os = search rules in
    let full : 0 < deque_len c.args.owing.now = search rules in
    let at : (slice_index_or os 0 first).arrival ≡ c.args.arrival = ap (λ o. o.arrival) (sym c.in-Some.ensures.lookup) ∙ c.if-first-arrival.true in
    ap option_to_list (c.pop_front.ensures.value first full) ∙ sym (first_alone c.args.arrival os first c.requires some at).0

pub returns-then-first-arrival-clause-kept : goal.returns-then-first-arrival-clause-kept
returns-then-first-arrival-clause-kept c =
    let os = c.args.owing.now.items in
    let first = c.in-Some.first.now in
    let some : 0 < length os = search rules in
    let at : (slice_index_or os 0 first).arrival ≡ c.args.arrival = ap (λ o. o.arrival) (sym c.in-Some.ensures.lookup) ∙ c.if-first-arrival.true in
    c.pop_front.ensures.rest ∙ sym (first_alone c.args.arrival os first c.requires some at).1
