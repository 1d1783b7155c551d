use Rattle.std.proofs.Common.{◌≡◌, ◌∙◌, ◌++◌, ◌+◌, ◌==◌, Some, ap, ap₂, arith, filter, inl, length, refl, subst, sym}
use Rattle.history_standing.specs.Stages as begun
use Rattle.history_standing.specs.Trees.{In}
use Rattle.history_standing.proofs.Members.{in_kept}
use Rattle.core_outboxes.specs.Outboxes.{replies_at}
use Rattle.core_outboxes.proofs.Awaiting.{counted_apart, less_one, one_apart, some_await}
use Rattle.core_outboxes.proofs.Filing.{filed_one, unfiled}
use Rattle.core_outboxes.proofs.rows.file_decision.Goals as goal

pub returns-in_default-clause-filed : goal.returns-in_default-clause-filed
returns-in_default-clause-filed c = λ n.
    unfiled (Some c.args.decision) (replies_at c.args.outboxes.now.boxes.items n) _ (λ f. f.conn == n) (sym c.in_default.ensures.row)

pub returns-in_default-clause-awaited : goal.returns-in_default-clause-awaited
returns-in_default-clause-awaited c = λ n.
    (let own = c.requires.awaited n in
    let parts : length (filter (λ o. o.conn == n) c.args.owing.now.items) ≡ 0 + length (filter (λ o. o.conn == n) c.take_row.new.owing.items) =
    counted_apart (λ o. begun.is_at o.arrival (Some c.args.decision.arrival)) (λ o. o.conn == n) c.args.owing.now.items
    ∙ ap₂ (λ gone rows. length (filter (λ o. o.conn == n) gone) + length (filter (λ o. o.conn == n) rows))
    (sym c.in_default.ensures.row) (sym c.in_default.ensures.kept) in
    omega (arith, own, parts))

pub file-requires : goal.file-requires
file-requires c =
    some_await (λ o. begun.is_at o.arrival (Some c.args.decision.arrival)) c.args.owing.now.items c.in-Some.row _
    (sym c.in-Some.ensures.row) (c.requires.awaited c.in-Some.row.conn)

pub returns-in-Some-clause-filed : goal.returns-in-Some-clause-filed
returns-in-Some-clause-filed c =
    let os = c.args.owing.now.items in
    let row = c.in-Some.row in
    let its = (in_kept (λ o. begun.is_at o.arrival (Some c.args.decision.arrival)) row os (subst (In row) c.in-Some.ensures.row (inl refl))).1 in
    λ n. (c.file.ensures.replies n
    ∙ ap (λ fs. replies_at c.args.outboxes.now.boxes.items n ++ filter (λ f. f.conn == n) fs)
    (filed_one c.args.decision row (filter (λ o. begun.is_at o.arrival (Some c.args.decision.arrival)) os) (sym c.in-Some.ensures.row) its))

pub returns-in-Some-clause-awaited : goal.returns-in-Some-clause-awaited
returns-in-Some-clause-awaited c = λ n.
    (less_one _ _ _ _ _ (c.file.ensures.awaited n) (c.requires.awaited n)
    (one_apart (λ o. begun.is_at o.arrival (Some c.args.decision.arrival)) c.args.owing.now.items c.in-Some.row (sym c.in-Some.ensures.row) n)
    ∙ sym (ap (λ rows. length (filter (λ o. o.conn == n) rows)) c.in-Some.ensures.kept))
