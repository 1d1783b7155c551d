use Rattle.std.proofs.Common.{◌∙◌, ◌++◌, ◌==◌, Some, ap, filter, map, not, refl, sym}
use Rattle.std.specs.List.{list_any}
use Rattle.history_standing.specs.Stages as begun
use Rattle.core_standing.specs.Seen.{seen}
use Rattle.core_outboxes.specs.Decided.{target_of}
use Rattle.core_outboxes.specs.Desk as desks
use Rattle.core_outboxes.specs.Owed.{has_wait}
use Rattle.core_outboxes.specs.Outboxes.{replies_at}
use Rattle.core_outboxes.proofs.Filing.{unfiled}
use Rattle.core_outboxes.proofs.NoneWaits.{all_stay, decided_alone, kept_none}
use Rattle.core_outboxes.proofs.Outgoing.{files_after}
use Rattle.core_outboxes.proofs.desk.Desk.decide.Goals as goal

-- where a command waits
pub returns-then-self-clause-files : goal.returns-then-self-clause-files
returns-then-self-clause-files c = λ fs files.
    files_after c.args.self.now _ fs (desks.is_decided c.args.config.now (seen c.args.standing.now) (target_of c.args.decision) c.args.ordered)
    (desks.file c.args.decision) files refl c.file_decided.ensures.kept c.file_decided.ensures.filed

-- where none does, and the entry decides a call
pub invariant_of-self-in-Some-clause-waits_is : goal.invariant_of-self-in-Some-clause-waits_is
invariant_of-self-in-Some-clause-waits_is c =
    c.if-self.false
    ∙ sym (ap (list_any has_wait) c.file_decision.ensures.kept
    ∙ kept_none (λ o. not (begun.is_at o.arrival (Some c.in-Some.decision.arrival))) c.args.self.now.owing.items
    (sym c.args.self.now.waits_is ∙ c.if-self.false))

pub returns-in-Some-clause-owing : goal.returns-in-Some-clause-owing
returns-in-Some-clause-owing c =
    let os = c.args.self.now.owing.items in
    c.file_decision.ensures.kept
    ∙ ap (λ d. filter (λ o. not (begun.is_at o.arrival (target_of d))) os) (sym c.in-Some.is)
    ∙ (decided_alone c.args.config.now (seen c.args.standing.now) (target_of c.args.decision) c.args.ordered os
    (sym c.args.self.now.waits_is ∙ c.if-self.false)).1

pub returns-in-Some-clause-files : goal.returns-in-Some-clause-files
returns-in-Some-clause-files c = λ fs files.
    (let os = c.args.self.now.owing.items in
    files_after c.args.self.now _ fs (desks.is_decided c.args.config.now (seen c.args.standing.now) (target_of c.args.decision) c.args.ordered)
    (desks.file c.args.decision) files refl (returns-in-Some-clause-owing c)
    (λ n. c.file_decision.ensures.filed n
    ∙ ap (λ d. replies_at c.args.self.now.outboxes.boxes.items n ++ filter (λ f. f.conn == n)
    (map (desks.file d) (filter (λ o. begun.is_at o.arrival (target_of d)) os))) (sym c.in-Some.is)
    ∙ ap (λ rows. replies_at c.args.self.now.outboxes.boxes.items n ++ filter (λ f. f.conn == n) (map (desks.file c.args.decision) rows))
    (decided_alone c.args.config.now (seen c.args.standing.now) (target_of c.args.decision) c.args.ordered os
    (sym c.args.self.now.waits_is ∙ c.if-self.false)).0))

-- where it decides none
pub returns-in_default-clause-owing : goal.returns-in_default-clause-owing
returns-in_default-clause-owing c =
    (all_stay c.args.config.now (seen c.args.standing.now) (target_of c.args.decision) c.args.ordered c.args.self.now.owing.items
    (sym c.args.self.now.waits_is ∙ c.if-self.false) (ap target_of c.in_default.is)).1

pub returns-in_default-clause-files : goal.returns-in_default-clause-files
returns-in_default-clause-files c = λ fs files.
    files_after c.args.self.now _ fs (desks.is_decided c.args.config.now (seen c.args.standing.now) (target_of c.args.decision) c.args.ordered)
    (desks.file c.args.decision) files refl (returns-in_default-clause-owing c)
    (λ n. unfiled c.args.decision (replies_at c.args.self.now.outboxes.boxes.items n) _ (λ f. f.conn == n)
    (all_stay c.args.config.now (seen c.args.standing.now) (target_of c.args.decision) c.args.ordered c.args.self.now.owing.items
    (sym c.args.self.now.waits_is ∙ c.if-self.false) (ap target_of c.in_default.is)).0)
