use Rattle.std.proofs.Common.{sym, ◌∙◌, option_copied}
use Rattle.core_outboxes.proofs.DecidingReply.{decides_without, has_reply, may_decides, never_decides}
use Rattle.core_outboxes.proofs.decided.decision_of.Goals as goal

-- an entry that may decide its arrival decides it
pub returns-clause-decides : goal.returns-clause-decides
returns-clause-decides c = λ run opened past comes.
    may_decides c.args.config.now run opened past c.args.stage (option_copied c.args.call) c.args.settings.now c.args.outcome c.args.entry.now
    c.in-Some.arrival c.in-Some-2.reply (sym c.if-not-may_decide.ensures) comes (sym c.target_in.ensures ∙ c.in-Some.is)
    (sym (c.in_ok-reply.ensures.told past comes.told) ∙ c.in-Some-2.is)

-- it has its reply
pub returns-in_default-2-clause-decides : goal.returns-in_default-2-clause-decides
returns-in_default-2-clause-decides c = λ run opened past comes.
    absurd (has_reply c.args.config.now run opened past c.args.stage (option_copied c.args.call) c.args.settings.now c.args.outcome c.args.entry.now
    (sym c.if-not-may_decide.ensures) comes (sym (c.in_ok-reply.ensures.told past comes.told) ∙ c.in_default-2.is))

-- where its worker is at no arrival, it decides none
pub returns-in_default-clause-decides : goal.returns-in_default-clause-decides
returns-in_default-clause-decides c = λ run opened past comes.
    decides_without c.args.config.now run opened past c.args.stage (option_copied c.args.call) c.args.settings.now c.args.outcome c.args.entry.now
    (sym c.if-not-may_decide.ensures) comes (sym c.target_in.ensures ∙ c.in_default.is)

-- one that may not decides none
pub returns-then-not-may_decide-clause-decides : goal.returns-then-not-may_decide-clause-decides
returns-then-not-may_decide-clause-decides c = λ run opened past comes.
    never_decides c.args.config.now run opened past c.args.stage
    (option_copied c.args.call) c.args.settings.now c.args.outcome c.args.entry.now (sym c.may_decide.ensures ∙ c.if-not-may_decide.true) comes
