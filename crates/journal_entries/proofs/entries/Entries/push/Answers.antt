use Rattle.std.proofs.Common.{ap, ◌∙◌, ◌++◌, ◌∷◌, [], length}
use Rattle.journal_entries.proofs.Rowing.{within_brief, within_whole, items_whole}
use Rattle.journal_entries.proofs.entries.Entries.push.Goals as goal

pub invariant_of-self-in-None : goal.invariant_of-self-in-None
invariant_of-self-in-None c =
    within_whole c.self.inside.wholes.0 c.push-in-None.new.self.0 c.self.inside.rows.0 c.push-in-None-2.new.self.0 c.args.entry c.len-at.result
    c.push-in-None.ensures.items c.push-in-None-2.ensures.items
    c.len-at.ensures c.self.invariant

pub returns-in-None-clause-items : goal.returns-in-None-clause-items
returns-in-None-clause-items c =
    items_whole c.self.inside.wholes.0 c.push-in-None.new.self.0 c.self.inside.rows.0 c.push-in-None-2.new.self.0 c.args.entry c.len-at.result
    c.push-in-None.ensures.items c.push-in-None-2.ensures.items
    c.len-at.ensures c.self.invariant
    ∙ ap (λ l. l.items ++ c.args.entry ∷ []) c.self.view_is

pub invariant_of-self : goal.invariant_of-self
invariant_of-self c = within_brief _ _ _ _ c.push.ensures.items c.self.invariant (c.in-Some.ensures.within (length c.self.inside.wholes.0))
