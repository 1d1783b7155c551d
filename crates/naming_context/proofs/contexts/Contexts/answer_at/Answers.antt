-- What leads to no context, and a word that is no operation.
use Rattle.std.proofs.Common.{refl, sym, ◌∙◌}
use Rattle.naming_context.proofs.Served.{answered_at, no_operation}
use Rattle.naming_context.proofs.contexts.Contexts.answer_at.Goals as goal

pub returns-in-NoKey : goal.returns-in-NoKey
returns-in-NoKey c = answered_at _ _ _ _ _ c.no_key.result _ c.in-NoKey.is refl c.no_key.ensures

pub returns-in-NoContext : goal.returns-in-NoContext
returns-in-NoContext c = answered_at _ _ _ _ _ c.no_context.result _ c.in-NoContext.is refl c.no_context.ensures

pub returns-in-None : goal.returns-in-None
returns-in-None c =
    answered_at _ _ _ _ _ c.unknown_operation.result _ c.in-Context.is
    (no_operation _ _ c.in-Context.number _ _ (sym c.of.ensures ∙ c.in-None.is) refl) c.unknown_operation.ensures
