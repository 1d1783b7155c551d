use Rattle.std.proofs.Common.{◌≡◌, Some, ◌∙◌, ap, sym, subst, reverse, option_copied}
use Rattle.poa_base.specs.Store.{stored as stored_at_opening}
use Rattle.poa_base.specs.declared.Reply.TheVariants.{Outcome as Ended}
use Rattle.poa_history.specs.Replies as replies
use Rattle.poa_history.specs.States as states
use Rattle.poa_model.specs.Kept.{state_in}
use Rattle.poa_model.proofs.Agree.{agrees}
use Rattle.poa_model.proofs.reply.reply_run.Goals as goal

-- the state that was left last is the servant's
pub returns : goal.returns
returns c =
    let servant = c.in-Some.servant in
    let call = option_copied c.args.call in
    let opened = stored_at_opening c.args.store.now in
    let past = reverse c.args.past.now in
    let state : c.in_ok-state.state ≡ states.state_of c.args.run.now.config.now c.args.run.now.number opened past servant =
    c.in_ok-state.ensures
    ∙ ap (λ x. state_in c.args.run.now.config.now (reverse x) servant) c.deref.ensures.value
    ∙ ap (λ k. state_in c.args.run.now.config.now k.servants servant) c.in_ok-kept.ensures
    ∙ (agrees c.args.run.now.config.now c.args.run.now.number opened past).servants servant in
    let outcome : c.in_ok-done.done.outcome ≡ (states.acted (states.state_of c.args.run.now.config.now c.args.run.now.number opened past servant) call).1 =
    sym (ap (λ p. p.1) c.in_ok-done.ensures) ∙ ap (λ s. (states.acted s call).1) state in
    subst (λ who. Some (Ended c.in_ok-done.done.outcome) ≡ replies.reply_run c.args.run.now.config.now c.args.run.now.number opened past who call) (sym c.in-Some.is)
    (ap (λ o. Some (Ended o)) outcome)
