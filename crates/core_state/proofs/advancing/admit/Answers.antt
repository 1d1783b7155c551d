use Rattle.std.proofs.Common.{◌∙◌, sym, ap}
use Rattle.core_standing.specs.Seen.{seen}
use Rattle.core_standing.proofs.Overs.{kept_none}
use Rattle.core_settings.specs.Told.{may_grow}
use Rattle.core_state.proofs.Stated.{ok_then, quiet_state, admits_quietly, done_is, admitted_is, growing_stays}
use Rattle.core_state.proofs.advancing.admit.Goals as goal

pub returns-then-grows-clause-ok : goal.returns-then-grows-clause-ok
returns-then-grows-clause-ok c = λ limit opened past next.
    let e = c.args.coming.now.entry.now in
    let done = c.done-command.ensures ∙ done_is past e _ c.requires.0 c.requires.1 c.args.verdict.now c.requires.2 next.call_is in
    ok_then c.apply.result
    (quiet_state c.args.config.now c.args.run limit opened past e c.args.state.now c.args.state.now.standing c.apply.new.settings next.follows
    (admits_quietly e c.requires.0 c.requires.1 c.args.verdict.now c.requires.2) next.state.held
    (growing_stays c.args.config.now c.args.run past e c.requires.0 c.requires.1 c.args.verdict.now c.requires.2
    (ap may_grow (sym done) ∙ sym c.if-grows.ensures) (seen c.args.state.now.standing) next.state.stands) next.state.none_over)
    (c.apply.ensures.ok past e next.state.set done)

pub returns-clause-ok : goal.returns-clause-ok
returns-clause-ok c = λ limit opened past next.
    let e = c.args.coming.now.entry.now in
    let done = c.done-command.ensures ∙ done_is past e _ c.requires.0 c.requires.1 c.args.verdict.now c.requires.2 next.call_is in
    ok_then c.apply-2.result
    (quiet_state c.args.config.now c.args.run limit opened past e c.args.state.now c.advance_kept.new.standing c.apply-2.new.settings next.follows
    (admits_quietly e c.requires.0 c.requires.1 c.args.verdict.now c.requires.2) next.state.held
    (c.in_ok-advance_kept.ensures.ok past next.state.stands next.begun_is
    (admitted_is past e _ c.requires.0 c.requires.1 c.args.verdict.now c.requires.2 next.call_is))
    (kept_none c.args.config.now c.advance_kept.new.standing
    (c.in_ok-advance_kept.ensures.forgets past next.state.stands next.state.none_over next.begun_is
    (admitted_is past e _ c.requires.0 c.requires.1 c.args.verdict.now c.requires.2 next.call_is))))
    (c.apply-2.ensures.ok past e next.state.set done)
