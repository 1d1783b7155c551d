use Rattle.core_standing.proofs.Overs.{kept_none}
use Rattle.core_state.proofs.Stated.{ok_then, quiet_state, tries_quietly, tries_no_command, tries_no_call}
use Rattle.core_state.proofs.advancing.tried.Goals as goal

pub returns-clause-ok : goal.returns-clause-ok
returns-clause-ok c = λ limit opened past next.
    let e = c.args.coming.now.entry.now in
    ok_then c.apply.result
    (quiet_state c.args.config.now c.args.run limit opened past e c.args.state.now c.advance_kept.new.standing c.apply.new.settings next.follows
    (tries_quietly e c.requires.0 c.requires.1 c.requires.2) next.state.held
    (c.in_ok-advance_kept.ensures.ok past next.state.stands next.begun_is (tries_no_call past e c.requires.0 c.requires.1 c.requires.2))
    (kept_none c.args.config.now c.advance_kept.new.standing
    (c.in_ok-advance_kept.ensures.forgets past next.state.stands next.state.none_over next.begun_is
    (tries_no_call past e c.requires.0 c.requires.1 c.requires.2))))
    (c.apply.ensures.ok past e next.state.set (tries_no_command past e c.requires.0 c.requires.1 c.requires.2))
