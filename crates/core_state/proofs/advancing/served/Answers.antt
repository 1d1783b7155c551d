use Rattle.core_state.specs.Kept.{kept_in}
use Rattle.core_state.proofs.Writes.{at_error, unchanged_holds}
use Rattle.core_standing.proofs.Overs.{kept_none}
use Rattle.core_state.proofs.Stated.{comes, serves_no_command, serves_no_call}
use Rattle.core_state.proofs.advancing.served.Goals as goal

pub advance-requires : goal.advance-requires
advance-requires c =
    comes c.args.config.now c.args.run c.requires.next.0 c.requires.next.1 c.requires.next.2 c.args.coming.now c.args.state.now c.requires.next.3
    c.requires.kind

pub returns-in_err-outcome-clause-err : goal.returns-in_err-outcome-clause-err
returns-in_err-outcome-clause-err c = λ opened past state.
    at_error c.from_residual.result
    (record {
      stands = state.stands;
      none_over = state.none_over;
      set = state.set;
      held = unchanged_holds c.args.config.now c.args.run opened past (kept_in c.args.state.now.servants)
          (kept_in c.advance.new.servants) c.in_err-outcome.ensures.err state.held;
    })

pub returns-clause-ok : goal.returns-clause-ok
returns-clause-ok c = λ limit opened past next.
    record {
      stands = c.in_ok-advance_kept.ensures.ok past next.state.stands next.begun_is (serves_no_call past c.args.coming.now.entry.now c.requires.kind);
      none_over = kept_none c.args.config.now c.advance_kept.new.standing
          (c.in_ok-advance_kept.ensures.forgets past next.state.stands next.state.none_over next.begun_is
          (serves_no_call past c.args.coming.now.entry.now c.requires.kind));
      set = c.in_ok-apply.ensures.ok past c.args.coming.now.entry.now next.state.set (serves_no_command past c.args.coming.now.entry.now c.requires.kind);
      held = c.in_ok-outcome.ensures.ok (comes c.args.config.now c.args.run limit opened past c.args.coming.now c.args.state.now next c.requires.kind);
    }

pub returns-clause-outcome : goal.returns-clause-outcome
returns-clause-outcome c = λ limit opened past next.
    c.in_ok-outcome.ensures.outcome (comes c.args.config.now c.args.run limit opened past c.args.coming.now c.args.state.now next c.requires.kind)
