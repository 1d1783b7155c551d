use Rattle.std.proofs.lemmas.Result.{on_ok_weaker}
use Rattle.core_state.proofs.Following.{quiet_unless, quiet_then, quiet_tells, run_then, told_then, incarnated_then, room_then, ended_then}
use Rattle.core_state.proofs.servants_follow.advance.Goals as goal

pub returns-in-Run-clause-ok : goal.returns-in-Run-clause-ok
returns-in-Run-clause-ok c = on_ok_weaker c.act.result (run_then _ _ _ _ _ _ _ c.in-Run.worker c.in-Run.is _) c.act.ensures.ok

pub returns-in-Run-clause-outcome : goal.returns-in-Run-clause-outcome
returns-in-Run-clause-outcome c = told_then _ _ _ _ _ _ _ c.act.result c.in-Run.worker c.in-Run.is c.act.ensures.outcome

pub returns-in_ok-incarnate-in-Incarnated-clause-ok : goal.returns-in_ok-incarnate-in-Incarnated-clause-ok
returns-in_ok-incarnate-in-Incarnated-clause-ok c =
    incarnated_then _ _ _ _ _ _ _ c.in-Incarnated.worker c.in-Incarnated.answer c.in-Incarnated.is _ c.in_ok-incarnate-in-Incarnated.ensures.ok

pub etherealize-requires : goal.etherealize-requires
etherealize-requires c = room_then _ _ _ _ _ _ _ c.in-Etherealized.worker c.in-Etherealized.cleanup c.in-Etherealized.remaining c.in-Etherealized.is c.requires

pub returns-in-Etherealized-clause-ok : goal.returns-in-Etherealized-clause-ok
returns-in-Etherealized-clause-ok c =
    ended_then _ _ _ _ _ _ _ c.in-Etherealized.worker c.in-Etherealized.cleanup c.in-Etherealized.remaining c.in-Etherealized.is _ c.etherealize.ensures

pub returns-in_default : goal.returns-in_default
returns-in_default c =
    let quiet = quiet_unless c.args.coming.now.entry.now c.in_default.not-Incarnated c.in_default.not-Run c.in_default.not-Etherealized in
    record { ok = quiet_then _ _ _ _ _ _ _ quiet; outcome = quiet_tells _ _ _ _ _ _ _ quiet; err = tt; ends = tt }
