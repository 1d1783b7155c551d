use Rattle.std.proofs.Common.{refl, sym, subst, ◌∙◌}
use Rattle.poa_base.specs.declared.Entry.TheVariants.{Run}
use Rattle.core_state.proofs.Stated.{answers_state}
use Rattle.core_run.specs.Agrees.{history, opened_in}
use Rattle.core_run.specs.Noting.{IsHalfway}
use Rattle.core_run.specs.Service.{brings}
use Rattle.core_run.proofs.Keeping.{runs_still, turn_kept}
use Rattle.core_run.proofs.Ready.{ready_entries}
use Rattle.core_run.proofs.Served.{run_halfway, servants_kept}
use Rattle.core_run.proofs.running.run.Goals as goal

pub returns-in_err-outcome-clause-kept : goal.returns-in_err-outcome-clause-kept
returns-in_err-outcome-clause-kept c =
    servants_kept c.make_room_in_journal.new.inside c.act.new.servants c.in_err-outcome.ensures.err c.make_room_in_journal.ensures.kept

pub note_service-requires-clause-room : goal.note_service-requires-clause-room
note_service-requires-clause-room c =
    ready_entries (Run c.args.worker) c.make_room_in_journal.new.inside c.in_ok-make_room_in_journal.ensures.space
    c.in_ok-make_room_in_journal.ensures.whole

pub note_service-requires-clause-halfway : goal.note_service-requires-clause-halfway
note_service-requires-clause-halfway c =
    let old = c.args.inside.now in
    let mid = c.make_room_in_journal.new.inside in
    let agrees = c.make_room_in_journal.ensures.kept.agrees in
    let follows = runs_still (Run c.args.worker) old mid c.make_room_in_journal.ensures.life c.requires.follows in
    let at = c.stage-stage.ensures.begun (history mid) follows.legal.0.worker agrees.tables.workers in
    subst (λ d. IsHalfway (history mid) (Run c.args.worker) c.stage-stage.result (brings d c.nothing.result)
    (record mid { state = record mid.state { servants = c.act.new.servants } })) (sym c.decided_by-decision.ensures)
    (run_halfway c.args.worker mid agrees c.stage-stage.result at follows c.in_ok-runs.runs _
    (c.in_ok-runs.ensures.servant mid.run mid.limit c.args.worker agrees.runs
    (answers_state mid.config mid.run mid.limit (opened_in mid) (history mid) mid.state agrees.runs agrees.state) at)
    (c.call_served-call.ensures agrees.tables.calls) c.act.new.servants c.in_ok-outcome.outcome c.nothing.result c.in_ok-outcome.ensures.ok
    c.in_ok-outcome.ensures.outcome c.nothing.ensures)

pub returns-clause-kept : goal.returns-clause-kept
returns-clause-kept c =
    let mid = c.make_room_in_journal.new.inside in
    turn_kept (Run c.args.worker) (record mid { state = record mid.state { servants = c.act.new.servants } }) c.note_service.new.inside
    c.note_service.ensures refl c.make_room_in_journal.ensures.kept.agrees.tables c.in_ok-make_room_in_journal.ensures.space
