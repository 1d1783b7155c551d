use Rattle.std.proofs.Common.{refl, ap, ◌∙◌}
use Rattle.poa_base.specs.declared.Entry.TheVariants.{Done}
use Rattle.history_standing.specs.Stages.{arrival_in}
use Rattle.core_state.proofs.Stated.{answers_state}
use Rattle.core_run.specs.Agrees.{history, opened_in}
use Rattle.core_run.proofs.Keeping.{turn_kept}
use Rattle.core_run.proofs.Ready.{ending_room}
use Rattle.core_run.proofs.Served.{done_halfway}
use Rattle.core_run.proofs.running.end.Goals as goal

pub note_service-requires-clause-room : goal.note_service-requires-clause-room
note_service-requires-clause-room c = (ending_room (Done c.args.worker) c.args.inside.now c.requires.kept c.requires.follows refl).entries

pub note_service-requires-clause-halfway : goal.note_service-requires-clause-halfway
note_service-requires-clause-halfway c =
    let i = c.args.inside.now in
    let w = c.args.worker in
    let agrees = c.requires.kept.agrees in
    let begun = c.stage-stage.ensures.begun (history i) c.requires.follows.legal.0.worker agrees.tables.workers in
    let at = c.arrival_in.ensures ∙ ap arrival_in begun in
    done_halfway w i agrees c.stage-stage.result begun c.requires.follows c.land.new.standing c.landed-freed.result
    (c.land.ensures.lands i.run (history i) w agrees.state.stands at)
    (c.land.ensures.forgets i.run (history i) w agrees.state.stands at agrees.state.none_over)
    (c.landed-freed.ensures i.config i.run (history i) w
    (answers_state i.config i.run i.limit (opened_in i) (history i) i.state agrees.runs agrees.state) begun)

pub returns-clause-kept : goal.returns-clause-kept
returns-clause-kept c =
    let i = c.args.inside.now in
    turn_kept (Done c.args.worker) (record i { state = record i.state { standing = c.land.new.standing } }) c.note_service.new.inside
    c.note_service.ensures refl c.requires.kept.agrees.tables c.requires.kept.space
