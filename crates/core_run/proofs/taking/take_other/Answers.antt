use Rattle.std.proofs.Common.{◌≡◌, true, false, ap, ◌∙◌}
use Rattle.core_arrivals.specs.Begun.{only_ends}
use Rattle.core_run.specs.Agrees.{history, opened_in}
use Rattle.core_run.proofs.Endings.{ending_stage, ends_only}
use Rattle.core_run.proofs.Keeping.{asked_then, runs_still, begun_still, left_still, turn_kept}
use Rattle.core_run.proofs.Filed.{filed_as}
use Rattle.core_run.proofs.taking.take_other.Goals as goal

pub bring-requires-clause-asked : goal.bring-requires-clause-asked
bring-requires-clause-asked c =
    let begun = c.stage_at-stage.ensures c.args.inside.now.config c.args.inside.now.run c.args.inside.now.limit (history c.args.inside.now)
    c.requires.follows.legal.0 c.requires.kept.agrees.tables.workers in
    let mid = c.make_room_for.new.inside in
    let agrees = c.make_room_for.ensures.kept.agrees in (
      mid.limit,
      opened_in mid,
      history mid,
      asked_then c.args.inside.now mid _ agrees c.make_room_for.ensures.life c.requires.follows c.requires.turn begun c.call_at-call.ensures
          c.in_ok-runs.ensures.servant,
    )

pub note-requires-clause-room : goal.note-requires-clause-room
note-requires-clause-room c =
    (let room = c.in_ok-make_room_for.ensures.room in
    record { entries = room.entries; calls = room.calls; queue = room.queue; held = room.held; tally = room.tally })

pub note-requires-clause-halfway : goal.note-requires-clause-halfway
note-requires-clause-halfway c =
    let begun = c.stage_at-stage.ensures c.args.inside.now.config c.args.inside.now.run c.args.inside.now.limit (history c.args.inside.now)
    c.requires.follows.legal.0 c.requires.kept.agrees.tables.workers in
    let old = c.args.inside.now in
    let mid = c.make_room_for.new.inside in
    let entry = c.args.entry in
    let agrees = c.make_room_for.ensures.kept.agrees in
    record {
      follows = runs_still entry old mid c.make_room_for.ensures.life c.requires.follows;
      begun_is = begun_still entry c.stage_at-stage.result old mid c.make_room_for.ensures.life begun;
      state = c.in_ok-brought.ensures.ok mid.limit (opened_in mid) (history mid)
          (asked_then old mid _ agrees c.make_room_for.ensures.life c.requires.follows c.requires.turn begun c.call_at-call.ensures
          c.in_ok-runs.ensures.servant);
      brought = c.in_ok-brought.ensures.brought mid.limit (opened_in mid) (history mid)
          (asked_then old mid _ agrees c.make_room_for.ensures.life c.requires.follows c.requires.turn begun c.call_at-call.ensures
          c.in_ok-runs.ensures.servant);
      tables = agrees.tables;
      owed = agrees.owed;
      left = filed_as mid.desk (left_still entry mid c.requires.turn) agrees.filed;
    }

pub returns-clause-kept : goal.returns-clause-kept
returns-clause-kept c =
    let mid = c.make_room_for.new.inside in
    turn_kept c.args.entry (record mid { state = c.bring.new.state }) c.note.new.inside c.note.ensures c.requires.turn
    c.make_room_for.ensures.kept.agrees.tables c.in_ok-make_room_for.ensures.space

pub returns-in_err-runs-clause-ends : goal.returns-in_err-runs-clause-ends
returns-in_err-runs-clause-ends c = λ ends.
    (let i = c.args.inside.now in
    let begun = c.stage_at-stage.ensures c.args.inside.now.config c.args.inside.now.run c.args.inside.now.limit (history c.args.inside.now)
    c.requires.follows.legal.0 c.requires.kept.agrees.tables.workers in
    let never : false ≡ true =
    c.in_err-runs.ensures.ends (ap only_ends begun ∙ ending_stage i.config i.run i.limit (history i) c.args.entry c.requires.follows.legal.0 ends) in
    absurd (let e : false ≡ true = never in cc))

pub returns-in_err-brought-clause-ends : goal.returns-in_err-brought-clause-ends
returns-in_err-brought-clause-ends c = λ ends.
    (let never : false ≡ true = c.in_err-brought.ensures.ends (ends_only c.args.entry ends) in absurd (let e : false ≡ true = never in cc))
