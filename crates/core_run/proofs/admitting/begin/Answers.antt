use Rattle.std.proofs.Common.{◌∙◌, refl, sym, subst}
use Rattle.std.specs.Prelude.{option_copied}
use Rattle.core_run.specs.Agrees.{history, opened_in}
use Rattle.core_run.specs.Noting.{IsHalfway}
use Rattle.core_run.proofs.Begins.{beginning_alone, beginning_brings, beginning_free, beginning_more, beginning_speaks, beginning_turn}
use Rattle.core_run.proofs.Filed.{filed_as}
use Rattle.core_run.proofs.Keeping.{left_still, runs_still, turn_kept}
use Rattle.core_run.proofs.Ready.{alone_room, ready_space}
use Rattle.core_run.proofs.admitting.begin.Goals as goal

pub advance-requires : goal.advance-requires
advance-requires c =
    let old = c.args.inside.now in
    let mid = c.make_room_in_journal.new.inside in
    let e = c.args.entry in
    let kind = c.requires.kind in
    let agrees = c.make_room_in_journal.ensures.kept.agrees in
    let follows = runs_still e old mid c.make_room_in_journal.ensures.life c.requires.follows in
    let free = beginning_free mid.config mid.run mid.limit (history mid) e kind follows.legal.0 in (
      mid.limit,
      opened_in mid,
      history mid,
      record {
        follows = follows;
        turn = beginning_turn e kind;
        begun_is = free;
        call_is = c.call_at-call.ensures agrees.tables.calls free ∙ beginning_speaks mid.config mid.run mid.limit (history mid) e kind;
        servant_is = refl;
        state = agrees.state;
      },
    )

pub note-requires-clause-room : goal.note-requires-clause-room
note-requires-clause-room c =
    let mid = c.make_room_in_journal.new.inside in
    (let room = alone_room c.args.entry mid (beginning_alone c.args.entry c.requires.kind) c.in_ok-make_room_in_journal.ensures.space
    c.in_ok-make_room_in_journal.ensures.whole in
    record { entries = room.entries; calls = room.calls; queue = room.queue; held = room.held; tally = room.tally })

pub note-requires-clause-halfway : goal.note-requires-clause-halfway
note-requires-clause-halfway c =
    let old = c.args.inside.now in
    let mid = c.make_room_in_journal.new.inside in
    let e = c.args.entry in
    let kind = c.requires.kind in
    let agrees = c.make_room_in_journal.ensures.kept.agrees in
    let follows = runs_still e old mid c.make_room_in_journal.ensures.life c.requires.follows in
    let free = beginning_free mid.config mid.run mid.limit (history mid) e kind follows.legal.0 in
    subst (λ b. IsHalfway (history mid) e _ b (record mid { state = c.advance.new.state })) (sym c.nothing.ensures)
    (record {
      follows = follows;
      begun_is = free;
      state = c.in_ok-advance.ensures.ok mid.limit (opened_in mid) (history mid)
          (record {
            follows = follows;
            turn = beginning_turn e kind;
            begun_is = free;
            call_is = c.call_at-call.ensures agrees.tables.calls free ∙ beginning_speaks mid.config mid.run mid.limit (history mid) e kind;
            servant_is = refl;
            state = agrees.state;
          });
      brought = beginning_brings mid.config mid.run mid.limit (history mid) (opened_in mid) mid.state.settings agrees.state.set e kind follows;
      tables = agrees.tables;
      owed = agrees.owed;
      left = filed_as mid.desk (left_still e mid (beginning_turn e kind)) agrees.filed;
    })

pub returns-clause-kept : goal.returns-clause-kept
returns-clause-kept c =
    let mid = c.make_room_in_journal.new.inside in
    let kind = c.requires.kind in
    turn_kept c.args.entry (record mid { state = c.advance.new.state }) c.note.new.inside c.note.ensures (beginning_turn c.args.entry kind)
    c.make_room_in_journal.ensures.kept.agrees.tables
    (ready_space c.args.entry mid (beginning_more c.args.entry kind) c.in_ok-make_room_in_journal.ensures.space)
