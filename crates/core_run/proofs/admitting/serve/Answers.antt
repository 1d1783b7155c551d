use Rattle.std.proofs.Common.{◌∷◌, ap, sym, subst}
use Rattle.poa_base.specs.declared.Entry.TheVariants.{Admit}
use Rattle.poa_base.specs.declared.Verdict.TheVariants.{Serve}
use Rattle.history_standing.specs.declared.stage.Stage.TheVariants.{Free}
use Rattle.history_laws.proofs.Opened.{alone, given, within}
use Rattle.poa_history.specs.Entries.{is_turn}
use Rattle.core_run.specs.Agrees.{history}
use Rattle.core_run.specs.Kept.{HasSpace, needed}
use Rattle.core_run.specs.Noting.{IsHalfway}
use Rattle.core_run.proofs.Begins.{serve_halfway}
use Rattle.core_run.proofs.Keeping.{runs_still, turn_kept}
use Rattle.core_run.proofs.admitting.serve.Goals as goal

pub note-requires-clause-halfway : goal.note-requires-clause-halfway
note-requires-clause-halfway c =
    let mid = c.make_room_in_journal.new.inside in
    let w = c.args.worker in
    let r = c.args.arrival in
    let n = c.args.number in
    let e = Admit w r (Serve n) in
    let agrees = c.make_room_in_journal.ensures.kept.agrees in
    let follows = runs_still e c.args.inside.now mid c.make_room_in_journal.ensures.life c.requires.follows in
    let then = record mid { state = record mid.state { standing = c.serve.new.standing } } in
    subst (λ x. IsHalfway (history mid) x Free c.nothing.result then) (sym c.admission-entry.ensures)
    (subst (λ b. IsHalfway (history mid) e Free b then) (sym c.nothing.ensures)
    (serve_halfway w r n mid agrees follows c.serve.new.standing
    (c.in_ok-serve.ensures.serves c.if-not-branch.false mid.config mid.run mid.limit (history mid) w
    (given mid.config mid.run mid.limit (e ∷ history mid) follows) (alone mid.config mid.run mid.limit (e ∷ history mid) follows)
    (within mid.config mid.run mid.limit (e ∷ history mid) follows) follows.legal agrees.state.stands) c.serve.ensures.map))

pub returns-clause-kept : goal.returns-clause-kept
returns-clause-kept c =
    let mid = c.make_room_in_journal.new.inside in
    let then = record mid { state = record mid.state { standing = c.serve.new.standing } } in
    turn_kept c.admission-entry.result then c.note.new.inside c.note.ensures (ap is_turn c.admission-entry.ensures)
    c.make_room_in_journal.ensures.kept.agrees.tables
    (subst (λ x. HasSpace (needed x) mid) (sym c.admission-entry.ensures) c.in_ok-make_room_in_journal.ensures.space)
