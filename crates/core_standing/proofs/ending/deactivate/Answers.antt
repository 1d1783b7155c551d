use Rattle.std.proofs.Common.{true, if◌then◌else◌}
use Rattle.std.proofs.lemmas.Result.{on_ok_weaker}
use Rattle.history_standing.specs.Standings.{is_of}
use Rattle.core_standing.proofs.Still.{changed_each, still_ending}
use Rattle.core_standing.proofs.ending.deactivate.Goals as goal

pub returns-clause-ok : goal.returns-clause-ok
returns-clause-ok c =
    on_ok_weaker c.end_id.result
    (changed_each c.args.standing.now _ (λ a. if is_of c.args.adapter c.args.oid.now a then record a { ending = true } else a)
    (still_ending c.args.adapter c.args.oid.now)) c.end_id.ensures.ok
