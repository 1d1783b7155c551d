use Rattle.std.proofs.Common.{◌==◌, ◌&&◌, true, if◌then◌else◌}
use Rattle.std.proofs.lemmas.Result.{on_ok_weaker}
use Rattle.history_standing.specs.Changes.{ended_by_destroy}
use Rattle.history_standing.specs.Templates.{has_activator, manager_at}
use Rattle.core_standing.proofs.Still.{changed_each, still_off}
use Rattle.core_standing.proofs.ending.turn_off.Goals as goal

pub returns-clause-ok : goal.returns-clause-ok
returns-clause-ok c =
    (let config = c.args.config.now in
    on_ok_weaker c.end_managed.result
    (changed_each c.args.standing.now _ (λ a. if has_activator config a.path &&
    (manager_at config a.path == c.args.manager) then ended_by_destroy true a else a)
    (still_off config c.args.manager)) c.end_managed.ensures.ok)
