use Rattle.replay_run.proofs.Turned.{newest_printed}
use Rattle.replay_run.proofs.player.Player.print_last.Goals as goal

pub returns-in_ok-to_entry-in-Some-clause-printed : goal.returns-in_ok-to_entry-in-Some-clause-printed
returns-in_ok-to_entry-in-Some-clause-printed c =
    newest_printed c.print_entry.result _ c.last.result c.in-Some.view _ _ c.in_ok-to_entry-in-Some.field-0 _ _ c.entries.ensures.entries
    c.last.ensures c.in-Some.is c.in_ok-to_entry-in-Some.ensures c.print_entry.ensures
