use Rattle.naming_context.proofs.Served.{unread_done}
use Rattle.naming_context.proofs.contexts.Contexts.operate.Goals as goal

pub returns-in-Err : goal.returns-in-Err
returns-in-Err c = unread_done c.unreadable.result _ _ _ _ c.in-Err.fault c.unreadable.ensures.refused c.unreadable.ensures.other c.in-Err.ensures.bad
