use Rattle.session_laws.proofs.Calls.{given_said}
use Rattle.replay_run.proofs.Collected.{collected_none, collected_still}
use Rattle.replay_run.proofs.Same.{Still}
use Rattle.replay_run.specs.Quiet.{message_of}
use Rattle.replay_run.proofs.Gathered.{entered_conn, gathers_end, gathers_one}
use Rattle.replay_run.proofs.Seats.{said_still}
use Rattle.replay_run.proofs.quiet.gather_all.Goals as goal

pub put_message-requires : goal.put_message-requires
put_message-requires c =
    given_said c.loop.core.history c.in-Reply.arrival c.in-Reply.head c.in-Reply.reply c.loop.invariant.said c.in-Reply.ensures.collects.1
    c.in-Reply.ensures.fits

pub returns-in-Nothing : goal.returns-in-Nothing
returns-in-Nothing c = gathers_end c.args.conn c.args.core.now c.loop.core c.collect.new.self c.args.out.now.items c.loop.out.items
    (collected_none message_of c.args.conn c.loop.core c.collect.new.self c.in-Nothing.owed c.in-Nothing.ensures.collects) c.loop.invariant.gathers

pub loop-preserved : goal.loop-preserved
loop-preserved c =
    let still : Still c.loop.core c.collect.new.self =
    collected_still c.args.conn c.loop.core c.collect.new.self c.in-Reply.arrival c.in-Reply.head c.in-Reply.reply c.in-Reply.ensures.collects in
    record {
      gathers =
          gathers_one c.args.conn c.args.core.now c.loop.core c.collect.new.self c.in-Reply.arrival c.in-Reply.head c.in-Reply.reply c.args.out.now.items
          c.loop.out.items c.put_message.new.out.items
          c.in-Reply.ensures.collects c.in_ok-put_message-in-Reply.ensures c.loop.invariant.gathers;
      entered = entered_conn c.args.conn c.loop.core c.collect.new.self still c.loop.invariant.entered;
      said = said_still c.loop.core c.collect.new.self still c.loop.invariant.said;
    }
