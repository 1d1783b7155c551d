use Rattle.std.proofs.Common.{List, ℕ, [], append-nil, subst}
use Rattle.giop_answer.specs.Reply.{reply_bytes}
use Rattle.replay_run.specs.Collecting.{CollectsAll}
use Rattle.replay_run.proofs.Collected.{collected_none}
use Rattle.poad_answer.proofs.Worked.{given_to, replies_more, serving_collected}
use Rattle.poad_answer.proofs.turns.collected.Goals as goal

pub returns-in-Nothing-clause-collects : goal.returns-in-Nothing-clause-collects
returns-in-Nothing-clause-collects c =
    subst (λ (t : List ℕ). CollectsAll reply_bytes 0 c.args.core.now t c.collect.new.self) (append-nil c.loop.bytes.items)
    (c.loop.invariant.collects [] c.collect.new.self
    (collected_none reply_bytes 0 c.loop.core c.collect.new.self c.in-Nothing.owed c.in-Nothing.ensures.collects))

pub put_reply-requires : goal.put_reply-requires
put_reply-requires c =
    given_to c.loop.core c.collect.new.self c.in-Reply.arrival c.in-Reply.head c.in-Reply.reply c.loop.invariant.serving c.in-Reply.ensures.collects
    c.in-Reply.ensures.fits

pub loop-preserved : goal.loop-preserved
loop-preserved c = record {
  collects =
      λ more last all. replies_more c.args.core.now c.loop.core c.collect.new.self last c.in-Reply.arrival c.in-Reply.head c.in-Reply.reply c.loop.bytes.items
      c.put_reply.new.out.items more
      c.in_ok-put_reply-in-Reply.ensures c.loop.invariant.collects c.in-Reply.ensures.collects all;
  serving =
      serving_collected c.loop.core c.collect.new.self c.in-Reply.arrival c.in-Reply.head c.in-Reply.reply c.in-Reply.ensures.collects c.loop.invariant.serving;
}
