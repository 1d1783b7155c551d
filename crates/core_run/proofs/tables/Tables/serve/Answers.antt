use Rattle.std.proofs.Common.{◌≡◌, ◌∷◌, true, false, sym, ◌∙◌}
use Rattle.history_laws.proofs.Opened.{given, alone, within}
use Rattle.core_arrivals.proofs.Placing.{calls_kept}
use Rattle.core_arrivals.proofs.Queueing.{kept}
use Rattle.core_run.proofs.Served.{service_arrives_none, service_counts_none, service_leaves_queue, service_queues_none}
use Rattle.core_run.proofs.tables.Tables.serve.Goals as goal

pub advance-requires : goal.advance-requires
advance-requires c = λ queues. absurd (let e : false ≡ true = sym (service_queues_none c.args.entry.now c.requires) ∙ queues in cc)

pub returns : goal.returns
returns c = λ conf run limit past follows begun freed known.
    record {
      calls = calls_kept c.args.entry.now past c.args.self.now.calls.places.items (service_arrives_none c.args.entry.now c.requires) known.calls;
      queue = kept c.args.entry.now past c.args.self.now.queue (service_leaves_queue c.args.entry.now c.requires) known.queue;
      held = c.advance.ensures.held conf run limit past (given conf run limit (c.args.entry.now ∷ past) follows)
          (alone conf run limit (c.args.entry.now ∷ past) follows) (within conf run limit (c.args.entry.now ∷ past) follows) follows.legal
          known.tally.calls begun freed known.held;
      workers = c.advance-2.ensures past known.workers;
      tally = service_counts_none past c.args.self.now.tally known.tally c.args.entry.now c.requires;
    }
