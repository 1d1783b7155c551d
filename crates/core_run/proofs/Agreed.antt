-- What the core keeps agrees with what stands after its journal.
use Rattle.std.proofs.Common.{ap}
use Rattle.history_standing.specs.Standings.{Standing}
use Rattle.core_state.proofs.Stated.{answers_state}
use Rattle.core_run.specs.declared.inside.Inside.{Inside}
use Rattle.core_run.specs.Agreeing.{CountsAgree, QueuesAgree, RemovalsAgree}
use Rattle.core_run.specs.Agrees.{history, opened_in}
use Rattle.core_run.specs.Kept.{IsKept, life}

module _ (i : Inside) (kept : IsKept i) where
  pub counts_agree : CountsAgree (life i) i.state
  counts_agree =
      (let same = kept.agrees.state.stands.stands.same in record {
        flights = ap (λ (t : Standing). t.flights) same;
        created = ap (λ (t : Standing). t.count) same;
        made = ap (λ (t : Standing). t.made) same;
      })

  pub queues_agree : QueuesAgree (life i) i.tables
  queues_agree =
      (let tables = kept.agrees.tables in record {
        messages = tables.queue.messages_are;
        lines = tables.queue.lines_are;
        held = tables.held;
      })

  pub removals_agree : RemovalsAgree (life i) i.state
  removals_agree =
      record {
        activations = kept.agrees.state.stands.stands.forgets.lives;
        due = (answers_state i.config i.run i.limit (opened_in i) (history i) i.state kept.agrees.runs kept.agrees.state).removal;
      }
