use Rattle.std.proofs.Common.{◌≡◌, ◌<◌, Some, None, sym, subst, ap, ◌∙◌}
use Rattle.history_standing.specs.Changes.{standing}
use Rattle.history_standing.specs.Situations.{facts_of}
use Rattle.held_queue.specs.Held.{HeldAgrees}
use Rattle.poa_history.specs.Waiting.{is_waiting}
use Rattle.held_queue.specs.declared.queue.HeldQueue.{HeldQueue}
use Rattle.core_turns.specs.Looks.{looked}
use Rattle.core_turns.specs.declared.looks.Look.TheVariants as looks
use Rattle.core_turns.specs.Told.{history}
use Rattle.core_turns.proofs.Asking.{nobody_first, ready_first, looked_held, waiting_arrived, looked_waits, looked_gone}
use Rattle.core_turns.proofs.known.Known.ask.Goals as goal
use Rattle.core_turns.proofs.known.Known.ask.Goals.{in-None, in-Some-Held+in_ok-put-in-Some-Held}

pub returns-in_default-clause-asked : goal.returns-in_default-clause-asked
returns-in_default-clause-asked c =
    (let known = c.args.self.now in
    let flights = c.deref.ensures.value ∙ ap (λ s. s.flights) c.requires.told.stands.same in
    nobody_first known.config.now known.run (history known) c.args.worker c.settle.new.self
    (c.settle.ensures.kept known.config.now known.run (history known) flights c.requires.held) c.in_ok-settle.ensures.settled c.in_default.ensures.none)

pub returns-in-Some-Go-clause-asked : goal.returns-in-Some-Go-clause-asked
returns-in-Some-Go-clause-asked c =
    (let known = c.args.self.now in
    let h = history known in
    let flights = c.deref.ensures.value ∙ ap (λ s. s.flights) c.requires.told.stands.same in
    let told =
    looked_waits (is_waiting h c.in-Some.arrival)
    (looked (facts_of known.config.now known.run h c.in-Some.arrival) c.args.worker) c.in_ok-look.field-0 c.in-Some-Go.field-0 c.in_ok-look.ensures
    c.in-Some-Go.is in
    ready_first known.config.now known.run h c.args.worker c.settle.new.self
    (c.settle.ensures.kept known.config.now known.run h flights c.requires.held) c.in_ok-settle.ensures.settled
    c.in-Some.arrival c.in-Some-Go.verdict c.in-Some.ensures.least told.0 (told.1 ∙ c.in-Some-Go.field-0-is))

pub returns-in_err-put-in-Some-Held-clause-held : goal.returns-in_err-put-in-Some-Held-clause-held
returns-in_err-put-in-Some-Held-clause-held c =
    (let known = c.args.self.now in
    let h = history known in
    let flights = c.deref.ensures.value ∙ ap (λ s. s.flights) c.requires.told.stands.same in
    let told =
    looked_waits (is_waiting h c.in-Some.arrival)
    (looked (facts_of known.config.now known.run h c.in-Some.arrival) c.args.worker) c.in_ok-look.field-0 c.in-Some-Held.field-0 c.in_ok-look.ensures
    c.in-Some-Held.is in
    c.put.ensures known.config.now known.run h (waiting_arrived known.config.now known.run h c.args.worker c.in-Some.arrival told.0)
    (looked_held known.config.now known.run h c.args.worker (facts_of known.config.now known.run h c.in-Some.arrival) c.in-Some-Held.hold
    (told.1 ∙ c.in-Some-Held.field-0-is))
    (c.settle.ensures.kept known.config.now known.run h flights c.requires.held))

pub returns-clause-held : goal.returns-clause-held
returns-clause-held c =
    let known = c.args.self.now in
    let h = history known in
    let flights = c.deref.ensures.value ∙ ap (λ s. s.flights) c.requires.told.stands.same in
    let held = c.settle.ensures.kept known.config.now known.run h flights c.requires.held in
    elim c.match-branch-3.branch [
      | in-None w ↦ subst (λ (q : HeldQueue). HeldAgrees known.config.now known.run h q) (sym w.held-is)
          (w.drop_least.ensures known.config.now known.run h
          (looked_gone (is_waiting h c.in-Some.arrival)
          (looked (facts_of known.config.now known.run h c.in-Some.arrival) c.args.worker) c.in_ok-look.field-0 c.in_ok-look.ensures w.in-None.is) held)
      | in-Some-Held+in_ok-put-in-Some-Held w ↦
          (let told =
          looked_waits (is_waiting h c.in-Some.arrival)
          (looked (facts_of known.config.now known.run h c.in-Some.arrival) c.args.worker) c.in_ok-look.field-0 w.in-Some-Held.field-0 c.in_ok-look.ensures
          w.in-Some-Held.is in
          subst (λ (q : HeldQueue). HeldAgrees known.config.now known.run h q) (sym w.held-is)
          (w.put.ensures known.config.now known.run h (waiting_arrived known.config.now known.run h c.args.worker c.in-Some.arrival told.0)
          (looked_held known.config.now known.run h c.args.worker (facts_of known.config.now known.run h c.in-Some.arrival) w.in-Some-Held.hold
          (told.1 ∙ w.in-Some-Held.field-0-is)) held))
    ]
