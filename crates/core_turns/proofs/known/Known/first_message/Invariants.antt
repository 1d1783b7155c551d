use Rattle.held_queue.specs.Held.{HeldAgrees}
use Rattle.core_turns.specs.Told.{history}
use Rattle.core_turns.proofs.known.Known.first_message.Given as goal

abbrev pub invariant-loop : goal.invariant-loop
invariant-loop l = HeldAgrees l.self.config.now l.self.run (history l.self) l.held
