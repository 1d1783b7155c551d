use Rattle.std.proofs.Common.{◌≡◌, inl, refl}
use Rattle.poa_history.specs.Phases.{phase_of}
use Rattle.poa_base.specs.declared.Entry.TheVariants.{Left}
use Rattle.poa_shared.proofs.Made.{not_longer}
use Rattle.poa_shared.proofs.Taking.{event, holds_after}
use Rattle.poa_shared.proofs.shared.Shared.phase_within.Goals as goal

pub returns-clause-phase : goal.returns-clause-phase
returns-clause-phase g c =
    event c.args.seat.now.me.0 c.take-core.new.seat.me.0 c.take-core.ensures.view.0 c.take-core.result c.take-core.result c.take-core.ensures.view.1 (inl refl)
    c.put.new.seat.me.0 c.put.ensures.view (λ old new. (new ≡ old) × (c.phase-phase.result ≡ phase_of old.history)) c.take-core.ensures.taken
    c.put.ensures.known c.is_legal.ensures (refl, c.phase-phase.ensures)

pub returns-clause-holds : goal.returns-clause-holds
returns-clause-holds g c =
    λ conn holds. holds_after c.args.seat.now.me.0 c.take-core.new.seat.me.0 c.take-core.ensures.view.0 c.take-core.result c.take-core.result
    c.take-core.ensures.view.1 (inl refl)
    c.put.new.seat.me.0 c.put.ensures.view conn c.take-core.ensures.taken.1 holds (not_longer c.take-core.result (Left conn))
