use Rattle.core_state.specs.Kept.{kept_in}
use Rattle.core_state.proofs.OpeningHolds.{opening_holds}
use Rattle.core_state.proofs.starting.opening.Goals as goal

pub returns : goal.returns
returns c =
    λ run. opening_holds c.args.config.now run c.args.store.now
    (kept_in (record { configured = c.in_ok-configured.field-0; fresh = c.new.result; store = c.in_ok-copied.field-0 })) c.in_ok-configured.ensures
    c.new.ensures.empty c.in_ok-copied.ensures
