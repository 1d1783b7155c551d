use Rattle.std.proofs.Common.{◌≡◌, ℕ, Option, Some, None, option_map, is_none, refl, ap, ◌∙◌}
use Rattle.poa_history.specs.declared.Full.{Full}
use Rattle.core_arrivals.proofs.Bounds.{filled_is}
use Rattle.core_run.proofs.run.Run.filled.Goals as goal

abbrev counts : Full → ℕ × ℕ
counts full = (full.arrivals, full.bytes)

none_counted : (full : Option Full) → is_none full ≡ is_none (option_map counts full)
none_counted None = refl
none_counted (Some full) = refl

pub returns-clause-unfilled : goal.returns-clause-unfilled
returns-clause-unfilled c =
    (let h = c.args.self.now.history in
    let full = c.filled.result in
    none_counted full ∙ ap is_none (c.filled.ensures h c.tables.ensures.tables.tally) ∙ filled_is h)
