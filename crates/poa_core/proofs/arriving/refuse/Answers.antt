use Rattle.std.proofs.Common.{Some, option_map, sym, ap, ap₂, ◌∙◌}
use Rattle.poa_history.specs.declared.Full.{Full}
use Rattle.poa_history.specs.Life.{Life}
use Rattle.poa_history.specs.Limits.{filled_at}
use Rattle.poa_core.proofs.Filling.{was_filled, was_unfilled, filled_same, filled_more}
use Rattle.poa_core.proofs.Taken.{may_fill}
use Rattle.poa_core.proofs.arriving.refuse.Goals as goal

pub returns-in-Some : goal.returns-in-Some
returns-in-Some c =
    (let l = c.args.run.now in (
      filled_same c.args.conn c.args.size l (was_filled l.history c.filled.result c.filled.ensures.unfilled c.in-Some.full c.in-Some.is),
      sym c.filled.ensures.counts ∙ ap (option_map (λ (f : Full). (f.arrivals, f.bytes))) c.in-Some.is,
    ))

pub fill-requires : goal.fill-requires
fill-requires c =
    (let l = c.args.run.now in
    may_fill l.limit l.history c.args.conn c.args.size c.requires.refused.0 c.requires.conn c.requires.size
    (was_unfilled l.history c.filled.result c.filled.ensures.unfilled c.in_default.is) c.requires.refused.1)

pub returns : goal.returns
returns c =
    (let l = c.args.run.now in (
      c.fill.ensures
          ∙ filled_more c.args.conn c.args.size l (was_unfilled l.history c.filled.result c.filled.ensures.unfilled c.in_default.is),
      ap (λ (x : Life). filled_at x.history) c.fill.ensures ∙ ap₂ (λ a b. Some (a, b)) (sym c.arrivals-arrivals.ensures) (sym c.bytes-bytes.ensures),
    ))
