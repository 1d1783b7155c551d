use Rattle.std.proofs.Common.{refl, rules, sym, subst}
use Rattle.seat_lock.specs.Seats.{view}
use Rattle.std.proofs.Common.{None}
use Rattle.poa_shared.proofs.Helped.{aids_none}
use Rattle.serve_run.specs.declared.ran.PieceEnd.TheVariants.{Worked}
use Rattle.serve_run.specs.Promises.{Keeps}
use Rattle.serve_run.proofs.piece.PieceJob.work.Goals as goal

pub returns : goal.returns
returns g c = (
  search rules,
  aids_none c.args.self.aid.seat,
  λ k given. subst
      (λ t. Keeps k g.A.Link.Link.shown g.A.Acceptor.standing g.A.Acceptor.faults g.A.Acceptor.ends t (view c.args.self.seat)
      (record { seat = c.work-end.new.seat; aid = c.args.self.aid; door = None; refused = None; end = Worked c.work-end.result })) (sym c.in-Worker.is)
      (refl, refl, (c.work-end.result, refl, c.work-end.ensures.worked k given)),
)
