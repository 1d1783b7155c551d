-- Where it is closed nothing is fed; else the piece stands behind what is unread.
use Rattle.std.proofs.Common.{ℕ, List, ◌∙◌, ap, sym, subst, refl, is_some, IsSome}
use Rattle.giop_frame.specs.Framing.{Framing}
use Rattle.giop_frame.specs.Framer.{HasFirst}
use Rattle.giop_frame.proofs.First.{first_fed, closed_fed, pushed_fed, on_ok}
use Rattle.giop_frame.proofs.framer.Framer.feed.Goals as goal

pub returns-then-is_some-clause-first : goal.returns-then-is_some-clause-first
returns-then-is_some-clause-first c = λ limit fed knows.
    (let f = c.args.self.now in
    let closed : IsSome f.closed = ap (λ (k : Framing). is_some k.closed) (sym c.self.view_is) ∙ (sym c.is_some.ensures ∙ c.if-is_some.true) in
    first_fed limit fed f f knows c.args.piece.now (closed_fed f c.args.piece.now f.closed refl closed) refl)

pub returns-clause-first : goal.returns-clause-first
returns-clause-first c =
    let inside = c.self.inside in
    let f : Framing = record {
      limit = inside.limit;
      reading = record { place = inside.place; pending = inside.pending };
      unread = inside.unread;
      closed = inside.closed;
      first = inside.first;
    } in
    on_ok c.push.result _ _
    (λ pushed limit fed knows. first_fed limit fed f (record f { unread = c.push.new.self })
    (subst (λ (k : Framing). HasFirst limit fed k) (sym c.self.view_is) knows) c.args.piece.now
    (pushed_fed f (record f { unread = c.push.new.self }) c.args.piece.now (ap (λ (u : List ℕ). record f { unread = u }) pushed)) refl)
    c.push.ensures.ok
