-- A look at the phase changes nothing that is known of a seat's visits.
use Rattle.std.proofs.Common.{◌≡◌, ℕ, ◌<◌, List, [], ◌++◌, length, reverse, sym, ap, ◌∙◌, subst, arith}
use Rattle.std.proofs.lemmas.List.{append-nil, reverse-append, reverse-reverse}
use Rattle.outside.specs.Link.{Shown}
use Rattle.poa_base.specs.declared.Entry.{Entry}
use Rattle.poa_history.specs.declared.givens.Givens.{Givens}
use Rattle.poa_shared.specs.Seen.{past, Turns}
use Rattle.seat_lock.specs.declared.view.View.{View}
use Rattle.seat_lock.specs.Histories.{In, IsPrefix}
use Rattle.seat_lock.proofs.Histories.{prefix_through}
use Rattle.session_laws.specs.declared.peer.Peer.{Peer}
use Rattle.serve_run.specs.Doors.{Attends}
use Rattle.serve_run.specs.Visits.{Visit, conns_of}
use Rattle.serve_run.proofs.Growing.{adds_behind, each_later, explained_more, owns_later, Adds}

module _ (g : Givens) (v w : View Givens Entry) (h : List Entry) (t : Turns g v h w) (same : past w ≡ h) where
  -- what is seen goes on from what was seen
  pub looked_on : IsPrefix v.seen w.seen
  looked_on = (
    reverse t.goes_on.more,
    sym (reverse-reverse w.seen)
        ∙ (ap reverse (same ∙ t.goes_on.is) ∙ (reverse-append t.goes_on.more (past v) ∙ ap (λ l. l ++ reverse t.goes_on.more) (reverse-reverse v.seen))),
  )

  adds_none : ((place : ℕ) → In place v.mine → place < length v.seen) → Adds v w []
  adds_none within = adds_behind v w [] looked_on within (t.none_made same ∙ sym (append-nil v.mine))

  pub attends_looked : {L : Type 0} (peer : Peer) (shown : L → Shown) (visits : List (Visit L)) (first : View Givens Entry)
      → Attends g peer shown visits first v → Attends g peer shown visits first w
  attends_looked peer shown visits first so_far = record {
    grows = prefix_through first.seen v.seen w.seen so_far.grows looked_on;
    given = t.given ∙ so_far.given;
    base = t.base ∙ so_far.base;
    room = t.room ∙ so_far.room;
    ledger = record {
      explained =
          λ place there. explained_more (conns_of visits) [] (conns_of visits) [] v.seen w.seen place (λ c i. i) (λ k i. i) looked_on
          (so_far.ledger.explained place (subst (In place) (t.none_made same) there));
      closed = t.knows.closed;
      within = t.knows.within;
      owned = λ c i. owns_later v w [] (adds_none so_far.ledger.within) c (so_far.ledger.owned c i);
      once = so_far.ledger.once;
    };
    each = each_later v w [] (adds_none so_far.ledger.within) g peer shown visits (λ c i place there b. omega arith) so_far.each;
  }
