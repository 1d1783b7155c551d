-- What is known of a seat's visits stays known while the seat sees more, and makes entries of others.
use Rattle.std.proofs.Common.{◌≡◌, ℕ, ◌<◌, List, [], ◌∷◌, ◌++◌, length, Option, Some, sym, subst, inl, inr, ◌⊎◌, ⊎_elim, arith}
use Rattle.outside.specs.Link.{Shown}
use Rattle.poa_base.specs.declared.Entry.{Entry}
use Rattle.poa_base.specs.declared.Entry.TheVariants.{Entered}
use Rattle.poa_shared.proofs.Making.{in_either}
use Rattle.poa_history.specs.declared.givens.Givens.{Givens}
use Rattle.poa_history.specs.Owners.{owner_of}
use Rattle.poa_shared.specs.Seen.{Owns}
use Rattle.seat_lock.specs.declared.view.View.{View}
use Rattle.seat_lock.specs.Histories.{Belongs, In, IsPrefix}
use Rattle.seat_lock.proofs.Calls.{at_prefix}
use Rattle.seat_lock.proofs.Histories.{prefix_through}
use Rattle.seat_lock.proofs.Totals.{times_here}
use Rattle.session_laws.specs.declared.peer.Peer.{Peer}
use Rattle.serve_run.specs.Ledgers.{IsExplained, IsOfConns, IsOfWorkers}
use Rattle.serve_run.specs.Visits.{Visit, Visited, EachVisited, IsGone, conn_in, conns_of}
use Rattle.serve_run.proofs.Places.{in_first, in_second, stood_before}

-- an entry is explained by more connections and workers too, and as the journal grows
pub explained_more : (conns workers conns' workers' : List ℕ) (short long : List Entry) (place : ℕ) → ((c : ℕ) → In c conns → In c conns')
    → ((w : ℕ) → In w workers → In w workers') → IsPrefix short long → IsExplained conns workers short place → IsExplained conns' workers' long place
explained_more conns workers conns' workers' short long place more_conns more_workers p it = record {
  entry = it.entry;
  stands = at_prefix short long place it.entry p it.stands;
  of = ⊎_elim
      (λ (o : IsOfConns conns it.entry). inl (o.0, more_conns o.0 o.1, o.2))
      (λ (o : IsOfWorkers workers it.entry). inr (o.0, more_workers o.0 o.1, o.2))
      it.of;
}

-- what the second view makes is what the first made, and these places
pub record Adds (v w : View Givens Entry) (made : List ℕ) : Type 0 where
  pub grows : IsPrefix v.seen w.seen
  pub within : (place : ℕ) → In place v.mine → place < length v.seen
  pub kept : (place : ℕ) → In place v.mine → In place w.mine
  pub either : (place : ℕ) → In place w.mine → In place v.mine ⊎ In place made

pub adds_behind : (v w : View Givens Entry) (made : List ℕ) → IsPrefix v.seen w.seen → ((place : ℕ) → In place v.mine → place < length v.seen)
    → w.mine ≡ v.mine ++ made → Adds v w made
adds_behind v w made grows within mine = record {
  grows = grows;
  within = within;
  kept = λ place there. subst (In place) (sym mine) (in_first place v.mine made there);
  either = λ place there. in_either place v.mine made (subst (In place) mine there);
}

module _ (v w : View Givens Entry) (made : List ℕ) (adds : Adds v w made) where
  pub owns_later : (c : ℕ) → Owns v c → Owns w c
  owns_later c owns =
      record { place = owns.place; made = adds.kept owns.place owns.made; entered = at_prefix v.seen w.seen owns.place (Entered c) adds.grows owns.entered }

  -- none of those places is one of the connection
  abbrev pub IsApart : ℕ → Type 0
  IsApart c = (place : ℕ) → In place made → Belongs owner_of w.seen place c → ⊥

  gone_later : (seen : List Entry) (c : ℕ) → IsApart c → IsGone seen c v → IsGone seen c w
  gone_later seen c apart gone = record {
    owns = owns_later c gone.owns;
    quiet = λ place there b. ⊎_elim
        (λ (old : In place v.mine). gone.quiet place old (b.0, stood_before v.seen w.seen place b.0 adds.grows (adds.within place old) b.1, b.2))
        (λ (new : In place made). absurd (apart place new b))
        (adds.either place there);
  }

  module _ {L : Type 0} (g : Givens) (peer : Peer) (shown : L → Shown) where
    visited_later : (x : Visit L) → ((c : ℕ) → x.session.conn ≡ Some c → IsApart c) → Visited g peer shown x v → Visited g peer shown x w
    visited_later x apart it = record {
      opening = it.opening;
      closing = it.closing;
      served = it.served;
      later = prefix_through it.closing.seen v.seen w.seen it.later adds.grows;
      gone = λ c is. gone_later it.closing.seen c (apart c is) (it.gone c is);
    }

    in_conn : (o : Option ℕ) (c : ℕ) → o ≡ Some c → In c (conn_in o)
    in_conn o c is = subst (λ p. In c (conn_in p)) (sym is) (let one = times_here c in omega arith)

    pub each_later : (visits : List (Visit L)) → ((c : ℕ) → In c (conns_of visits) → IsApart c) → EachVisited g peer shown visits v
        → EachVisited g peer shown visits w
    each_later [] apart each = tt
    each_later (x ∷ earlier) apart each = (
      visited_later x (λ c is. apart c (in_first c (conn_in x.session.conn) (conns_of earlier) (in_conn x.session.conn c is))) each.0,
      each_later earlier (λ c there. apart c (in_second c (conn_in x.session.conn) (conns_of earlier) there)) each.1,
    )
