-- A link is served on the seat: one visit more.
use Rattle.std.proofs.Common.{◌≡◌, ℕ, ◌≤◌, List, [], ◌∷◌, ◌++◌, reverse, Option, Some, None, refl, sym, ap, ◌∙◌, subst, inl, ⊎_elim, arith}
use Rattle.std.specs.Prelude.{MatchOption}
use Rattle.std.proofs.lemmas.List.{append-nil, reverse-reverse}
use mathlib.Core.Logic.{dite}
use mathlib.Core.Option.{some}
use native.Mathlib.Decide.{ℕ_discrete}
use lib.ListN.{get_elem?}
use Rattle.outside.specs.Link.{Shown}
use Rattle.poa_base.specs.declared.Entry.{Entry}
use Rattle.poa_base.specs.declared.Entry.TheVariants.{Entered}
use Rattle.poa_shared.proofs.Making.{in_either}
use Rattle.poa_history.specs.declared.givens.Givens.{Givens}
use Rattle.poa_history.specs.Owners.{owner_of}
use Rattle.poa_session.specs.Served.{RefusedAs, Served, ServedAs}
use Rattle.poa_shared.specs.Seen.{Owns}
use Rattle.session_laws.specs.Records.{places}
use Rattle.seat_lock.specs.declared.view.View.{View}
use Rattle.seat_lock.specs.Histories.{times, Belongs, In}
use Rattle.seat_lock.proofs.Calls.{at_prefix}
use Rattle.seat_lock.proofs.Histories.{prefix_self, prefix_through}
use Rattle.seat_lock.proofs.Totals.{at_below, one_at, times_here, times_else}
use Rattle.session_laws.specs.declared.peer.Peer.{Peer}
use Rattle.serve_run.specs.Doors.{Attends}
use Rattle.serve_run.specs.Ledgers.{IsExplained}
use Rattle.serve_run.specs.Visits.{Visit, conn_in, conns_of}
use Rattle.serve_run.proofs.Places.{in_first, in_second, place_stands, stands_at_place}
use Rattle.serve_run.proofs.Entering.{entered_once}
use Rattle.serve_run.proofs.Growing.{adds_behind, each_later, explained_more, owns_later, Adds}

-- where a connection's places are
pub place_belongs : (log : List Entry) (c x : ℕ) → In x (places c log) → Belongs owner_of log x c
place_belongs log c x there = subst (λ l. Belongs owner_of l x c) (reverse-reverse log) (place_stands (reverse log) c x there)

pub belongs_placed : (log : List Entry) (c x : ℕ) → Belongs owner_of log x c → In x (places c log)
belongs_placed log c x b = stands_at_place (reverse log) c x (subst (λ l. Belongs owner_of l x c) (sym (reverse-reverse log)) b)

-- a seat that made nothing served no link yet
pub attends_none : {L : Type 0} (g : Givens) (peer : Peer) (shown : L → Shown) (v : View Givens Entry) → v.mine ≡ [] → Attends g peer shown [] v v
attends_none g peer shown v none = record {
  grows = prefix_self v.seen;
  given = refl;
  base = refl;
  room = refl;
  ledger = record {
    explained = λ place there. absurd (nowhere place there);
    closed = λ x c there b. absurd (nowhere x there);
    within = λ place there. absurd (nowhere place there);
    owned = λ c there. absurd (omega arith);
    once = λ c. omega arith;
  };
  each = tt;
}
  where
    nowhere : (place : ℕ) → In place v.mine → ⊥
    nowhere place there = (let none_there : In place [] = subst (In place) none there in omega arith)

module _ {L : Type 0} (g : Givens) (peer : Peer) (shown : L → Shown) (visits : List (Visit L)) (first v w : View Givens Entry)
    (so_far : Attends g peer shown visits first v) (x : Visit L) (served : Served g peer v w (shown x.before) (shown x.after) x.session) where
  -- no connection entered
  module _ (none : x.session.conn ≡ None) (mine : w.mine ≡ v.mine) where
    adds_none : Adds v w []
    adds_none = adds_behind v w [] served.grows so_far.ledger.within (mine ∙ sym (append-nil v.mine))

    same_conns : conns_of (x ∷ visits) ≡ conns_of visits
    same_conns = ap (λ o. conn_in o ++ conns_of visits) none

    pub attends_refused : Attends g peer shown (x ∷ visits) first w
    attends_refused = record {
      grows = prefix_through first.seen v.seen w.seen so_far.grows served.grows;
      given = served.given ∙ so_far.given;
      base = served.base ∙ so_far.base;
      room = served.room ∙ so_far.room;
      ledger = record {
        explained =
            λ place there. explained_more (conns_of visits) [] (conns_of (x ∷ visits)) [] v.seen w.seen place (λ c i. subst (In c) (sym same_conns) i)
            (λ k i. i) served.grows (so_far.ledger.explained place (subst (In place) mine there));
        closed = served.knows.closed;
        within = served.knows.within;
        owned = λ c i. owns_later v w [] adds_none c (so_far.ledger.owned c (subst (In c) same_conns i));
        once = λ c. subst (λ l. times c l ≤ 1) (sym same_conns) (so_far.ledger.once c);
      };
      each = (
        record { opening = v; closing = w; served = served; later = prefix_self w.seen; gone = λ c is. absurd (let e : None ≡ Some c = sym none ∙ is in cc) },
        each_later v w [] adds_none g peer shown visits (λ c i place there b. omega arith) so_far.each,
      );
    }

  -- a connection entered
  module _ (c : ℕ) (some_ : x.session.conn ≡ Some c) (told : ServedAs g peer v w (shown x.before) (shown x.after) c x.session.end) where
    adds_places : Adds v w (places c w.seen)
    adds_places = adds_behind v w (places c w.seen) served.grows so_far.ledger.within told.mine

    more_conns : conns_of (x ∷ visits) ≡ c ∷ conns_of visits
    more_conns = ap (λ o. conn_in o ++ conns_of visits) some_

    -- it is a new one
    new_one : (d : ℕ) → In d (conns_of visits) → d ≡ c → ⊥
    new_one d there same =
        let owns = so_far.ledger.owned d there in
        let old : get_elem? w.seen owns.place ≡ some (Entered c) =
        subst (λ k. get_elem? w.seen owns.place ≡ some (Entered k)) same (at_prefix v.seen w.seen owns.place (Entered d) served.grows owns.entered) in
        let is : owns.place ≡ told.place = entered_once g w.seen owns.place told.place c served.runs old told.entered in
        let low = at_below v.seen owns.place (Entered d) owns.entered in
        let high = told.later in omega arith

    apart : (d : ℕ) → In d (conns_of visits) → (place : ℕ) → In place (places c w.seen) → Belongs owner_of w.seen place d → ⊥
    apart d there place i b =
        let own = place_belongs w.seen c place i in
        let one : own.0 ≡ b.0 = one_at w.seen place own.0 b.0 own.1 b.1 in
        let same : Some c ≡ Some d = sym own.2 ∙ (ap owner_of one ∙ b.2) in
        new_one d there (let e : c ≡ d = cc in sym e)

    own_new : Owns w c
    own_new = record {
      place = told.place;
      made = subst (In told.place) (sym told.mine)
          (in_second told.place v.mine (places c w.seen) (belongs_placed w.seen c told.place (Entered c, told.entered, refl)));
      entered = told.entered;
    }

    once_more : (d : ℕ) → times d (c ∷ conns_of visits) ≤ 1
    once_more d =
        dite (ℕ_discrete d c)
        (λ (same : d ≡ c).
        dite (ℕ_discrete (times d (conns_of visits)) 0)
        (λ (none : times d (conns_of visits) ≡ 0). (let here : times d (c ∷ []) ≡ 1 = subst (λ k. times d (k ∷ []) ≡ 1) same (times_here d) in omega arith))
        (λ (there : times d (conns_of visits) ≡ 0 → ⊥). absurd (new_one d (omega arith) same)))
        (λ (other : d ≡ c → ⊥). (let here = times_else d c other in let old = so_far.ledger.once d in omega arith))

    pub attends_entered : Attends g peer shown (x ∷ visits) first w
    attends_entered = record {
      grows = prefix_through first.seen v.seen w.seen so_far.grows served.grows;
      given = served.given ∙ so_far.given;
      base = served.base ∙ so_far.base;
      room = served.room ∙ so_far.room;
      ledger = record {
        explained = λ place there. subst (λ l. IsExplained l [] w.seen place) (sym more_conns) (⊎_elim
            (λ (old : In place v.mine). explained_more (conns_of visits) [] (c ∷ conns_of visits) [] v.seen w.seen place
            (λ d i. in_second d (c ∷ []) (conns_of visits) i) (λ k i. i) served.grows (so_far.ledger.explained place old))
            (λ (new : In place (places c w.seen)). (let b = place_belongs w.seen c place new in
            record { entry = b.0; stands = b.1; of = inl (c, in_first c (c ∷ []) (conns_of visits) (let one = times_here c in omega arith), b.2) }))
            (in_either place v.mine (places c w.seen) (subst (In place) told.mine there)));
        closed = served.knows.closed;
        within = served.knows.within;
        owned = λ d i. ⊎_elim
            (λ (new : In d (c ∷ [])). dite (ℕ_discrete d c) (λ (same : d ≡ c). subst (Owns w) (sym same) own_new)
            (λ (other : d ≡ c → ⊥). absurd (let none = times_else d c other in omega arith)))
            (λ (old : In d (conns_of visits)). owns_later v w (places c w.seen) adds_places d (so_far.ledger.owned d old))
            (in_either d (c ∷ []) (conns_of visits) (subst (In d) more_conns i));
        once = λ d. subst (λ l. times d l ≤ 1) (sym more_conns) (once_more d);
      };
      each = (
        record {
          opening = v;
          closing = w;
          served = served;
          later = prefix_self w.seen;
          gone = λ d is. (let e : Some c ≡ Some d = sym some_ ∙ is in let same : c ≡ d = cc in
              record { owns = subst (Owns w) same own_new; quiet = λ place there b. served.knows.within place there });
        },
        each_later v w (places c w.seen) adds_places g peer shown visits (λ d there place i b. apart d there place i b) so_far.each,
      );
    }

  by_conn : (o : Option ℕ) → x.session.conn ≡ o
      → MatchOption o (RefusedAs peer v w (shown x.before) (shown x.after) x.session.end)
      (λ c. ServedAs g peer v w (shown x.before) (shown x.after) c x.session.end) → Attends g peer shown (x ∷ visits) first w
  by_conn None is refused = attends_refused is refused.mine
  by_conn (Some c) is told = attends_entered c is told

  pub attends_more : Attends g peer shown (x ∷ visits) first w
  attends_more = by_conn x.session.conn refl served.told
