-- Two seats are joined. What one of them made of its connections the other didn't touch.
use Rattle.std.proofs.Common.{◌≡◌, ℕ, ◌+◌, ◌<◌, List, ◌++◌, length, refl, sym, subst, inl, inr, ⊎_elim, arith}
use mathlib.Core.Logic.{dite}
use native.Mathlib.Decide.{ℕ_discrete}
use Rattle.poa_base.specs.declared.Entry.{Entry}
use Rattle.poa_base.specs.declared.Entry.TheVariants.{Entered}
use Rattle.poa_shared.specs.Seen.{Owns}
use Rattle.poa_shared.proofs.Making.{in_either}
use Rattle.poa_history.specs.declared.givens.Givens.{Givens}
use Rattle.poa_history.specs.Owners.{owner_of}
use Rattle.seat_lock.specs.declared.view.View.{View}
use Rattle.seat_lock.specs.Histories.{times, Belongs, In, IsClosed, IsPrefix, entering}
use Rattle.seat_lock.specs.Steps.{Unites}
use Rattle.seat_lock.proofs.Calls.{at_prefix}
use Rattle.seat_lock.proofs.Histories.{closed_both, prefix_below}
use Rattle.serve_run.specs.Ledgers.{Ledger}
use Rattle.serve_run.proofs.Growing.{explained_more, owns_later, Adds}
use Rattle.serve_run.proofs.Places.{in_first, in_second}
use Rattle.serve_run.proofs.Closing.{closed_longer}

-- one of the two seats, and the place at which a connection of it entered
module _ (v j : View Givens Entry) (grows : IsPrefix v.seen j.seen) (closed : IsClosed owner_of v.seen v.mine)
    (within : (x : ℕ) → In x v.mine → x < length v.seen) where
  entering_in : (c x : ℕ) → In x v.mine → Belongs owner_of j.seen x c → In (entering owner_of c j.seen) v.mine
  entering_in c x there b = closed_longer owner_of v.seen j.seen grows v.mine within closed x c there b

  pub entering_owned : (c : ℕ) → Owns v c → In (entering owner_of c j.seen) v.mine
  entering_owned c owns = entering_in c owns.place owns.made (Entered c, at_prefix v.seen j.seen owns.place (Entered c) grows owns.entered, refl)

module _ (v u j : View Givens Entry) (unites : Unites v u j) (mine : j.mine ≡ v.mine ++ u.mine) (A B X Y : List ℕ) (one : Ledger A X v)
    (other : Ledger B Y u) where
  pub adds_other : Adds v j u.mine
  adds_other = record {
    grows = unites.first;
    within = one.within;
    kept = λ place there. subst (In place) (sym mine) (in_first place v.mine u.mine there);
    either = λ place there. in_either place v.mine u.mine (subst (In place) mine there);
  }

  pub adds_one : Adds u j v.mine
  adds_one = record {
    grows = unites.second;
    within = other.within;
    kept = λ place there. subst (In place) (sym mine) (in_second place v.mine u.mine there);
    either =
        λ place there. ⊎_elim (λ (i : In place v.mine). inr i) (λ (i : In place u.mine). inl i) (in_either place v.mine u.mine (subst (In place) mine there));
  }

  -- the other seat made no entry of a connection of the one
  pub other_apart : (c : ℕ) → Owns v c → (place : ℕ) → In place u.mine → Belongs owner_of j.seen place c → ⊥
  other_apart c owns place there b =
      let k : ℕ = entering owner_of c j.seen in
      let mine_ = entering_owned v j unites.first one.closed one.within c owns in
      let theirs = closed_longer owner_of u.seen j.seen unites.second u.mine other.within other.closed place c there b in
      let apart = unites.apart k in omega (arith, mine_, theirs, apart)

  -- nor the one of a connection of the other
  pub one_apart : (c : ℕ) → Owns u c → (place : ℕ) → In place v.mine → Belongs owner_of j.seen place c → ⊥
  one_apart c owns place there b =
      let k : ℕ = entering owner_of c j.seen in
      let theirs = entering_owned u j unites.second other.closed other.within c owns in
      let mine_ = closed_longer owner_of v.seen j.seen unites.first v.mine one.within one.closed place c there b in
      let apart = unites.apart k in omega (arith, mine_, theirs, apart)

  pub owned_once : (c : ℕ) → Owns v c → Owns u c → ⊥
  owned_once c owns owns' =
      other_apart c owns owns'.place owns'.made (Entered c, at_prefix u.seen j.seen owns'.place (Entered c) unites.second owns'.entered, refl)

  -- the two ledgers are one
  module _ (C Z : List ℕ) (both : (c : ℕ) → times c C ≡ times c A + times c B) (first_workers : (w : ℕ) → In w X → In w Z)
      (second_workers : (w : ℕ) → In w Y → In w Z) where
    pub ledger_both : Ledger C Z j
    ledger_both = record {
      explained = λ place there. ⊎_elim
          (λ (i : In place v.mine). explained_more A X C Z v.seen j.seen place (λ c k. (let t = both c in omega arith)) first_workers unites.first
          (one.explained place i))
          (λ (i : In place u.mine). explained_more B Y C Z u.seen j.seen place (λ c k. (let t = both c in omega arith)) second_workers unites.second
          (other.explained place i))
          (in_either place v.mine u.mine (subst (In place) mine there));
      closed = subst (IsClosed owner_of j.seen) (sym mine) (closed_both owner_of j.seen v.mine u.mine
          (closed_longer owner_of v.seen j.seen unites.first v.mine one.within one.closed)
          (closed_longer owner_of u.seen j.seen unites.second u.mine other.within other.closed));
      within = λ place there. ⊎_elim
          (λ (i : In place v.mine). (let low = one.within place i in let long = prefix_below v.seen j.seen unites.first in omega arith))
          (λ (i : In place u.mine). (let low = other.within place i in let long = prefix_below u.seen j.seen unites.second in omega arith))
          (in_either place v.mine u.mine (subst (In place) mine there));
      owned = λ c i. dite (ℕ_discrete (times c A) 0)
          (λ (none : times c A ≡ 0). owns_later u j v.mine adds_one c (other.owned c (let t = both c in omega arith)))
          (λ (some_ : times c A ≡ 0 → ⊥). owns_later v j u.mine adds_other c (one.owned c (omega arith)));
      once = λ c. dite (ℕ_discrete (times c A) 0)
          (λ (none : times c A ≡ 0). (let t = both c in let o = other.once c in omega arith))
          (λ (some_ : times c A ≡ 0 → ⊥). dite (ℕ_discrete (times c B) 0)
          (λ (none : times c B ≡ 0). (let t = both c in let o = one.once c in omega arith))
          (λ (some' : times c B ≡ 0 → ⊥). absurd (owned_once c (one.owned c (omega arith)) (other.owned c (omega arith)))));
    }
