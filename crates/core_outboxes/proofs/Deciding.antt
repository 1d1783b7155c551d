-- What an entry decides, and the replies that are filed.
use Rattle.std.proofs.Common.{◌≡◌, ℕ, ◌<◌, Bool, true, false, not, ◌&&◌, ◌||◌, List, [], ◌∷◌, map, filter, Option, Some, None, refl, sym, ap, ap₂, subst, ◌∙◌, inl, inr}
use Rattle.poa_base.specs.declared.Config.{Config}
use Rattle.poa_base.specs.declared.Entry.{Entry}
use Rattle.history_standing.specs.Arrivals.{arrivals, call_of, conn_of}
use Rattle.history_standing.specs.Changes.{standing}
use Rattle.poa_history.specs.Replies.{asks, decided, is_decided_by, is_waiting, number_of}
use Rattle.poa_history.specs.Settling.{settles}
use Rattle.history_standing.specs.Stages.{admitted, is_at}
use Rattle.history_standing.specs.Trees.{In}
use Rattle.history_standing.proofs.Members.{in_kept}
use Rattle.core_outboxes.specs.declared.owing.Owing.{Owing}
use Rattle.core_outboxes.specs.declared.wait.Wait.{Wait}
use Rattle.core_outboxes.specs.declared.wait.Ordered.{Ordered}
use Rattle.poa_history.specs.Numbers.{below}
use Rattle.core_outboxes.specs.Waits.{wait_in, has_come}
use Rattle.core_outboxes.specs.Owed.{is_owed}
use Rattle.poa_history.specs.Heads.{head_of}
use Rattle.core_outboxes.specs.Decided.{is_answered_by}
use Rattle.core_outboxes.specs.Desk.{is_decided}
use Rattle.poa_history.proofs.Numbers.{filter_twice, in_below}
use Rattle.core_outboxes.proofs.Lists.{filter_agrees, filter_mapped}
use Rattle.core_outboxes.proofs.Waiting.{comes, IsOvertaken, settles_is}
use Rattle.history_standing.proofs.CallsKept.{call_kept}

-- what was decided stays so
pub stays_decided : (c : Config) (run : ℕ) (past : List Entry) (e : Entry) (r : ℕ) → decided c run past r ≡ true → decided c run (e ∷ past) r ≡ true
stays_decided c run past e r was =
    ap (λ b. is_decided_by past e r || (b || (is_waiting (admitted (e ∷ past) r) && settles c run (e ∷ past) r))) was ∙ either (is_decided_by past e r)
  where
    either : (a : Bool) → (a || true) ≡ true
    either true = refl
    either false = refl

-- what wasn't decided is so by the entry, or where what it waits for has come
pub now_decided : (c : Config) (run : ℕ) (past : List Entry) (e : Entry) (ordered : Option Ordered) (r : ℕ) → decided c run past r ≡ false
    → IsOvertaken c (e ∷ past) ordered r (wait_in c run (e ∷ past) r)
    → decided c run (e ∷ past) r ≡ (is_decided_by past e r || comes c (standing c run (e ∷ past)) ordered r (wait_in c run (e ∷ past) r))
now_decided c run past e ordered r fresh over =
    ap (λ b. is_decided_by past e r || (b || (is_waiting (admitted (e ∷ past) r) && settles c run (e ∷ past) r))) fresh
    ∙ ap (λ b. is_decided_by past e r || b) (settles_is c run (e ∷ past) ordered r over)

-- what a row waits for after the entry, and that nothing but what the entry ordered overtook it
pub record IsNext (c : Config) (run : ℕ) (past : List Entry) (e : Entry) (ordered : Option Ordered) (o : Owing) : Type 0 where
  pub wait : wait_in c run (e ∷ past) o.arrival ≡ o.wait
  pub over : IsOvertaken c (e ∷ past) ordered o.arrival o.wait

-- the rows of the calls that were owed a reply, and that have their next waits
pub record AreRows (c : Config) (run : ℕ) (past : List Entry) (e : Entry) (ordered : Option Ordered) (os : List Owing) : Type 0 where
  pub which : map (λ o. o.arrival) os ≡ filter (is_owed c run past) (below (arrivals past))
  pub conns : (o : Owing) → In o os → conn_of past o.arrival ≡ Some o.conn
  pub numbers : (o : Owing) → In o os → number_of (call_of past o.arrival) ≡ o.number
  pub heads : (o : Owing) → In o os → head_of (call_of past o.arrival) ≡ o.head
  pub next : (o : Owing) → In o os → IsNext c run past e ordered o

module _ (c : Config) (run : ℕ) (past : List Entry) (e : Entry) (ordered : Option Ordered) (os : List Owing) (rows : AreRows c run past e ordered os) where
  -- a row's call arrived, asks a reply, and wasn't decided
  pub row_owed : (o : Owing) → In o os → (o.arrival < arrivals past) × (is_owed c run past o.arrival ≡ true)
  row_owed o there =
      let its = in_kept (is_owed c run past) o.arrival (below (arrivals past)) (subst (In o.arrival) rows.which (image o os there)) in
      (in_below o.arrival (arrivals past) its.0, its.1)
    where
      image : (x : Owing) (xs : List Owing) → In x xs → In x.arrival (map (λ y. y.arrival) xs)
      image x [] is = absurd is
      image x (y ∷ ys) (inl same) = inl (ap (λ z. z.arrival) same)
      image x (y ∷ ys) (inr more) = inr (image x ys more)

  pub row_fresh : (o : Owing) → In o os → decided c run past o.arrival ≡ false
  row_fresh o there = second (asks (call_of past o.arrival)) (decided c run past o.arrival) (row_owed o there).1
    where
      second : (a b : Bool) → (a && not b) ≡ true → b ≡ false
      second true false is = refl
      second true true is = absurd (let x : false ≡ true = is in cc)
      second false b is = absurd (let x : false ≡ true = is in cc)

  module _ (target : Option ℕ) (targets : (r : ℕ) → r < arrivals past → is_decided_by past e r ≡ is_at r target) where
    -- the row's test is the definition
    pub row_decided : (o : Owing) → In o os → is_decided c (standing c run (e ∷ past)) target ordered o ≡ decided c run (e ∷ past) o.arrival
    row_decided o there =
        let n = rows.next o there in
        let at : is_decided_by past e o.arrival ≡ is_at o.arrival target = targets o.arrival (row_owed o there).0 in
        sym (now_decided c run past e ordered o.arrival (row_fresh o there) (subst (IsOvertaken c (e ∷ past) ordered o.arrival) (sym n.wait) n.over)
        ∙ ap₂ (λ b w. b || comes c (standing c run (e ∷ past)) ordered o.arrival w) at n.wait
        ∙ ap (λ b. is_at o.arrival target || b) (as_comes o.wait))
      where
        as_comes : (w : Option Wait) → comes c (standing c run (e ∷ past)) ordered o.arrival w ≡
            (elim w [ Some wait ↦ has_come c (standing c run (e ∷ past)) ordered o.arrival wait | None ↦ false ])
        as_comes None = refl
        as_comes (Some w) = refl

    -- those that are decided are the ones that the entry answers
    pub filed_which : map (λ o. o.arrival) (filter (is_decided c (standing c run (e ∷ past)) target ordered) os) ≡ filter (is_answered_by c run e past)
        (below (arrivals past))
    filed_which =
        filter_mapped (λ o. o.arrival) (is_decided c (standing c run (e ∷ past)) target ordered) (decided c run (e ∷ past)) os row_decided
        ∙ ap (filter (decided c run (e ∷ past))) rows.which
        ∙ filter_twice (is_owed c run past) (decided c run (e ∷ past)) (below (arrivals past))
        ∙ filter_agrees (λ r. is_owed c run past r && decided c run (e ∷ past) r) (is_answered_by c run e past) (below (arrivals past))
        (λ r there. swapped (asks (call_of past r)) (decided c run past r) (decided c run (e ∷ past) r))
      where
        swapped : (a b d : Bool) → ((a && not b) && d) ≡ (a && (d && not b))
        swapped true true true = refl
        swapped true true false = refl
        swapped true false true = refl
        swapped true false false = refl
        swapped false b d = refl

    -- those that aren't are owed a reply still
    pub owed_which : map (λ o. o.arrival) (filter (λ o. not (is_decided c (standing c run (e ∷ past)) target ordered o)) os) ≡ filter (is_owed c run (e ∷ past))
        (below (arrivals past))
    owed_which =
        filter_mapped (λ o. o.arrival) (λ o. not (is_decided c (standing c run (e ∷ past)) target ordered o)) (λ r. not (decided c run (e ∷ past) r)) os
        (λ o there. ap not (row_decided o there))
        ∙ ap (filter (λ r. not (decided c run (e ∷ past) r))) rows.which
        ∙ filter_twice (is_owed c run past) (λ r. not (decided c run (e ∷ past) r)) (below (arrivals past))
        ∙ filter_agrees (λ r. is_owed c run past r && not (decided c run (e ∷ past) r)) (is_owed c run (e ∷ past)) (below (arrivals past))
        (λ r there.
        by_tests (asks (call_of past r)) (decided c run past r) (decided c run (e ∷ past) r) (stays_decided c run past e r)
        ∙ ap (λ call. asks call && not (decided c run (e ∷ past) r)) (sym (call_kept e past r (in_below r (arrivals past) there))))
      where
        by_tests : (a b d : Bool) → (b ≡ true → d ≡ true) → ((a && not b) && not d) ≡ (a && not d)
        by_tests false b d more = refl
        by_tests true false d more = refl
        by_tests true true true more = refl
        by_tests true true false more = absurd (let x : false ≡ true = more refl in cc)
