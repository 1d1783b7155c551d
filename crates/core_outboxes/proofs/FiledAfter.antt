-- The desk says after an entry what the history says.
use Rattle.std.proofs.Common.{◌≡◌, ℕ, ◌<◌, Bool, true, false, not, ◌&&◌, ◌||◌, List, [], ◌∷◌, ◌++◌, map, filter, cond, Option, Some, None, refl, sym, ap, ap₂, subst, ◌∙◌, inl, inr, ◌⊎◌}
use Rattle.std.proofs.lemmas.List.{map-append}
use Rattle.std.proofs.lemmas.List.Elements.{filter-append}
use Rattle.poa_base.specs.declared.Config.{Config}
use Rattle.poa_base.specs.declared.Entry.{Entry}
use Rattle.history_standing.specs.Arrivals.{arrivals, call_of}
use Rattle.history_standing.specs.Changes.{standing}
use Rattle.poa_history.specs.Replies.{asks, decided, number_of}
use Rattle.poa_history.specs.Settling.{is_quiet}
use Rattle.history_standing.specs.Stages.{is_at}
use Rattle.poa_history.specs.States.{Stored}
use Rattle.history_standing.specs.Trees.{In}
use Rattle.history_standing.proofs.Members.{in_kept, in_image}
use Rattle.core_outboxes.specs.declared.decision.Decision.{Decision}
use Rattle.core_outboxes.specs.declared.filed.Filed.{Filed as FiledRow}
use Rattle.core_outboxes.specs.declared.owing.Owing.{Owing}
use Rattle.core_outboxes.specs.declared.wait.Wait.{Wait}
use Rattle.core_outboxes.specs.declared.wait.Wait.TheVariants.{Nothing, Quiet, Off, Gone}
use Rattle.core_outboxes.specs.declared.wait.Ordered.{Ordered}
use Rattle.poa_history.specs.Numbers.{below}
use Rattle.core_outboxes.specs.Waits.{is_overtaking, has_come}
use Rattle.core_outboxes.specs.Owed.{Owes, IsCurrent}
use Rattle.poa_history.specs.Heads.{head_of}
use Rattle.core_outboxes.specs.Decided.{is_answered_by, answered, Decides, IsFiled, reply_to, target_of}
use Rattle.core_outboxes.specs.Desk.{is_decided, file}
use Rattle.poa_history.proofs.Numbers.{in_below}
use Rattle.core_outboxes.proofs.Waiting.{IsOvertaken}
use Rattle.core_outboxes.proofs.Deciding.{AreRows, row_owed, row_fresh, row_decided, filed_which}
use Rattle.core_outboxes.proofs.Kept.{replied_decided, reply_kept, reply_fixed}
use Rattle.history_standing.proofs.CallsKept.{call_kept, conn_arrived, conn_kept}

not_true : (b : Bool) → not b ≡ true → b ≡ false
not_true false is = refl
not_true true is = absurd (let x : false ≡ true = is in cc)

-- all that pass are kept
all_kept : (p : ℕ → Bool) (xs : List ℕ) → ((x : ℕ) → In x xs → p x ≡ true) → filter p xs ≡ xs
all_kept p [] all = refl
all_kept p (x ∷ xs) all = ap₂ (λ b ys. cond b (x ∷ ys) ys) (all x (inl refl)) (all_kept p xs (λ y there. all y (inr there)))

filed_arrivals : (decision : Option Decision) (os : List Owing) → map (λ f. f.arrival) (map (file decision) os) ≡ map (λ o. o.arrival) os
filed_arrivals decision [] = refl
filed_arrivals decision (o ∷ os) = ap (λ rs. o.arrival ∷ rs) (filed_arrivals decision os)

in_append : {A : Type 0} (x : A) (xs ys : List A) → In x (xs ++ ys) → In x xs ⊎ In x ys
in_append x [] ys there = inr there
in_append x (z ∷ xs) ys (inl same) = inl (inl same)
in_append x (z ∷ xs) ys (inr more) = elim (in_append x xs ys more) [ inl a ↦ inl (inr a) | inr b ↦ inr b ]

module _ (c : Config) (run : ℕ) (opened : Stored) (past : List Entry) (e : Entry) (ordered : Option Ordered) (os : List Owing)
    (rows : AreRows c run past e ordered os)
    (decision : Option Decision) (decides : Decides c run opened past e decision) where
  abbrev target : Option ℕ
  target = target_of decision

  -- a row that isn't decided is owed a reply still
  pub row_stays : (o : Owing) → In o (filter (λ o. not (is_decided c (standing c run (e ∷ past)) target ordered o)) os) → Owes c run (e ∷ past) o
  row_stays o there =
      let kept = in_kept (λ o. not (is_decided c (standing c run (e ∷ past)) target ordered o)) o os there in
      let less = (row_owed c run past e ordered os rows o kept.0).0 in
      let n = rows.next o kept.0 in
      record {
        conn = conn_kept e past o.arrival less ∙ rows.conns o kept.0;
        number = ap number_of (call_kept e past o.arrival less) ∙ rows.numbers o kept.0;
        head = ap head_of (call_kept e past o.arrival less) ∙ rows.heads o kept.0;
        wait = n.wait;
        current = current_of o.wait n.over (not_true (is_decided c (standing c run (e ∷ past)) target ordered o) kept.1);
      }
    where
      rest_of : (a b : Bool) → (a || b) ≡ false → b ≡ false
      rest_of false b is = is
      rest_of true b is = absurd (let x : true ≡ false = is in cc)

      current_of : (w : Option Wait) → IsOvertaken c (e ∷ past) ordered o.arrival w
          → (is_at o.arrival target || (elim w [ Some wait ↦ has_come c (standing c run (e ∷ past)) ordered o.arrival wait | None ↦ false ])) ≡ false
          → IsCurrent c (e ∷ past) o.arrival w
      current_of None over none = tt
      current_of (Some Nothing) over none = tt
      current_of (Some (Quiet m)) over none =
          over ∙ rest_of (is_quiet c (standing c run (e ∷ past)) m) (is_overtaking ordered o.arrival m)
          (rest_of (is_at o.arrival target) (is_quiet c (standing c run (e ∷ past)) m || is_overtaking ordered o.arrival m) none)
      current_of (Some (Off m etherealize begun)) over none = tt
      current_of (Some (Gone k)) over none = tt

  -- what is filed of a row is the reply of its call
  pub row_filed : (o : Owing) → In o (filter (is_decided c (standing c run (e ∷ past)) target ordered) os)
      → IsFiled c run opened (e ∷ past) (file decision o)
  row_filed o there =
      let kept = in_kept (is_decided c (standing c run (e ∷ past)) target ordered) o os there in
      let less = (row_owed c run past e ordered os rows o kept.0).0 in
      let fresh = row_fresh c run past e ordered os rows o kept.0 in
      let now : decided c run (e ∷ past) o.arrival ≡ true = sym (row_decided c run past e ordered os rows target decides.target_is o kept.0) ∙ kept.1 in
      record {
        conn = conn_kept e past o.arrival less ∙ rows.conns o kept.0;
        head = ap head_of (call_kept e past o.arrival less) ∙ rows.heads o kept.0;
        reply = reply_fixed c run opened past e o.arrival fresh now ∙ decides.reply_is o.arrival less fresh now
            ∙ ap (λ n. Some (reply_to decision o.arrival n)) (rows.numbers o kept.0);
      }

  -- what was filed before is so still
  pub stays_filed : (f : FiledRow) → IsFiled c run opened past f → IsFiled c run opened (e ∷ past) f
  stays_filed f its =
      let less = conn_arrived past f.arrival f.conn its.conn in
      record {
        conn = conn_kept e past f.arrival less ∙ its.conn;
        head = ap head_of (call_kept e past f.arrival less) ∙ its.head;
        reply = reply_kept c run opened past e f.arrival (replied_decided c run opened past f.arrival f.reply its.reply) ∙ its.reply;
      }

  -- the replies in their order, but for those that a test says were collected
  pub filed_after : (stands : ℕ → Bool) → ((r : ℕ) → r < arrivals past → decided c run past r ≡ false → stands r ≡ true) → (fs : List FiledRow)
      → map (λ f. f.arrival) fs ≡ filter stands (answered c run past)
      → map (λ f. f.arrival) (fs ++ map (file decision) (filter (is_decided c (standing c run (e ∷ past)) target ordered) os)) ≡ filter stands
      (answered c run (e ∷ past))
  filed_after stands fresh_stand fs which =
      let now = is_decided c (standing c run (e ∷ past)) target ordered in
      let news = filter (is_answered_by c run e past) (below (arrivals past)) in
      map-append (λ f. f.arrival) fs (map (file decision) (filter now os))
      ∙ ap₂ (λ xs ys. xs ++ ys) which
      (filed_arrivals decision (filter now os) ∙ filed_which c run past e ordered os rows target decides.target_is
      ∙ sym (all_kept stands news (λ r there. (let its = in_kept (is_answered_by c run e past) r (below (arrivals past)) there in
      fresh_stand r (in_below r (arrivals past) its.0) (third (asks (call_of past r)) (decided c run (e ∷ past) r) (decided c run past r) its.1)))))
      ∙ sym (filter-append stands (answered c run past) news)
    where
      third : (a b d : Bool) → (a && (b && not d)) ≡ true → d ≡ false
      third true true false is = refl
      third true true true is = absurd (let x : false ≡ true = is in cc)
      third true false d is = absurd (let x : false ≡ true = is in cc)
      third false b d is = absurd (let x : false ≡ true = is in cc)

  pub each_filed : (fs : List FiledRow) → ((f : FiledRow) → In f fs → IsFiled c run opened past f)
      → (f : FiledRow) → In f (fs ++ map (file decision) (filter (is_decided c (standing c run (e ∷ past)) target ordered) os))
      → IsFiled c run opened (e ∷ past) f
  each_filed fs each f there =
      elim (in_append f fs (map (file decision) (filter (is_decided c (standing c run (e ∷ past)) target ordered) os)) there) [
        | inl old ↦ stays_filed f (each f old)
        | inr new ↦ (let from = in_image (file decision) f (filter (is_decided c (standing c run (e ∷ past)) target ordered) os) new in
            subst (IsFiled c run opened (e ∷ past)) (sym from.2) (row_filed from.0 from.1))
      ]
