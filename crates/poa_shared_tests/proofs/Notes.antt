-- What a diary keeps as it grows, and what its calls owe the lock.
use Rattle.std.proofs.Common.{◌≡◌, ℕ, ◌<◌, ◌≤◌, Bool, true, false, cond, List, [], ◌∷◌, ◌++◌, length, sym, refl, ap, ◌∙◌, subst, inl, inr, ⊎_elim, arith}
use Rattle.std.specs.Prelude.{IfOk, OnOk, OnErr}
use Rattle.std.specs.declared.result.Result.{Result}
use Rattle.std.specs.declared.result.Result.TheVariants.{Ok, Err}
use mathlib.Core.Option.{some}
use lib.ListN.{get_elem?}
use Rattle.seat_lock.proofs.Lists.{at_last}
use Rattle.seat_lock.proofs.Calls.{at_prefix, in_made, put_begins, belongs_prefix}
use Rattle.seat_lock.specs.declared.view.View.{View}
use Rattle.seat_lock.specs.Histories.{In, entering, MayPut}
use Rattle.seat_lock.specs.Steps.{Knows}
use Rattle.seat_lock.specs.Views.{turned_to, passed_on}
use Rattle.seat_lock.proofs.Totals.{at_push, in_last}
use Rattle.poa_shared_tests.specs.declared.diary.Note.{Note}
use Rattle.poa_shared_tests.specs.Notes.{note, writer_of, HasWriters, IsNew, IsWriter}

pub has_push : (notes new : List Note) (n m : ℕ) (e : Note) → new ≡ notes ++ e ∷ [] → HasWriters notes n → n ≤ m → e.writer < m → HasWriters new m
has_push notes new n m e is h le low x f at = ⊎_elim
    (λ (o : get_elem? notes x ≡ some f). let b = h x f o in omega arith)
    (λ (o : (x ≡ length notes) × (e ≡ f)). subst (λ (g : Note). g.writer < m) o.1 low)
    (at_push notes e f x (subst (λ (l : List Note). get_elem? l x ≡ some f) is at))

pub has_after : (b : Bool) (notes new : List Note) (n : ℕ) (e : Note) → new ≡ cond b (notes ++ e ∷ []) notes → HasWriters notes n → e.writer < n
    → HasWriters new n
has_after true notes new n e is h low = has_push notes new n n e is h (omega arith) low
has_after false notes new n e is h low = subst (λ (l : List Note). HasWriters l n) (sym is) h

-- the next writer's number has no entry
pub is_new : (notes : List Note) (n : ℕ) → HasWriters notes n → IsNew notes n
is_new notes n h x b = let low = h x b.0 b.1 in let own : b.0.writer ≡ n = cc in omega arith

module _ {X : Type 0} where
  pub may_enter : (r : Result ℕ X) (h new : List Note) (mine : List ℕ) → IfOk r (λ w. new ≡ h ++ note w 0 ∷ []) → IfOk r (IsNew h) → OnErr r (new ≡ h)
      → MayPut writer_of h mine new
  may_enter (Ok w) h new mine is fresh same = inr (note w 0, is, λ c own. inl (let q : w ≡ c = cc in subst (IsNew h) q fresh))
  may_enter (Err x) h new mine is fresh same = inl same

module _ {X Y : Type 0} where
  pub may_add : (r : Result Y X) (h new : List Note) (mine : List ℕ) (e : Note) → OnOk r (new ≡ h ++ e ∷ []) → OnErr r (new ≡ h)
      → In (entering writer_of e.writer h) mine → MayPut writer_of h mine new
  may_add (Ok y) h new mine e is same there =
      inr (e, is, λ c own. inr (let q : e.writer ≡ c = cc in subst (λ (z : ℕ). In (entering writer_of z h) mine) q there))
  may_add (Err x) h new mine e is same there = inl same

module _ {G : Type 0} where
  pub writer_low : (v : View G Note) (h : List Note) (n c : ℕ) → Knows writer_of v h → IsWriter v c → HasWriters h n → c < n
  writer_low v h n c k w has = let low = has w.0 w.2.0 (at_prefix v.seen h w.0 w.2.0 k.saw w.2.1) in let own : w.2.0.writer ≡ c = (let e = w.2.2 in cc) in
      omega arith

  -- it still did after the call, which only adds to the history
  pub still_writer : (v t w : View G Note) (n : ℕ) (h new : List Note) (c : ℕ) → t ≡ turned_to v n h → w ≡ passed_on t new → Knows writer_of v h
      → MayPut writer_of h v.mine new → IsWriter v c → IsWriter w c
  still_writer v t w n h new c took put k may is =
      subst (λ (z : View G Note). IsWriter z c) (sym (put ∙ ap (λ (z : View G Note). passed_on z new) took)) (
        is.0,
        in_made is.0 v.mine h new is.1,
        belongs_prefix writer_of h new is.0 c (put_begins writer_of v.mine h new may)
            (belongs_prefix writer_of v.seen h is.0 c k.saw is.2),
      )

  -- who entered is the writer
  pub new_writer : (v t w : View G Note) (n : ℕ) (h new : List Note) (c : ℕ) → t ≡ turned_to v n h → new ≡ h ++ note c 0 ∷ []
      → w.mine ≡ t.mine ++ length t.kept ∷ [] → w.seen ≡ new → IsWriter w c
  new_writer v t w n h new c took is mine seen =
      let kept : length t.kept ≡ length h = ap (λ (z : View G Note). length z.kept) took in (
        length t.kept,
        subst (λ (l : List ℕ). In (length t.kept) l) (sym mine) (in_last (length t.kept) t.mine),
        (
          note c 0,
          subst (λ (l : List Note). get_elem? l (length t.kept) ≡ some (note c 0)) (sym (seen ∙ is))
              (at_last h (note c 0) (length t.kept) (sym kept)),
          refl,
        ),
      )
