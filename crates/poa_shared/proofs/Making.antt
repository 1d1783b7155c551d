-- What a seat made, call after call.
use Rattle.std.proofs.Common.{◌≡◌, ℕ, ◌≤◌, List, [], ◌∷◌, ◌++◌, length, ◌⊎◌, refl, sym, ap, ◌∙◌, subst, inl, inr, ⊎_elim, arith}
use Rattle.std.proofs.lemmas.List.{append-nil, append_assoc}
use mathlib.Core.Logic.{dite}
use native.Mathlib.Decide.{ℕ_discrete}
use Rattle.poa_base.specs.declared.Entry.{Entry}
use Rattle.poa_shared.specs.Seen.{past, Turns}
use Rattle.poa_shared.specs.Making.{Makes}
use Rattle.poa_shared.proofs.Seeing.{same_seen, one_seen, found_longer}
use Rattle.poa_history.specs.declared.givens.Givens.{Givens}
use Rattle.seat_lock.specs.declared.view.View.{View}
use Rattle.seat_lock.specs.Histories.{In, times}
use Rattle.seat_lock.proofs.Histories.{prefix_self, prefix_through, prefix_below}
use Rattle.seat_lock.proofs.Totals.{in_added, times_both}

-- what stands in one of two lists
pub in_either : (x : ℕ) (xs ys : List ℕ) → In x (xs ++ ys) → In x xs ⊎ In x ys
in_either x xs ys there =
    let both = times_both x xs ys in
    dite (ℕ_discrete (times x xs) 0) (λ (none : times x xs ≡ 0). inr (omega arith)) (λ (some : times x xs ≡ 0 → ⊥). inl (omega arith))

module _ (IsSo : List Entry → List ℕ → ℕ → Type 0) where
  pub makes_none : (v : View Givens Entry) → Makes IsSo v v
  makes_none v = record {
    grows = prefix_self v.seen;
    given = refl;
    base = refl;
    room = refl;
    made = [];
    mine = sym (append-nil v.mine);
    each = λ place there. absurd (omega arith);
  }

  -- all that the seat holds is so, where it held nothing before
  pub makes_all : (first v : View Givens Entry) → first.mine ≡ [] → (makes : Makes IsSo first v) → (place : ℕ) → In place v.mine → IsSo v.seen makes.made place
  makes_all first v fresh makes place there = (makes.each place (subst (In place) (makes.mine ∙ ap (λ l. l ++ makes.made) fresh) there)).1

  -- by a call on the core
  module _ (g : Givens) (v w : View Givens Entry) (h : List Entry) (t : Turns g v h w) where
    pub call_none : past w ≡ h → Makes IsSo v w
    call_none is = record {
      grows = same_seen g v w h t is;
      given = t.given;
      base = t.base;
      room = t.room;
      made = [];
      mine = t.none_made is ∙ sym (append-nil v.mine);
      each = λ place there. absurd (omega arith);
    }

    pub call_one : (e : Entry) → past w ≡ e ∷ h → IsSo w.seen (length h ∷ []) (length h) → Makes IsSo v w
    call_one e is so = record {
      grows = one_seen g v w h t e is;
      given = t.given;
      base = t.base;
      room = t.room;
      made = length h ∷ [];
      mine = t.one_made e is;
      each = λ place there. ⊎_elim
          (λ (i : In place []). absurd (omega arith))
          (λ (at : place ≡ length h). (
            (let low = found_longer g v w h t in omega arith),
            subst (IsSo w.seen (length h ∷ [])) (sym at) so,
          ))
          (in_added place (length h) [] there);
    }

-- one behind the other
module _ (First Then Whole : List Entry → List ℕ → ℕ → Type 0) (u v w : View Givens Entry) (a : Makes First u v) (b : Makes Then v w) where
  pub makes_through : ((place : ℕ) → First v.seen a.made place → Whole w.seen (a.made ++ b.made) place)
      → ((place : ℕ) → length v.seen ≤ place → Then w.seen b.made place → Whole w.seen (a.made ++ b.made) place) → Makes Whole u w
  makes_through old new = record {
    grows = prefix_through u.seen v.seen w.seen a.grows b.grows;
    given = b.given ∙ a.given;
    base = b.base ∙ a.base;
    room = b.room ∙ a.room;
    made = a.made ++ b.made;
    mine = b.mine ∙ (ap (λ l. l ++ b.made) a.mine ∙ append_assoc u.mine a.made b.made);
    each = λ place there. ⊎_elim
        (λ (i : In place a.made). (let it = a.each place i in (it.0, old place it.1)))
        (λ (i : In place b.made).
        (let it = b.each place i in let low = prefix_below u.seen v.seen a.grows in let at = it.0 in (omega arith, new place it.0 it.1)))
        (in_either place a.made b.made there);
  }
