-- Histories by position: the newest entry first, and in the journal's order.
use Rattle.std.proofs.Common.{◌≡◌, ℕ, ◌<◌, ◌≤◌, List, [], ◌∷◌, ◌++◌, length, reverse, refl, sym, ap, subst, ◌∙◌, inl, inr, ⊎_elim, append_assoc, length-append, arith}
use Rattle.std.proofs.lemmas.List.{reverse-append}
use mathlib.Core.Option.{some, some-ne-none}
use lib.ListN.{get_elem?}
use Rattle.poa_base.specs.declared.Entry.{Entry}
use Rattle.history_standing.specs.Trees.{In as InList}
use Rattle.seat_lock.specs.Histories.{IsPrefix, Belongs}
use Rattle.seat_lock.proofs.Calls.{at_prefix}
use Rattle.seat_lock.proofs.Lists.{at_last, at_longer}
use Rattle.seat_lock.proofs.Totals.{at_push, at_there, one_at}
use Rattle.std.specs.Prelude.{Some}
use Rattle.poa_history.specs.Owners.{owner_of, HasNone}

module _ {A : Type 0} where
  pub reverse_more : (x : A) (xs : List A) → reverse (x ∷ xs) ≡ reverse xs ++ x ∷ []
  reverse_more x xs = reverse-append (x ∷ []) xs

  pub at_reversed : (h : List A) (x : ℕ) (e : A) → get_elem? (reverse h) x ≡ some e → InList e h
  at_reversed [] x e at = absurd (some-ne-none e (sym at))
  at_reversed (d ∷ h) x e at =
      ⊎_elim
      (λ (old : get_elem? (reverse h) x ≡ some e). inr (at_reversed h x e old))
      (λ (new : (x ≡ length (reverse h)) × (d ≡ e)). inl (sym new.1))
      (at_push (reverse h) d e x (subst (λ (l : List A). get_elem? l x ≡ some e) (reverse_more d h) at))

  pub reversed_at : (h : List A) (e : A) → InList e h → (x : ℕ) × (get_elem? (reverse h) x ≡ some e)
  reversed_at [] e there = absurd there
  reversed_at (d ∷ h) e (inl same) = (
    length (reverse h),
    subst (λ (l : List A). get_elem? l (length (reverse h)) ≡ some e) (sym (reverse_more d h)) (at_last (reverse h) d (length (reverse h)) refl
        ∙ ap some (sym same)),
  )
  reversed_at (d ∷ h) e (inr there) =
      (let at = reversed_at h e there in
      (at.0, subst (λ (l : List A). get_elem? l at.0 ≡ some e) (sym (reverse_more d h)) (at_longer (reverse h) (d ∷ []) at.0 e at.1)))

  -- what stands at a place that a beginning has stands there in the beginning
  pub at_shorter : (short long : List A) (x : ℕ) (e : A) → IsPrefix short long → x < length short → get_elem? long x ≡ some e → get_elem? short x ≡ some e
  at_shorter short long x e begins low at =
      (let there = at_there short x low in
      there.1 ∙ ap some (one_at long x there.0 e (at_prefix short long x there.0 begins there.1) at))

none_both : (c : ℕ) (more : List Entry) (e : Entry) → HasNone c more → (owner_of e ≡ Some c → ⊥) → HasNone c (more ++ e ∷ [])
none_both c [] e none other = (other, tt)
none_both c (d ∷ more) e none other = (none.0, none_both c more e none.1 other)

-- none of the entries behind a beginning is of the connection, where none stands there
pub none_behind : (seen rest : List Entry) (c : ℕ) → ((x : ℕ) → length seen ≤ x → Belongs owner_of (seen ++ rest) x c → ⊥) → HasNone c (reverse rest)
none_behind seen [] c none = tt
none_behind seen (e ∷ rest) c none =
    (let whole : (seen ++ e ∷ []) ++ rest ≡ seen ++ e ∷ rest = append_assoc seen (e ∷ []) rest in
    subst (HasNone c) (sym (reverse_more e rest))
    (none_both c (reverse rest) e
    (none_behind (seen ++ e ∷ []) rest c
    (λ x far b. none x (let len = length-append seen (e ∷ []) in omega (arith, far, len)) (subst (λ l. Belongs owner_of l x c) whole b)))
    (λ own. none (length seen) (omega arith)
    (e, subst (λ l. get_elem? l (length seen) ≡ some e) whole (at_longer (seen ++ e ∷ []) rest (length seen) e (at_last seen e (length seen) refl)), own))))
