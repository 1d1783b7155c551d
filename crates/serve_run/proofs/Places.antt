-- The places of a connection's entries are the places at which its entries stand.
use Rattle.std.proofs.Common.{◌≡◌, ℕ, ◌<◌, true, false, if◌then◌else◌, List, [], ◌∷◌, ◌++◌, length, reverse, Option, Some, None, refl, sym, ap, ◌∙◌, subst, inl, inr, ⊎_elim, ◌⊎◌, arith}
use Rattle.std.proofs.lemmas.Bool.{eqb-true, eq-eqb}
use Rattle.std.proofs.lemmas.List.{length-reverse}
use mathlib.Core.List.{reverse-cons}
use mathlib.Core.Option.{some, some-ne-none}
use lib.ListN.{get_elem?}
use Rattle.poa_base.specs.declared.Entry.{Entry}
use Rattle.history_standing.specs.Stages.{is_at}
use Rattle.poa_history.specs.Owners.{owner_of}
use Rattle.session_laws.specs.Records.{places_by}
use Rattle.seat_lock.specs.Histories.{Belongs, In, IsPrefix}
use Rattle.seat_lock.proofs.Lists.{at_last, at_longer}
use Rattle.seat_lock.proofs.Calls.{at_prefix}
use Rattle.seat_lock.proofs.Totals.{at_push, at_there, in_added, in_last, in_longer, one_at, times_both}

-- what stands in one of two lists stands in both
pub in_first : (x : ℕ) (xs ys : List ℕ) → In x xs → In x (xs ++ ys)
in_first x xs ys there = (let both = times_both x xs ys in omega arith)

pub in_second : (x : ℕ) (xs ys : List ℕ) → In x ys → In x (xs ++ ys)
in_second x xs ys there = (let both = times_both x xs ys in omega arith)

at_owner : (c : ℕ) (o : Option ℕ) → is_at c o ≡ true → o ≡ Some c
at_owner c None is = absurd (let e : false ≡ true = is in cc)
at_owner c (Some d) is = ap Some (eqb-true d c is)

owner_at : (c : ℕ) (o : Option ℕ) → o ≡ Some c → is_at c o ≡ true
owner_at c o is = ap (is_at c) is ∙ eq-eqb c c refl

-- an entry of a history with one entry more
module _ (e : Entry) (past : List Entry) where
  pub newest_stands : get_elem? (reverse (e ∷ past)) (length past) ≡ some e
  newest_stands = subst (λ l. get_elem? l (length past) ≡ some e) (sym (reverse-cons e past)) (at_last (reverse past) e (length past) (length-reverse past))

  pub earlier_stands : (x : ℕ) (d : Entry) → get_elem? (reverse past) x ≡ some d → get_elem? (reverse (e ∷ past)) x ≡ some d
  earlier_stands x d at = subst (λ l. get_elem? l x ≡ some d) (sym (reverse-cons e past)) (at_longer (reverse past) (e ∷ []) x d at)

  pub which_stands : (x : ℕ) (d : Entry) → get_elem? (reverse (e ∷ past)) x ≡ some d → (get_elem? (reverse past) x ≡ some d) ⊎ ((x ≡ length past) × (e ≡ d))
  which_stands x d at = ⊎_elim
      (λ (old : get_elem? (reverse past) x ≡ some d). inl old)
      (λ (new : (x ≡ length (reverse past)) × (e ≡ d)). inr (new.0 ∙ length-reverse past, new.1))
      (at_push (reverse past) e d x (subst (λ l. get_elem? l x ≡ some d) (reverse-cons e past) at))

pub place_stands : (h : List Entry) (c x : ℕ) → In x (places_by h c) → Belongs owner_of (reverse h) x c
place_stands [] c x there = absurd (omega arith)
place_stands (e ∷ past) c x there =
    elim (is_at c (owner_of e)) as (λ b. is_at c (owner_of e) ≡ b → In x (if b then places_by past c ++ length past ∷ [] else places_by past c)
    → Belongs owner_of (reverse (e ∷ past)) x c) [
      | true ↦ λ own i. ⊎_elim
          (λ (old : In x (places_by past c)). earlier (place_stands past c x old))
          (λ (new : x ≡ length past). (e, subst (λ k. get_elem? (reverse (e ∷ past)) k ≡ some e) (sym new) (newest_stands e past), at_owner c (owner_of e) own))
          (in_added x (length past) (places_by past c) i)
      | false ↦ λ other i. earlier (place_stands past c x i)
    ] refl there
  where
    earlier : Belongs owner_of (reverse past) x c → Belongs owner_of (reverse (e ∷ past)) x c
    earlier b = (b.0, earlier_stands e past x b.0 b.1, b.2)

pub stands_at_place : (h : List Entry) (c x : ℕ) → Belongs owner_of (reverse h) x c → In x (places_by h c)
stands_at_place [] c x b = absurd (some-ne-none b.0 (sym b.1))
stands_at_place (e ∷ past) c x b =
    elim (is_at c (owner_of e)) as (λ t. is_at c (owner_of e) ≡ t → In x (if t then places_by past c ++ length past ∷ [] else places_by past c)) [
      | true ↦ λ own. ⊎_elim
          (λ (old : get_elem? (reverse past) x ≡ some b.0). in_longer x (places_by past c) (length past) (stands_at_place past c x (b.0, old, b.2)))
          (λ (new : (x ≡ length past) × (e ≡ b.0)). subst (λ k. In k (places_by past c ++ length past ∷ [])) (sym new.0)
          (in_last (length past) (places_by past c)))
          (which_stands e past x b.0 b.1)
      | false ↦ λ other. ⊎_elim
          (λ (old : get_elem? (reverse past) x ≡ some b.0). stands_at_place past c x (b.0, old, b.2))
          (λ (new : (x ≡ length past) × (e ≡ b.0)). absurd (let same : false ≡ true = sym other ∙ owner_at c (owner_of e) (ap owner_of new.1 ∙ b.2) in cc))
          (which_stands e past x b.0 b.1)
    ] refl

-- what stands at a place that a beginning has stands there in the beginning
pub stood_before : (short long : List Entry) (x : ℕ) (e : Entry) → IsPrefix short long → x < length short → get_elem? long x ≡ some e
    → get_elem? short x ≡ some e
stood_before short long x e p low at =
    (let there = at_there short x low in there.1 ∙ ap some (one_at long x there.0 e (at_prefix short long x there.0 p there.1) at))
