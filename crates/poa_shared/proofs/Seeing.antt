-- What a call on the core adds to what a seat has seen: the history newest first, and the journal in its order.
use Rattle.std.proofs.Common.{◌≡◌, ◌+◌, ◌≤◌, List, [], ◌∷◌, ◌++◌, length, reverse, sym, ap, ◌∙◌, subst, arith}
use Rattle.std.proofs.lemmas.List.{reverse-append, reverse-reverse, length-append, length-reverse, append_assoc}
use mathlib.Core.List.{reverse-cons}
use mathlib.Core.Option.{some}
use lib.ListN.{get_elem?}
use Rattle.poa_base.specs.declared.Entry.{Entry}
use Rattle.poa_history.specs.declared.givens.Givens.{Givens}
use Rattle.poa_shared.specs.Seen.{past, Turns}
use Rattle.seat_lock.specs.declared.view.View.{View}
use Rattle.seat_lock.specs.Histories.{IsPrefix}
use Rattle.seat_lock.proofs.Lists.{at_last}

-- the journal of a view whose history is known
pub seen_is : (w : View Givens Entry) (h : List Entry) → past w ≡ h → w.seen ≡ reverse h
seen_is w h is = sym (reverse-reverse w.seen) ∙ ap reverse is

module _ (g : Givens) (v w : View Givens Entry) (h : List Entry) (t : Turns g v h w) where
  -- the history found goes on from what was seen
  pub found_after : IsPrefix v.seen (reverse h)
  found_after = (
    reverse t.goes_on.more,
    ap reverse t.goes_on.is ∙ (reverse-append t.goes_on.more (past v) ∙ ap (λ l. l ++ reverse t.goes_on.more) (reverse-reverse v.seen)),
  )

  pub found_longer : length v.seen ≤ length h
  found_longer =
      let e : length (reverse h) ≡ length v.seen + length found_after.0 = ap length found_after.1 ∙ length-append v.seen found_after.0 in
      let r : length (reverse h) ≡ length h = length-reverse h in omega arith

  -- where no entry was made
  pub same_seen : past w ≡ h → IsPrefix v.seen w.seen
  same_seen is = subst (λ l. IsPrefix v.seen l) (sym (seen_is w h is)) found_after

  -- where one was made
  module _ (e : Entry) (is : past w ≡ e ∷ h) where
    pub seen_one : w.seen ≡ reverse h ++ e ∷ []
    seen_one = seen_is w (e ∷ h) is ∙ reverse-cons e h

    pub one_seen : IsPrefix v.seen w.seen
    one_seen = (found_after.0 ++ e ∷ [], seen_one ∙ (ap (λ l. l ++ e ∷ []) found_after.1 ∙ append_assoc v.seen found_after.0 (e ∷ [])))

    pub one_stands : get_elem? w.seen (length h) ≡ some e
    one_stands = subst (λ l. get_elem? l (length h) ≡ some e) (sym seen_one) (at_last (reverse h) e (length h) (length-reverse h))
