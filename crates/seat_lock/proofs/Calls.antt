-- For crates above: what a call that takes the value and puts it back owes, and what stays true over it.
use Rattle.std.proofs.Common.{◌≡◌, ℕ, true, false, cond, eqb, List, [], ◌∷◌, ◌++◌, length, append-nil, sym, ◌∙◌, subst, ⊎_elim}
use Rattle.std.specs.Prelude.{Option}
use mathlib.Core.Option.{some}
use lib.ListN.{get_elem?}
use Rattle.atomic_table.proofs.Lists.{at_longer}
use Rattle.seat_lock.specs.declared.view.View.{View}
use Rattle.seat_lock.specs.Histories.{In, IsPrefix, entering, Belongs, MayPut, made_by}
use Rattle.seat_lock.specs.Steps.{Knows}
use Rattle.seat_lock.specs.Views.{turned_to}
use Rattle.seat_lock.proofs.Totals.{in_longer}

-- what was made stays made
pub in_made : {E : Type 0} (x : ℕ) (mine : List ℕ) (log new : List E) → In x mine → In x (made_by mine log new)
in_made x mine log new i =
    (elim (eqb (length new) (length log)) as (λ t. In x (cond t mine (mine ++ length log ∷ []))) [ true ↦ i | false ↦ in_longer x mine (length log) i ])

-- an entry stays where it is as its history grows
pub at_prefix : {E : Type 0} (short long : List E) (x : ℕ) (e : E) → IsPrefix short long → get_elem? short x ≡ some e → get_elem? long x ≡ some e
at_prefix short long x e p at = subst (λ l. get_elem? l x ≡ some e) (sym p.1) (at_longer short p.0 x e at)

module _ {E : Type 0} (owner : E → Option ℕ) where
  pub put_begins : (mine : List ℕ) (h new : List E) → MayPut owner h mine new → IsPrefix h new
  put_begins mine h new may = ⊎_elim (λ (e : new ≡ h). ([], e ∙ sym (append-nil h))) (λ m. (m.0 ∷ [], m.1)) may

  pub belongs_prefix : (short long : List E) (x c : ℕ) → IsPrefix short long → Belongs owner short x c → Belongs owner long x c
  belongs_prefix short long x c p b = (b.0, at_prefix short long x b.0 p b.1, b.2)

module _ {G E : Type 0} (owner : E → Option ℕ) where
  -- what `put` asks of the history, read on the seat before the `take`
  pub put_taken : (v u : View G E) (n : ℕ) (h new : List E) → u ≡ turned_to v n h → MayPut owner h v.mine new → MayPut owner u.kept u.mine new
  put_taken v u n h new is may = subst (λ (t : View G E). MayPut owner t.kept t.mine new) (sym is) may

  -- a seat that made an entry of a connection, in what it has seen, made its entering entry
  pub entered : (v : View G E) (h : List E) (x c : ℕ) → Knows owner v h → In x v.mine → Belongs owner v.seen x c → In (entering owner c h) v.mine
  entered v h x c k i b = k.closed x c i (belongs_prefix owner v.seen h x c k.saw b)
