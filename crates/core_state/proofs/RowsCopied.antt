-- A store into which the rows of another are put has what that one has.
use Rattle.std.specs.Prelude.{◌≡◌, ℕ, Bool, true, false, ◌&&◌, if◌then◌else◌, List, [], ◌∷◌, Option, Some, None, refl}
use Rattle.std.proofs.Common.{T, sym, ap, ◌∙◌}
use Rattle.std.specs.FinMap as finite
use Rattle.std.specs.FinMap.{find, is_sorted}
use Rattle.std.specs.FinMap.Entries.{below_all}
use Rattle.std.specs.List.{filter_map}
use Rattle.std.specs.Option.{option_or}
use Rattle.std.specs.Ordering.{is_eq, is_lt}
use Rattle.std.specs.declared.cmp.Ordering.TheVariants.{Less, Equal, Greater}
use Rattle.poa_base.specs.declared.servant.State.{State}
use Rattle.poa_base.specs.Store.{Place, Slots, place_cmp, filled, stored, states, with_place, with_room, with_state}
use Rattle.poa_base.proofs.Shelves.{same_place}
use Rattle.poa_base.proofs.Stored.{stored-with_room, stored-with_state}

-- the rows put into a store, one after another
abbrev pub with_rows : List (Place × State) → Slots → Slots
with_rows [] slots = slots
with_rows (row ∷ rows) slots = with_rows rows (with_state (with_room slots row.0.0 row.0.1) row.0.0 row.0.1 row.1)

-- a place below all others isn't among them
below_none : (place : Place) (es : List (Place × Option State)) → T (below_all place_cmp place es) → find place_cmp place es ≡ None
below_none place [] below = refl
below_none place (e ∷ es) below =
    elim (place_cmp place e.0) as (λ r. T (is_lt r && below_all place_cmp place es) → (if is_eq r then Some e.1 else find place_cmp place es) ≡ None) [
      | Less ↦ λ h. below_none place es h
      | Equal ↦ λ h. absurd h
      | Greater ↦ λ h. absurd h
    ] below

later_sorted : (e : Place × Option State) (es : List (Place × Option State)) → T (is_sorted place_cmp (e ∷ es)) → T (below_all place_cmp e.0 es)
    × T (is_sorted place_cmp es)
later_sorted e es sorted = parts (below_all place_cmp e.0 es) (is_sorted place_cmp es) sorted
  where
    parts : (a b : Bool) → T (a && b) → T a × T b
    parts true b is = (tt, is)
    parts false b is = absurd is

tied_none : (place : Place) (e : Place × Option State) (es : List (Place × Option State)) → place_cmp place e.0 ≡ Equal → T (is_sorted place_cmp (e ∷ es))
    → find place_cmp place es ≡ None
tied_none place e es tied sorted = ap (λ x. find place_cmp x es) (same_place place e.0 tied) ∙ below_none e.0 es (later_sorted e es sorted).0

rows_stored : (es : List (Place × Option State)) → T (is_sorted place_cmp es) → (slots : Slots) (p : List (List ℕ)) (oid : List ℕ) →
    stored (with_rows (filter_map with_place es) slots) p oid ≡ option_or (filled (find place_cmp (p, oid) es)) (stored slots p oid)
rows_stored [] sorted slots p oid = refl
rows_stored ((k, None) ∷ es) sorted slots p oid =
    rows_stored es (later_sorted (k, None) es sorted).1 slots p oid
    ∙ elim (place_cmp (p, oid) k) as (λ r. place_cmp (p, oid) k ≡ r
    → option_or (filled (find place_cmp (p, oid) es)) (stored slots p oid) ≡ option_or (filled (if is_eq r then Some None else find place_cmp (p, oid) es))
    (stored slots p oid)) [
      | Less ↦ λ _. refl
      | Equal ↦ λ tied. ap (λ o. option_or (filled o) (stored slots p oid)) (tied_none (p, oid) (k, None) es tied sorted)
      | Greater ↦ λ _. refl
    ] refl
rows_stored ((k, Some state) ∷ es) sorted slots p oid =
    rows_stored es (later_sorted (k, Some state) es sorted).1 (with_state (with_room slots k.0 k.1) k.0 k.1 state) p oid
    ∙ ap (option_or (filled (find place_cmp (p, oid) es)))
    (stored-with_state (with_room slots k.0 k.1) k.0 k.1 state p oid
    ∙ ap (λ x. if is_eq (place_cmp (p, oid) k) then Some state else x) (stored-with_room slots k.0 k.1 p oid))
    ∙ elim (place_cmp (p, oid) k) as (λ r. place_cmp (p, oid) k ≡ r
    → option_or (filled (find place_cmp (p, oid) es)) (if is_eq r then Some state else stored slots p oid) ≡ option_or
    (filled (if is_eq r then Some (Some state) else find place_cmp (p, oid) es)) (stored slots p oid)) [
      | Less ↦ λ _. refl
      | Equal ↦ λ tied. ap (λ o. option_or (filled o) (Some state)) (tied_none (p, oid) (k, Some state) es tied sorted)
      | Greater ↦ λ _. refl
    ] refl

or_none : (o : Option State) → option_or o None ≡ o
or_none None = refl
or_none (Some x) = refl

pub rows_copied : (slots copy : Slots) → copy ≡ with_rows (states slots) finite.empty → (p : List (List ℕ)) (oid : List ℕ)
    → stored copy p oid ≡ stored slots p oid
rows_copied slots copy is p oid =
    ap (λ x. stored x p oid) is
    ∙ (rows_stored (finite.entries slots) (finite.entries_sorted slots) finite.empty p oid
    ∙ (ap (option_or (filled (find place_cmp (p, oid) (finite.entries slots)))) (ap filled (finite.get-empty place_cmp (p, oid)))
    ∙ (or_none (filled (find place_cmp (p, oid) (finite.entries slots))) ∙ ap filled (sym (finite.get-entries slots (p, oid))))))
