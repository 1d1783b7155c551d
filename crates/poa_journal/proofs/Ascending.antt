-- The rows of a store ascend.
use Rattle.std.proofs.Common.{◌≡◌, ◌&&◌, Bool, true, false, List, [], ◌∷◌, Option, Some, None, refl}
use Rattle.std.proofs.Math.Dec.{T}
use Rattle.std.specs.List.{filter_map}
use Rattle.std.specs.Ordering.{is_lt}
use Rattle.std.specs.FinMap as finite
use Rattle.std.specs.FinMap.{is_sorted}
use Rattle.std.specs.FinMap.Entries.{below_all}
use Rattle.poa_base.specs.declared.State.{State}
use Rattle.poa_base.specs.Store.{Place, Slots, place_cmp, with_place, states}
use Rattle.poa_journal.specs.Shelving.{Ascends}
use Rattle.poa_journal.specs.Whole.{is_above}

abbrev HasBelow : Option Place → List (Place × Option State) → Type 0
HasBelow None es = Unit {0}
HasBelow (Some last) es = T (below_all place_cmp last es)

is_true : (b : Bool) → T b → b ≡ true
is_true true h = refl
is_true false h = absurd h

first : (a b : Bool) → T (a && b) → T a
first true b h = tt
first false b h = h

second : (a b : Bool) → T (a && b) → T b
second true b h = h
second false b h = absurd h

above_first : (last : Option Place) (place : Place) (slot : Option State) (es : List (Place × Option State)) → HasBelow last ((place, slot) ∷ es)
    → is_above last place ≡ true
above_first None place slot es h = refl
above_first (Some last) place slot es h = is_true (is_lt (place_cmp last place)) (first (is_lt (place_cmp last place)) (below_all place_cmp last es) h)

below_rest : (last : Option Place) (place : Place) (slot : Option State) (es : List (Place × Option State)) → HasBelow last ((place, slot) ∷ es)
    → HasBelow last es
below_rest None place slot es h = tt
below_rest (Some last) place slot es h = second (is_lt (place_cmp last place)) (below_all place_cmp last es) h

ascends_from : (last : Option Place) (es : List (Place × Option State)) → HasBelow last es → T (is_sorted place_cmp es)
    → Ascends last (filter_map with_place es)
ascends_from last [] below sorted = tt
ascends_from last ((place, None) ∷ es) below sorted =
    ascends_from last es (below_rest last place None es below) (second (below_all place_cmp place es) (is_sorted place_cmp es) sorted)
ascends_from last ((place, Some state) ∷ es) below sorted = (
  above_first last place (Some state) es below,
  ascends_from (Some place) es (first (below_all place_cmp place es) (is_sorted place_cmp es) sorted)
      (second (below_all place_cmp place es) (is_sorted place_cmp es) sorted),
)

pub states_ascend : (store : Slots) → Ascends None (states store)
states_ascend store = ascends_from None (finite.entries store) tt (finite.entries_sorted store)
