-- The rows of a store are the entries of its map.
use Rattle.std.proofs.Common.{◌≡◌, ◌++◌, ℕ, List, [], ◌∷◌, Option, None, Some, length, arith, refl, sym, ap, ◌∙◌}
use Rattle.std.specs.Cmp.{tied_itself}
use Rattle.std.specs.FinMap as finite
use Rattle.std.specs.FinMap.{put}
use Rattle.std.specs.FinMap.Entries.{by_order}
use Rattle.std.specs.List.{AllByRecursion, filter_map}
use Rattle.std.specs.List.Sorted.{IsStrictlySortedBy}
use Rattle.std.specs.Map.{keys_of}
use Rattle.std.specs.Ordering.{ordering_then}
use Rattle.std.specs.declared.cmp.Ordering.TheVariants.{Less}
use Rattle.poa_base.specs.declared.servant.State.{State}
use Rattle.poa_base.specs.Shelves.{Shelves, placed, flat, slots_of, IsInOrder, IsShelved}
use Rattle.poa_base.specs.Store.{Place, Slots, oid_cmp, path_cmp, place_cmp, with_place, states}
use Rattle.poa_base.proofs.Shelves.{path_total, place_total}

-- the rows of one shelf stand before those of the next
pub more_rows : (path : List (List ℕ)) (slots : List (List ℕ × Option State)) (more : List (Place × Option State)) →
    filter_map with_place (placed path slots more) ≡ filter_map with_place (placed path slots []) ++ filter_map with_place more
more_rows path [] more = refl
more_rows path ((oid, None) ∷ slots) more = more_rows path slots more
more_rows path ((oid, Some state) ∷ slots) more = ap (λ rows. ((path, oid), state) ∷ rows) (more_rows path slots more)

abbrev IsBelowHead : Place → List (Place × Option State) → Type 0
IsBelowHead place [] = Unit {0}
IsBelowHead place (e ∷ es) = place_cmp place e.0 ≡ Less

abbrev IsRising : List (Place × Option State) → Type 0
IsRising [] = Unit {0}
IsRising (e ∷ es) = IsBelowHead e.0 es × IsRising es

put_front : (place : Place) (slot : Option State) (es : List (Place × Option State)) → IsBelowHead place es → put place_cmp place slot es ≡ (place, slot) ∷ es
put_front place slot [] below = refl
put_front place slot (e ∷ es) below = ap (λ r. by_order r ((place, slot) ∷ e ∷ es) ((e.0, slot) ∷ es) (e ∷ put place_cmp place slot es)) below

no_items : {X : Type 0} (xs : List X) → length xs ≡ 0 → xs ≡ []
no_items [] e = refl
no_items (x ∷ xs) e = absurd (omega arith)

entries_rising : (es : List (Place × Option State)) → IsRising es → finite.entries (finite.from_entries {R = place_cmp} es) ≡ es
entries_rising [] rising = no_items _ (sym (finite.len-entries finite.empty) ∙ finite.len-empty place_cmp (Option State))
entries_rising (e ∷ es) rising =
    finite.entries-insert place_total (finite.from_entries es) e.0 e.1 ∙ ap (put place_cmp e.0 e.1) (entries_rising es rising.1) ∙ put_front e.0 e.1 es rising.0

below_placed : (path q : List (List ℕ)) (oid : List ℕ) (slots : List (List ℕ × Option State)) (more : List (Place × Option State)) → path_cmp path q ≡ Less
    → IsBelowHead (path, oid) more → IsBelowHead (path, oid) (placed q slots more)
below_placed path q oid [] more less rest = rest
below_placed path q oid (s ∷ slots) more less rest = ap (λ r. ordering_then r (oid_cmp oid s.0)) less

below_flat : (path : List (List ℕ)) (oid : List ℕ) (shelves : Shelves) → AllByRecursion (λ q. path_cmp path q ≡ Less) (keys_of shelves)
    → IsBelowHead (path, oid) (flat shelves)
below_flat path oid [] all = tt
below_flat path oid (s ∷ shelves) all = below_placed path s.0 oid s.1.entries (flat shelves) all.0 (below_flat path oid shelves all.1)

below_next : (path : List (List ℕ)) (oid : List ℕ) (slots : List (List ℕ × Option State)) (more : List (Place × Option State))
    → AllByRecursion (λ j. oid_cmp oid j ≡ Less) (keys_of slots) → IsBelowHead (path, oid) more → IsBelowHead (path, oid) (placed path slots more)
below_next path oid [] more all rest = rest
below_next path oid (s ∷ slots) more all rest = ap (λ r. ordering_then r (oid_cmp oid s.0)) (tied_itself path_total path) ∙ all.0

rising_placed : (path : List (List ℕ)) (slots : List (List ℕ × Option State)) (more : List (Place × Option State)) → IsStrictlySortedBy oid_cmp (keys_of slots)
    → ((oid : List ℕ) → IsBelowHead (path, oid) more) → IsRising more → IsRising (placed path slots more)
unfolding IsStrictlySortedBy
rising_placed path [] more order below rising = rising
rising_placed path (s ∷ slots) more order below rising =
    (below_next path s.0 slots more order.0 (below s.0), rising_placed path slots more order.1 below rising)

rising_flat : (shelves : Shelves) → IsStrictlySortedBy path_cmp (keys_of shelves) → AllByRecursion (λ s. IsInOrder s.1) shelves → IsRising (flat shelves)
unfolding IsStrictlySortedBy
rising_flat [] paths ids = tt
rising_flat (s ∷ shelves) paths ids =
    rising_placed s.0 s.1.entries (flat shelves) ids.0 (λ oid. below_flat s.0 oid shelves paths.0) (rising_flat shelves paths.1 ids.1)

-- the rows of the shelves are the states of their map
pub rows_of_shelves : (slots : Slots) (shelves : Shelves) → slots_of shelves ≡ slots → IsShelved shelves → filter_map with_place (flat shelves) ≡ states slots
rows_of_shelves slots shelves view h = sym (ap (filter_map with_place) (entries_rising (flat shelves) (rising_flat shelves h.paths h.ids))) ∙ ap states view
