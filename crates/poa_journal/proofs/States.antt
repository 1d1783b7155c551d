-- The states of a store, with their places, say what it stores.
use Rattle.std.proofs.Common.{◌≡◌, ◌&&◌, ℕ, Bool, true, false, cond, List, [], ◌∷◌, Option, Some, None, Ok, refl, sym, ap, ◌∙◌, subst}
use Rattle.std.proofs.Math.Dec.{T}
use Rattle.std.specs.FinMap as finite
use Rattle.std.specs.FinMap.{is_sorted}
use Rattle.std.specs.FinMap.Entries.{below_all, find}
use Rattle.std.specs.List.{filter_map}
use Rattle.std.specs.Ordering.{eq_by_cmp, is_eq, is_lt}
use Rattle.std.specs.declared.cmp.Ordering.{Ordering}
use Rattle.std.specs.declared.cmp.Ordering.TheVariants.{Less, Equal, Greater}
use Rattle.poa_base.specs.declared.State.{State}
use Rattle.poa_base.specs.Store.{Place, Slots, filled, place_cmp, states, stored, with_place}
use Rattle.poa_base.proofs.Shelves.{place_total}
use Rattle.poa_journal.specs.Journal.{IsStore, store_text}
use Rattle.poa_journal.specs.Whole.{rows_of}
use Rattle.poa_journal.proofs.PrintedBack.{store_back}

-- the state of the first row at a place
abbrev state_at : Place → List (Place × State) → Option State
state_at q [] = None
state_at q (row ∷ rows) = cond (eq_by_cmp place_cmp q row.0) (Some row.1) (state_at q rows)

both : (a b : Bool) → T a → T b → T (a && b)
both true b p q = q
both false b p q = p

first : (a b : Bool) → T (a && b) → T a
first true b h = tt
first false b h = h

second : (a b : Bool) → T (a && b) → T b
second true b h = h
second false b h = absurd h

tied_from_test : (o : Ordering) → is_eq o ≡ true → o ≡ Equal
tied_from_test Equal h = refl
tied_from_test Less h = absurd (let f : false ≡ true = h in cc)
tied_from_test Greater h = absurd (let f : false ≡ true = h in cc)

untied : (o : Ordering) → T (is_lt o) → is_eq o ≡ false
untied Less h = refl
untied Equal h = absurd h
untied Greater h = absurd h

-- what is above a place is above each that ties with it
below_tied : (q p : Place) (es : List (Place × Option State)) → place_cmp q p ≡ Equal → T (below_all place_cmp p es) → T (below_all place_cmp q es)
below_tied q p [] tied h = tt
below_tied q p (e ∷ es) tied h =
    both (is_lt (place_cmp q e.0)) (below_all place_cmp q es)
    (subst (λ (o : Ordering). T (is_lt o)) (sym (place_total.congr q p e.0 tied)) (first (is_lt (place_cmp p e.0)) (below_all place_cmp p es) h))
    (below_tied q p es tied (second (is_lt (place_cmp p e.0)) (below_all place_cmp p es) h))

-- where all is above a place nothing has it
none_below : (q : Place) (es : List (Place × Option State)) → T (below_all place_cmp q es) → state_at q (filter_map with_place es) ≡ None
none_below q [] h = refl
none_below q ((p, None) ∷ es) h = none_below q es (second (is_lt (place_cmp q p)) (below_all place_cmp q es) h)
none_below q ((p, Some state) ∷ es) h =
    ap (λ tie. cond tie (Some state) (state_at q (filter_map with_place es)))
    (untied (place_cmp q p) (first (is_lt (place_cmp q p)) (below_all place_cmp q es) h))
    ∙ none_below q es (second (is_lt (place_cmp q p)) (below_all place_cmp q es) h)

by_tie : (q p : Place) (es : List (Place × Option State)) (tie : Bool) → eq_by_cmp place_cmp q p ≡ tie → T (below_all place_cmp p es)
    → filled (find place_cmp q es) ≡ state_at q (filter_map with_place es)
    → filled (cond tie (Some None) (find place_cmp q es)) ≡ state_at q (filter_map with_place es)
by_tie q p es true is below rest = sym (none_below q es (below_tied q p es (tied_from_test (place_cmp q p) is) below))
by_tie q p es false is below rest = rest

by_state : (q : Place) (state : State) (es : List (Place × Option State)) (tie : Bool)
    → filled (find place_cmp q es) ≡ state_at q (filter_map with_place es)
    → filled (cond tie (Some (Some state)) (find place_cmp q es)) ≡ cond tie (Some state) (state_at q (filter_map with_place es))
by_state q state es true rest = refl
by_state q state es false rest = rest

-- what slots in order have at a place
found_state : (q : Place) (es : List (Place × Option State)) → T (is_sorted place_cmp es)
    → filled (find place_cmp q es) ≡ state_at q (filter_map with_place es)
found_state q [] sorted = refl
found_state q ((p, None) ∷ es) sorted =
    by_tie q p es (eq_by_cmp place_cmp q p) refl (first (below_all place_cmp p es) (is_sorted place_cmp es) sorted)
    (found_state q es (second (below_all place_cmp p es) (is_sorted place_cmp es) sorted))
found_state q ((p, Some state) ∷ es) sorted =
    by_state q state es (eq_by_cmp place_cmp q p) (found_state q es (second (below_all place_cmp p es) (is_sorted place_cmp es) sorted))

stored_by_states : (store : Slots) (path : List (List ℕ)) (oid : List ℕ) → stored store path oid ≡ state_at (path, oid) (states store)
stored_by_states store path oid =
    ap filled (finite.get-entries store (path, oid)) ∙ found_state (path, oid) (finite.entries store) (finite.entries_sorted store)

-- stores with the same states
pub same_stored : (a b : Slots) → states a ≡ states b → (path : List (List ℕ)) (oid : List ℕ) → stored a path oid ≡ stored b path oid
same_stored a b same path oid = stored_by_states a path oid ∙ ap (state_at (path, oid)) same ∙ sym (stored_by_states b path oid)

-- a store that was read of the text of another
pub read_stored : (a b : Slots) → IsStore a → rows_of (store_text a) ≡ Ok (states b) → (path : List (List ℕ)) (oid : List ℕ)
    → stored b path oid ≡ stored a path oid
read_stored a b fits read path oid =
    let told : Ok (states a) ≡ Ok (states b) = sym (store_back a fits) ∙ read in
    same_stored b a (let same : states a ≡ states b = cc in sym same) path oid
