-- Rows that ascend, stored from the last to the first.
use Rattle.std.proofs.Common.{◌≡◌, ℕ, zero, suc, ◌-◌, slice_get, true, List, [], ◌∷◌, ◌++◌, length, map, Option, Some, None, refl, sym, ap, ◌∙◌, arith, subst, append_assoc}
use Rattle.std.specs.FinMap as finite
use Rattle.std.specs.FinMap.{put}
use Rattle.std.specs.FinMap.Entries.{by_order}
use Rattle.std.specs.List.{filter_map}
use Rattle.std.specs.Ordering.{is_lt, ordering_reverse}
use Rattle.std.specs.declared.cmp.Ordering.{Ordering}
use Rattle.std.specs.declared.cmp.Ordering.TheVariants.{Less, Equal, Greater}
use Rattle.std.proofs.lemmas.Bool.{false≢true}
use Rattle.std.proofs.lemmas.Option.{same_Some}
use Rattle.poa_base.specs.declared.State.{State}
use Rattle.poa_base.specs.Store.{Place, Slots, place_cmp, with_state, with_place, states}
use Rattle.poa_base.proofs.Shelves.{place_total}
use Rattle.poa_journal.specs.Shelving.{Ascends, StoresAll, last_from, rows_at, slot}
use Rattle.poa_journal.specs.Whole.{is_above}

abbrev Rows : Type 0
Rows = List (Place × State)

-- places in order
less_from_test : (o : Ordering) → is_lt o ≡ true → o ≡ Less
less_from_test Less h = refl
less_from_test Equal h = absurd (false≢true h)
less_from_test Greater h = absurd (false≢true h)

greater_from_less : (a b : Place) → place_cmp a b ≡ Less → place_cmp b a ≡ Greater
greater_from_less a b less = place_total.antisymm b a ∙ ap ordering_reverse less

above_then : (last : Option Place) (a b : Place) → is_above last a ≡ true → is_above (Some a) b ≡ true → is_above last b ≡ true
above_then None a b p q = refl
above_then (Some l) a b p q = ap is_lt (place_total.trans l a b (less_from_test (place_cmp l a) p) (less_from_test (place_cmp a b) q))

-- a row that stands behind a place, whatever is between
below_behind : (a : Place) (between : Rows) (x : Place × State) (more : Rows) → Ascends (Some a) (between ++ x ∷ more) → place_cmp a x.0 ≡ Less
below_behind a [] x more h = less_from_test (place_cmp a x.0) h.0
below_behind a (b ∷ between) x more h =
    place_total.trans a b.0 x.0 (less_from_test (place_cmp a b.0) h.0) (below_behind b.0 between x more h.1)

-- ascending rows without some of them
ascends_without : (front without : Rows) (x : Place × State) (more : Rows) (last : Option Place) → Ascends last (front ++ (without ++ x ∷ more))
    → Ascends last (front ++ x ∷ more)
ascends_without [] [] x more last h = h
ascends_without [] (w ∷ without) x more last h =
    let rest : Ascends (Some w.0) (x ∷ more) = ascends_without [] without x more (Some w.0) h.1 in
    (above_then last w.0 x.0 h.0 rest.0, rest.1)
ascends_without (r ∷ front) without x more last h = (h.0, ascends_without front without x more (Some r.0) h.1)

-- and with one more
pub ascends_more : (last : Option Place) (rows : Rows) (row : Place × State) → Ascends last rows → is_above (last_from last rows) row.0 ≡ true
    → Ascends last (rows ++ row ∷ [])
ascends_more last [] row h above = (above, tt)
ascends_more last (r ∷ rows) row h above = (h.0, ascends_more (Some r.0) rows row h.1 above)

pub last_more : (last : Option Place) (rows : Rows) (row : Place × State) → last_from last (rows ++ row ∷ []) ≡ Some row.0
last_more last [] row = refl
last_more last (r ∷ rows) row = last_more (Some r.0) rows row

-- a slot that is put between others
put_between : (front more : Rows) (x : Place × State) (last : Option Place) → Ascends last (front ++ x ∷ more)
    → put place_cmp x.0 (Some x.1) (map slot (front ++ more)) ≡ map slot (front ++ x ∷ more)
put_between [] [] x last h = refl
put_between [] (m ∷ more) x last h =
    ap (λ r. by_order r (slot x ∷ slot m ∷ map slot more) ((m.0, Some x.1) ∷ map slot more) (slot m ∷ put place_cmp x.0 (Some x.1) (map slot more)))
    (less_from_test (place_cmp x.0 m.0) h.1.0)
put_between (f ∷ front) more x last h =
    ap (λ r. by_order r (slot x ∷ slot f ∷ map slot (front ++ more)) ((f.0, Some x.1) ∷ map slot (front ++ more))
    (slot f ∷ put place_cmp x.0 (Some x.1) (map slot (front ++ more)))) (greater_from_less f.0 x.0 (below_behind f.0 front x more h.1))
    ∙ ap (λ rest. slot f ∷ rest) (put_between front more x (Some f.0) h.1)

pub rows_at_append : (path : List (List ℕ)) (a b : List (List ℕ × State)) → rows_at path (a ++ b) ≡ rows_at path a ++ rows_at path b
rows_at_append path [] b = refl
rows_at_append path (x ∷ a) b = ap (λ rest. ((path, x.0), x.1) ∷ rest) (rows_at_append path a b)

-- the row in front of those that are stored is stored
pub stored_before : (store : Slots) (front : Rows) (path : List (List ℕ)) (rest done : List (List ℕ × State)) (oid : List ℕ) (state : State)
    → StoresAll (front ++ rows_at path done) store → Ascends None (front ++ rows_at path (rest ++ (oid, state) ∷ done))
    → StoresAll (front ++ rows_at path ((oid, state) ∷ done)) (with_state store path oid state)
stored_before store front path rest done oid state stored rises =
    finite.entries-insert place_total store (path, oid) (Some state) ∙ ap (put place_cmp (path, oid) (Some state)) stored
    ∙ put_between front (rows_at path done) ((path, oid), state) None
    (ascends_without front (rows_at path rest) ((path, oid), state) (rows_at path done) None
    (subst (λ (rows : Rows). Ascends None (front ++ rows)) (rows_at_append path rest ((oid, state) ∷ done)) rises))

slots_back : (rows : Rows) → filter_map with_place (map slot rows) ≡ rows
slots_back [] = refl
slots_back ((place, state) ∷ rows) = ap (λ rest. (place, state) ∷ rest) (slots_back rows)

-- a store of some rows has these states
pub states_all : (rows : Rows) (store : Slots) → StoresAll rows store → states store ≡ rows
states_all rows store stored = ap (filter_map with_place) stored ∙ slots_back rows

-- one more row waits
pub one_waits : (store : Slots) (path : List (List ℕ)) (waiting : List (List ℕ × State)) (oid : List ℕ) (state : State)
    → states store ++ rows_at path (waiting ++ (oid, state) ∷ []) ≡ (states store ++ rows_at path waiting) ++ ((path, oid), state) ∷ []
one_waits store path waiting oid state =
    ap (λ rows. states store ++ rows) (rows_at_append path waiting ((oid, state) ∷ []))
    ∙ sym (append_assoc (states store) (rows_at path waiting) (((path, oid), state) ∷ []))

no_items : {X : Type 0} (xs : List X) → length xs ≡ 0 → xs ≡ []
no_items [] none = refl
no_items (x ∷ xs) none = absurd (omega arith)

-- nothing stands in an empty store
none_stored : (none : Slots) → none ≡ finite.empty → finite.entries none ≡ []
none_stored none is = ap finite.entries is ∙ no_items (finite.entries finite.empty) (sym (finite.len-entries finite.empty) ∙ finite.len-empty place_cmp (Option State))

pub states_empty : states finite.empty ≡ []
states_empty = ap (filter_map with_place) (none_stored finite.empty refl)

pub stores_none : StoresAll (states finite.empty) finite.empty
stores_none = none_stored finite.empty refl ∙ sym (ap (map slot) states_empty)

-- the last row is the last that waits
last_behind : (last : Option Place) (rows more : Rows) → last_from last (rows ++ more) ≡ last_from (last_from last rows) more
last_behind last [] more = refl
last_behind last (r ∷ rows) more = last_behind (Some r.0) rows more

last_at : (last : Option Place) (path : List (List ℕ)) (waiting : List (List ℕ × State)) (n : ℕ) (x : List ℕ × State) → suc n ≡ length waiting
    → slice_get waiting n ≡ Some x → last_from last (rows_at path waiting) ≡ Some (path, x.0)
last_at last path [] n x long got = absurd (omega (arith, long))
last_at last path (y ∷ []) zero x long got = ap (λ (w : List ℕ × State). Some (path, w.0)) (same_Some y x got)
last_at last path (y ∷ []) (suc n) x long got = absurd (omega (arith, long))
last_at last path (y ∷ z ∷ waiting) zero x long got = absurd (omega (arith, long))
last_at last path (y ∷ z ∷ waiting) (suc n) x long got = last_at (Some (path, y.0)) path (z ∷ waiting) n x (omega (arith, long)) got

last_waits : (last : Option Place) (path : List (List ℕ)) (waiting : List (List ℕ × State)) (x : List ℕ × State)
    → slice_get waiting (length waiting - 1) ≡ Some x → last_from last (rows_at path waiting) ≡ Some (path, x.0)
last_waits last path [] x got = absurd (let e : None ≡ Some x = got in cc)
last_waits last path (y ∷ waiting) x got = last_at last path (y ∷ waiting) (length (y ∷ waiting) - 1) x (omega arith) got

pub last_in : (rows : Rows) (path : List (List ℕ)) (waiting : List (List ℕ × State)) (x : List ℕ × State)
    → slice_get waiting (length waiting - 1) ≡ Some x → last_from None (rows ++ rows_at path waiting) ≡ Some (path, x.0)
last_in rows path waiting x got = last_behind None rows (rows_at path waiting) ∙ last_waits (last_from None rows) path waiting x got
