-- What a store has at a place is what the place's shelf has at its id.
use Rattle.std.proofs.Common.{◌≡◌, ℕ, Bool, true, false, cond, List, [], ◌∷◌, Option, None, Some, is_some, IsSome, unwrap_or, refl, sym, ap, subst, ◌∙◌}
use Rattle.std.specs.Cmp.{IsTotalOrder, on_total, then_total, eq_by_cmp_equiv}
use Rattle.std.specs.Cmp.Lexicographic.{lists_total, nat_list_cmp_total}
use Rattle.std.specs.FinMap as finite
use Rattle.std.specs.FinMap.{find, IsAntisymmetric, nat_cmp-IsAntisymmetric, slice_cmp-IsAntisymmetric}
use Rattle.std.specs.List.{AllByRecursion}
use Rattle.std.specs.List.Sorted.{IsStrictlySortedBy}
use Rattle.std.specs.Map.{keys_of, lookup, set_value}
use Rattle.std.specs.Ordering.{is_eq, ordering_then, eq_by_cmp, match_ordering}
use Rattle.std.specs.BTreeMap.{is_at, insert_entry}
use Rattle.std.specs.declared.cmp.Ordering.{Ordering}
use Rattle.std.specs.declared.cmp.Ordering.TheVariants.{Less, Equal, Greater}
use Rattle.poa_base.specs.declared.servant.State.{State}
use Rattle.poa_base.specs.Shelves.{Shelves, Shelf, placed, flat, slots_of, on_shelf, IsInOrder, IsShelved}
use Rattle.poa_base.specs.Store.{Place, Slots, IsReserved, filled, stored, with_room, oid_cmp, path_cmp, place_cmp}

abbrev or_first : {X : Type 0} → Option X → Option X → Option X
or_first None y = y
or_first (Some x) y = Some x

or_none : {X : Type 0} (x : Option X) → or_first x None ≡ x
or_none None = refl
or_none (Some x) = refl

same_step : {X : Type 0} (r o : Ordering) (x : X) (f g h : Option X) → r ≡ Equal → f ≡ or_first g h
    → cond (is_eq (ordering_then r o)) (Some x) f ≡ or_first (cond (is_eq o) (Some x) g) h
same_step Equal Equal x f g h e k = refl
same_step Equal Less x f g h e k = k
same_step Equal Greater x f g h e k = k
same_step Less o x f g h e k = (cc)
same_step Greater o x f g h e k = (cc)

other_step : {X : Type 0} (r o : Ordering) (x : X) (f : Option X) → is_eq r ≡ false → cond (is_eq (ordering_then r o)) (Some x) f ≡ f
other_step Equal o x f e = (cc)
other_step Less o x f e = refl
other_step Greater o x f e = refl

both_equal : (r o : Ordering) → ordering_then r o ≡ Equal → (r ≡ Equal) × (o ≡ Equal)
both_equal Equal o e = (refl, e)
both_equal Less o e = ((cc), (cc))
both_equal Greater o e = ((cc), (cc))

pub path_total : IsTotalOrder path_cmp
path_total = lists_total nat_list_cmp_total

pub place_total : IsTotalOrder place_cmp
place_total = then_total (on_total (λ k. k.0) path_total) (on_total (λ k. k.1) nat_list_cmp_total)

same_oid : IsAntisymmetric oid_cmp
same_oid = slice_cmp-IsAntisymmetric nat_cmp-IsAntisymmetric

same_path : IsAntisymmetric path_cmp
same_path = slice_cmp-IsAntisymmetric same_oid

pub same_place : IsAntisymmetric place_cmp
same_place x y e =
    let parts = both_equal (path_cmp x.0 y.0) (oid_cmp x.1 y.1) e in
    λ i. (same_path x.0 y.0 parts.0 i, same_oid x.1 y.1 parts.1 i)

on_same_shelf : {X : Type 0} (p q : List (List ℕ)) (oid : List ℕ) → path_cmp p q ≡ Equal → (slots : List (List ℕ × X)) (more : List (Place × X))
    → find place_cmp (p, oid) (placed q slots more) ≡ or_first (lookup (is_at (oid_cmp oid)) slots) (find place_cmp (p, oid) more)
on_same_shelf p q oid e [] more = refl
on_same_shelf p q oid e (s ∷ slots) more = same_step (path_cmp p q) (oid_cmp oid s.0) s.1 _ _ _ e (on_same_shelf p q oid e slots more)

on_other_shelf : {X : Type 0} (p q : List (List ℕ)) (oid : List ℕ) → is_eq (path_cmp p q) ≡ false → (slots : List (List ℕ × X)) (more : List (Place × X))
    → find place_cmp (p, oid) (placed q slots more) ≡ find place_cmp (p, oid) more
on_other_shelf p q oid e [] more = refl
on_other_shelf p q oid e (s ∷ slots) more = other_step (path_cmp p q) (oid_cmp oid s.0) s.1 _ e ∙ on_other_shelf p q oid e slots more

none_behind : (p q : List (List ℕ)) (oid : List ℕ) → path_cmp p q ≡ Equal → (shelves : Shelves) → AllByRecursion (λ y. path_cmp q y ≡ Less) (keys_of shelves)
    → find place_cmp (p, oid) (flat shelves) ≡ None
none_behind p q oid e [] h = refl
none_behind p q oid e (s ∷ shelves) h =
    on_other_shelf p s.0 oid (ap is_eq (path_total.congr p q s.0 e ∙ h.0)) s.1.entries (flat shelves) ∙ none_behind p q oid e shelves h.1

find-flat : (p : List (List ℕ)) (oid : List ℕ) (shelves : Shelves) → IsStrictlySortedBy path_cmp (keys_of shelves)
    → find place_cmp (p, oid) (flat shelves) ≡ on_shelf (lookup (is_at (path_cmp p)) shelves) oid
unfolding IsStrictlySortedBy
find-flat p oid [] h = refl
find-flat p oid (s ∷ shelves) h =
    elim (path_cmp p s.0) as (λ r. path_cmp p s.0 ≡ r
    → find place_cmp (p, oid) (placed s.0 s.1.entries (flat shelves)) ≡ on_shelf (cond (is_eq r) (Some s.1) (lookup (is_at (path_cmp p)) shelves)) oid) [
      | Less ↦ λ e. on_other_shelf p s.0 oid (ap is_eq e) s.1.entries (flat shelves) ∙ find-flat p oid shelves h.1
      | Equal ↦ λ e. on_same_shelf p s.0 oid e s.1.entries (flat shelves)
          ∙ ap (or_first (lookup (is_at (oid_cmp oid)) s.1.entries)) (none_behind p s.0 oid e shelves h.0) ∙ or_none _
      | Greater ↦ λ e. on_other_shelf p s.0 oid (ap is_eq e) s.1.entries (flat shelves) ∙ find-flat p oid shelves h.1
    ] refl

-- the map of the shelves has at a place what the path's shelf has at the id
pub get-shelves : (shelves : Shelves) → IsShelved shelves → (p : List (List ℕ)) (oid : List ℕ)
    → finite.get (slots_of shelves) (p, oid) ≡ on_shelf (lookup (is_at (path_cmp p)) shelves) oid
get-shelves shelves h p oid = finite.get-from_entries place_total (flat shelves) (p, oid) ∙ find-flat p oid shelves h.paths

-- shelves that have the same at each place are the same map
pub same_slots : (old new : Shelves) → IsShelved old → IsShelved new
    → ((p : List (List ℕ)) (oid : List ℕ) → on_shelf (lookup (is_at (path_cmp p)) new) oid ≡ on_shelf (lookup (is_at (path_cmp p)) old) oid)
    → slots_of new ≡ slots_of old
same_slots old new h k same =
    finite.same_map place_total same_place _ _ (λ x. get-shelves new k x.0 x.1 ∙ same x.0 x.1 ∙ sym (get-shelves old h x.0 x.1))

-- shelves that differ at one place
pub one_more_slot : (old new : Shelves) → IsShelved old → IsShelved new → (p : List (List ℕ)) (oid : List ℕ) (slot : Option State)
    → ((q : List (List ℕ)) (j : List ℕ) → on_shelf (lookup (is_at (path_cmp q)) new) j ≡ cond (is_eq (place_cmp (q, j) (p, oid))) (Some slot)
    (on_shelf (lookup (is_at (path_cmp q)) old) j)) → slots_of new ≡ finite.insert (slots_of old) (p, oid) slot
one_more_slot old new h k p oid slot differs =
    finite.same_map place_total same_place _ _
    (λ x. get-shelves new k x.0 x.1 ∙ differs x.0 x.1
    ∙ sym (finite.get-insert place_total (slots_of old) (p, oid) slot x ∙ ap (cond (eq_by_cmp place_cmp x (p, oid)) (Some slot)) (get-shelves old h x.0 x.1)))

-- where one shelf took another slot, or came with it, the shelves differ at that place
pub one_shelf_changed : (old new : Shelves) (p : List (List ℕ)) (oid : List ℕ) (shelf : Shelf) (slot : Option State) →
    ((q : List (List ℕ)) → lookup (is_at (path_cmp q)) new ≡ cond (is_at (path_cmp p) q) (Some shelf) (lookup (is_at (path_cmp q)) old)) →
    ((j : List ℕ) → lookup (is_at (oid_cmp j)) shelf.entries ≡ cond (is_at (oid_cmp oid) j) (Some slot) (on_shelf (lookup (is_at (path_cmp p)) old) j)) →
    (q : List (List ℕ)) (j : List ℕ) → on_shelf (lookup (is_at (path_cmp q)) new) j ≡ cond (is_eq (place_cmp (q, j) (p, oid))) (Some slot)
    (on_shelf (lookup (is_at (path_cmp q)) old) j)
one_shelf_changed old new p oid shelf slot outer inner q j =
    let here : (r : Ordering) → path_cmp q p ≡ r
    → on_shelf (lookup (is_at (path_cmp q)) new) j ≡ on_shelf (cond (is_eq r) (Some shelf) (lookup (is_at (path_cmp q)) old)) j =
    λ r e. ap (λ s. on_shelf s j)
    (outer q ∙ ap (λ b. cond b (Some shelf) (lookup (is_at (path_cmp q)) old)) ((eq_by_cmp_equiv path_total).symm p q ∙ ap is_eq e)) in
    elim (path_cmp q p) as (λ r. path_cmp q p ≡ r
    → on_shelf (lookup (is_at (path_cmp q)) new) j ≡ cond (is_eq (ordering_then r (oid_cmp j oid))) (Some slot)
    (on_shelf (lookup (is_at (path_cmp q)) old) j)) [
      | Less ↦ λ e. here Less e
      | Equal ↦
          λ e. here Equal e ∙ inner j ∙ ap (λ b. cond b (Some slot) (on_shelf (lookup (is_at (path_cmp p)) old) j))
          ((eq_by_cmp_equiv nat_list_cmp_total).symm oid j)
          ∙ ap (λ x. cond (is_eq (oid_cmp j oid)) (Some slot) (on_shelf (lookup (is_at (path_cmp x)) old) j)) (sym (same_path q p e))
      | Greater ↦ λ e. here Greater e
    ] refl

all_after_set : {K X : Type 0} (P : X → Type 0) (test : K → Bool) (es : List (K × X)) (x : X) → AllByRecursion (λ e. P e.1) es → P x
    → AllByRecursion (λ e. P e.1) (set_value test es x)
all_after_set P test [] x all new = tt
all_after_set P test (e ∷ es) x all new =
    elim (test e.0) as (λ b. AllByRecursion (λ e. P e.1) (cond b ((e.0, x) ∷ es) (e ∷ set_value test es x)))
    [ true ↦ (new, all.1) | false ↦ (all.0, all_after_set P test es x all.1 new) ]

all_after_insert : {K X : Type 0} (P : X → Type 0) (cmp : K → K → Ordering) (es : List (K × X)) (k : K) (x : X) → AllByRecursion (λ e. P e.1) es → P x
    → AllByRecursion (λ e. P e.1) (insert_entry cmp es k x)
all_after_insert P cmp [] k x all new = (new, tt)
all_after_insert P cmp (e ∷ es) k x all new =
    elim (cmp k e.0) as (λ r. AllByRecursion (λ e. P e.1) (match_ordering r ((k, x) ∷ e ∷ es) ((e.0, x) ∷ es) (e ∷ insert_entry cmp es k x))) [
      | Less ↦ (new, all)
      | Equal ↦ (new, all.1)
      | Greater ↦ (all.0, all_after_insert P cmp es k x all.1 new)
    ]

pub all_at : {K X : Type 0} (P : X → Type 0) (test : K → Bool) (es : List (K × X)) (x : X) → AllByRecursion (λ e. P e.1) es → lookup test es ≡ Some x → P x
all_at P test [] x all e = (cc)
all_at P test (s ∷ es) x all is =
    elim (test s.0) as (λ b. cond b (Some s.1) (lookup test es) ≡ Some x → P x)
    [ true ↦ λ e. subst P (ap (λ o. unwrap_or o s.1) e) all.0 | false ↦ all_at P test es x all.1 ] is

some_filled : (x : Option (Option State)) → is_some x ≡ true → x ≡ Some (filled x)
some_filled None e = (cc)
some_filled (Some y) e = refl

-- a shelf that has the id already keeps what it has
pub kept_slot : (oid : List ℕ) (slots : List (List ℕ × Option State)) → is_some (lookup (is_at (oid_cmp oid)) slots) ≡ true →
    (j : List ℕ) → lookup (is_at (oid_cmp j)) slots ≡ cond (is_at (oid_cmp oid) j) (Some (filled (lookup (is_at (oid_cmp oid)) slots)))
    (lookup (is_at (oid_cmp j)) slots)
kept_slot oid slots had j =
    elim (oid_cmp oid j) as (λ r. oid_cmp oid j ≡ r
    → lookup (is_at (oid_cmp j)) slots ≡ cond (is_eq r) (Some (filled (lookup (is_at (oid_cmp oid)) slots))) (lookup (is_at (oid_cmp j)) slots)) [
      | Less ↦ λ e. refl
      | Equal ↦ λ e. subst (λ x. lookup (is_at (oid_cmp x)) slots ≡ Some (filled (lookup (is_at (oid_cmp oid)) slots))) (same_oid oid j e) (some_filled _ had)
      | Greater ↦ λ e. refl
    ] refl

-- a map after one shelf took another slot, or came with it
pub changed_at : (slots : Slots) (old new : Shelves) → slots_of old ≡ slots → IsShelved old → IsShelved new
    → (p : List (List ℕ)) (oid : List ℕ) (found : Option Shelf) (after : Shelf) (slot : Option State) →
    lookup (is_at (path_cmp p)) old ≡ found →
    ((q : List (List ℕ)) → lookup (is_at (path_cmp q)) new ≡ cond (is_at (path_cmp p) q) (Some after) (lookup (is_at (path_cmp q)) old)) →
    ((j : List ℕ) → lookup (is_at (oid_cmp j)) after.entries ≡ cond (is_at (oid_cmp oid) j) (Some slot) (on_shelf found j)) →
    slots_of new ≡ finite.insert slots (p, oid) slot
changed_at slots old new view h k p oid found after slot had outer inner =
    one_more_slot old new h k p oid slot
    (one_shelf_changed old new p oid after slot outer (λ j. inner j ∙ ap (λ s. cond (is_at (oid_cmp oid) j) (Some slot) (on_shelf s j)) (sym had)))
    ∙ ap (λ s. finite.insert s (p, oid) slot) view

-- a map after one shelf was looked at
pub unchanged_at : (slots : Slots) (old new : Shelves) → slots_of old ≡ slots → IsShelved old → IsShelved new → (p : List (List ℕ)) (before after : Shelf) →
    lookup (is_at (path_cmp p)) old ≡ Some before →
    ((q : List (List ℕ)) → lookup (is_at (path_cmp q)) new ≡ cond (is_at (path_cmp p) q) (Some after) (lookup (is_at (path_cmp q)) old)) →
    after.entries ≡ before.entries → slots_of new ≡ slots
unchanged_at slots old new view h k p before after had outer same =
    same_slots old new h k
    (λ q j. elim (path_cmp p q) as (λ r. path_cmp p q ≡ r → on_shelf (lookup (is_at (path_cmp q)) new) j ≡ on_shelf (lookup (is_at (path_cmp q)) old) j) [
      | Less ↦ λ e. ap (λ s. on_shelf s j) (outer q ∙ ap (λ b. cond b (Some after) (lookup (is_at (path_cmp q)) old)) (ap is_eq e))
      | Equal ↦ λ e. ap (λ s. on_shelf s j) (outer q ∙ ap (λ b. cond b (Some after) (lookup (is_at (path_cmp q)) old)) (ap is_eq e))
          ∙ ap (lookup (is_at (oid_cmp j))) same ∙ ap (λ s. on_shelf s j) (sym had ∙ ap (λ x. lookup (is_at (path_cmp x)) old) (same_path p q e))
      | Greater ↦ λ e. ap (λ s. on_shelf s j) (outer q ∙ ap (λ b. cond b (Some after) (lookup (is_at (path_cmp q)) old)) (ap is_eq e))
    ] refl) ∙ view

-- where a place is reserved, its path has a shelf with the id
pub shelf_of_reserved : (slots : Slots) (shelves : Shelves) → slots_of shelves ≡ slots → IsShelved shelves → (p : List (List ℕ)) (oid : List ℕ)
    → IsReserved slots p oid → IsSome (on_shelf (lookup (is_at (path_cmp p)) shelves) oid)
shelf_of_reserved slots shelves view h p oid there =
    subst IsSome (get-shelves shelves h p oid) (subst (λ s. IsReserved s p oid) (sym view) there)

pub shelved_after_set : (old new : Shelves) (test : List (List ℕ) → Bool) (shelf : Shelf) → IsShelved old → new ≡ set_value test old shelf
    → IsStrictlySortedBy path_cmp (keys_of new) → IsInOrder shelf → IsShelved new
shelved_after_set old new test shelf h is paths order =
    record { paths = paths; ids = subst (AllByRecursion (λ s. IsInOrder s.1)) (sym is) (all_after_set IsInOrder test old shelf h.ids order) }

pub shelved_after_insert : (old new : Shelves) (p : List (List ℕ)) (shelf : Shelf) → IsShelved old → new ≡ insert_entry path_cmp old p shelf
    → IsStrictlySortedBy path_cmp (keys_of new) → IsInOrder shelf → IsShelved new
shelved_after_insert old new p shelf h is paths order =
    record { paths = paths; ids = subst (AllByRecursion (λ s. IsInOrder s.1)) (sym is) (all_after_insert IsInOrder path_cmp old p shelf h.ids order) }

-- a map after one place was reserved
pub room_at : (slots : Slots) (old new : Shelves) → slots_of old ≡ slots → IsShelved old → IsShelved new
    → (p : List (List ℕ)) (oid : List ℕ) (found : Option Shelf) (after : Shelf) →
    lookup (is_at (path_cmp p)) old ≡ found →
    ((q : List (List ℕ)) → lookup (is_at (path_cmp q)) new ≡ cond (is_at (path_cmp p) q) (Some after) (lookup (is_at (path_cmp q)) old)) →
    ((j : List ℕ) → lookup (is_at (oid_cmp j)) after.entries ≡ cond (is_at (oid_cmp oid) j) (Some (filled (on_shelf found oid))) (on_shelf found j)) →
    slots_of new ≡ with_room slots p oid
room_at slots old new view h k p oid found after had outer inner =
    changed_at slots old new view h k p oid found after _ had outer inner
    ∙ ap (finite.insert slots (p, oid))
    (sym (ap (λ s. stored s p oid) (sym view) ∙ ap filled (get-shelves old h p oid) ∙ ap (λ s. filled (on_shelf s oid)) had))

-- what a new shelf has, after a place on it was reserved
pub first_slot : (before after : Shelf) (oid : List ℕ) → before.entries ≡ [] →
    ((j : List ℕ) → lookup (is_at (oid_cmp j)) after.entries ≡ cond (is_at (oid_cmp oid) j) (Some (filled (lookup (is_at (oid_cmp oid)) before.entries)))
    (lookup (is_at (oid_cmp j)) before.entries)) →
    (j : List ℕ) → lookup (is_at (oid_cmp j)) after.entries ≡ cond (is_at (oid_cmp oid) j) (Some None) None
first_slot before after oid empty h j = h j
    ∙ ap (λ es. cond (is_at (oid_cmp oid) j) (Some (filled (lookup (is_at (oid_cmp oid)) es))) (lookup (is_at (oid_cmp j)) es)) empty

-- what a new shelf has, after a state was put on it
pub first_state : (before after : Shelf) (oid : List ℕ) (slot : Option State) → before.entries ≡ [] →
    ((j : List ℕ) → lookup (is_at (oid_cmp j)) after.entries ≡ cond (is_at (oid_cmp oid) j) (Some slot) (lookup (is_at (oid_cmp j)) before.entries)) →
    (j : List ℕ) → lookup (is_at (oid_cmp j)) after.entries ≡ cond (is_at (oid_cmp oid) j) (Some slot) None
first_state before after oid slot empty h j = h j ∙ ap (λ es. cond (is_at (oid_cmp oid) j) (Some slot) (lookup (is_at (oid_cmp j)) es)) empty

pub at_key : (old new : Shelves) (key p : List (List ℕ)) (after : Shelf) → key ≡ p →
    ((q : List (List ℕ)) → lookup (is_at (path_cmp q)) new ≡ cond (is_at (path_cmp key) q) (Some after) (lookup (is_at (path_cmp q)) old)) →
    (q : List (List ℕ)) → lookup (is_at (path_cmp q)) new ≡ cond (is_at (path_cmp p) q) (Some after) (lookup (is_at (path_cmp q)) old)
at_key old new key p after is h q = h q ∙ ap (λ k. cond (is_at (path_cmp k) q) (Some after) (lookup (is_at (path_cmp q)) old)) is
