-- What a store has at each place after a change.
use Rattle.std.proofs.Common.{◌≡◌, ℕ, true, false, cond, List, Option, Some, IsSome, refl, sym, ap, subst, ◌∙◌}
use Rattle.std.specs.Cmp.{tied_itself}
use Rattle.std.specs.FinMap as finite
use Rattle.std.specs.Ordering.{is_eq}
use Rattle.std.specs.declared.cmp.Ordering.TheVariants.{Less, Equal, Greater}
use Rattle.poa_base.specs.declared.servant.State.{State}
use Rattle.poa_base.specs.Store.{Place, Slots, place_cmp, filled, stored, IsReserved, with_room, with_state}
use Rattle.poa_base.proofs.Shelves.{place_total, same_place}

-- a reserved place has what it had, and so has each other place
pub stored-with_room : (slots : Slots) (path : List (List ℕ)) (oid : List ℕ) (q : List (List ℕ)) (j : List ℕ)
    → stored (with_room slots path oid) q j ≡ stored slots q j
stored-with_room slots path oid q j =
    ap filled (finite.get-insert place_total slots (path, oid) (stored slots path oid) (q, j)) ∙
    elim (place_cmp (q, j) (path, oid)) as (λ r. place_cmp (q, j) (path, oid) ≡ r
    → filled (cond (is_eq r) (Some (stored slots path oid)) (finite.get slots (q, j))) ≡ stored slots q j) [
      | Less ↦ λ e. refl
      | Equal ↦ λ e. ap (λ (place : Place). stored slots place.0 place.1) (sym (same_place (q, j) (path, oid) e))
      | Greater ↦ λ e. refl
    ] refl

-- a state is stored at its place, and each other place has what it had
pub stored-with_state : (slots : Slots) (path : List (List ℕ)) (oid : List ℕ) (state : State) (q : List (List ℕ)) (j : List ℕ) →
    stored (with_state slots path oid state) q j ≡ cond (is_eq (place_cmp (q, j) (path, oid))) (Some state) (stored slots q j)
stored-with_state slots path oid state q j =
    ap filled (finite.get-insert place_total slots (path, oid) (Some state) (q, j)) ∙
    elim (is_eq (place_cmp (q, j) (path, oid))) as (λ b. filled (cond b (Some (Some state)) (finite.get slots (q, j))) ≡ cond b (Some state) (stored slots q j))
    [ true ↦ refl | false ↦ refl ]

-- a reserved place is reserved
pub reserved-with_room : (slots : Slots) (path : List (List ℕ)) (oid : List ℕ) → IsReserved (with_room slots path oid) path oid
reserved-with_room slots path oid =
    subst IsSome (sym (finite.get-insert place_total slots (path, oid) (stored slots path oid) (path, oid)
    ∙ ap (λ r. cond (is_eq r) (Some (stored slots path oid)) (finite.get slots (path, oid))) (tied_itself place_total (path, oid)))) refl

-- what is reserved stays reserved
pub reserved-insert : (slots : Slots) (path : List (List ℕ)) (oid : List ℕ) (slot : Option State) (q : List (List ℕ)) (j : List ℕ) → IsReserved slots q j
    → IsReserved (finite.insert slots (path, oid) slot) q j
reserved-insert slots path oid slot q j there =
    subst IsSome (sym (finite.get-insert place_total slots (path, oid) slot (q, j)))
    (elim (is_eq (place_cmp (q, j) (path, oid))) as (λ b. IsSome (cond b (Some slot) (finite.get slots (q, j)))) [ true ↦ refl | false ↦ there ])

pub reserved_after : (slots after : Slots) (path : List (List ℕ)) (oid : List ℕ) → after ≡ with_room slots path oid → IsReserved after path oid
reserved_after slots after path oid is = subst (λ s. IsReserved s path oid) (sym is) (reserved-with_room slots path oid)
