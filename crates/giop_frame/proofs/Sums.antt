-- The sums over the open messages, as messages are opened, joined and closed.
use Rattle.std.proofs.Common.{◌≡◌, ℕ, ◌+◌, ◌-◌, ◌≤◌, List, [], ◌∷◌, Some, None, Ordering, length, drop, refl, ap, sym, ◌∙◌, add_comm, add_assoc, arith, length-append, length-drop}
use Rattle.std.specs.Ordering.{nat_cmp}
use Rattle.std.specs.declared.cmp.Ordering.TheVariants.{Less, Equal, Greater}
use Rattle.std.specs.BTreeMap.{insert_entry}
use Rattle.std.specs.List.{sum_by}
use Rattle.std.specs.Map.{set_value, remove_entry, values_of}
use Rattle.std.specs.Option.{option_map, unwrap_or}
use Rattle.std.proofs.lemmas.List.Sums.{sum_by-cons}
use Rattle.std.proofs.lemmas.Map.Entries.{sum_by-set_value, sum_by-remove_entry}
use Rattle.giop_frame.specs.Open.{Open, Opens, at_id, find_open, joined, open_bytes, taken_bytes}

-- a sum of what each open message weighs
abbrev pub weight : (Open → ℕ) → Opens → ℕ
weight f pending = sum_by f (values_of pending)

weight_at : (f : Open → ℕ) (e : ℕ × Open) (pending : Opens) (id : ℕ) (o : Open) (order : Ordering) → nat_cmp id e.0 ≡ order → find_open id (e ∷ pending) ≡ None
    → (find_open id pending ≡ None → weight f (insert_entry nat_cmp pending id o) ≡ weight f pending + f o)
    → weight f (insert_entry nat_cmp (e ∷ pending) id o) ≡ weight f (e ∷ pending) + f o
weight_at f e pending id o Less is absent below =
    simp is (sum_by-cons f o (e.1 ∷ values_of pending) ∙ add_comm (f o) (weight f (e ∷ pending)))
weight_at f e pending id o Equal is absent below = let found : Some e.1 ≡ None = simp is at absent in cc
weight_at f e pending id o Greater is absent below =
    let under : find_open id pending ≡ None = simp is at absent in
    simp is (sum_by-cons f e.1 (values_of (insert_entry nat_cmp pending id o))
    ∙ (ap (λ n. f e.1 + n) (below under)
    ∙ (sym (add_assoc (f e.1) (weight f pending) (f o)) ∙ ap (λ n. n + f o) (sym (sum_by-cons f e.1 (values_of pending))))))

pub weight-open : (f : Open → ℕ) (pending : Opens) (id : ℕ) (o : Open) → find_open id pending ≡ None
    → weight f (insert_entry nat_cmp pending id o) ≡ weight f pending + f o
weight-open f [] id o absent = omega arith
weight-open f (e ∷ pending) id o absent = weight_at f e pending id o (nat_cmp id e.0) refl absent (weight-open f pending id o)

pub weight-set : (f : Open → ℕ) (pending : Opens) (id : ℕ) (o p : Open) (more : ℕ) → find_open id pending ≡ Some o → f p ≡ f o + more
    → weight f (set_value (at_id id) pending p) ≡ weight f pending + more
weight-set f pending id o p more found grown =
    let e = sum_by-set_value f (at_id id) pending o p found in omega (arith, e, grown)

pub weight-close : (f : Open → ℕ) (pending : Opens) (id : ℕ) (o : Open) → find_open id pending ≡ Some o
    → weight f (remove_entry (at_id id) pending) + f o ≡ weight f pending
weight-close f pending id o found =
    let e = sum_by-remove_entry f (at_id id) pending in
    let some = ap (λ x. unwrap_or (option_map f x) 0) found in
    omega (arith, e, some)

-- joining a Fragment lengthens its message by what stands behind the Fragment's id
pub open_bytes-join : (pending : Opens) (id : ℕ) (o : Open) (part : List ℕ) → find_open id pending ≡ Some o → 16 ≤ length part
    → open_bytes (set_value (at_id id) pending (joined o part)) ≡ open_bytes pending + (length part - 16)
open_bytes-join pending id o part found long =
    weight-set (λ m. length m.bytes) pending id o (joined o part) (length part - 16) found
    (omega (arith, length-append o.bytes (drop 16 part), length-drop 16 part))

pub taken_bytes-join : (pending : Opens) (id : ℕ) (o : Open) (part : List ℕ) → find_open id pending ≡ Some o
    → taken_bytes (set_value (at_id id) pending (joined o part)) ≡ taken_bytes pending + length part
taken_bytes-join pending id o part found =
    weight-set (λ m. m.taken) pending id o (joined o part) (length part) found (omega arith)
