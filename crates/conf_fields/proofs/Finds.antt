-- Names noted one after another.
use Rattle.std.proofs.Common.{arith, ◌<◌, subst, ◌≡◌, ◌≢◌, ℕ, suc, ◌+◌, Bool, true, false, if◌then◌else◌, List, [], ◌∷◌, ◌++◌, length, map, Option, Some, None, refl, ap, sym, ◌∙◌, inl, inr, add-one}
use Rattle.std.proofs.Math.Path.{fun_ext}
use Rattle.std.proofs.lemmas.Bool.{cases_Bool, false≢true}
use Rattle.std.proofs.lemmas.Option.{none-some, same_Some}
use Rattle.std.specs.Option.{option_map}
use Rattle.std.specs.List.{AllByRecursion, slice_get}
use Rattle.std.specs.Str.{bytes_eq}
use Rattle.std.proofs.lemmas.Slice.Eq.{bytes_eq-Decides}
use Rattle.conf_fields.specs.Numbers.{Find, place_of, seen_of, noted}

step_within : (b : Bool) (o : Option ℕ) (n k : ℕ) → ((i : ℕ) → o ≡ Some i → i < n) → (if b then Some 0 else option_map (λ i. i + 1) o) ≡ Some k → k < suc n
step_within true o n k at h = subst (λ (j : ℕ). j < suc n) (same_Some 0 k h) (omega arith)
step_within false None n k at h = absurd (none-some k h)
step_within false (Some i) n k at h = let below = at i refl in subst (λ (j : ℕ). j < suc n) (same_Some (i + 1) k h) (omega (arith, below))

-- a place is below the number of names
pub place_within : (ns : List (List ℕ)) (q : List ℕ) (k : ℕ) → place_of ns q ≡ Some k → k < length ns
place_within [] q k h = absurd (none-some k h)
place_within (n ∷ ns) q k h = step_within (bytes_eq n q) (place_of ns q) (length ns) k (λ i there. place_within ns q i there) h

-- one more item at the end
pub map-last : {A B : Type 0} (f : A → B) (xs : List A) (x : A) → map f (xs ++ x ∷ []) ≡ map f xs ++ f x ∷ []
map-last f [] x = refl
map-last f (y ∷ xs) x = ap (λ t. f y ∷ t) (map-last f xs x)

-- a name whose place is none stands nowhere
pub not_here : (b : Bool) (o : Option ℕ) → (if b then Some 0 else option_map (λ i. i + 1) o) ≡ None → (b ≡ false) × (o ≡ None)
not_here true o h = cc
not_here false None h = (refl, refl)
not_here false (Some i) h = cc

-- a name whose place is none is that of no entry
pub none_new : {A : Type 0} (key : A → List ℕ) (xs : List A) (n : List ℕ) → place_of (map key xs) n ≡ None → AllByRecursion (λ x. key x ≢ n) xs
none_new key [] n h = tt
none_new key (x ∷ xs) n h =
    let (other, rest) = not_here (bytes_eq (key x) n) (place_of (map key xs) n) h in
    (λ same. false≢true (sym other ∙ (bytes_eq-Decides (key x) n).1 same), none_new key xs n rest)

-- the entry that has the place of a name has the name
pub record IsAt {A : Type 0} (key : A → List ℕ) (xs : List A) (n : List ℕ) (k : ℕ) : Type 0 where
  pub entry : A
  pub stands : slice_get xs k ≡ Some entry
  pub named : key entry ≡ n

further_on : {A : Type 0} (key : A → List ℕ) (x : A) (xs : List A) (n : List ℕ) (o : Option ℕ) (k : ℕ)
    → ((i : ℕ) → o ≡ Some i → IsAt key xs n i) → option_map (λ i. i + 1) o ≡ Some k → IsAt key (x ∷ xs) n k
further_on key x xs n None k at h = absurd (none-some k h)
further_on key x xs n (Some i) k at h =
    let there = at i refl in
    record {
      entry = there.entry;
      stands = subst (λ (j : ℕ). slice_get (x ∷ xs) j ≡ Some there.entry) (sym (add-one i) ∙ same_Some (i + 1) k h) there.stands;
      named = there.named;
    }

at_first : {A : Type 0} (key : A → List ℕ) (x : A) (xs : List A) (n : List ℕ) (here : Bool) (k : ℕ)
    → (here ≡ true → key x ≡ n) → ((i : ℕ) → place_of (map key xs) n ≡ Some i → IsAt key xs n i)
    → (if here then Some 0 else option_map (λ i. i + 1) (place_of (map key xs) n)) ≡ Some k → IsAt key (x ∷ xs) n k
at_first key x xs n true k same at h = record { entry = x; stands = subst (λ (j : ℕ). slice_get (x ∷ xs) j ≡ Some x) (same_Some 0 k h) refl; named = same refl }
at_first key x xs n false k same at h = further_on key x xs n (place_of (map key xs) n) k at h

pub found_at : {A : Type 0} (key : A → List ℕ) (xs : List A) (n : List ℕ) (k : ℕ) → place_of (map key xs) n ≡ Some k → IsAt key xs n k
found_at key [] n k h = absurd (none-some k h)
found_at key (x ∷ xs) n k h = at_first key x xs n (bytes_eq (key x) n) k (bytes_eq-Decides (key x) n).0 (λ i there. found_at key xs n i there) h

apart : (m n q : List ℕ) → bytes_eq m n ≡ false → bytes_eq m q ≡ true → bytes_eq n q ≡ false
apart m n q other here =
    elim (cases_Bool (bytes_eq n q)) [
      | inr away ↦ away
      | inl same ↦ absurd (false≢true (sym other ∙ (bytes_eq-Decides m n).1 ((bytes_eq-Decides m q).0 here ∙ sym ((bytes_eq-Decides n q).0 same))))
    ]

further : (b : Bool) (k : ℕ) (o : Option ℕ) → (if b then Some (suc k) else option_map (λ i. i + 1) o) ≡ option_map (λ i. i + 1) (if b then Some k else o)
further true k o = ap Some (sym (add-one k))
further false k o = refl

placed : (ns : List (List ℕ)) (n q : List ℕ) → place_of ns n ≡ None → (if bytes_eq n q then Some (length ns) else place_of ns q) ≡ place_of (ns ++ n ∷ []) q
placed [] n q new = refl
placed (m ∷ ns) n q new =
    let (other, rest) = not_here (bytes_eq m n) (place_of ns n) new in
    elim (cases_Bool (bytes_eq m q)) [
      | inl here ↦ rw (apart m n q other here, here)
      | inr away ↦ rw away (further (bytes_eq n q) (length ns) (place_of ns q) ∙ ap (option_map (λ i. i + 1)) (placed ns n q rest))
    ]

-- the next name has the next number
pub noted_next : (f g : Find) (ns : List (List ℕ)) (n : List ℕ) (k : ℕ) → k ≡ length ns → f ≡ place_of ns → f n ≡ None → g ≡ noted n k f
    → g ≡ place_of (ns ++ n ∷ [])
noted_next f g ns n k count before new after =
    after ∙ fun_ext (λ q. rw (count, before) (placed ns n q (ap (λ h. h n) (sym before) ∙ new)))

swapped : (a b : Bool) (o : Option ℕ) → (if a then Some 0 else (if b then Some 0 else o)) ≡ (if b then Some 0 else (if a then Some 0 else o))
swapped true true o = refl
swapped true false o = refl
swapped false true o = refl
swapped false false o = refl

seen : (ns : List (List ℕ)) (n q : List ℕ) → (if bytes_eq n q then Some 0 else seen_of ns q) ≡ seen_of (ns ++ n ∷ []) q
seen [] n q = refl
seen (m ∷ ns) n q = swapped (bytes_eq n q) (bytes_eq m q) (seen_of ns q) ∙ ap (λ o. if bytes_eq m q then Some 0 else o) (seen ns n q)

-- one more text was seen
pub seen_next : (f g : Find) (ns : List (List ℕ)) (n : List ℕ) → f ≡ seen_of ns → g ≡ noted n 0 f → g ≡ seen_of (ns ++ n ∷ [])
seen_next f g ns n before after = after ∙ fun_ext (λ q. rw before (seen ns n q))
