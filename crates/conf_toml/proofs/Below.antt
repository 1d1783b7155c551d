-- An adapter whose parent was found by its text stands below that parent.
use Rattle.std.proofs.Common.{◌⊎◌, ◌≡◌, ℕ, suc, zero, ◌≤◌, ◌==◌, ◌&&◌, nat_le, true, false, List, [], ◌∷◌, ◌++◌, length, Option, Some, None, refl, ap, sym, ◌∙◌, inl, inr, arith, subst, append-nil, length-append}
use Rattle.std.proofs.Math.Bool.{or-true}
use Rattle.std.proofs.lemmas.List.{append_assoc}
use Rattle.std.proofs.lemmas.Bool.{and_parts, and_from, false≢true}
use Rattle.std.proofs.lemmas.Bool.Decides.{nat_tests}
use Rattle.std.proofs.lemmas.Option.{none-some, same_Some}
use Rattle.std.specs.List.{AllByRecursion, list_all, list_any, slice_get}
use Rattle.poa_base.specs.declared.AdapterConf.{AdapterConf}
use Rattle.text_words.specs.Name.{is_name, is_name_byte}
use Rattle.text_words.specs.Path.{below_root, path_of, path_text}
use Rattle.text_words.proofs.ReadBack.{path_back}
use Rattle.conf_fields.specs.Numbers.{place_of}
use Rattle.conf_fields.proofs.Finds.{found_at}
use Rattle.poa_policy.specs.Parents.{IsBelow, IsBoot}
use Rattle.conf_toml.specs.Adapters.{adapter_paths, boots_at, is_boot, parent_boots, parent_text}
use Rattle.conf_toml.specs.FoundRows.{HasParent}

-- a path that a text can write: at most 16 names
pub record IsWritten (p : List (List ℕ)) : Type 0 where
  pub few : length p ≤ 16
  pub named : list_all is_name p ≡ true

-- of two such paths the texts differ
pub one_path : (p q : List (List ℕ)) → IsWritten p → IsWritten q → path_text p ≡ path_text q → p ≡ q
one_path p q a b same = same_Some p q (sym (path_back p a.few a.named) ∙ (ap path_of same ∙ path_back q b.few b.named))

list_all-front : (p q : List (List ℕ)) → list_all is_name (p ++ q) ≡ true → (list_all is_name p ≡ true) × (list_all is_name q ≡ true)
list_all-front [] q all = (refl, all)
list_all-front (n ∷ p) q all =
    let (first, rest) = and_parts (is_name n) (list_all is_name (p ++ q)) all in
    let (front, back) = list_all-front p q rest in
    (and_from (is_name n) (list_all is_name p) first front, back)

-- a path but the root's is that of a child
pub record IsChild (p : List (List ℕ)) : Type 0 where
  pub parent : List (List ℕ)
  pub name : List ℕ
  pub is : p ≡ parent ++ name ∷ []

pub child_of : (n : List ℕ) (ns : List (List ℕ)) → IsChild (n ∷ ns)
child_of n [] = record { parent = []; name = n; is = refl }
child_of n (m ∷ ms) = let c = child_of m ms in record { parent = n ∷ c.parent; name = c.name; is = ap (λ t. n ∷ t) c.is }

below_root-child : (q : List (List ℕ)) (x : List ℕ) → below_root (q ++ x ∷ []) ≡ below_root q ++ 47 ∷ x
below_root-child [] x = ap (λ t. 47 ∷ t) (append-nil x)
below_root-child (n ∷ q) x = ap (λ t. (47 ∷ n) ++ t) (below_root-child q x) ∙ sym (append_assoc (47 ∷ n) (below_root q) (47 ∷ x))

path_text-child : (q : List (List ℕ)) (x : List ℕ) → path_text (q ++ x ∷ []) ≡ below_root (q ++ x ∷ [])
path_text-child [] x = refl
path_text-child (n ∷ q) x = refl

slashless : (x : List ℕ) → list_all is_name_byte x ≡ true → list_any (λ b. b == 47) x ≡ false
slashless [] all = refl
slashless (c ∷ cs) all =
    let (first, rest) = and_parts (is_name_byte c) (list_all is_name_byte cs) all in
    rw (no_slash_in c first, slashless cs rest) refl where
      no_slash_in : (b : ℕ) → is_name_byte b ≡ true → (b == 47) ≡ false
      no_slash_in b fits = grind (arith, nat_tests)

slash_ahead : (t x : List ℕ) → list_any (λ b. b == 47) (t ++ 47 ∷ x) ≡ true
slash_ahead [] x = refl
slash_ahead (c ∷ t) x = rw (slash_ahead t x) (or-true (c == 47))

-- the text of the parent of a child
parent_before : (t x : List ℕ) → list_any (λ b. b == 47) x ≡ false → parent_text (t ++ 47 ∷ x) ≡ t
unfolding parent_text
parent_before [] x none = rw none refl
parent_before (c ∷ t) x none = rw (slash_ahead t x) (ap (λ s. c ∷ s) (parent_before t x none))

pub parent_of_child : (q : List (List ℕ)) (x : List ℕ) → is_name x ≡ true → parent_text (path_text (q ++ x ∷ [])) ≡ below_root q
parent_of_child q x named =
    let (sizes, bytes) = and_parts (nat_le 1 (length x) && nat_le (length x) 64) (list_all is_name_byte x) named in
    ap parent_text (path_text-child q x ∙ below_root-child q x) ∙ parent_before (below_root q) x (slashless x bytes)

all_at : {A : Type 0} (P : A → Type 0) (xs : List A) (k : ℕ) (x : A) → AllByRecursion P xs → slice_get xs k ≡ Some x → P x
all_at P [] k x all here = absurd (none-some x here)
all_at P (y ∷ ys) zero x all here = subst P (same_Some y x here) all.0
all_at P (y ∷ ys) (suc k) x all here = all_at P ys k x all.1 here

-- an adapter that was found by the text of its path
pub record IsFoundAt (adapters : List AdapterConf) (p : List (List ℕ)) (k : ℕ) : Type 0 where
  pub adapter : AdapterConf
  pub stands : slice_get adapters k ≡ Some adapter
  pub path_is : adapter.path ≡ p

pub found_by_text : (adapters : List AdapterConf) (p : List (List ℕ)) (k : ℕ) → AllByRecursion (λ a. IsWritten a.path) adapters → IsWritten p
    → place_of (adapter_paths adapters) (path_text p) ≡ Some k → IsFoundAt adapters p k
found_by_text adapters p k all written h =
    let at = found_at (λ (a : AdapterConf). path_text a.path) adapters (path_text p) k h in
    record {
      adapter = at.entry;
      stands = at.stands;
      path_is = one_path at.entry.path p (all_at (λ (a : AdapterConf). IsWritten a.path) adapters k at.entry all at.stands) written at.named;
    }

boot_found : (done : List AdapterConf) (q : List (List ℕ)) (o : Option ℕ) → ((k : ℕ) → o ≡ Some k → IsFoundAt done q k) → boots_at done o ≡ true → IsBoot done q
boot_found done q None at boots = absurd (false≢true boots)
boot_found done q (Some k) at boots =
    let found = at k refl in
    record { adapter = found.adapter; stands = (k, found.stands); path_is = found.path_is; boots = ap is_boot (sym found.stands) ∙ boots }

stands_below : (done : List AdapterConf) (q : List (List ℕ)) → AllByRecursion (λ a. IsWritten a.path) done → IsWritten q
    → parent_boots (place_of (adapter_paths done)) done (below_root q) ≡ true → (q ≡ []) ⊎ IsBoot done q
stands_below done [] all written boots = inl refl
stands_below done (n ∷ ns) all written boots =
    inr (boot_found done (n ∷ ns) (place_of (adapter_paths done) (path_text (n ∷ ns))) (λ k there. found_by_text done (n ∷ ns) k all written there) boots)

pub has_parent_below : (done : List AdapterConf) (p : List (List ℕ)) → AllByRecursion (λ a. IsWritten a.path) done → IsWritten p
    → HasParent (place_of (adapter_paths done)) done p → IsBelow done p
has_parent_below done [] all written has = absurd has
has_parent_below done (n ∷ ns) all written has =
    let child = child_of n ns in
    let (front, back) = list_all-front child.parent (child.name ∷ []) (ap (list_all is_name) (sym child.is) ∙ written.named) in
    let name : is_name child.name ≡ true = (and_parts (is_name child.name) true back).0 in
    let few : length child.parent ≤ 16 = omega (arith, written.few, ap length child.is, length-append child.parent (child.name ∷ [])) in
    let text = ap (λ t. parent_text (path_text t)) child.is ∙ parent_of_child child.parent child.name name in
    record {
      parent = child.parent;
      name = child.name;
      child = child.is;
      stands =
          stands_below done child.parent all (record { few = few; named = front }) (ap (parent_boots (place_of (adapter_paths done)) done) (sym text) ∙ has);
    }
