-- Creating, destroying and letting go keep the tree.
use Rattle.std.specs.Prelude.{◌≡◌, ℕ, suc, ◌<◌, Bool, true, false, List, [], ◌∷◌, ◌++◌, map, filter, ◌⊎◌, refl}
use Rattle.std.proofs.Common.{inl, inr, sym, subst, ap, ◌∙◌, arith}
use Rattle.std.proofs.lemmas.Bool.{cases_Bool, cond_both}
use Rattle.history_standing.specs.declared.node.Node.{Node}
use Rattle.history_standing.specs.Paths.{leads_to}
use Rattle.history_standing.specs.Trees.{In, IsTree, MayCreate, MayDrop}
use Rattle.history_standing.specs.Nodes.{created, marked}
use Rattle.history_standing.proofs.Members.{in_front, in_either, in_image, image_in, in_kept, kept_in}
use Rattle.history_standing.proofs.Leading.{leads_on, leads_shorter, leads_through, front_same}

module _ (ns : List Node) (count : ℕ) (p : List (List ℕ)) (tree : IsTree ns count) (may : MayCreate ns p) where
  abbrev new : Node
  new = record { number = count; path = p; dying = false }

  fresh_number : (n : Node) → In n ns → n.number ≡ count → ⊥
  fresh_number n is same = (let below = tree.numbered n is in omega arith)

  alone_by : {B : Type 0} (f : Node → B) → ((n m : Node) → In n ns → In m ns → f n ≡ f m → n ≡ m) → ((n : Node) → In n ns → f n ≡ f new → ⊥) → (n m : Node)
      → In n (created count p ns) → In m (created count p ns) → f n ≡ f m → n ≡ m
  alone_by f old none n m is is' same =
      elim (in_either n new ns is) [
        | inl a ↦ elim (in_either m new ns is') [
          | inl b ↦ old n m a b same
          | inr b ↦ absurd (none n a (same ∙ ap f b))
        ]
        | inr a ↦ elim (in_either m new ns is') [
          | inl b ↦ absurd (none m b (sym same ∙ ap f a))
          | inr b ↦ a ∙ sym b
        ]
      ]

  numbered_after : (n : Node) → In n (created count p ns) → n.number < suc count
  numbered_after n is =
      elim (in_either n new ns is) [
        | inl a ↦ (let below = tree.numbered n a in omega arith)
        | inr a ↦ (let same : n.number ≡ count = ap (λ x. x.number) a in omega arith)
      ]

  closed_after : (n : Node) (q : List (List ℕ)) (x : List ℕ) → In n (created count p ns) → n.path ≡ q ++ x ∷ [] → (m : Node) × In m (created count p ns)
      × (m.path ≡ q)
  closed_after n q x is at =
      elim (in_either n new ns is) [
        | inl a ↦ (let found = tree.closed n q x a at in (found.0, in_front found.0 new ns found.1, found.2))
        | inr a ↦ (may.parent, in_front may.parent new ns may.stands, front_same may.parent.path q may.name x (sym may.child ∙ (sym (ap (λ y. y.path) a) ∙ at)))
      ]

  below_new : (n : Node) → In n ns → leads_to n.path p ≡ true → n.dying ≡ true → ⊥
  below_new n is leads dying =
      elim (leads_shorter n.path may.parent.path may.name (subst (λ q. leads_to n.path q ≡ true) may.child leads)) [
        | inl above ↦ (let e : false ≡ true = sym may.living ∙ tree.below n may.parent is may.stands above dying in cc)
        | inr same ↦ may.free n is (same ∙ sym may.child)
      ]

  below_after : (n m : Node) → In n (created count p ns) → In m (created count p ns) → leads_to n.path m.path ≡ true → n.dying ≡ true → m.dying ≡ true
  below_after n m is is' leads dying =
      elim (in_either n new ns is) [
        | inl a ↦ elim (in_either m new ns is') [
          | inl b ↦ tree.below n m a b leads dying
          | inr b ↦ absurd (below_new n a (subst (λ y. leads_to n.path y.path ≡ true) b leads) dying)
        ]
        | inr a ↦ absurd (let e : false ≡ true = sym (ap (λ y. y.dying) a) ∙ dying in cc)
      ]

  pub created_kept : IsTree (created count p ns) (suc count)
  created_kept = record {
    numbered = numbered_after;
    number_alone = alone_by (λ n. n.number) tree.number_alone fresh_number;
    path_alone = alone_by (λ n. n.path) tree.path_alone may.free;
    rooted = (let root = tree.rooted in (root.0, in_front root.0 new ns root.1, root.2));
    closed = closed_after;
    below = below_after;
  }

-- destroying marks adapters, and changes neither their numbers nor their paths
pub marked_number : (p : List (List ℕ)) (n : Node) → (marked p n).number ≡ n.number
marked_number p n = cond_both (leads_to p n.path) (record n { dying = true }) n (λ m. m.number ≡ n.number) (λ _. refl) (λ _. refl)

pub marked_path : (p : List (List ℕ)) (n : Node) → (marked p n).path ≡ n.path
marked_path p n = cond_both (leads_to p n.path) (record n { dying = true }) n (λ m. m.path ≡ n.path) (λ _. refl) (λ _. refl)

-- an adapter that is being destroyed after it was so before, or is at the path or below it
pub marked_dying : (p : List (List ℕ)) (n : Node) → (marked p n).dying ≡ true → (n.dying ≡ true) ⊎ (leads_to p n.path ≡ true)
marked_dying p n =
    cond_both (leads_to p n.path) (record n { dying = true }) n (λ m. m.dying ≡ true → (n.dying ≡ true) ⊎ (leads_to p n.path ≡ true)) (λ leads _. inr leads)
    (λ _ dying. inl dying)

pub dying_marked : (p : List (List ℕ)) (n : Node) → (n.dying ≡ true) ⊎ (leads_to p n.path ≡ true) → (marked p n).dying ≡ true
dying_marked p n why =
    cond_both (leads_to p n.path) (record n { dying = true }) n (λ m. m.dying ≡ true) (λ _. refl)
    (λ other. elim why [ inl dying ↦ dying | inr leads ↦ absurd (let e : false ≡ true = sym other ∙ leads in cc) ])

module _ (ns : List Node) (count : ℕ) (p : List (List ℕ)) (tree : IsTree ns count) where
  alone_marked : {B : Type 0} (f : Node → B) → ((n : Node) → f (marked p n) ≡ f n) → ((n m : Node) → In n ns → In m ns → f n ≡ f m → n ≡ m) → (n m : Node)
      → In n (map (marked p) ns) → In m (map (marked p) ns) → f n ≡ f m → n ≡ m
  alone_marked f kept old n m is is' same =
      let a = in_image (marked p) n ns is in
      let b = in_image (marked p) m ns is' in
      a.2 ∙ (ap (marked p) (old a.0 b.0 a.1 b.1 (sym (kept a.0) ∙ (sym (ap f a.2) ∙ (same ∙ (ap f b.2 ∙ kept b.0))))) ∙ sym b.2)

  numbered_marked : (n : Node) → In n (map (marked p) ns) → n.number < count
  numbered_marked n is =
      let a = in_image (marked p) n ns is in subst (λ k. k < count) (sym (ap (λ x. x.number) a.2 ∙ marked_number p a.0)) (tree.numbered a.0 a.1)

  closed_marked : (n : Node) (q : List (List ℕ)) (x : List ℕ) → In n (map (marked p) ns) → n.path ≡ q ++ x ∷ [] → (m : Node) × In m (map (marked p) ns)
      × (m.path ≡ q)
  closed_marked n q x is at =
      let a = in_image (marked p) n ns is in
      let found = tree.closed a.0 q x a.1 (sym (ap (λ y. y.path) a.2 ∙ marked_path p a.0) ∙ at) in
      (marked p found.0, image_in (marked p) found.0 ns found.1, marked_path p found.0 ∙ found.2)

  below_marked : (n m : Node) → In n (map (marked p) ns) → In m (map (marked p) ns) → leads_to n.path m.path ≡ true → n.dying ≡ true → m.dying ≡ true
  below_marked n m is is' leads dying =
      let a = in_image (marked p) n ns is in
      let b = in_image (marked p) m ns is' in
      let paths : leads_to a.0.path b.0.path ≡ true =
      subst (λ q. leads_to a.0.path q ≡ true) (ap (λ y. y.path) b.2 ∙ marked_path p b.0)
      (subst (λ q. leads_to q m.path ≡ true) (ap (λ y. y.path) a.2 ∙ marked_path p a.0) leads) in
      ap (λ y. y.dying) b.2
      ∙ dying_marked p b.0
      (elim (marked_dying p a.0 (sym (ap (λ y. y.dying) a.2) ∙ dying)) [
        | inl was ↦ inl (tree.below a.0 b.0 a.1 b.1 paths was)
        | inr under ↦ inr (leads_through p a.0.path b.0.path under paths)
      ])

  pub marked_kept : IsTree (map (marked p) ns) count
  marked_kept = record {
    numbered = numbered_marked;
    number_alone = alone_marked (λ n. n.number) (marked_number p) tree.number_alone;
    path_alone = alone_marked (λ n. n.path) (marked_path p) tree.path_alone;
    rooted = (let root = tree.rooted in (marked p root.0, image_in (marked p) root.0 ns root.1, marked_path p root.0 ∙ root.2));
    closed = closed_marked;
    below = below_marked;
  }

module _ (ns : List Node) (count : ℕ) (stays : Node → Bool) (tree : IsTree ns count) (may : MayDrop ns stays) where
  was : (n : Node) → In n (filter stays ns) → In n ns
  was n is = (in_kept stays n ns is).0

  closed_dropped : (n : Node) (q : List (List ℕ)) (x : List ℕ) → In n (filter stays ns) → n.path ≡ q ++ x ∷ [] → (m : Node) × In m (filter stays ns)
      × (m.path ≡ q)
  closed_dropped n q x is at =
      let kept = in_kept stays n ns is in
      let found = tree.closed n q x kept.0 at in
      let leads : leads_to found.0.path n.path ≡ true =
      subst (λ r. leads_to found.0.path r ≡ true) (sym at) (subst (λ r. leads_to r (q ++ x ∷ []) ≡ true) (sym found.2) (leads_on q (x ∷ []))) in
      elim (cases_Bool (stays found.0)) [
        | inl passes ↦ (found.0, kept_in stays found.0 ns found.1 passes, found.2)
        | inr goes ↦ absurd (let e : true ≡ false = sym kept.1 ∙ may.along found.0 n found.1 kept.0 leads goes in cc)
      ]

  pub dropped_kept : IsTree (filter stays ns) count
  dropped_kept = record {
    numbered = λ n is. tree.numbered n (was n is);
    number_alone = λ n m is is'. tree.number_alone n m (was n is) (was m is');
    path_alone = λ n m is is'. tree.path_alone n m (was n is) (was m is');
    rooted = (let root = tree.rooted in (root.0, kept_in stays root.0 ns root.1 (may.root root.0 root.1 root.2), root.2));
    closed = closed_dropped;
    below = λ n m is is'. tree.below n m (was n is) (was m is');
  }
