-- A walk that meets no adapter that is being destroyed meets the same where some of those are gone.
use Rattle.std.specs.Prelude.{◌≡◌, ℕ, suc, Bool, true, false, cond, if◌then◌else◌, List, [], ◌∷◌, ◌++◌, filter, find, take, length, Option, Some, None, refl}
use Rattle.std.proofs.Common.{sym, ap, ap₂, ◌∙◌}
use Rattle.std.proofs.lemmas.Bool.{cond_both, true≢false, cases_Bool, false_from_ne_true}
use Rattle.history_standing.specs.declared.node.Node.{Node}
use Rattle.history_standing.specs.declared.found.Found.{Found}
use Rattle.history_standing.specs.declared.found.Found.TheVariants.{Live, Dying, Missing}
use Rattle.history_standing.specs.Nodes.{node_at}
use Rattle.history_standing.specs.Paths.{same_path}
use Rattle.history_standing.specs.Trees.{In, IsTree}
use Rattle.history_standing.specs.Walks.{walk_from, walk, adapter_met, child_met}
use Rattle.history_standing.proofs.Finding.{path_same}
use Rattle.history_standing.proofs.Leading.{front_same}
use Rattle.history_standing.proofs.WalkStands.{Tells, walk_tells}
use Rattle.poa_choose.specs.declared.WalkFact.TheVariants.{Dying as MeetsDying, Missing as MeetsMissing, Found as Met}
use Rattle.history_standing.specs.declared.flight.Flight.{Flight}
use Rattle.history_standing.specs.Situations.{walk_fact}
use Rattle.history_standing.specs.Standings.{Standing}
use Rattle.poa_history.specs.Sound.{IsSound}
use Rattle.poa_base.specs.declared.Config.{Config}

-- what a search finds it finds among those that are kept, where it is kept; where it finds nothing it finds nothing there
find_kept : {A : Type 0} (test keep : A → Bool) (x : A) (xs : List A) → find test xs ≡ Some x → keep x ≡ true → find test (filter keep xs) ≡ Some x
find_kept test keep x [] found kept = absurd (let e : None ≡ Some x = found in cc)
find_kept {A} test keep x (y ∷ xs) found kept =
    elim (test y) as (λ b. test y ≡ b → cond b (Some y) (find test xs) ≡ Some x → find test (cond (keep y) (y ∷ filter keep xs) (filter keep xs)) ≡ Some x) [
      | true ↦ λ passes same.
          (let at : y ≡ x = cc in
          ap (λ b. find test (cond b (y ∷ filter keep xs) (filter keep xs))) (ap keep at ∙ kept)
          ∙ (ap (λ b. cond b (Some y) (find test (filter keep xs))) passes ∙ ap (λ z. Some z) at))
      | false ↦ λ fails more.
          (let again = find_kept test keep x xs more kept in
          cond_both (keep y) (y ∷ filter keep xs) (filter keep xs) (λ zs. find test zs ≡ Some x)
          (λ _. ap (λ b. cond b (Some y) (find test (filter keep xs))) fails ∙ again) (λ _. again))
    ] refl found

find_gone : {A : Type 0} (test keep : A → Bool) (xs : List A) → find test xs ≡ None → find test (filter keep xs) ≡ None
find_gone test keep [] none = refl
find_gone {A} test keep (y ∷ xs) none =
    elim (test y) as (λ b. test y ≡ b → cond b (Some y) (find test xs) ≡ None → find test (cond (keep y) (y ∷ filter keep xs) (filter keep xs)) ≡ None) [
      | true ↦ λ _ same. absurd (let e : Some y ≡ None = same in cc)
      | false ↦ λ fails more.
          (let again = find_gone test keep xs more in
          cond_both (keep y) (y ∷ filter keep xs) (filter keep xs) (λ zs. find test zs ≡ None)
          (λ _. ap (λ b. cond b (Some y) (find test (filter keep xs))) fails ∙ again) (λ _. again))
    ] refl none

-- a walk from an adapter that is being destroyed meets it
from_dying : (ns : List Node) (here : Node) (p : List (List ℕ)) → here.dying ≡ true → walk_fact (walk_from ns here p) ≡ MeetsDying
from_dying ns here [] dying = ap (λ b. walk_fact (if b then Dying here.number else Live here.number)) dying
from_dying ns here (x ∷ p) dying =
    ap (λ b. walk_fact
    (if b then Dying here.number else
    (elim (node_at ns (here.path ++ x ∷ [])) as (λ _. Found) [ Some n ↦ walk_from ns n p | None ↦ Missing here.number (length here.path) ]))) dying

module _ (ns : List Node) (keep : Node → Bool) (living : (n : Node) → n.dying ≡ false → keep n ≡ true) where
  abbrev left : List Node
  left = filter keep ns

  kept_by : (n : Node) (p : List (List ℕ)) → (walk_fact (walk_from ns n p) ≡ MeetsDying → ⊥) → keep n ≡ true
  kept_by n p other = living n (false_from_ne_true n.dying (λ dying. other (from_dying ns n p dying)))

  walk_from_same : (here : Node) (p : List (List ℕ)) → (walk_fact (walk_from ns here p) ≡ MeetsDying → ⊥) → walk_from left here p ≡ walk_from ns here p
  walk_from_same here [] other = refl
  walk_from_same here (x ∷ p) other =
      elim here.dying as (λ b.
      (walk_fact
      (if b then Dying here.number else
      (elim (node_at ns (here.path ++ x ∷ [])) as (λ _. Found) [ Some n ↦ walk_from ns n p | None ↦ Missing here.number (length here.path) ])) ≡ MeetsDying → ⊥)
      → (if b then Dying here.number else
      (elim (node_at left (here.path ++ x ∷ [])) as (λ _. Found) [ Some n ↦ walk_from left n p | None ↦ Missing here.number (length here.path) ]))
      ≡ (if b then Dying here.number else
      (elim (node_at ns (here.path ++ x ∷ [])) as (λ _. Found) [ Some n ↦ walk_from ns n p | None ↦ Missing here.number (length here.path) ]))) [
        | true ↦ λ _. refl
        | false ↦ λ apart.
            elim (node_at ns (here.path ++ x ∷ [])) as (λ o. node_at ns (here.path ++ x ∷ []) ≡ o
            → (walk_fact (elim o as (λ _. Found) [ Some n ↦ walk_from ns n p | None ↦ Missing here.number (length here.path) ]) ≡ MeetsDying → ⊥)
            → (elim (node_at left (here.path ++ x ∷ [])) as (λ _. Found) [ Some n ↦ walk_from left n p | None ↦ Missing here.number (length here.path) ]) ≡
            (elim o as (λ _. Found) [ Some n ↦ walk_from ns n p | None ↦ Missing here.number (length here.path) ])) [
              | Some n ↦ λ found living_.
                  ap (λ o. elim o as (λ _. Found) [ Some m ↦ walk_from left m p | None ↦ Missing here.number (length here.path) ])
                  (find_kept (λ m. same_path m.path (here.path ++ x ∷ [])) keep n ns found (kept_by n p living_)) ∙ walk_from_same n p living_
              | None ↦ λ none _.
                  ap (λ o. elim o as (λ _. Found) [ Some m ↦ walk_from left m p | None ↦ Missing here.number (length here.path) ])
                  (find_gone (λ m. same_path m.path (here.path ++ x ∷ [])) keep ns none)
            ] refl apart
      ] other

  pub walk_same : (p : List (List ℕ)) → (walk_fact (walk ns p) ≡ MeetsDying → ⊥) → walk left p ≡ walk ns p
  walk_same p other =
      elim (node_at ns []) as (λ o. node_at ns [] ≡ o
      → (walk_fact (elim o as (λ _. Found) [ Some root ↦ walk_from ns root p | None ↦ Missing 0 0 ]) ≡ MeetsDying → ⊥)
      → (elim (node_at left []) as (λ _. Found) [ Some root ↦ walk_from left root p | None ↦ Missing 0 0 ]) ≡
      (elim o as (λ _. Found) [ Some root ↦ walk_from ns root p | None ↦ Missing 0 0 ])) [
        | Some root ↦ λ found living_.
            ap (λ o. elim o as (λ _. Found) [ Some m ↦ walk_from left m p | None ↦ Missing 0 0 ])
            (find_kept (λ m. same_path m.path []) keep root ns found (kept_by root p living_)) ∙ walk_from_same root p living_
        | None ↦
            λ none _. ap (λ o. elim o as (λ _. Found) [ Some m ↦ walk_from left m p | None ↦ Missing 0 0 ]) (find_gone (λ m. same_path m.path []) keep ns none)
      ] refl other

-- the front of a path up to the name behind a shorter one
one_more : (q : List (List ℕ)) (x : List ℕ) (more : List (List ℕ)) → take (suc (length q)) (q ++ x ∷ more) ≡ q ++ x ∷ []
one_more [] x more = refl
one_more (y ∷ q) x more = ap (λ r. y ∷ r) (one_more q x more)

-- a trial of the missing child that a walk meets is in flight in the adapter that the walk meets
pub trial_at : (c : Config) (run : ℕ) (s : Standing) → IsSound c run s → (p : List (List ℕ)) → walk_fact (walk s.nodes p) ≡ MeetsMissing → (f : Flight)
    → In f s.flights → (q : List (List ℕ)) → f.child ≡ Some q
    → same_path q (child_met (walk s.nodes p) p) ≡ true → f.adapter ≡ adapter_met (walk s.nodes p)
trial_at c run s sound p missing f there q tries same = by_walk (walk s.nodes p) (walk_tells s.nodes s.count p sound.tree) missing same
  where
    by_walk : (found : Found) → Tells s.nodes p found → walk_fact found ≡ MeetsMissing → same_path q (child_met found p) ≡ true → f.adapter ≡ adapter_met found
    by_walk (Live k) tells is at = absurd (let e : Met ≡ MeetsMissing = is in cc)
    by_walk (Dying k) tells is at = absurd (let e : MeetsDying ≡ MeetsMissing = is in cc)
    by_walk (Missing k depth) tells is at =
        let (n, stands, numbered, living, deep, rest) = tells in
        let (x, more, whole, free) = rest in
        let child : take (suc depth) p ≡ n.path ++ x ∷ [] = ap₂ (λ d r. take (suc d) r) deep whole ∙ one_more n.path x more in
        let trial = sound.trials f q there tries in
        let paths : trial.parent.path ≡ n.path =
        front_same trial.parent.path n.path trial.name x (sym trial.child ∙ (path_same q (take (suc depth) p) at ∙ child)) in
        sym trial.numbered ∙ (ap (λ m. m.number) (sound.tree.path_alone trial.parent n trial.stands stands paths) ∙ numbered)
