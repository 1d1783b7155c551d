-- What the walk along a path tells of the adapters that stand.
use Rattle.std.specs.Prelude.{◌≡◌, ℕ, true, false, if◌then◌else◌, List, [], ◌∷◌, ◌++◌, length, Some, None, refl}
use Rattle.std.proofs.Common.{sym, ap, ◌∙◌}
use Rattle.std.proofs.lemmas.List.{append-nil}
use Rattle.std.proofs.Math.Seq.{append_snoc}
use Rattle.history_standing.specs.declared.node.Node.{Node}
use Rattle.history_standing.specs.Paths.{same_path}
use Rattle.history_standing.specs.Nodes.{node_at}
use Rattle.history_standing.specs.declared.found.Found.{Found}
use Rattle.history_standing.specs.declared.found.Found.TheVariants.{Live, Dying, Missing}
use Rattle.history_standing.specs.Walks.{walk_from, walk, adapter_met}
use Rattle.history_standing.specs.Trees.{In, IsTree, Stands, IsFreePath}
use Rattle.history_standing.proofs.Finding.{find_in, find_none, path_same, same_path_self}

-- the adapter at a path
pub node_found : (ns : List Node) (p : List (List ℕ)) (n : Node) → node_at ns p ≡ Some n → In n ns × (n.path ≡ p)
node_found ns p n found = let is = find_in (λ m. same_path m.path p) n ns found in (is.0, path_same n.path p is.1)

pub node_missing : (ns : List Node) (p : List (List ℕ)) → node_at ns p ≡ None → IsFreePath ns p
node_missing ns p none n is at = find_none (λ m. same_path m.path p) n ns none is (ap (λ q. same_path q p) at ∙ same_path_self p)

-- what a walk from an adapter that stands tells, by what it meets
abbrev pub Tells : List Node → List (List ℕ) → Found → Type 0
Tells ns whole (Live k) = (n : Node) × In n ns × (n.number ≡ k) × (n.path ≡ whole) × (n.dying ≡ false)
Tells ns whole (Dying k) = (n : Node) × In n ns × (n.number ≡ k) × (n.dying ≡ true)
Tells ns whole (Missing k depth) = (n : Node) × In n ns × (n.number ≡ k) × (n.dying ≡ false) × (depth ≡ length n.path)
    × ((x : List ℕ) × (more : List (List ℕ)) × (whole ≡ n.path ++ x ∷ more) × IsFreePath ns (n.path ++ x ∷ []))

walk_from_tells : (ns : List Node) (here : Node) (p whole : List (List ℕ)) → In here ns → whole ≡ here.path ++ p → Tells ns whole (walk_from ns here p)
walk_from_tells ns here [] whole is at =
    elim here.dying as (λ b. here.dying ≡ b → Tells ns whole (if b then Dying here.number else Live here.number)) [
      | true ↦ λ dying. (here, is, refl, dying)
      | false ↦ λ lives. (here, is, refl, sym (append-nil here.path) ∙ sym at, lives)
    ] refl
walk_from_tells ns here (x ∷ p) whole is at =
    elim here.dying as (λ b. here.dying ≡ b → Tells ns whole
    (if b then Dying here.number else
    (elim (node_at ns (here.path ++ x ∷ [])) [ Some n ↦ walk_from ns n p | None ↦ Missing here.number (length here.path) ]))) [
      | true ↦ λ dying. (here, is, refl, dying)
      | false ↦ λ lives. elim (node_at ns (here.path ++ x ∷ [])) as (λ found. node_at ns (here.path ++ x ∷ []) ≡ found → Tells ns whole
          (elim found [ Some n ↦ walk_from ns n p | None ↦ Missing here.number (length here.path) ])) [
            | Some n ↦ λ found. (let there = node_found ns (here.path ++ x ∷ []) n found in
                walk_from_tells ns n p whole there.0 (at ∙ (sym (append_snoc here.path x p) ∙ ap (λ q. q ++ p) (sym there.1))))
            | None ↦ λ none. (here, is, refl, lives, refl, (x, p, at, node_missing ns (here.path ++ x ∷ []) none))
          ] refl
    ] refl

pub walk_tells : (ns : List Node) (count : ℕ) (p : List (List ℕ)) → IsTree ns count → Tells ns p (walk ns p)
walk_tells ns count p tree =
    elim (node_at ns []) as (λ found. node_at ns [] ≡ found → Tells ns p (elim found [ Some root ↦ walk_from ns root p | None ↦ Missing 0 0 ])) [
      | Some root ↦ λ found. (let there = node_found ns [] root found in walk_from_tells ns root p p there.0 (ap (λ q. q ++ p) (sym there.1)))
      | None ↦ λ none. absurd (let root = tree.rooted in node_missing ns [] none root.0 root.1 root.2)
    ] refl

-- whatever the walk meets, that adapter stands
met_by : (ns : List Node) (p : List (List ℕ)) (found : Found) → Tells ns p found → Stands ns (adapter_met found)
met_by ns p (Live k) tells = (tells.0, tells.1, tells.2)
met_by ns p (Dying k) tells = (tells.0, tells.1, tells.2)
met_by ns p (Missing k depth) tells = (tells.0, tells.1, tells.2)

pub met_stands : (ns : List Node) (count : ℕ) (p : List (List ℕ)) → IsTree ns count → Stands ns (adapter_met (walk ns p))
met_stands ns count p tree = met_by ns p (walk ns p) (walk_tells ns count p tree)
