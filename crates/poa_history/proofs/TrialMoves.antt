-- What the answer of an adapter activator tells of what stands: enough for the child that it makes.
use Rattle.std.specs.Prelude.{◌≡◌, ℕ, Bool, true, false, ◌==◌, if◌then◌else◌, List, find, Option, Some, None, option_and_then, refl}
use Rattle.std.proofs.Common.{sym, ap, ◌∙◌}
use Rattle.std.proofs.lemmas.Bool.{eqb-true}
use Rattle.poa_base.specs.declared.Config.{Config}
use Rattle.poa_base.specs.declared.Attempt.TheVariants.{Yes, No, Dying}
use Rattle.history_standing.specs.declared.node.Node.{Node}
use Rattle.history_standing.specs.declared.flight.Flight.{Flight}
use Rattle.history_standing.specs.Standings.{Standing}
use Rattle.history_standing.specs.Changes.{child_tried}
use Rattle.history_standing.specs.Templates.{template_or_root}
use Rattle.poa_history.specs.Turns.{node_of, attempt_by, attempt_at, attempt}
use Rattle.history_standing.specs.Trees.{IsMissingChild, MayCreate}
use Rattle.poa_history.specs.Sound.{IsSound}
use Rattle.history_standing.proofs.Finding.{find_in}
use Rattle.poa_history.proofs.ChangeSound.{MayMake}

module _ (c : Config) (run : ℕ) (s : Standing) (sound : IsSound c run s) where
  -- the adapter of the number, which is the parent of the missing child
  living_parent : (f : Flight) (p : List (List ℕ)) (n : Node) → IsMissingChild s.nodes f.adapter p → node_of s f.adapter ≡ Some n → n.dying ≡ false
      → MayCreate s.nodes p
  living_parent f p n missing found living =
      let there = find_in (λ m. m.number == f.adapter) n s.nodes found in
      let same : n ≡ missing.parent = sound.tree.number_alone n missing.parent there.0 missing.stands (eqb-true _ _ there.1 ∙ sym missing.numbered) in
      record {
        parent = missing.parent;
        name = missing.name;
        stands = missing.stands;
        living = ap (λ x. x.dying) (sym same) ∙ living;
        child = missing.child;
        free = missing.free;
      }

  -- an activator says yes for a parent that lives
  yes_lives : (f : Flight) (p : List (List ℕ)) (k : ℕ) (o : Option Node) → node_of s f.adapter ≡ o → attempt_at c s o p ≡ Yes k
      → IsMissingChild s.nodes f.adapter p → MayCreate s.nodes p
  yes_lives f p k None found yes_ missing = absurd (let e : Dying ≡ Yes k = yes_ in cc)
  yes_lives f p k (Some n) found yes_ missing = by_dying n.dying refl yes_
    where
      by_dying : (b : Bool) → n.dying ≡ b → (if b then Dying else attempt_by c s (template_or_root c n.path).children p) ≡ Yes k → MayCreate s.nodes p
      by_dying true dying yes' = absurd (let e : Dying ≡ Yes k = yes' in cc)
      by_dying false living yes' = living_parent f p n missing found living

  pub may_make : (r k : ℕ) → attempt c s r ≡ Yes k → MayMake c run s sound (child_tried s.flights (Some r))
  may_make r k yes_ p tried =
      elim (find (λ f. f.arrival == r) s.flights) as (λ o. find (λ f. f.arrival == r) s.flights ≡ o
      → (elim o [ None ↦ No | Some f ↦ elim f.child [ None ↦ No | Some child ↦ attempt_at c s (node_of s f.adapter) child ] ]) ≡ Yes k
      → option_and_then (λ f. f.child) o ≡ Some p → MayCreate s.nodes p) [
        | None ↦ λ _ _ none. absurd (let e : None ≡ Some p = none in cc)
        | Some f ↦ λ found answered tries.
            (let there = find_in (λ g. g.arrival == r) f s.flights found in
            yes_lives f p k (node_of s f.adapter) refl
            (ap (λ o. elim o [ None ↦ No | Some child ↦ attempt_at c s (node_of s f.adapter) child ]) (sym tries) ∙ answered) (sound.trials f p there.0 tries))
      ] refl yes_ tried
