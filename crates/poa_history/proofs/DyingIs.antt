-- An adapter is being destroyed exactly where a destroy of it, or of one above it, was done since it was created.
use Rattle.std.specs.Prelude.{◌≡◌, ℕ, suc, ◌≤◌, true, false, not, ◌&&◌, ◌||◌, nat_lt, if◌then◌else◌, List, [], ◌∷◌, Some, None, refl}
use Rattle.std.proofs.Common.{inl, inr, sym, subst, ap, ap₂, ◌∙◌, arith}
use Rattle.std.proofs.lemmas.Bool.{cond_both, lt-ltb, false_from_ne_true, ltb-true}
use Rattle.poa_base.specs.declared.Config.{Config}
use Rattle.poa_base.specs.declared.AdapterConf.{AdapterConf}
use Rattle.poa_base.specs.declared.ObjectConf.{ObjectConf}
use Rattle.poa_base.specs.declared.Entry.{Entry}
use Rattle.poa_base.specs.declared.Sid.TheVariants.{Named as NamedServant}
use Rattle.history_standing.specs.declared.activation.Phase.TheVariants.{Complete}
use Rattle.history_standing.specs.declared.node.Node.{Node}
use Rattle.history_standing.specs.Paths.{is_root}
use Rattle.history_standing.specs.Trees.{In}
use Rattle.history_standing.specs.Standings.{Standing}
use Rattle.history_standing.specs.Opening.{with_node, with_activation, with_made, made_id, number_at, with_boots, with_object, with_objects, root_alone}
use Rattle.history_standing.specs.Changes.{standing}
use Rattle.history_standing.specs.Logs.{command_done}
use Rattle.poa_history.specs.Legal.{IsLegal}
use Rattle.poa_history.specs.Sound.{IsGiven}
use Rattle.poa_history.specs.Bounds.{IsWithinLimits}
use Rattle.poa_history.specs.Destroyed.{destroys, was_destroyed}
use Rattle.history_standing.proofs.Members.{in_either}
use Rattle.poa_history.proofs.NodesFrom.{stood, new, node_before, count_from}
use Rattle.poa_history.proofs.LegalSound.{legal_sound}
use Rattle.poa_history.proofs.Untouched.{nodes_in}

module _ (c : Config) (run : ℕ) where
  abbrev NoneDying : Standing → Type 0
  NoneDying s = (n : Node) → In n s.nodes → n.dying ≡ false

  boots_live : (as' : List AdapterConf) (s : Standing) → NoneDying s → NoneDying (with_boots as' s)
  boots_live [] s live = live
  boots_live (a ∷ as') s live =
      boots_live as' (if a.boot && not (is_root a.path) then with_node a.path s else s)
      (cond_both (a.boot && not (is_root a.path)) (with_node a.path s) s (λ t. NoneDying t)
      (λ _ n there. elim (in_either n (record { number = s.count; path = a.path; dying = false }) s.nodes there)
      [ inl was ↦ live n was | inr made ↦ ap (λ x. x.dying) made ])
      (λ _. live))

  object_nodes : (o : ObjectConf) (s : Standing) → (with_object run o s).nodes ≡ s.nodes
  object_nodes o s =
      elim o.oid as (λ oid. nodes_in
      (elim oid [
        | Some i ↦ with_activation (number_at s o.adapter) o.adapter i (Complete (NamedServant o.servant)) s
        | None ↦ with_activation (number_at s o.adapter) o.adapter (made_id run (suc s.made)) (Complete (NamedServant o.servant)) (with_made s)
      ]) ≡ s.nodes)
      [ Some i ↦ refl | None ↦ refl ]

  objects_nodes : (os : List ObjectConf) (s : Standing) → (with_objects run os s).nodes ≡ s.nodes
  objects_nodes [] s = refl
  objects_nodes (o ∷ os) s = objects_nodes os (with_object run o s) ∙ object_nodes o s

  pub opening_live : NoneDying (standing c run [])
  opening_live n there =
      boots_live c.adapters root_alone (λ m is. elim is [ inl same ↦ ap (λ x. x.dying) same | inr none ↦ absurd none ]) n
      (subst (λ ns. In n ns) (objects_nodes c.objects (with_boots c.adapters root_alone)) there)

  -- one that wasn't created yet was not destroyed
  not_yet : (h : List Entry) (k : ℕ) (p : List (List ℕ)) → (standing c run h).count ≤ k → was_destroyed c run h k p ≡ false
  not_yet [] k p above = refl
  not_yet (e ∷ past) k p above =
      let more = count_from c run past e (standing c run past) in
      let before : (standing c run past).count ≤ k = omega (arith, more, above) in
      let early : nat_lt k (standing c run past).count ≡ false =
      false_from_ne_true _ (λ later. let less = ltb-true k (standing c run past).count later in omega (arith, less, before)) in
      ap₂ (λ a b. (a && destroys p (command_done past e)) || b) early (not_yet past k p before)

  pub dying_is : (limit : ℕ) (h : List Entry) → IsGiven c run → IsWithinLimits c limit → IsLegal c run limit h → (n : Node) → In n (standing c run h).nodes
      → n.dying ≡ was_destroyed c run h n.number n.path
  dying_is limit [] given within legal n there = opening_live n there
  dying_is limit (e ∷ past) given within legal n there =
      elim (node_before c run past e n there) [
        | stood m was number path dying ↦
            (let created : nat_lt m.number (standing c run past).count ≡ true =
            lt-ltb _ _ ((legal_sound c run limit past given within legal.1).tree.numbered m was) in
            dying ∙ (ap₂ (λ a b. (a && destroys m.path (command_done past e)) || b) (sym created) (dying_is limit past given within legal.1 m was)
            ∙ ap₂ (λ k p. was_destroyed c run (e ∷ past) k p) (sym number) (sym path)))
        | new number living ↦
            (let early : nat_lt n.number (standing c run past).count ≡ false =
            false_from_ne_true _ (λ later. let less = ltb-true n.number (standing c run past).count later in omega (arith, less, number)) in
            living ∙ sym (ap₂ (λ a b. (a && destroys n.path (command_done past e)) || b) early (not_yet past n.number n.path (omega (arith, number)))))
      ]
