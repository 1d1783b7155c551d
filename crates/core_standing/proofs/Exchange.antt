-- Whether something lives at a path or below it: asked adapter by adapter, or activation by activation.
use Rattle.std.specs.Prelude.{◌≡◌, ℕ, Bool, true, ◌&&◌, ◌==◌, List}
use Rattle.std.specs.List.{list_any}
use Rattle.std.proofs.Common.{sym}
use Rattle.std.proofs.lemmas.Bool.{and_from, and_parts, eq-eqb, eqb-true}
use Rattle.history_standing.specs.declared.node.Node.{Node}
use Rattle.history_standing.specs.Nodes.{stands_under}
use Rattle.history_standing.specs.Paths.{leads_to}
use Rattle.history_standing.specs.declared.activation.Activation.{Activation}
use Rattle.history_standing.proofs.Members.{some_in, any_in}
use Rattle.history_standing.proofs.Tests.{same_test}

module _ (lives : Activation → Bool) (ns : List Node) (p : List (List ℕ)) (as' : List Activation) where
  -- one of the adapter lives
  abbrev has_one : Node → Activation → Bool
  has_one n a = (a.adapter == n.number) && lives a

  abbrev by_adapter : Node → Bool
  by_adapter n = leads_to p n.path && list_any (has_one n) as'

  abbrev by_activation : Activation → Bool
  by_activation a = lives a && stands_under ns p a.adapter

  found_again : list_any by_adapter ns ≡ true → list_any by_activation as' ≡ true
  found_again some_ =
      (let n = some_in by_adapter ns some_ in
      let under = and_parts (leads_to p n.0.path) (list_any (has_one n.0) as') n.2 in
      let a = some_in (has_one n.0) as' under.1 in
      let its = and_parts (a.0.adapter == n.0.number) (lives a.0) a.2 in
      let number = eq-eqb n.0.number a.0.adapter (sym (eqb-true a.0.adapter n.0.number its.0)) in
      any_in by_activation a.0 as' a.1
      (and_from (lives a.0) (stands_under ns p a.0.adapter) its.1
      (any_in (λ m. (m.number == a.0.adapter) && leads_to p m.path) n.0 ns n.1 (and_from (n.0.number == a.0.adapter) (leads_to p n.0.path) number under.0))))

  found_before : list_any by_activation as' ≡ true → list_any by_adapter ns ≡ true
  found_before some_ =
      (let a = some_in by_activation as' some_ in
      let under = and_parts (lives a.0) (stands_under ns p a.0.adapter) a.2 in
      let n = some_in (λ m. (m.number == a.0.adapter) && leads_to p m.path) ns under.1 in
      let its = and_parts (n.0.number == a.0.adapter) (leads_to p n.0.path) n.2 in
      let number = eq-eqb a.0.adapter n.0.number (sym (eqb-true n.0.number a.0.adapter its.0)) in
      any_in by_adapter n.0 ns n.1
      (and_from (leads_to p n.0.path) (list_any (has_one n.0) as') its.1
      (any_in (has_one n.0) a.0 as' a.1 (and_from (a.0.adapter == n.0.number) (lives a.0) number under.0))))

  pub exchanged : list_any by_adapter ns ≡ list_any by_activation as'
  exchanged = same_test (list_any by_adapter ns) (list_any by_activation as') found_again found_before
