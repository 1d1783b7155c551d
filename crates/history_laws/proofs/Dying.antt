-- What is in an adapter that is being destroyed is ending.
use Rattle.poa_base.specs.declared.Command.{Command}
use Rattle.poa_base.specs.declared.Command.TheVariants.{Activate, ActivateId, Bad as BadLine, Create, Deactivate, Destroy, Forward as ForwardLine, Manager, Preset as PresetLine, Reference, Shutdown, Unforward}
use Rattle.poa_base.specs.declared.Config.{Config}
use Rattle.poa_base.specs.declared.Entry.{Entry}
use Rattle.poa_base.specs.declared.Verdict.TheVariants.{Incarnate}
use Rattle.poa_history.proofs.ActivationsFrom.{IsBegun, activating, activating_id, activation_from, begun as activation_begun, incarnating, referring, stood as activation_stood}
use Rattle.poa_history.proofs.CommandMoves.{live_tells, number_live}
use Rattle.poa_history.proofs.CommandTells.{IsUntaken, untaken_activate, untaken_activate_id}
use Rattle.poa_history.proofs.DyingIs.{opening_live}
use Rattle.poa_history.proofs.EndingsAre.{endings_are}
use Rattle.poa_history.proofs.LegalSound.{legal_sound}
use Rattle.poa_history.proofs.NodesFrom.{new as node_new, node_before, stood as node_stood}
use Rattle.poa_history.proofs.Served.{served_by}
use Rattle.poa_history.proofs.SettledKept.{or_first}
use Rattle.poa_history.proofs.TurnTells.{admission_is}
use Rattle.poa_history.specs.Bounds.{IsWithinLimits}
use Rattle.history_standing.specs.Changes.{standing}
use Rattle.poa_history.specs.Destroyed.{destroys}
use Rattle.poa_history.specs.Endings.{ends, is_ended_by, was_ended}
use Rattle.poa_history.specs.Legal.{IsLegal, MayFollow}
use Rattle.history_standing.specs.Logs.{command_done}
use Rattle.history_standing.specs.Opening.{number_at}
use Rattle.poa_history.specs.Sound.{IsGiven, IsSound}
use Rattle.history_standing.specs.Standings.{Standing}
use Rattle.history_standing.specs.declared.activation.Activation.{Activation}
use Rattle.history_standing.specs.Nodes.{stands}
use Rattle.history_standing.specs.Paths.{leads_to}
use Rattle.history_standing.specs.Trees.{In}
use Rattle.history_standing.specs.declared.node.Node.{Node}
use Rattle.std.proofs.Common.{◌∙◌, ap, ap₂, arith, inl, inr, subst, sym}
use Rattle.std.proofs.lemmas.Bool.{eq-eqb, lt-ltb, or_cases, true≢false}
use Rattle.std.specs.Prelude.{◌&&◌, ◌==◌, ◌∷◌, ◌≡◌, List, None, Option, Some, [], false, length, refl, true, ℕ}
use Rattle.history_standing.proofs.Members.{any_in}

-- a command that destroys an adapter ends what is in it
destroy_ends : (c : Config) (s : Standing) (a : Activation) (m : Node) → In m s.nodes → m.number ≡ a.adapter → (d : Option Command) → destroys m.path d ≡ true
    → ends c s a d ≡ true
destroy_ends c s a m there at None is = absurd (let f : false ≡ true = is in cc)
destroy_ends c s a m there at (Some (Destroy p etherealize wait)) is =
    any_in (λ n. (n.number == a.adapter) && leads_to p n.path) m s.nodes there (ap₂ (λ x y. x && y) (eq-eqb m.number a.adapter at) is)
destroy_ends c s a m there at (Some Shutdown) is =
    any_in (λ n. (n.number == a.adapter) && leads_to [] n.path) m s.nodes there (ap₂ (λ x y. x && y) (eq-eqb m.number a.adapter at) refl)
destroy_ends c s a m there at (Some (Manager name order)) is = absurd (let f : false ≡ true = is in cc)
destroy_ends c s a m there at (Some (Create p)) is = absurd (let f : false ≡ true = is in cc)
destroy_ends c s a m there at (Some (Activate p servant)) is = absurd (let f : false ≡ true = is in cc)
destroy_ends c s a m there at (Some (ActivateId p oid servant)) is = absurd (let f : false ≡ true = is in cc)
destroy_ends c s a m there at (Some (Deactivate p oid)) is = absurd (let f : false ≡ true = is in cc)
destroy_ends c s a m there at (Some (Reference p servant)) is = absurd (let f : false ≡ true = is in cc)
destroy_ends c s a m there at (Some (PresetLine p servant)) is = absurd (let f : false ≡ true = is in cc)
destroy_ends c s a m there at (Some (ForwardLine p endpoint)) is = absurd (let f : false ≡ true = is in cc)
destroy_ends c s a m there at (Some (Unforward p)) is = absurd (let f : false ≡ true = is in cc)
destroy_ends c s a m there at (Some (BadLine word)) is = absurd (let f : false ≡ true = is in cc)

module _ (c : Config) (run limit : ℕ) (given : IsGiven c run) (within : IsWithinLimits c limit) where
  -- an activation begins in an adapter that isn't being destroyed, by an entry that destroys nothing
  begins_living : (past : List Entry) (e : Entry) → IsLegal c run limit (e ∷ past) → (b : Activation) → IsBegun c run past (standing c run past) e b
      → (m : Node) → In m (standing c run past).nodes → m.number ≡ b.adapter → (m.dying ≡ false)
      × ((p : List (List ℕ)) → destroys p (command_done past e) ≡ false)
  begins_living past e legal b fresh m there at =
      elim fresh.how [
        | incarnating w r n key is has adapter path oid phase ↦
            (let admission = admission_is c run past w r (Incarnate n) (subst (λ x. MayFollow c run limit past x) is legal.0) in
            let it = served_by c run past sound w r (Incarnate n) key refl admission.told has in
            (lives it.node it.stands (it.numbered ∙ sym adapter) it.living, λ p. ap (λ x. destroys p (command_done past x)) is))
        | activating p servant done adapter path oid phase ↦
            (at_live p adapter (untaken_activate c run past limit e p servant legal.0 done), λ q. ap (destroys q) done)
        | activating_id p oid' servant done adapter path oid phase ↦
            (at_live p adapter (untaken_activate_id c run past limit e p oid' servant legal.0 done), λ q. ap (destroys q) done)
        | referring p servant n k done live known implicit adapter path oid phase ↦
            (let tells = live_tells s p n live in (lives n tells.0 (number_live s p n tells.3 ∙ sym adapter) tells.2, λ q. ap (destroys q) done))
      ]
    where
      s : Standing
      s = standing c run past

      sound : IsSound c run s
      sound = legal_sound c run limit past given within legal.1

      lives : (n : Node) → In n s.nodes → n.number ≡ b.adapter → n.dying ≡ false → m.dying ≡ false
      lives n stands numbered living = ap (λ x. x.dying) (sound.tree.number_alone m n there stands (at ∙ sym numbered)) ∙ living

      at_live : (p : List (List ℕ)) {servant : List ℕ} → b.adapter ≡ number_at s p → IsUntaken c s p servant → m.dying ≡ false
      at_live p adapter it = (let tells = live_tells s p it.node it.lives in lives it.node tells.0 (number_live s p it.node tells.3 ∙ sym adapter) tells.2)

  pub dying_ends : (h : List Entry) → IsLegal c run limit h → (a : Activation) (n : Node) → In a (standing c run h).activations → In n (standing c run h).nodes
      → n.number ≡ a.adapter → n.dying ≡ true → a.ending ≡ true
  dying_ends [] legal a n a_in n_in at dying = absurd (true≢false (sym dying ∙ opening_live c run n n_in))
  dying_ends (e ∷ past) legal b n b_in n_in at dying =
      elim (node_before c run past e n n_in) [
        | node_new number living ↦ absurd (true≢false (sym dying ∙ living))
        | node_stood m was number path flag ↦ elim (or_cases (destroys m.path (command_done past e)) m.dying (sym flag ∙ dying)) [
          | inl now ↦ elim (activation_from c run past e b b_in) [
            | activation_begun fresh ↦ absurd (true≢false (sym now ∙ (begins_living past e legal b fresh m was (sym number ∙ at)).1 m.path))
            | activation_stood a is step ↦ (endings_are c run limit given within (e ∷ past) legal b b_in).0
                ∙ or_first (is_ended_by c run past e b) (was_ended c run past b)
                (ap₂ (λ x y. x && y)
                (lt-ltb b.number (length (standing c run past).activations)
                (let low = sound.counted a is in let same : b.number ≡ a.number = step.later.number in omega (arith, low, same)))
                (destroy_ends c (standing c run past) b m was (sym number ∙ at) (command_done past e) now))
          ]
          | inr before ↦ elim (activation_from c run past e b b_in) [
            | activation_begun fresh ↦ absurd (true≢false (sym before ∙ (begins_living past e legal b fresh m was (sym number ∙ at)).0))
            | activation_stood a is step ↦ step.later.ending (dying_ends past legal.1 a m is was (sym number ∙ (at ∙ step.later.adapter)) before)
          ]
        ]
      ]
    where
      sound : IsSound c run (standing c run past)
      sound = legal_sound c run limit past given within legal.1
