-- The configured objects are activations of adapters that stand, with ids of their own.
use Rattle.std.specs.Prelude.{◌≡◌, ◌≢◌, ℕ, suc, ◌+◌, ◌^◌, ◌<◌, ◌≤◌, true, false, List, [], ◌∷◌, ◌++◌, length, Some, None, is_some, is_none, ◌⊎◌, refl}
use Rattle.std.proofs.Common.{inl, inr, sym, subst, ap, ap₂, ◌∙◌, arith, append-nil}
use Rattle.std.proofs.Math.Seq.{append_snoc}
use Rattle.std.proofs.lemmas.Bool.{and_parts, true≢false, false_from_ne_true}
use Rattle.poa_base.specs.declared.Config.{Config}
use Rattle.poa_base.specs.declared.ObjectConf.{ObjectConf}
use Rattle.poa_base.specs.declared.Sid.{Sid}
use Rattle.poa_base.specs.declared.Sid.TheVariants.{Named}
use Rattle.poa_policy.specs.Entries.{EachAfter}
use Rattle.poa_policy.specs.Objects.{IsObject, id_key, servant_key}
use Rattle.poa_policy.specs.Parents.{IsBoot}
use Rattle.poa_policy.specs.Kept.{KeepsRules}
use Rattle.history_standing.specs.declared.node.Node.{Node}
use Rattle.history_standing.specs.Nodes.{node_at}
use Rattle.history_standing.specs.Trees.{In}
use Rattle.history_standing.proofs.Members.{in_front, in_back, in_either}
use Rattle.history_standing.proofs.WalkStands.{node_found, node_missing}
use Rattle.history_standing.specs.declared.activation.Activation.{Activation}
use Rattle.history_standing.specs.declared.activation.Phase.TheVariants.{Complete}
use Rattle.history_standing.specs.Templates.{policies_at, makes_ids, is_unique}
use Rattle.history_standing.specs.Standings.{Standing}
use Rattle.history_standing.specs.Opening.{number_at, with_activation, with_made, made_id, with_object, with_objects}
use Rattle.poa_history.specs.Alone.{IsMappedAlone}
use Rattle.poa_history.specs.Sound.{IsHome, IsSound}
use Rattle.poa_history.proofs.SoundKept.{MayLive, with_activation_sound}
use Rattle.poa_history.proofs.ChangeSound.{with_made_sound}
use Rattle.poa_history.proofs.CommandMoves.{number_live}
use Rattle.poa_history.proofs.IdsMade.{fresh_ids, next_fits}
use Rattle.history_laws.proofs.Entries.{all_in}
use Rattle.history_laws.proofs.Policies.{not_both, home_is, home_boots}

module _ (c : Config) (run : ℕ) (rules : KeepsRules c) where
  -- the activation is that of the object
  pub record IsOf (o : ObjectConf) (a : Activation) : Type 0 where
    pub placed : a.path ≡ o.adapter
    pub served : a.phase ≡ Complete (Named o.servant)
    pub named : (o.oid ≡ Some a.oid) ⊎ (makes_ids (policies_at c o.adapter) ≡ true)

  -- what stands once these objects are through: each activation is one of them, at its home
  pub record IsActive (done : List ObjectConf) (s : Standing) : Type 0 where
    pub stood : (p : List (List ℕ)) → (p ≡ []) ⊎ IsBoot c.adapters p → (n : Node) × In n s.nodes × (n.path ≡ p)
    pub housed : (a : Activation) → In a s.activations → IsHome s.nodes a
    pub whose : (a : Activation) → In a s.activations → (o : ObjectConf) × In o done × IsOf o a
    pub mapped : IsMappedAlone c s

  number_stands : (s : Standing) → IsSound c run s → (n : Node) → In n s.nodes → (p : List (List ℕ)) → n.path ≡ p → n.number ≡ number_at s p
  number_stands s sound n is p at =
      number_live s p n (elim (node_at s.nodes p) as (λ o. node_at s.nodes p ≡ o → o ≡ Some n) [
        | None ↦ λ none. absurd (node_missing s.nodes p none n is at)
        | Some m ↦ λ found. (let there = node_found s.nodes p m found in ap (λ x. Some x) (sound.tree.path_alone m n there.0 is (there.1 ∙ sym at)))
      ] refl)

  module _ (done : List ObjectConf) (o : ObjectConf) (s : Standing) (sound : IsSound c run s) (active : IsActive done s)
      (rule : IsObject c.adapters (length c.servants) done o) where
    home : (n : Node) × In n s.nodes × (n.path ≡ o.adapter)
    home = active.stood o.adapter (home_boots c rules o.adapter rule.policies rule.home)

    home_number : home.0.number ≡ number_at s o.adapter
    home_number = number_stands s sound home.0 home.1 o.adapter home.2

    -- an activation of this adapter has its path
    same_place : (a : Activation) → In a s.activations → a.adapter ≡ number_at s o.adapter → a.path ≡ o.adapter
    same_place a there at =
        let its = active.housed a there in
        let same : its.node ≡ home.0 = sound.tree.number_alone its.node home.0 its.stands home.1 (its.numbered ∙ (at ∙ sym home_number)) in
        sym its.placed ∙ (ap (λ n. n.path) same ∙ home.2)

    makes_is : makes_ids (policies_at c o.adapter) ≡ is_none o.oid
    makes_is = (home_is c rules o.adapter rule.policies rule.home).0 ∙ sym rule.id

    -- under UNIQUE_ID no activation of this adapter has its servant
    taken_by_none : (a : Activation) (t : Sid) → In a s.activations → a.adapter ≡ number_at s o.adapter → is_unique (policies_at c o.adapter) ≡ true
        → a.phase ≡ Complete t → Complete (Named o.servant) ≡ Complete t → ⊥
    taken_by_none a t there at unique has same =
        let (d, before, its) = active.whose a there in
        let servants : Complete (Named d.servant) ≡ Complete (Named o.servant) = sym its.served ∙ (has ∙ sym same) in
        let servant : d.servant ≡ o.servant = cc in
        elim rule.alone [
          | inl multiple ↦ not_both rule.policies.uniqueness (sym (home_is c rules o.adapter rule.policies rule.home).1 ∙ unique) multiple
          | inr new ↦ all_in (λ e. servant_key e ≢ servant_key o) done d new before (ap₂ (λ p k. (p, k)) (sym its.placed ∙ same_place a there at) servant)
        ]

    module _ (oid : List ℕ) (named : (o.oid ≡ Some oid) ⊎ (makes_ids (policies_at c o.adapter) ≡ true)) where
      abbrev begun : Activation
      begun = record {
        number = length s.activations;
        adapter = number_at s o.adapter;
        path = o.adapter;
        oid = oid;
        phase = Complete (Named o.servant);
        ending = false;
        quiet = false;
        out = false;
        cleanup = false;
        remaining = false;
        etherealized = false;
      }

      begun_home : IsHome s.nodes begun
      begun_home = record { node = home.0; stands = home.1; numbered = home_number; placed = home.2 }

      begun_of : IsOf o begun
      begun_of = record { placed = refl; served = refl; named = named }

      mapped_begun : IsMappedAlone c (with_activation (number_at s o.adapter) o.adapter oid (Complete (Named o.servant)) s)
      mapped_begun a b t a_in b_in at unique a_mapped b_mapped a_has b_has =
          elim (in_either a begun s.activations a_in) [
            | inl was ↦ elim (in_either b begun s.activations b_in) [
              | inl was' ↦ active.mapped a b t was was' at unique a_mapped b_mapped a_has b_has
              | inr new ↦ (let here : a.adapter ≡ number_at s o.adapter = at ∙ ap (λ x. x.adapter) new in
                  absurd (taken_by_none a t was here (subst (λ p. is_unique (policies_at c p) ≡ true) (same_place a was here) unique) a_has
                  (sym (ap (λ x. x.phase) new) ∙ b_has)))
            ]
            | inr new ↦ elim (in_either b begun s.activations b_in) [
              | inl was' ↦ (let here : b.adapter ≡ number_at s o.adapter = sym at ∙ ap (λ x. x.adapter) new in
                  absurd (taken_by_none b t was' here (subst (λ p. is_unique (policies_at c p) ≡ true) (ap (λ x. x.path) new) unique) b_has
                  (sym (ap (λ x. x.phase) new) ∙ a_has)))
              | inr new' ↦ new ∙ sym new'
            ]
          ]

      begun_active : IsActive (done ++ o ∷ []) (with_activation (number_at s o.adapter) o.adapter oid (Complete (Named o.servant)) s)
      begun_active = record {
        stood = active.stood;
        housed =
            λ a there. elim (in_either a begun s.activations there)
            [ inl was ↦ active.housed a was | inr new ↦ subst (λ x. IsHome s.nodes x) (sym new) begun_home ];
        whose = λ a there. elim (in_either a begun s.activations there) [
          | inl was ↦ (let (d, before, its) = active.whose a was in (d, in_front d o done before, its))
          | inr new ↦ (o, in_back o done, subst (λ x. IsOf o x) (sym new) begun_of)
        ];
        mapped = mapped_begun;
      }

    -- a configured id is new in its adapter
    may_live : (oid : List ℕ) → o.oid ≡ Some oid → MayLive c run s sound (number_at s o.adapter) o.adapter oid
    may_live oid has =
        let own : makes_ids (policies_at c o.adapter) ≡ false = makes_is ∙ ap is_none has in
        record {
          node = home.0;
          stands = home.1;
          numbered = home_number;
          placed = home.2;
          over = λ a there at of_id. absurd (let (d, before, its) = active.whose a there in
              let adapters : d.adapter ≡ o.adapter = sym its.placed ∙ same_place a there at in
              elim its.named [
                | inl same ↦
                    all_in (λ e. id_key e ≢ id_key o) done d (rule.new (ap is_some has)) before
                    (ap₂ (λ p i. (p, i)) adapters (same ∙ (ap (λ i. Some i) of_id ∙ sym has)))
                | inr makes ↦ true≢false (sym makes ∙ (ap (λ p. makes_ids (policies_at c p)) adapters ∙ own))
              ]);
          made = false_from_ne_true _ (λ bad. true≢false (sym (and_parts _ _ bad).0 ∙ own));
        }

    -- the next system-made id is new
    may_live_made : run < 2 ^ 32 → suc s.made < 2 ^ 32 → o.oid ≡ None
        → MayLive c run (with_made s) (with_made_sound c run s sound) (number_at s o.adapter) o.adapter (made_id run (suc s.made))
    may_live_made small_run small has =
        let makes : makes_ids (policies_at c o.adapter) ≡ true = makes_is ∙ ap is_none has in
        record {
          node = home.0;
          stands = home.1;
          numbered = home_number;
          placed = home.2;
          over = λ a there at of_id. fresh_ids c run s sound small_run small home.0 home.1
              (subst (λ p. makes_ids (policies_at c p) ≡ true) (sym home.2) makes) a there (at ∙ sym home_number) of_id;
          made = next_fits c run s sound small_run small o.adapter;
        }

  made_active : (done : List ObjectConf) (s : Standing) → IsActive done s → IsActive done (with_made s)
  made_active done s active = record { stood = active.stood; housed = active.housed; whose = active.whose; mapped = active.mapped }

  -- the objects so far, with room for the ids of so many more
  abbrev pub IsOpen : List ObjectConf → ℕ → Standing → Type 0
  IsOpen done more s = IsSound c run s × IsActive done s × (s.made + more ≤ 65536)

  object_opens : run < 2 ^ 32 → (done : List ObjectConf) (o : ObjectConf) (more : ℕ) (s : Standing) → IsOpen done (suc more) s
      → IsObject c.adapters (length c.servants) done o → IsOpen (done ++ o ∷ []) more (with_object run o s)
  object_opens small_run done o more s (sound, active, room) rule =
      elim o.oid as (λ oid. o.oid ≡ oid → IsOpen (done ++ o ∷ []) more
      (elim oid [
        | Some i ↦ with_activation (number_at s o.adapter) o.adapter i (Complete (Named o.servant)) s
        | None ↦ with_activation (number_at s o.adapter) o.adapter (made_id run (suc s.made)) (Complete (Named o.servant)) (with_made s)
      ])) [
        | Some i ↦ λ has. (
          with_activation_sound c run s sound (number_at s o.adapter) o.adapter i (Complete (Named o.servant)) (may_live done o s sound active rule i has),
          begun_active done o s sound active rule i (inl has),
          omega (arith, room),
        )
        | None ↦ λ has. (
          with_activation_sound c run (with_made s) (with_made_sound c run s sound) (number_at s o.adapter) o.adapter (made_id run (suc s.made))
              (Complete (Named o.servant)) (may_live_made done o s sound active rule small_run (omega (arith, room)) has),
          begun_active done o (with_made s) (with_made_sound c run s sound) (made_active done s active) rule (made_id run (suc s.made))
              (inr (makes_is done o s sound active rule ∙ ap is_none has)),
          omega (arith, room),
        )
      ] refl

  pub objects_open : run < 2 ^ 32 → (done os : List ObjectConf) (s : Standing) → EachAfter (IsObject c.adapters (length c.servants)) done os
      → IsOpen done (length os) s → IsOpen (done ++ os) 0 (with_objects run os s)
  objects_open small_run done [] s each open_ = subst (λ ds. IsOpen ds 0 s) (sym (append-nil done)) open_
  objects_open small_run done (o ∷ os) s each open_ =
      subst (λ ds. IsOpen ds 0 (with_objects run os (with_object run o s))) (append_snoc done o os)
      (objects_open small_run (done ++ o ∷ []) os (with_object run o s) each.1 (object_opens small_run done o (length os) s open_ each.0))
