-- What stands at opening is what the configured objects say.
use Rattle.std.specs.Prelude.{◌≡◌, ℕ, zero, suc, ◌+◌, false, not, ◌&&◌, List, []}
use Rattle.std.specs.Prelude.{◌∷◌, length, take, Option, Some, None, slice_get, refl}
use Rattle.std.proofs.Common.{inl, inr, sym, subst, ap, ◌∙◌, arith, length-append}
use Rattle.std.proofs.lemmas.Bool.{cond_both}
use Rattle.poa_base.specs.declared.AdapterConf.{AdapterConf}
use Rattle.poa_base.specs.declared.Config.{Config}
use Rattle.poa_base.specs.declared.ObjectConf.{ObjectConf}
use Rattle.poa_base.specs.declared.Sid.TheVariants.{Named as NamedServant}
use Rattle.history_standing.specs.Paths.{is_root}
use Rattle.history_standing.specs.Trees.{In}
use Rattle.history_standing.proofs.Members.{in_either}
use Rattle.history_standing.specs.declared.activation.Activation.{Activation}
use Rattle.history_standing.specs.declared.activation.Phase.TheVariants.{Complete}
use Rattle.history_standing.specs.Changes.{standing}
use Rattle.history_standing.specs.Opening.{with_node, with_activation, with_made, made_id, number_at, with_boots, with_object, with_objects, root_alone}
use Rattle.history_standing.specs.Standings.{Standing}
use Rattle.poa_history.proofs.Untouched.{activations_in, made_in}
use Rattle.history_words.specs.Ordinals.{unnamed}

-- an activation is that of a configured object
pub record IsOpened (c : Config) (run : ℕ) (a : Activation) : Type 0 where
  pub object : ObjectConf
  pub found : slice_get c.objects a.number ≡ Some object
  pub phase : a.phase ≡ Complete (NamedServant object.servant)
  pub cleanup : a.cleanup ≡ false
  pub remaining : a.remaining ≡ false
  pub made : object.oid ≡ None → a.oid ≡ made_id run (suc (unnamed (take a.number c.objects)))

module _ (run : ℕ) where
  -- it stood before these objects, or is that of one of them
  data OpenedFrom (os : List ObjectConf) (s : Standing) (a : Activation) : Type 0 where
    before : In a s.activations → OpenedFrom os s a
    opened : (j : ℕ) (o : ObjectConf) → slice_get os j ≡ Some o → a.number ≡ length s.activations + j → a.phase ≡ Complete (NamedServant o.servant)
        → a.cleanup ≡ false → a.remaining ≡ false → (o.oid ≡ None → a.oid ≡ made_id run (suc (s.made + unnamed (take j os)))) → OpenedFrom os s a

  made_object : (o : ObjectConf) (s : Standing) (m : ℕ) → (with_object run o s).made + m ≡ s.made + (elim o.oid [ None ↦ suc m | Some oid ↦ m ])
  made_object o s m =
      elim o.oid as
      (λ oid. made_in
      (elim oid [
        | Some i ↦ with_activation (number_at s o.adapter) o.adapter i (Complete (NamedServant o.servant)) s
        | None ↦ with_activation
            (number_at s o.adapter) o.adapter (made_id run (suc s.made)) (Complete (NamedServant o.servant)) (with_made s)
      ]) + m ≡ s.made +
      (elim oid as (λ _. ℕ) [ None ↦ suc m | Some i ↦ m ]))
      [ Some i ↦ refl | None ↦ omega arith ]

  longer_object : (o : ObjectConf) (s : Standing) → length (with_object run o s).activations ≡ suc (length s.activations)
  longer_object o s =
      elim o.oid as
      (λ oid. length
      (activations_in
      (elim oid [
        | Some i ↦ with_activation (number_at s o.adapter) o.adapter i (Complete (NamedServant o.servant)) s
        | None ↦ with_activation
            (number_at s o.adapter) o.adapter (made_id run (suc s.made)) (Complete (NamedServant o.servant)) (with_made s)
      ])) ≡ suc (length s.activations)) [
        | Some i ↦ (let parts = length-append s.activations (one s i) in omega (arith, parts))
        | None ↦
            (let parts = length-append s.activations (one s (made_id run (suc s.made))) in omega (arith, parts))
      ]
    where
      one : (t : Standing) (i : List ℕ) → List Activation
      one t i =
          record {
            number = length t.activations;
            adapter = number_at t o.adapter;
            path = o.adapter;
            oid = i;
            phase = Complete (NamedServant o.servant);
            ending = false;
            quiet = false;
            out = false;
            cleanup = false;
            remaining = false;
            etherealized = false;
          } ∷ []

  object_opened : (o : ObjectConf) (os : List ObjectConf) (s : Standing) (a : Activation) → In a (with_object run o s).activations → OpenedFrom (o ∷ os) s a
  object_opened o os s a = by_oid o.oid refl
    where
      as_told : (i : List ℕ) → (o.oid ≡ None → i ≡ made_id run (suc (s.made + 0)))
          → In a (with_activation (number_at s o.adapter) o.adapter i (Complete (NamedServant o.servant)) s).activations → OpenedFrom (o ∷ os) s a
      as_told i is there =
          elim (in_either a
          (record {
            number = length s.activations;
            adapter = number_at s o.adapter;
            path = o.adapter;
            oid = i;
            phase = Complete (NamedServant o.servant);
            ending = false;
            quiet = false;
            out = false;
            cleanup = false;
            remaining = false;
            etherealized =
                false;
          }) s.activations there) [
            | inl was ↦ before was
            | inr made ↦ opened zero o refl (let same : a.number ≡ length s.activations = ap (λ x. x.number) made in omega (arith, same))
                (ap (λ x. x.phase) made) (ap (λ x. x.cleanup) made) (ap (λ x. x.remaining) made) (λ none. ap (λ x. x.oid) made ∙ is none)
          ]

      by_oid : (oid : Option (List ℕ)) → o.oid ≡ oid
          → In a (activations_in
          (elim oid [
            | Some i ↦ with_activation (number_at s o.adapter) o.adapter i (Complete (NamedServant o.servant)) s
            | None ↦ with_activation
                (number_at s o.adapter) o.adapter (made_id run (suc s.made)) (Complete (NamedServant o.servant)) (with_made s)
          ])) → OpenedFrom (o ∷ os) s a
      by_oid (Some i) at = as_told i (λ none. absurd (let e : Some i ≡ None = sym at ∙ none in cc))
      by_oid None at = as_told (made_id run (suc s.made)) (λ _. ap (λ n. made_id run (suc n)) (omega arith))

  objects_opened : (os : List ObjectConf) (s : Standing) (a : Activation) → In a (with_objects run os s).activations → OpenedFrom os s a
  objects_opened [] s a there = before there
  objects_opened (o ∷ os) s a there =
      elim (objects_opened os (with_object run o s) a there) [
        | before was ↦ object_opened o os s a was
        | opened j p found number phase cleanup remaining made ↦ opened (suc j) p found
            (let more = longer_object o s in omega (arith, number, more)) phase cleanup remaining
            (λ none. made none ∙ ap (λ n. made_id run (suc n)) (made_object o s (unnamed (take j os))))
      ]

  objects_made : (os : List ObjectConf) (s : Standing) → (with_objects run os s).made ≡ s.made + unnamed os
  objects_made [] s = omega arith
  objects_made (o ∷ os) s = objects_made os (with_object run o s) ∙ made_object o s (unnamed os)

-- the adapters that are created at opening begin no activation, and make no id
boots_leave : (as' : List AdapterConf) (s : Standing) → ((with_boots as' s).activations ≡ s.activations) × ((with_boots as' s).made ≡ s.made)
boots_leave [] s = (refl, refl)
boots_leave (a ∷ as') s =
    cond_both (a.boot && not (is_root a.path)) (with_node a.path s) s
    (λ t. ((with_boots as' t).activations ≡ s.activations) × ((with_boots as' t).made ≡ s.made))
    (λ _. boots_leave as' (with_node a.path s)) (λ _. boots_leave as' s)

nothing_before : (n : ℕ) → 0 + n ≡ n
nothing_before n = omega arith

module _ (c : Config) (run : ℕ) where
  pub opened_is : (a : Activation) → In a (standing c run []).activations → IsOpened c run a
  opened_is a there =
      let leave = boots_leave c.adapters root_alone in
      elim (objects_opened run c.objects (with_boots c.adapters root_alone) a there) [
        | before was ↦ absurd (subst (λ as'. In a as') leave.0 was)
        | opened j o found number phase cleanup remaining made ↦
            (let none : length (with_boots c.adapters root_alone).activations ≡ 0 = ap length leave.0 in
            let at : j ≡ a.number = omega (arith, number, none) in
            record {
              object = o;
              found = ap (slice_get c.objects) (sym at) ∙ found;
              phase = phase;
              cleanup = cleanup;
              remaining = remaining;
              made = λ none_. made none_
                  ∙ (ap (λ n. made_id run (suc (n + unnamed (take j c.objects)))) leave.1
                  ∙ (ap (λ n. made_id run (suc n)) (nothing_before (unnamed (take j c.objects)))
                  ∙ ap (λ n. made_id run (suc (unnamed (take n c.objects)))) at));
            })
      ]

  pub opening_made : (standing c run []).made ≡ unnamed c.objects
  opening_made =
      objects_made run c.objects (with_boots c.adapters root_alone)
      ∙ (ap (λ n. n + unnamed c.objects) (boots_leave c.adapters root_alone).1 ∙ nothing_before (unnamed c.objects))
