-- What is sound stays sound, whatever an entry changes.
use Rattle.std.specs.Prelude.{◌≡◌, ℕ, suc, ◌<◌, Bool, true, false, List, [], ◌∷◌, ◌++◌, map, filter, length, Some}
use Rattle.std.proofs.Common.{inl, inr, sym, subst, ap, ap₂, ◌∙◌, arith, length-append}
use Rattle.std.proofs.lemmas.List.{length-map}
use Rattle.std.proofs.lemmas.Bool.{cases_Bool}
use Rattle.poa_base.specs.declared.Config.{Config}
use Rattle.history_standing.specs.declared.node.Node.{Node}
use Rattle.history_standing.specs.declared.flight.Flight.{Flight}
use Rattle.history_standing.specs.declared.activation.Activation.{Activation}
use Rattle.history_standing.specs.declared.activation.Phase.{Phase}
use Rattle.history_standing.specs.Standings.{Standing}
use Rattle.history_standing.specs.Ends.{is_over}
use Rattle.history_standing.specs.Commands.{is_bad_id}
use Rattle.history_standing.specs.Opening.{with_node, with_activation}
use Rattle.history_standing.specs.Changes.{with_flight, with_activations, with_dying}
use Rattle.history_standing.specs.Nodes.{marked, created}
use Rattle.history_standing.specs.Trees.{In, Stands, IsMissingChild, MayCreate}
use Rattle.poa_history.specs.Sound.{IsHome, IsSound}
use Rattle.history_standing.proofs.Members.{in_front, in_either, in_image, image_in, in_kept}
use Rattle.history_standing.proofs.TreeKept.{created_kept, marked_number, marked_path, marked_kept}

module _ (c : Config) (run : ℕ) (s : Standing) (sound : IsSound c run s) where
  -- no trial of the child is in flight
  abbrev pub IsUntried : List (List ℕ) → Type 0
  IsUntried p = (f : Flight) → In f s.flights → f.child ≡ Some p → ⊥

  module _ (p : List (List ℕ)) (may : MayCreate s.nodes p) (untried : IsUntried p) where
    abbrev fresh : Node
    fresh = record { number = s.count; path = p; dying = false }

    in_created : (n : Node) → In n s.nodes → In n (created s.count p s.nodes)
    in_created n is = in_front n fresh s.nodes is

    trials_created : (f : Flight) (q : List (List ℕ)) → In f s.flights → f.child ≡ Some q → IsMissingChild (created s.count p s.nodes) f.adapter q
    trials_created f q is tries =
        let was = sound.trials f q is tries in
        record {
          parent = was.parent;
          name = was.name;
          stands = in_created was.parent was.stands;
          numbered = was.numbered;
          child = was.child;
          free = λ n is' at. elim (in_either n fresh s.nodes is') [
            | inl a ↦ was.free n a at
            | inr a ↦ untried f is (tries ∙ ap (λ r. Some r) (sym at ∙ ap (λ y. y.path) a))
          ];
        }

    pub with_node_sound : IsSound c run (with_node p s)
    with_node_sound = record {
      tree = created_kept s.nodes s.count p sound.tree may;
      homes = λ f is. (let was = sound.homes f is in (was.0, in_created was.0 was.1, was.2));
      trials = trials_created;
      trial_alone = sound.trial_alone;
      owners =
          λ a is lives.
          (let was = sound.owners a is lives in
          record { node = was.node; stands = in_created was.node was.stands; numbered = was.numbered; placed = was.placed });
      counted = sound.counted;
      activation_alone = sound.activation_alone;
      life_alone = sound.life_alone;
      ids = sound.ids;
    }

  module _ (p : List (List ℕ)) where
    abbrev dying_nodes : List Node
    dying_nodes = map (marked p) s.nodes

    trials_marked : (f : Flight) (q : List (List ℕ)) → In f s.flights → f.child ≡ Some q → IsMissingChild dying_nodes f.adapter q
    trials_marked f q is tries =
        let was = sound.trials f q is tries in
        record {
          parent = marked p was.parent;
          name = was.name;
          stands = image_in (marked p) was.parent s.nodes was.stands;
          numbered = marked_number p was.parent ∙ was.numbered;
          child = was.child ∙ ap (λ r. r ++ was.name ∷ []) (sym (marked_path p was.parent));
          free = λ n is' at. (let a = in_image (marked p) n s.nodes is' in was.free a.0 a.1 (sym (ap (λ y. y.path) a.2 ∙ marked_path p a.0) ∙ at));
        }

    pub with_dying_sound : IsSound c run (with_dying p s)
    with_dying_sound = record {
      tree = marked_kept s.nodes s.count p sound.tree;
      homes = λ f is. (let was = sound.homes f is in (marked p was.0, image_in (marked p) was.0 s.nodes was.1, marked_number p was.0 ∙ was.2));
      trials = trials_marked;
      trial_alone = sound.trial_alone;
      owners =
          λ a is lives.
          (let was = sound.owners a is lives in
          record {
            node = marked p was.node;
            stands = image_in (marked p) was.node s.nodes was.stands;
            numbered = marked_number p was.node ∙ was.numbered;
            placed = marked_path p was.node ∙ was.placed;
          });
      counted = sound.counted;
      activation_alone = sound.activation_alone;
      life_alone = sound.life_alone;
      ids = sound.ids;
    }

  -- what may be in flight: in an adapter that stands; a trial of a missing child that isn't tried
  pub record MayFly (f : Flight) : Type 0 where
    pub home : Stands s.nodes f.adapter
    pub missing : (p : List (List ℕ)) → f.child ≡ Some p → IsMissingChild s.nodes f.adapter p
    pub untried : (p : List (List ℕ)) → f.child ≡ Some p → IsUntried p

  module _ (f : Flight) (may : MayFly f) where
    pub with_flight_sound : IsSound c run (with_flight f s)
    with_flight_sound = record {
      tree = sound.tree;
      homes = λ g is. elim (in_either g f s.flights is)
          [ inl a ↦ sound.homes g a | inr a ↦ subst (λ h. Stands s.nodes h.adapter) (sym a) may.home ];
      trials = λ g p is tries. elim (in_either g f s.flights is) [
        | inl a ↦ sound.trials g p a tries
        | inr a ↦ subst (λ h. IsMissingChild s.nodes h.adapter p) (sym a) (may.missing p (sym (ap (λ h. h.child) a) ∙ tries))
      ];
      trial_alone = λ g h p is is' tries tries'. elim (in_either g f s.flights is) [
        | inl a ↦ elim (in_either h f s.flights is') [
          | inl b ↦ sound.trial_alone g h p a b tries tries'
          | inr b ↦ absurd (may.untried p (sym (ap (λ x. x.child) b) ∙ tries') g a tries)
        ]
        | inr a ↦ elim (in_either h f s.flights is') [
          | inl b ↦ absurd (may.untried p (sym (ap (λ x. x.child) a) ∙ tries) h b tries')
          | inr b ↦ a ∙ sym b
        ]
      ];
      owners = sound.owners;
      counted = sound.counted;
      activation_alone = sound.activation_alone;
      life_alone = sound.life_alone;
      ids = sound.ids;
    }

  -- fewer are in flight
  module _ (stays : Flight → Bool) where
    was_flying : (f : Flight) → In f (filter stays s.flights) → In f s.flights
    was_flying f is = (in_kept stays f s.flights is).0

    pub fewer_flights_sound : IsSound c run (record s { flights = filter stays s.flights })
    fewer_flights_sound = record {
      tree = sound.tree;
      homes = λ f is. sound.homes f (was_flying f is);
      trials = λ f p is. sound.trials f p (was_flying f is);
      trial_alone = λ f g p is is'. sound.trial_alone f g p (was_flying f is) (was_flying g is');
      owners = sound.owners;
      counted = sound.counted;
      activation_alone = sound.activation_alone;
      life_alone = sound.life_alone;
      ids = sound.ids;
    }

  -- an activation may begin: its adapter stands, and every earlier one of its id is over
  pub record MayLive (k : ℕ) (p : List (List ℕ)) (oid : List ℕ) : Type 0 where
    pub node : Node
    pub stands : In node s.nodes
    pub numbered : node.number ≡ k
    pub placed : node.path ≡ p
    pub over : (a : Activation) → In a s.activations → a.adapter ≡ k → a.oid ≡ oid → is_over c a ≡ true
    pub made : is_bad_id c run s.made p oid ≡ false

  module _ (k : ℕ) (p : List (List ℕ)) (oid : List ℕ) (phase : Phase) (may : MayLive k p oid) where
    abbrev begun : Activation
    begun = record {
      number = length s.activations;
      adapter = k;
      path = p;
      oid = oid;
      phase = phase;
      ending = false;
      quiet = false;
      out = false;
      cleanup = false;
      remaining = false;
      etherealized = false;
    }

    one_longer : length (s.activations ++ begun ∷ []) ≡ suc (length s.activations)
    one_longer = (let e = length-append s.activations (begun ∷ []) in omega arith)

    counted_begun : (a : Activation) → In a (s.activations ++ begun ∷ []) → a.number < length (s.activations ++ begun ∷ [])
    counted_begun a is =
        elim (in_either a begun s.activations is) [
          | inl was ↦ (let low = sound.counted a was in let e = one_longer in omega arith)
          | inr same ↦ (let e : a.number ≡ length s.activations = ap (λ x. x.number) same in let f = one_longer in omega arith)
        ]

    activation_alone_begun : (a b : Activation) → In a (s.activations ++ begun ∷ []) → In b (s.activations ++ begun ∷ []) → a.number ≡ b.number → a ≡ b
    activation_alone_begun a b is is' same =
        elim (in_either a begun s.activations is) [
          | inl was ↦ elim (in_either b begun s.activations is') [
            | inl was' ↦ sound.activation_alone a b was was' same
            | inr new ↦ absurd (let low = sound.counted a was in let e : b.number ≡ length s.activations = ap (λ x. x.number) new in omega arith)
          ]
          | inr new ↦ elim (in_either b begun s.activations is') [
            | inl was' ↦ absurd (let low = sound.counted b was' in let e : a.number ≡ length s.activations = ap (λ x. x.number) new in omega arith)
            | inr new' ↦ new ∙ sym new'
          ]
        ]

    ended_before : (a b : Activation) → In a s.activations → b ≡ begun → a.adapter ≡ b.adapter → a.oid ≡ b.oid → is_over c a ≡ false → ⊥
    ended_before a b was new same_adapter same_oid lives =
        let e : true ≡ false = sym (may.over a was (same_adapter ∙ ap (λ x. x.adapter) new) (same_oid ∙ ap (λ x. x.oid) new)) ∙ lives in cc

    life_alone_begun : (a b : Activation) → In a (s.activations ++ begun ∷ []) → In b (s.activations ++ begun ∷ []) → a.adapter ≡ b.adapter → a.oid ≡ b.oid
        → is_over c a ≡ false → is_over c b ≡ false → a ≡ b
    life_alone_begun a b is is' same_adapter same_oid lives lives' =
        elim (in_either a begun s.activations is) [
          | inl was ↦ elim (in_either b begun s.activations is') [
            | inl was' ↦ sound.life_alone a b was was' same_adapter same_oid lives lives'
            | inr new ↦ absurd (ended_before a b was new same_adapter same_oid lives)
          ]
          | inr new ↦ elim (in_either b begun s.activations is') [
            | inl was' ↦ absurd (ended_before b a was' new (sym same_adapter) (sym same_oid) lives')
            | inr new' ↦ new ∙ sym new'
          ]
        ]

    home_begun : IsHome s.nodes begun
    home_begun = record { node = may.node; stands = may.stands; numbered = may.numbered; placed = may.placed }

    pub with_activation_sound : IsSound c run (with_activation k p oid phase s)
    with_activation_sound = record {
      tree = sound.tree;
      homes = sound.homes;
      trials = sound.trials;
      trial_alone = sound.trial_alone;
      owners = λ a is lives. elim (in_either a begun s.activations is)
          [ inl was ↦ sound.owners a was lives | inr new ↦ subst (λ x. IsHome s.nodes x) (sym new) home_begun ];
      counted = counted_begun;
      activation_alone = activation_alone_begun;
      life_alone = life_alone_begun;
      ids = λ a is. elim (in_either a begun s.activations is)
          [ inl was ↦ sound.ids a was | inr new ↦ subst (λ x. is_bad_id c run s.made x.path x.oid ≡ false) (sym new) may.made ];
    }

  -- what changes an activation leaves its number, adapter, path and id, and what is over stays so
  pub record Follows (f : Activation → Activation) : Type 0 where
    pub number_kept : (a : Activation) → (f a).number ≡ a.number
    pub adapter_kept : (a : Activation) → (f a).adapter ≡ a.adapter
    pub path_kept : (a : Activation) → (f a).path ≡ a.path
    pub oid_kept : (a : Activation) → (f a).oid ≡ a.oid
    pub over_kept : (a : Activation) → In a s.activations → is_over c a ≡ true → is_over c (f a) ≡ true

  module _ (f : Activation → Activation) (follows : Follows f) where
    not_over_before : (a : Activation) → In a s.activations → is_over c (f a) ≡ false → is_over c a ≡ false
    not_over_before a is lives =
        elim (cases_Bool (is_over c a))
        [ inl over ↦ absurd (let e : true ≡ false = sym (follows.over_kept a is over) ∙ lives in cc) | inr still ↦ still ]

    number_of_image : (a : Activation) (b : Activation) → b ≡ f a → b.number ≡ a.number
    number_of_image a b same = ap (λ x. x.number) same ∙ follows.number_kept a

    counted_after : (a : Activation) → In a (map f s.activations) → a.number < length (map f s.activations)
    counted_after a is =
        let was = in_image f a s.activations is in
        subst (λ n. a.number < n) (sym (length-map s.activations f))
        (subst (λ n. n < length s.activations) (sym (number_of_image was.0 a was.2)) (sound.counted was.0 was.1))

    activation_alone_after : (a b : Activation) → In a (map f s.activations) → In b (map f s.activations) → a.number ≡ b.number → a ≡ b
    activation_alone_after a b is is' same =
        let was = in_image f a s.activations is in
        let was' = in_image f b s.activations is' in
        was.2 ∙ (ap f (sound.activation_alone was.0 was'.0 was.1 was'.1 (sym (number_of_image was.0 a was.2) ∙ (same ∙ number_of_image was'.0 b was'.2)))
        ∙ sym was'.2)

    life_alone_after : (a b : Activation) → In a (map f s.activations) → In b (map f s.activations) → a.adapter ≡ b.adapter → a.oid ≡ b.oid
        → is_over c a ≡ false → is_over c b ≡ false → a ≡ b
    life_alone_after a b is is' same_adapter same_oid lives lives' =
        let was = in_image f a s.activations is in
        let was' = in_image f b s.activations is' in
        was.2
        ∙ (ap f (sound.life_alone was.0 was'.0 was.1 was'.1
        (sym (ap (λ x. x.adapter) was.2 ∙ follows.adapter_kept was.0) ∙ (same_adapter ∙ (ap (λ x. x.adapter) was'.2 ∙ follows.adapter_kept was'.0)))
        (sym (ap (λ x. x.oid) was.2 ∙ follows.oid_kept was.0) ∙ (same_oid ∙ (ap (λ x. x.oid) was'.2 ∙ follows.oid_kept was'.0)))
        (not_over_before was.0 was.1 (ap (λ x. is_over c x) (sym was.2) ∙ lives))
        (not_over_before was'.0 was'.1 (ap (λ x. is_over c x) (sym was'.2) ∙ lives')))
        ∙ sym was'.2)

    owners_after : (a : Activation) → In a (map f s.activations) → is_over c a ≡ false → IsHome s.nodes a
    owners_after a is lives =
        let was = in_image f a s.activations is in
        let home = sound.owners was.0 was.1 (not_over_before was.0 was.1 (ap (λ x. is_over c x) (sym was.2) ∙ lives)) in
        record {
          node = home.node;
          stands = home.stands;
          numbered = home.numbered ∙ sym (ap (λ x. x.adapter) was.2 ∙ follows.adapter_kept was.0);
          placed = home.placed ∙ sym (ap (λ x. x.path) was.2 ∙ follows.path_kept was.0);
        }

    pub with_activations_sound : IsSound c run (with_activations f s)
    with_activations_sound = record {
      tree = sound.tree;
      homes = sound.homes;
      trials = sound.trials;
      trial_alone = sound.trial_alone;
      owners = owners_after;
      counted = counted_after;
      activation_alone = activation_alone_after;
      life_alone = life_alone_after;
      ids = λ a is.
          (let was = in_image f a s.activations is in
          ap₂ (λ q i. is_bad_id c run s.made q i) (ap (λ x. x.path) was.2 ∙ follows.path_kept was.0) (ap (λ x. x.oid) was.2 ∙ follows.oid_kept was.0)
          ∙ sound.ids was.0 was.1);
    }
