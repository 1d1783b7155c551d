-- What an entry doesn't touch stays where it is, behind a standing in which nothing is left to go.
use Rattle.std.specs.Prelude.{◌≡◌, ℕ, suc, Bool, true, false, not, ◌&&◌, ◌||◌, ◌==◌, cond, List, [], ◌∷◌, map, filter, Option, Some, None, refl}
use Rattle.std.proofs.Common.{inl, inr, sym, ap, ap₂, subst, ◌∙◌}
use Rattle.std.proofs.lemmas.Bool.{cases_Bool, cond_both, cond-true, cond-false, eq-eqb, eqb-true, false_from_ne_true, true≢false}
use Rattle.poa_base.specs.declared.Config.{Config}
use Rattle.history_standing.specs.declared.activation.Activation.{Activation}
use Rattle.history_standing.specs.declared.flight.Flight.{Flight}
use Rattle.poa_base.specs.declared.Attempt.{Attempt}
use Rattle.poa_base.specs.declared.Attempt.TheVariants.{Yes, No, Raised, Dying}
use Rattle.poa_base.specs.declared.Incarnation.{Incarnation}
use Rattle.poa_base.specs.declared.Incarnation.TheVariants.{Fresh, Named, Double, Forward, Raise}
use Rattle.poa_base.specs.declared.Sid.TheVariants.{Fresh as FreshServant, Named as NamedServant}
use Rattle.history_standing.specs.declared.activation.Phase.{Phase}
use Rattle.history_standing.specs.declared.activation.Phase.TheVariants.{Complete, Void}
use Rattle.history_standing.specs.declared.stage.Stage.TheVariants.{Incarnating}
use Rattle.poa_base.specs.declared.AdapterConf.{AdapterConf}
use Rattle.poa_base.specs.declared.ObjectConf.{ObjectConf}
use Rattle.poa_base.specs.declared.Entry.{Entry}
use Rattle.history_standing.specs.Opening.{made_id, number_at, root_alone, with_activation, with_boots, with_made, with_node, with_object, with_objects}
use Rattle.history_standing.specs.Paths.{is_root}
use Rattle.history_standing.specs.Changes.{at_number, changed, child_tried, come_to, servant_of, standing, with_activations, with_child, with_incarnated, with_tried, without_flight}
use Rattle.history_standing.specs.Ends.{is_left, let_out, settled}
use Rattle.history_standing.specs.Standings.{Standing, is_begun, is_complete, is_ending, is_used}
use Rattle.history_standing.specs.Templates.{has_activator}
use Rattle.history_standing.specs.Trees.{In}
use Rattle.core_standing.specs.Kept.{StandingAgrees}
use Rattle.core_standing.specs.Flying.{uses}
use Rattle.core_standing.specs.Touched.{Others, SameOthers, Still}
use Rattle.history_standing.proofs.Members.{image_in, in_either, in_image}
use Rattle.core_standing.proofs.Still.{still_in}

-- what was settled is so
pub settled_still : (c : Config) (s : Standing) → Still c (settled c s)
settled_still c s a there =
    (let from = in_image (let_out c s) a s.activations there in
    subst (λ x. let_out c (settled c s) x ≡ x) (sym from.2) (twice from.0))
  where
    twice : (b : Activation) → let_out c (settled c s) (let_out c s b) ≡ let_out c s b
    twice b =
        elim (is_left c s b) as (λ t. is_left c s b ≡ t
        → let_out c (settled c s) (cond t (record b { out = true }) b) ≡ cond t (record b { out = true }) b) [
          | true ↦ (λ is. cond-true (is_left c s b) (record b { out = true }) (record b { out = true }) is)
          | false ↦ (λ not_. cond-false (is_left c s b) (record b { out = true }) b not_)
        ] refl

-- where no flight of an arrival is of the number, it is used as much without them
pub used_without : (fs : List Flight) (r k : ℕ) → ((f : Flight) → In f fs → (f.arrival == r) ≡ true → uses k f ≡ false)
    → is_used (filter (λ f. not (f.arrival == r)) fs) k ≡ is_used fs k
used_without [] r k apart = refl
used_without (f ∷ fs) r k apart =
    elim (f.arrival == r) as (λ t. (f.arrival == r) ≡ t
    → is_used (cond (not t) (f ∷ filter (λ g. not (g.arrival == r)) fs) (filter (λ g. not (g.arrival == r)) fs)) k ≡ (uses k f || is_used fs k)) [
      | true ↦ (λ ends. used_without fs r k (λ g there. apart g (inr there)) ∙ ap (λ b. b || is_used fs k) (sym (apart f (inl refl) ends)))
      | false ↦ (λ _. ap (λ b. uses k f || b) (used_without fs r k (λ g there. apart g (inr there))))
    ] refl

pub still_others : (c : Config) (touched : ℕ → Bool) (s : Standing) → Still c s → Others c touched s
still_others c touched s still a there _ = still a there

-- what is in flight in an activation that isn't touched goes on, so it stays
pub ended_others : (c : Config) (touched : ℕ → Bool) (s : Standing) (r : Option ℕ)
    → ((f : Flight) (q : ℕ) → In f s.flights → r ≡ Some q → (f.arrival == q) ≡ true → (k : ℕ) → touched k ≡ false → uses k f ≡ false)
    → Others c touched s → Others c touched (without_flight r s)
ended_others c touched s None apart others a there untouched = others a there untouched
ended_others c touched s (Some r) apart others a there untouched =
    ap (λ u. cond (not (has_activator c a.path) && (is_complete a && (is_ending a && not u))) (record a { out = true }) a)
    (used_without s.flights r a.number (λ f in_ is. apart f r in_ refl is a.number untouched))
    ∙ others a there untouched

-- one that is changed is touched
pub same_changed : (touched : ℕ → Bool) (as' : List Activation) (n : ℕ) (f : Activation → Activation) → touched n ≡ true
    → ((a : Activation) → (f a).number ≡ a.number) → SameOthers touched as' (map (at_number n f) as')
same_changed touched as' n f own keeps = record {
  stood = λ a there untouched. (let from = in_image (at_number n f) a as' there in
      let b = from.0 in
      elim (cases_Bool (b.number == n)) [
        | inl hit ↦ absurd (is_own b.number hit
            (ap touched (sym (ap (λ (x : Activation). x.number) (from.2 ∙ cond-true (b.number == n) (f b) b hit) ∙ keeps b)) ∙ untouched))
        | inr miss ↦ subst (λ x. In x as') (sym (from.2 ∙ cond-false (b.number == n) (f b) b miss)) from.1
      ]);
  stays = λ a there untouched. elim (cases_Bool (a.number == n)) [
    | inl hit ↦ absurd (is_own a.number hit untouched)
    | inr miss ↦ subst (λ x. In x (map (at_number n f) as')) (cond-false (a.number == n) (f a) a miss) (image_in (at_number n f) a as' there)
  ];
}
  where
    is_own : (k : ℕ) → (k == n) ≡ true → touched k ≡ false → ⊥
    is_own k hit untouched = true≢false (sym own ∙ ap touched (sym (eqb-true k n hit)) ∙ untouched)

pub changed_others : (c : Config) (touched : ℕ → Bool) (s : Standing) (n : ℕ) (f : Activation → Activation) → touched n ≡ true
    → ((a : Activation) → (f a).number ≡ a.number)
    → Others c touched s → Others c touched (with_activations (at_number n f) s)
changed_others c touched s n f own keeps others a there untouched =
    others a ((same_changed touched s.activations n f own keeps).stood a there untouched) untouched

-- where none is touched, none goes
pub none_goes : (c : Config) (s : Standing) → Others c (λ k. false) s → (as' : List Activation) → ((a : Activation) → In a as' → In a s.activations)
    → as' ≡ map (let_out c s) as'
none_goes c s others [] there = refl
none_goes c s others (a ∷ as') there =
    ap₂ (λ x xs. x ∷ xs) (sym (others a (there a (inl refl)) refl)) (none_goes c s others as' (λ b in_. there b (inr in_)))

pub turned : (k n : ℕ) → (k == n) ≡ false → (n == k) ≡ false
turned k n miss = false_from_ne_true (n == k) (λ same. true≢false (sym (eq-eqb k n (sym (eqb-true n k same))) ∙ miss))

-- where one is, that one alone may
pub one_goes : (c : Config) (s : Standing) (n : ℕ) → Others c (λ k. n == k) s → (as' : List Activation) → ((a : Activation) → In a as' → In a s.activations)
    → map (at_number n (let_out c s)) as' ≡ map (let_out c s) as'
one_goes c s n others [] there = refl
one_goes c s n others (a ∷ as') there =
    ap₂ (λ x xs. x ∷ xs)
    (elim (cases_Bool (a.number == n)) [
      | inl hit ↦ cond-true (a.number == n) (let_out c s a) a hit
      | inr miss ↦ cond-false (a.number == n) (let_out c s a) a miss ∙ sym (others a (there a (inl refl)) (turned a.number n miss))
    ])
    (one_goes c s n others as' (λ b in_. there b (inr in_)))

-- what is no less than one has it
pub has_own : (touched : ℕ → Bool) (n : ℕ) → ((k : ℕ) → touched k ≡ false → (n == k) ≡ false) → touched n ≡ true
has_own touched n all =
    elim (cases_Bool (touched n)) [ inl is ↦ is | inr not_ ↦ absurd (true≢false (sym (eq-eqb n n refl) ∙ all n not_)) ]

come_keeps : (phase : Phase) (a : Activation) → (come_to phase a).number ≡ a.number
come_keeps phase a = cond_both (is_begun a) (record a { phase = phase }) a (λ (x : Activation). x.number ≡ a.number) (λ _. refl) (λ _. refl)

-- an incarnation that ends
pub incarnated_others : (c : Config) (touched : ℕ → Bool) (s : Standing) (r n : ℕ) (answer : Incarnation) → touched n ≡ true
    → ((f : Flight) (k : ℕ) → In f s.flights → (f.arrival == r) ≡ true → touched k ≡ false → uses k f ≡ false)
    → Still c s → Others c touched (with_incarnated c (Incarnating r n) answer s)
incarnated_others c touched s r n answer own apart still = by_answer answer
  where
    brought : (phase : Phase) → Others c touched (with_activations (at_number n (come_to phase)) s)
    brought phase = changed_others c touched s n (come_to phase) own (come_keeps phase) (still_others c touched s still)

    refused : Others c touched (without_flight (Some r) (with_activations (at_number n (come_to Void)) s))
    refused =
        ended_others c touched (with_activations (at_number n (come_to Void)) s) (Some r)
        (λ f q there same arrived k untouched. (let e : r ≡ q = (let x : Some r ≡ Some q = same in cc) in
        apart f k there (ap (λ x. f.arrival == x) e ∙ arrived) untouched)) (brought Void)

    by_answer : (answer : Incarnation) → Others c touched (with_incarnated c (Incarnating r n) answer s)
    by_answer (Fresh m) = brought (Complete (FreshServant n))
    by_answer (Named name) = brought (servant_of c name)
    by_answer Double = refused
    by_answer (Forward e) = refused
    by_answer (Raise x) = refused

pub incarnated_same : (c : Config) (touched : ℕ → Bool) (s : Standing) (r n : ℕ) (answer : Incarnation) → touched n ≡ true
    → SameOthers touched s.activations (with_incarnated c (Incarnating r n) answer s).activations
incarnated_same c touched s r n answer own = by_answer answer
  where
    brought : (phase : Phase) → SameOthers touched s.activations (map (at_number n (come_to phase)) s.activations)
    brought phase = same_changed touched s.activations n (come_to phase) own (come_keeps phase)

    by_answer : (answer : Incarnation) → SameOthers touched s.activations (with_incarnated c (Incarnating r n) answer s).activations
    by_answer (Fresh m) = brought (Complete (FreshServant n))
    by_answer (Named name) = brought (servant_of c name)
    by_answer Double = brought Void
    by_answer (Forward e) = brought Void
    by_answer (Raise x) = brought Void

-- none is
pub same_all : (touched : ℕ → Bool) (before after : List Activation) → after ≡ before → SameOthers touched before after
same_all touched before after is =
    record { stood = λ a there _. subst (In a) is there; stays = λ a there _. subst (In a) (sym is) there }

-- a child that is created
pub child_others : (c : Config) (touched : ℕ → Bool) (s : Standing) (child : Option (List (List ℕ))) → Others c touched s
    → Others c touched (with_child child s)
child_others c touched s None others = others
child_others c touched s (Some p) others = others

-- a trial that ends
pub tried_others : (c : Config) (touched : ℕ → Bool) (s : Standing) (r : Option ℕ) (answer : Attempt)
    → ((f : Flight) (q : ℕ) → In f s.flights → r ≡ Some q → (f.arrival == q) ≡ true → (k : ℕ) → touched k ≡ false → uses k f ≡ false)
    → Still c s → Others c touched (with_tried r answer s)
tried_others c touched s r answer apart still = by_answer answer
  where
    gone : Others c touched (without_flight r s)
    gone = ended_others c touched s r apart (still_others c touched s still)

    by_answer : (answer : Attempt) → Others c touched (with_tried r answer s)
    by_answer (Yes number) = child_others c touched (without_flight r s) (child_tried s.flights r) gone
    by_answer No = gone
    by_answer Raised = gone
    by_answer Dying = gone

-- ---- of what stands after a history none is left to go

never : (b : Bool) → (b && false) ≡ false
never true = refl
never false = refl

begun_still : (c : Config) (k : ℕ) (p : List (List ℕ)) (oid : List ℕ) (phase : Phase) (s : Standing) → Still c s → Still c (with_activation k p oid phase s)
begun_still c k p oid phase s still a there =
    elim (in_either a _ s.activations there) [
      | inl old ↦ still a old
      | inr new ↦ subst (λ x. let_out c (with_activation k p oid phase s) x ≡ x) (sym new)
          (cond-false _ _ _ (ap (λ b. not (has_activator c p) && b) (never _) ∙ never (not (has_activator c p))))
    ]

objects_still : (c : Config) (run : ℕ) (os : List ObjectConf) (s : Standing) → Still c s → Still c (with_objects run os s)
objects_still c run [] s still = still
objects_still c run (o ∷ os) s still =
    objects_still c run os (with_object run o s) (one o.oid)
  where
    one : (oid : Option (List ℕ)) → Still c (elim oid [
      | Some id ↦ with_activation (number_at s o.adapter) o.adapter id (Complete (NamedServant o.servant)) s
      | None ↦ with_activation (number_at s o.adapter) o.adapter (made_id run (suc s.made)) (Complete (NamedServant o.servant)) (with_made s)
    ])
    one (Some id) = begun_still c (number_at s o.adapter) o.adapter id (Complete (NamedServant o.servant)) s still
    one None = begun_still c (number_at s o.adapter) o.adapter (made_id run (suc s.made)) (Complete (NamedServant o.servant)) (with_made s) still

boots_still : (c : Config) (as' : List AdapterConf) (s : Standing) → Still c s → Still c (with_boots as' s)
boots_still c [] s still = still
boots_still c (a ∷ as') s still =
    boots_still c as' (cond (a.boot && not (is_root a.path)) (with_node a.path s) s)
    (cond_both (a.boot && not (is_root a.path)) (with_node a.path s) s (Still c) (λ _. still) (λ _. still))

pub standing_still : (c : Config) (run : ℕ) (h : List Entry) → Still c (standing c run h)
standing_still c run [] = objects_still c run c.objects (with_boots c.adapters root_alone) (boots_still c c.adapters root_alone (λ a none. absurd none))
standing_still c run (e ∷ past) = settled_still c (changed c run past e (standing c run past))

-- nor of what is kept of it
pub kept_still : (c : Config) (run : ℕ) (h : List Entry) (t : Standing) → StandingAgrees c run h t → Still c t
kept_still c run h t kept a there =
    elim (kept.stands.forgets.known a there) [
      | inl gone ↦ ap (let_out c t) gone ∙ still_in c t ∙ sym gone
      | inr in_ ↦ ap (λ (u : Standing). let_out c u a) kept.stands.same ∙ standing_still c run h a in_
    ]
