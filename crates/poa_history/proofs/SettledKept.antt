-- What has ended goes, and what is sound stays sound.
use Rattle.std.specs.Prelude.{◌≡◌, ℕ, Bool, true, false, not, ◌&&◌, ◌||◌, ◌==◌, List, [], ◌∷◌, map, filter, Some, refl}
use Rattle.std.specs.List.{list_any}
use Rattle.std.proofs.Common.{inl, inr, sym, ap, ap₂, ◌∙◌}
use Rattle.std.proofs.lemmas.Bool.{cases_Bool, cond_both, and_parts, or_cases, false_from_ne_true, eq-eqb}
use Rattle.poa_base.specs.declared.Config.{Config}
use Rattle.history_standing.specs.declared.node.Node.{Node}
use Rattle.history_standing.specs.declared.flight.Flight.{Flight}
use Rattle.history_standing.specs.declared.activation.Activation.{Activation}
use Rattle.history_standing.specs.Paths.{leads_to, is_root}
use Rattle.history_standing.specs.Templates.{has_activator}
use Rattle.history_standing.specs.Standings.{Standing, is_void}
use Rattle.history_standing.specs.Nodes.{stands_under}
use Rattle.history_standing.specs.Ends.{is_finished, is_over, is_left, let_out, is_clear, is_done_with, without_ended, settled}
use Rattle.history_standing.specs.Trees.{In, IsMissingChild, MayDrop}
use Rattle.poa_history.specs.Sound.{IsSound}
use Rattle.history_standing.proofs.Members.{in_kept, kept_in, any_in}
use Rattle.history_standing.proofs.Leading.{leads_through, leads_self}
use Rattle.history_standing.proofs.TreeKept.{dropped_kept}
use Rattle.poa_history.proofs.SoundKept.{Follows, with_activations_sound}
use Rattle.history_standing.proofs.Tests.{none_by, not_true, not_false}

-- where one test passes all that another does, and the first passes none, neither does the other
pub none_of_fewer : {A : Type 0} (test other : A → Bool) → ((x : A) → other x ≡ true → test x ≡ true) → (xs : List A) → list_any test xs ≡ false
    → list_any other xs ≡ false
none_of_fewer test other fewer [] none = refl
none_of_fewer test other fewer (x ∷ xs) none =
    let here : test x ≡ false = none_by test x (x ∷ xs) (inl refl) none in
    let there : list_any test xs ≡ false =
    false_from_ne_true (list_any test xs)
    (λ some. let e : false ≡ true = sym none ∙ (elim (test x) as (λ b. (b || list_any test xs) ≡ true) [ true ↦ refl | false ↦ some ]) in cc) in
    ap₂ (λ a b. a || b) (false_from_ne_true (other x) (λ passes. let e : false ≡ true = sym here ∙ fewer x passes in cc))
    (none_of_fewer test other fewer xs there)

pub or_first : (x y : Bool) → x ≡ true → (x || y) ≡ true
or_first true y e = refl
or_first false y e = absurd (let f : false ≡ true = e in cc)

pub or_second : (x y : Bool) → y ≡ true → (x || y) ≡ true
or_second true y e = refl
or_second false y e = e

-- letting activations out keeps what they are, and what is over stays so
module _ (c : Config) (run : ℕ) (s : Standing) (sound : IsSound c run s) where
  over_let_out : (a : Activation) → is_over c a ≡ true → is_over c (let_out c s a) ≡ true
  over_let_out a over =
      cond_both (is_left c s a) (record a { out = true }) a (λ b. is_over c b ≡ true)
      (λ _. elim (or_cases (is_void a) (is_finished c a) over) [
        | inl void ↦ or_first (is_void a) (is_finished c (record a { out = true })) void
        | inr finished ↦
            or_second (is_void a) (a.quiet || (not (has_activator c a.path) || a.etherealized))
            (and_parts a.out (a.quiet || (not (has_activator c a.path) || a.etherealized)) finished).1
      ])
      (λ _. over)

  follows_let_out : Follows c run s sound (let_out c s)
  follows_let_out = record {
    number_kept = λ a. cond_both (is_left c s a) (record a { out = true }) a (λ b. b.number ≡ a.number) (λ _. refl) (λ _. refl);
    adapter_kept = λ a. cond_both (is_left c s a) (record a { out = true }) a (λ b. b.adapter ≡ a.adapter) (λ _. refl) (λ _. refl);
    path_kept = λ a. cond_both (is_left c s a) (record a { out = true }) a (λ b. b.path ≡ a.path) (λ _. refl) (λ _. refl);
    oid_kept = λ a. cond_both (is_left c s a) (record a { out = true }) a (λ b. b.oid ≡ a.oid) (λ _. refl) (λ _. refl);
    over_kept = λ a is over. over_let_out a over;
  }

  pub let_out_sound : IsSound c run (record s { activations = map (let_out c s) s.activations })
  let_out_sound = with_activations_sound c run s sound (let_out c s) follows_let_out

-- what has ended may go: the root stays, and with an adapter goes all below it
module _ (c : Config) (run : ℕ) (s : Standing) (sound : IsSound c run s) where
  abbrev pub stays : Node → Bool
  stays n = is_root n.path || not (is_done_with c s n)

  under_longer : (p q : List (List ℕ)) (k : ℕ) → leads_to p q ≡ true → stands_under s.nodes q k ≡ true → stands_under s.nodes p k ≡ true
  under_longer p q k leads under = under_in s.nodes under
    where
      under_in : (ns : List Node) → stands_under ns q k ≡ true → stands_under ns p k ≡ true
      under_in [] is = is
      under_in (n ∷ ns) is =
          elim (or_cases ((n.number == k) && leads_to q n.path) (stands_under ns q k) is) [
            | inl here ↦
                (let parts = and_parts (n.number == k) (leads_to q n.path) here in
                or_first _ (stands_under ns p k) (ap₂ (λ a b. a && b) parts.0 (leads_through p q n.path leads parts.1)))
            | inr more ↦ or_second ((n.number == k) && leads_to p n.path) (stands_under ns p k) (under_in ns more)
          ]

  pub clear_longer : (p q : List (List ℕ)) → leads_to p q ≡ true → is_clear c s p ≡ true → is_clear c s q ≡ true
  clear_longer p q leads clear =
      let parts =
      and_parts (not (list_any (λ f. stands_under s.nodes p f.adapter) s.flights))
      (not (list_any (λ a. not (is_over c a) && stands_under s.nodes p a.adapter) s.activations)) clear in
      ap₂ (λ a b. a && b)
      (not_false (list_any (λ f. stands_under s.nodes q f.adapter) s.flights)
      (none_of_fewer (λ f. stands_under s.nodes p f.adapter) (λ f. stands_under s.nodes q f.adapter) (λ f. under_longer p q f.adapter leads) s.flights
      (not_true _ parts.0)))
      (not_false (list_any (λ a. not (is_over c a) && stands_under s.nodes q a.adapter) s.activations)
      (none_of_fewer (λ a. not (is_over c a) && stands_under s.nodes p a.adapter) (λ a. not (is_over c a) && stands_under s.nodes q a.adapter)
      (λ a both.
      (let two = and_parts (not (is_over c a)) (stands_under s.nodes q a.adapter) both in ap₂ (λ x y. x && y) two.0 (under_longer p q a.adapter leads two.1)))
      s.activations (not_true _ parts.1)))

  goes_parts : (n : Node) → stays n ≡ false → (is_root n.path ≡ false) × (n.dying ≡ true) × (is_clear c s n.path ≡ true)
  goes_parts n goes =
      elim (cases_Bool (is_root n.path)) [
        | inl root ↦ absurd (let e : true ≡ false = sym (or_first (is_root n.path) (not (is_done_with c s n)) root) ∙ goes in cc)
        | inr below ↦ elim (cases_Bool (is_done_with c s n)) [
          | inl done ↦ (let parts = and_parts n.dying (is_clear c s n.path) done in (below, parts.0, parts.1))
          | inr not_done ↦
              absurd (let e : true ≡ false = sym (or_second (is_root n.path) (not (is_done_with c s n)) (not_false (is_done_with c s n) not_done)) ∙ goes in cc)
        ]
      ]

  root_leads : (p q : List (List ℕ)) → leads_to p q ≡ true → is_root p ≡ false → is_root q ≡ false
  root_leads [] q leads below = absurd (let e : true ≡ false = below in cc)
  root_leads (x ∷ p) [] leads below = absurd (let e : false ≡ true = leads in cc)
  root_leads (x ∷ p) (y ∷ q) leads below = refl

  goes_by : (n : Node) → is_root n.path ≡ false → n.dying ≡ true → is_clear c s n.path ≡ true → stays n ≡ false
  goes_by n below dying clear = ap₂ (λ a b. a || not b) below (ap₂ (λ a b. a && b) dying clear)

  may_drop : MayDrop s.nodes stays
  may_drop = record {
    root = λ n is at. or_first (is_root n.path) (not (is_done_with c s n)) (ap is_root at);
    along = λ n m is is' leads goes.
        (let parts = goes_parts n goes in
        goes_by m (root_leads n.path m.path leads parts.0) (sound.tree.below n m is is' leads parts.1) (clear_longer n.path m.path leads parts.2));
  }

  -- the adapter in which something is in flight, or an activation isn't over, stays
  pub is_under_itself : (n : Node) (k : ℕ) → In n s.nodes → n.number ≡ k → stands_under s.nodes n.path k ≡ true
  is_under_itself n k is same = any_in (λ m. (m.number == k) && leads_to n.path m.path) n s.nodes is (ap₂ (λ a b. a && b) (eq-eqb _ _ same) (leads_self n.path))

  pub flight_stays : (f : Flight) (n : Node) → In f s.flights → In n s.nodes → n.number ≡ f.adapter → stays n ≡ true
  flight_stays f n is is' same =
      elim (cases_Bool (stays n)) [
        | inl stands ↦ stands
        | inr goes ↦ (let parts = goes_parts n goes in
            let none =
            not_true _
            (and_parts (not (list_any (λ g. stands_under s.nodes n.path g.adapter) s.flights))
            (not (list_any (λ a. not (is_over c a) && stands_under s.nodes n.path a.adapter) s.activations)) parts.2).0 in
            absurd (let e : false ≡ true =
            sym none ∙ any_in (λ g. stands_under s.nodes n.path g.adapter) f s.flights is (is_under_itself n f.adapter is' same) in cc))
      ]

  pub activation_stays : (a : Activation) (n : Node) → In a s.activations → is_over c a ≡ false → In n s.nodes → n.number ≡ a.adapter → stays n ≡ true
  activation_stays a n is lives is' same =
      elim (cases_Bool (stays n)) [
        | inl stands ↦ stands
        | inr goes ↦ (let parts = goes_parts n goes in
            let none =
            not_true _
            (and_parts (not (list_any (λ g. stands_under s.nodes n.path g.adapter) s.flights))
            (not (list_any (λ b. not (is_over c b) && stands_under s.nodes n.path b.adapter) s.activations)) parts.2).1 in
            absurd (let e : false ≡ true =
            sym none ∙ any_in (λ b. not (is_over c b) && stands_under s.nodes n.path b.adapter) a s.activations is
            (ap₂ (λ x y. x && y) (not_false (is_over c a) lives) (is_under_itself n a.adapter is' same)) in cc))
      ]

  trials_left : (f : Flight) (p : List (List ℕ)) → In f s.flights → f.child ≡ Some p → IsMissingChild (filter stays s.nodes) f.adapter p
  trials_left f p is tries =
      let was = sound.trials f p is tries in
      record {
        parent = was.parent;
        name = was.name;
        stands = kept_in stays was.parent s.nodes was.stands (flight_stays f was.parent is was.stands was.numbered);
        numbered = was.numbered;
        child = was.child;
        free = λ n is'. was.free n (in_kept stays n s.nodes is').0;
      }

  pub without_ended_sound : IsSound c run (without_ended c s)
  without_ended_sound = record {
    tree = dropped_kept s.nodes s.count stays sound.tree may_drop;
    homes = λ f is. (let was = sound.homes f is in (was.0, kept_in stays was.0 s.nodes was.1 (flight_stays f was.0 is was.1 was.2), was.2));
    trials = trials_left;
    trial_alone = sound.trial_alone;
    owners =
        λ a is lives.
        (let was = sound.owners a is lives in
        record {
          node = was.node;
          stands = kept_in stays was.node s.nodes was.stands (activation_stays a was.node is lives was.stands was.numbered);
          numbered = was.numbered;
          placed = was.placed;
        });
    counted = sound.counted;
    activation_alone = sound.activation_alone;
    life_alone = sound.life_alone;
    ids = sound.ids;
  }

pub settled_sound : (c : Config) (run : ℕ) (s : Standing) → IsSound c run s → IsSound c run (settled c s)
settled_sound c run s sound = without_ended_sound c run (record s { activations = map (let_out c s) s.activations }) (let_out_sound c run s sound)
