-- Where the servant of an activation left and its adapter has one that isn't over, no adapter goes.
use Rattle.std.specs.Prelude.{◌≡◌, ℕ, ◌<◌, Bool, true, false, not, ◌&&◌, ◌||◌, ◌==◌, List, map, refl}
use Rattle.std.specs.List.{list_any}
use Rattle.std.proofs.Common.{inl, inr, sym, ap, subst, ◌∙◌, arith}
use Rattle.std.proofs.lemmas.Bool.{and_from, and_parts, cases_Bool, cond_both, eqb-true}
use Rattle.poa_base.specs.declared.Config.{Config}
use Rattle.poa_base.specs.declared.Entry.{Entry}
use Rattle.poa_base.specs.declared.Entry.TheVariants.{Entered, Arrive, Filled, Left, Collect, Admit, Tried, Incarnated, Run, Done, TakeOut, Etherealized, Abandon}
use Rattle.history_standing.specs.declared.node.Node.{Node}
use Rattle.history_standing.specs.Nodes.{stands_under}
use Rattle.history_standing.specs.Paths.{is_root}
use Rattle.history_standing.specs.Trees.{In}
use Rattle.history_standing.proofs.Members.{any_in, image_in, in_image, some_in as one_of}
use Rattle.history_standing.specs.declared.activation.Activation.{Activation}
use Rattle.history_standing.specs.declared.stage.Stage.{Stage}
use Rattle.history_standing.specs.declared.stage.Stage.TheVariants.{Free, Trying, Incarnating, Serving, Ran, Removing}
use Rattle.history_standing.specs.Changes.{at_number, changed, is_elsewhere, standing, with_etherealized}
use Rattle.history_standing.specs.Ends.{is_left, is_over, let_out, settled}
use Rattle.history_standing.specs.Stages.{stage}
use Rattle.history_standing.specs.Standings.{Standing}
use Rattle.core_standing.specs.declared.standing.Standing.{Standing as Held}
use Rattle.core_standing.specs.Kept.{StandingAgrees}
use Rattle.core_standing.specs.Seen.{seen}
use Rattle.poa_history.specs.Entries.{is_removal}
use Rattle.core_standing.specs.Touched.{Lasts, Others, SameOthers, is_touched, left}
use Rattle.core_standing.specs.declared.touched.Touched.{Touched}
use Rattle.core_standing.specs.declared.touched.Touched.TheVariants.{One}
use Rattle.core_standing.proofs.ChangesAlike.{lived_alike}
use Rattle.core_standing.proofs.Dropping.{stays}
use Rattle.core_standing.proofs.Forgotten.{from_behind}
use Rattle.core_standing.proofs.Settled.{filter_still, standing_settled, stays_more}

-- so nothing is to be dropped
pub lasts_all : (c : Config) (n : ℕ) (s : Standing) → Lasts c n (left c s) → (a b : Activation) → In a (left c s).activations → a.number ≡ n
    → In b (left c s).activations → is_over c b ≡ false → b.adapter ≡ a.adapter → left c s ≡ settled c s
lasts_all c n s lasts a b a_in its b_in lives same =
    sym (ap (λ ns. record (left c s) { nodes = ns }) (filter_still (stays c (left c s)) s.nodes (lasts a b a_in its b_in lives same)))

-- of what is seen a number is that of one activation
pub seen_alone : (s : Held) → ((a : Activation) → In a s.activations.kept → a.number < 4294967296)
    → ((a b : Activation) → In a s.activations.kept → In b s.activations.kept → a.number ≡ b.number → a ≡ b)
    → (a b : Activation) → In a (seen s).activations → In b (seen s).activations → a.number ≡ b.number → a ≡ b
seen_alone s fit alone a b a_in b_in same =
    elim (from_behind s.activations.forgotten s.activations.kept a a_in) [
      | inl a_spent ↦ elim (from_behind s.activations.forgotten s.activations.kept b b_in) [
        | inl b_spent ↦ a_spent ∙ sym b_spent
        | inr b_kept ↦ absurd (let high = ap (λ (x : Activation). x.number) a_spent in let low = fit b b_kept in omega (arith, high, low, same))
      ]
      | inr a_kept ↦ elim (from_behind s.activations.forgotten s.activations.kept b b_in) [
        | inl b_spent ↦ absurd (let high = ap (λ (x : Activation). x.number) b_spent in let low = fit a a_kept in omega (arith, high, low, same))
        | inr b_kept ↦ alone a b a_kept b_kept same
      ]
    ]

-- each adapter that is kept stays
pub kept_stays : (c : Config) (run : ℕ) (h : List Entry) (t : Standing) → StandingAgrees c run h t → (m : Node) → In m t.nodes → stays c t m ≡ true
kept_stays c run h t kept m there =
    (let s = standing c run h in
    ap (λ (u : Standing). stays c u m) kept.stands.same
    ∙ ap (λ b. is_root m.path || not (m.dying && (not (list_any (λ f. stands_under s.nodes m.path f.adapter) s.flights) && not b)))
    (lived_alike c s.activations t.activations kept.stands.forgets s.nodes m.path)
    ∙ (standing_settled c run h).nodes_stay m (subst (In m) (ap (λ (u : Standing). u.nodes) kept.stands.same) there))

same_flags : (c : Config) (s : Standing) (a : Activation) → ((let_out c s a).number ≡ a.number) × ((let_out c s a).adapter ≡ a.adapter)
same_flags c s a =
    cond_both (is_left c s a) (record a { out = true }) a (λ (x : Activation). (x.number ≡ a.number) × (x.adapter ≡ a.adapter))
    (λ _. (refl, refl)) (λ _. (refl, refl))

-- other activations stand, each by its number and in its adapter
module _ (c : Config) (n : ℕ) (touched : ℕ → Bool) (t : Standing) (as' : List Activation) (one : (k : ℕ) → touched k ≡ true → k ≡ n)
    (stay : (m : Node) → In m t.nodes → stays c t m ≡ true)
    (alone : (a b : Activation) → In a t.activations → In b t.activations → a.number ≡ b.number → a ≡ b)
    (same : SameOthers touched t.activations as') (others : Others c touched (record t { activations = as' }))
    (from : (a : Activation) → In a as' → (b : Activation) × In b t.activations × (b.number ≡ a.number) × (b.adapter ≡ a.adapter)) where
  abbrev now : Standing
  now = record t { activations = as' }

  abbrev lives_under : Node → Activation → Bool
  lives_under m x = not (is_over c x) && stands_under t.nodes m.path x.adapter

  -- what lived lives, or another of its adapter does
  still_lived : (a b : Activation) → In a (left c now).activations → a.number ≡ n → In b (left c now).activations → is_over c b ≡ false → b.adapter ≡ a.adapter
      → (m : Node) → list_any (lives_under m) t.activations ≡ true → list_any (lives_under m) (left c now).activations ≡ true
  still_lived a b a_in its b_in lives beside m some =
      (let x = one_of (lives_under m) t.activations some in
      let parts = and_parts (not (is_over c x.0)) (stands_under t.nodes m.path x.0.adapter) x.2 in
      elim (cases_Bool (touched x.0.number)) [
        | inr apart ↦ any_in (lives_under m) x.0 (map (let_out c now) as')
            (subst (λ y. In y (map (let_out c now) as')) (others x.0 (same.stays x.0 x.1 apart) apart)
            (image_in (let_out c now) x.0 as' (same.stays x.0 x.1 apart))) x.2
        | inl hit ↦ (let out = in_image (let_out c now) a as' a_in in
            let flags = same_flags c now out.0 in
            let was = from out.0 out.1 in
            let is_n : x.0.number ≡ was.0.number =
            one x.0.number hit ∙ sym its ∙ ap (λ (y : Activation). y.number) out.2 ∙ flags.0 ∙ sym was.2 in
            let adapter : x.0.adapter ≡ b.adapter =
            ap (λ (y : Activation). y.adapter) (alone x.0 was.0 x.1 was.1 is_n) ∙ was.3 ∙ sym flags.1
            ∙ ap (λ (y : Activation). y.adapter) (sym out.2) ∙ sym beside in
            any_in (lives_under m) b (map (let_out c now) as') b_in
            (and_from (not (is_over c b)) (stands_under t.nodes m.path b.adapter) (ap not lives)
            (ap (stands_under t.nodes m.path) (sym adapter) ∙ parts.1)))
      ])

  pub lasting : Lasts c n (left c now)
  lasting a b a_in its b_in lives beside m there =
      stays_more (is_root m.path) m.dying _ _ _ _ (λ some. some) (still_lived a b a_in its b_in lives beside m) (stay m there)

-- one activation changed stands by its number and in its adapter
from_one : (n : ℕ) (f : Activation → Activation) → ((a : Activation) → ((f a).number ≡ a.number) × ((f a).adapter ≡ a.adapter)) → (as' : List Activation)
    → (a : Activation) → In a (map (at_number n f) as') → (b : Activation) × In b as' × (b.number ≡ a.number) × (b.adapter ≡ a.adapter)
from_one n f keeps as' a there =
    (let found = in_image (at_number n f) a as' there in
    let both = cond_both (found.0.number == n) (f found.0) found.0 (λ (x : Activation). (x.number ≡ found.0.number) × (x.adapter ≡ found.0.adapter))
    (λ _. keeps found.0) (λ _. (refl, refl)) in
    (found.0, found.1, sym (ap (λ (x : Activation). x.number) found.2 ∙ both.0), sym (ap (λ (x : Activation). x.adapter) found.2 ∙ both.1)))

module _ (c : Config) (run : ℕ) (past : List Entry) (n : ℕ) (touched : ℕ → Bool) (t : Standing) (one : (k : ℕ) → touched k ≡ true → k ≡ n)
    (stay : (m : Node) → In m t.nodes → stays c t m ≡ true)
    (alone : (a b : Activation) → In a t.activations → In b t.activations → a.number ≡ b.number → a ≡ b) where
  told : (begun : Stage) → SameOthers touched t.activations (with_etherealized begun t).activations → Others c touched (with_etherealized begun t)
      → Lasts c n (left c (with_etherealized begun t))
  told (Removing m) same others =
      lasting c n touched t (map (at_number m (λ a. record a { etherealized = true })) t.activations) one stay alone same others
      (from_one m (λ a. record a { etherealized = true }) (λ a. (refl, refl)) t.activations)
  told Free same others = lasting c n touched t t.activations one stay alone same others (λ a there. (a, there, refl, refl))
  told (Trying r) same others = lasting c n touched t t.activations one stay alone same others (λ a there. (a, there, refl, refl))
  told (Incarnating r m) same others = lasting c n touched t t.activations one stay alone same others (λ a there. (a, there, refl, refl))
  told (Serving r) same others = lasting c n touched t t.activations one stay alone same others (λ a there. (a, there, refl, refl))
  told (Ran r) same others = lasting c n touched t t.activations one stay alone same others (λ a there. (a, there, refl, refl))

  pub removed_lasts : (e : Entry) → is_removal e ≡ true → SameOthers touched t.activations (changed c run past e t).activations
      → Others c touched (changed c run past e t) → Lasts c n (left c (changed c run past e t))
  removed_lasts (TakeOut w m etherealize) is same others =
      lasting c n touched t (map (at_number m (λ a. record a { out = true; remaining = is_elsewhere t.activations a })) t.activations) one stay alone same
      others
      (from_one m (λ a. record a { out = true; remaining = is_elsewhere t.activations a }) (λ a. (refl, refl)) t.activations)
  removed_lasts (Etherealized w cleanup remaining) is same others = told (stage past w) same others
  removed_lasts (Entered conn) is same others = absurd (let e : false ≡ true = is in cc)
  removed_lasts (Arrive conn size call) is same others = absurd (let e : false ≡ true = is in cc)
  removed_lasts (Filled conn size) is same others = absurd (let e : false ≡ true = is in cc)
  removed_lasts (Left conn) is same others = absurd (let e : false ≡ true = is in cc)
  removed_lasts (Collect conn r) is same others = absurd (let e : false ≡ true = is in cc)
  removed_lasts (Run w) is same others = absurd (let e : false ≡ true = is in cc)
  removed_lasts (Abandon w) is same others = absurd (let e : false ≡ true = is in cc)
  removed_lasts (Admit w r v) is same others = absurd (let e : false ≡ true = is in cc)
  removed_lasts (Tried w answer) is same others = absurd (let e : false ≡ true = is in cc)
  removed_lasts (Incarnated w answer) is same others = absurd (let e : false ≡ true = is in cc)
  removed_lasts (Done w) is same others = absurd (let e : false ≡ true = is in cc)

-- after an entry, behind what is kept
pub lasts_where : (c : Config) (run : ℕ) (past : List Entry) (e : Entry) (touched : Touched) (s : Held) (mid : Standing)
    → mid ≡ changed c run past e (seen s) → StandingAgrees c run past (seen s)
    → ((a : Activation) → In a s.activations.kept → a.number < 4294967296)
    → ((a b : Activation) → In a s.activations.kept → In b s.activations.kept → a.number ≡ b.number → a ≡ b)
    → SameOthers (is_touched touched) (seen s).activations (changed c run past e (seen s)).activations
    → Others c (is_touched touched) (changed c run past e (seen s)) → is_removal e ≡ true
    → (n : ℕ) → touched ≡ One n → Lasts c n (left c mid)
lasts_where c run past e touched s mid now kept fit alone same others removes n is =
    subst (λ u. Lasts c n (left c u)) (sym now)
    (removed_lasts c run past n (is_touched touched) (seen s) (λ k hit. sym (eqb-true n k (subst (λ t. is_touched t k ≡ true) is hit)))
    (kept_stays c run past (seen s) kept) (seen_alone s fit alone) e removes same others)
