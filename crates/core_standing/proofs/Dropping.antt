-- The adapters that are gone are dropped one by one, and what is asked of the others stays as it was.
use Rattle.std.specs.Prelude.{◌≡◌, ℕ, zero, suc, ◌<◌, Bool, true, false, not, ◌&&◌, ◌||◌, ◌==◌, List, [], ◌∷◌, ◌++◌, filter, take, drop, length, slice_index_or, refl}
use Rattle.std.specs.List.{list_any, remove}
use Rattle.std.proofs.Common.{inl, inr, sym, ap, ap₂, subst, ◌∙◌, arith}
use Rattle.std.proofs.lemmas.Bool.{cond_both, and_from, and_right, eq-eqb, or_parts}
use Rattle.poa_base.specs.declared.Config.{Config}
use Rattle.history_standing.specs.declared.node.Node.{Node}
use Rattle.history_standing.specs.Nodes.{stands_under}
use Rattle.history_standing.specs.Paths.{leads_to, is_root}
use Rattle.history_standing.specs.Trees.{In}
use Rattle.history_standing.proofs.Leading.{leads_self}
use Rattle.history_standing.proofs.Members.{any_in}
use Rattle.history_standing.specs.declared.activation.Activation.{Activation}
use Rattle.history_standing.specs.declared.flight.Flight.{Flight}
use Rattle.history_standing.specs.Ends.{is_over, is_clear, is_done_with}
use Rattle.history_standing.specs.Standings.{Standing}
use Rattle.core_standing.proofs.Kept.{any_kept}
use Rattle.history_standing.proofs.Tests.{none_by}
use Rattle.history_standing.proofs.Clear.{clear_parts}

-- the elements up to a place, and of the others those that are kept
abbrev pub kept_from : {A : Type 0} → (A → Bool) → ℕ → List A → List A
kept_from keeps k xs = take k xs ++ filter keeps (drop k xs)

any_alike : {A : Type 0} (test other : A → Bool) (xs : List A) → ((x : A) → In x xs → test x ≡ other x) → list_any test xs ≡ list_any other xs
any_alike test other [] alike = refl
any_alike test other (x ∷ xs) alike = ap₂ (λ a b. a || b) (alike x (inl refl)) (any_alike test other xs (λ y is. alike y (inr is)))

-- where what isn't kept fails the test, the test finds the same
any_from : {A : Type 0} (keeps test : A → Bool) (k : ℕ) (xs : List A) → ((x : A) → In x xs → keeps x ≡ false → test x ≡ false)
    → list_any test (kept_from keeps k xs) ≡ list_any test xs
any_from keeps test zero xs fails = any_kept keeps test xs fails
any_from keeps test (suc k) [] fails = refl
any_from keeps test (suc k) (x ∷ xs) fails = ap (λ b. test x || b) (any_from keeps test k xs (λ y is. fails y (inr is)))

-- one place further down: the element there is kept, or removed
pub kept_here : {A : Type 0} (keeps : A → Bool) (k : ℕ) (xs : List A) (d : A) → k < length xs → keeps (slice_index_or xs k d) ≡ true
    → kept_from keeps (suc k) xs ≡ kept_from keeps k xs
kept_here keeps k [] d lt is = absurd (omega arith)
kept_here keeps zero (x ∷ xs) d lt is =
    cond_both (keeps x) (x ∷ filter keeps xs) (filter keeps xs) (λ ys. x ∷ filter keeps xs ≡ ys) (λ _. refl)
    (λ goes. absurd (let e : true ≡ false = sym is ∙ goes in cc))
kept_here keeps (suc k) (x ∷ xs) d lt is = ap (λ ys. x ∷ ys) (kept_here keeps k xs d (omega arith) is)

pub gone_here : {A : Type 0} (keeps : A → Bool) (k : ℕ) (xs : List A) (d : A) → k < length xs → keeps (slice_index_or xs k d) ≡ false
    → remove (kept_from keeps (suc k) xs) k ≡ kept_from keeps k xs
gone_here keeps k [] d lt goes = absurd (omega arith)
gone_here keeps zero (x ∷ xs) d lt goes =
    cond_both (keeps x) (x ∷ filter keeps xs) (filter keeps xs) (λ ys. filter keeps xs ≡ ys) (λ is. absurd (let e : true ≡ false = sym is ∙ goes in cc))
    (λ _. refl)
gone_here keeps (suc k) (x ∷ xs) d lt goes = ap (λ ys. x ∷ ys) (gone_here keeps k xs d (omega arith) goes)

pub index_here : {A : Type 0} (keeps : A → Bool) (k : ℕ) (xs : List A) (d : A) → k < length xs
    → slice_index_or (kept_from keeps (suc k) xs) k d ≡ slice_index_or xs k d
index_here keeps k [] d lt = absurd (omega arith)
index_here keeps zero (x ∷ xs) d lt = refl
index_here keeps (suc k) (x ∷ xs) d lt = index_here keeps k xs d (omega arith)

pub there_here : {A : Type 0} (keeps : A → Bool) (k : ℕ) (xs : List A) (d : A) → k < length xs
    → In (slice_index_or xs k d) (kept_from keeps (suc k) xs)
there_here keeps k [] d lt = absurd (omega arith)
there_here keeps zero (x ∷ xs) d lt = inl refl
there_here keeps (suc k) (x ∷ xs) d lt = inr (there_here keeps k xs d (omega arith))

-- of tests that are joined
last_true : (r d k : Bool) → (r || not (d && k)) ≡ false → k ≡ true
last_true true d k is = absurd (let e : true ≡ false = is in cc)
last_true false false k is = absurd (let e : true ≡ false = is in cc)
last_true false true true is = refl
last_true false true false is = absurd (let e : true ≡ false = is in cc)

first_false : (a l b : Bool) → (a && l) ≡ false → l ≡ true → (a && b) ≡ false
first_false false l b none is = refl
first_false true l b none is = absurd (let e : true ≡ false = sym is ∙ none in cc)

second_false : (a b : Bool) → (a && b) ≡ false → a ≡ true → b ≡ false
second_false true b none is = none
second_false false b none is = absurd (let e : false ≡ true = is in cc)

both_alike : (a x y : Bool) → (a ≡ true → x ≡ y) → (a && x) ≡ (a && y)
both_alike true x y alike = alike refl
both_alike false x y alike = refl

-- one that has an activation which isn't over goes on standing
pub lives_on : (c : Config) (s : Standing) (n : Node) (a : Activation) → In n s.nodes → In a s.activations → not (is_over c a) ≡ true
    → a.adapter ≡ n.number → is_done_with c s n ≡ false
lives_on c s n a stood there lives its =
    and_right n.dying (is_clear c s n.path)
    (and_right (not (list_any (λ f. stands_under s.nodes n.path f.adapter) s.flights)) _
    (ap not (any_in (λ b. not (is_over c b) && stands_under s.nodes n.path b.adapter) a s.activations there
    (and_from (not (is_over c a)) _ lives
    (any_in (λ m. (m.number == a.adapter) && leads_to n.path m.path) n s.nodes stood
    (and_from (n.number == a.adapter) _ (eq-eqb n.number a.adapter (sym its)) (leads_self n.path)))))))

-- the adapter goes on standing
abbrev pub stays : Config → Standing → Node → Bool
stays c s n = is_root n.path || not (is_done_with c s n)

module _ (c : Config) (s : Standing) where
  goes_clear : (n : Node) → stays c s n ≡ false → is_clear c s n.path ≡ true
  goes_clear n goes = last_true (is_root n.path) n.dying (is_clear c s n.path) goes

  -- where no adapter of the number stands at an adapter's path or below it, the adapter has another number
  is_other : (n : Node) (k : ℕ) (p : List (List ℕ)) → In n s.nodes → stands_under s.nodes n.path k ≡ false → ((n.number == k) && leads_to p n.path) ≡ false
  is_other n k p is none =
      first_false (n.number == k) (leads_to n.path n.path) (leads_to p n.path) (none_by (λ m. (m.number == k) && leads_to n.path m.path) n s.nodes is none)
      (leads_self n.path)

  abbrev left : ℕ → List Node
  left k = kept_from (stays c s) k s.nodes

  flight_under : (k : ℕ) (p : List (List ℕ)) (f : Flight) → In f s.flights → stands_under (left k) p f.adapter ≡ stands_under s.nodes p f.adapter
  flight_under k p f flies =
      any_from (stays c s) (λ m. (m.number == f.adapter) && leads_to p m.path) k s.nodes
      (λ m is goes. is_other m f.adapter p is (none_by (λ g. stands_under s.nodes m.path g.adapter) f s.flights flies
      (clear_parts c s m.path (goes_clear m goes)).0))

  activation_under : (k : ℕ) (p : List (List ℕ)) (a : Activation) → In a s.activations → not (is_over c a) ≡ true
      → stands_under (left k) p a.adapter ≡ stands_under s.nodes p a.adapter
  activation_under k p a lives more =
      any_from (stays c s) (λ m. (m.number == a.adapter) && leads_to p m.path) k s.nodes
      (λ m is goes. is_other m a.adapter p is
      (second_false (not (is_over c a)) (stands_under s.nodes m.path a.adapter)
      (none_by (λ b. not (is_over c b) && stands_under s.nodes m.path b.adapter) a s.activations lives (clear_parts c s m.path (goes_clear m goes)).1) more))

  clear_left : (k : ℕ) (p : List (List ℕ)) → is_clear c (record s { nodes = left k }) p ≡ is_clear c s p
  clear_left k p =
      ap₂ (λ x y. not x && not y)
      (any_alike (λ f. stands_under (left k) p f.adapter) (λ f. stands_under s.nodes p f.adapter) s.flights (flight_under k p))
      (any_alike (λ a. not (is_over c a) && stands_under (left k) p a.adapter) (λ a. not (is_over c a) && stands_under s.nodes p a.adapter) s.activations
      (λ a is. both_alike (not (is_over c a)) _ _ (activation_under k p a is)))

  -- so each that is left is asked as before
  pub stays_left : (k : ℕ) (n : Node) → stays c (record s { nodes = left k }) n ≡ stays c s n
  stays_left k n = ap (λ b. is_root n.path || not (n.dying && b)) (clear_left k n.path)

  abbrev dropped : ℕ → Standing
  dropped k = record s { nodes = left k }

  -- one adapter is asked: it is kept, or removed
  module _ (i k : ℕ) (t : Standing) (n : Node) (next : i ≡ suc k) (lt : k < length s.nodes) (so_far : t ≡ dropped i)
      (here : n ≡ slice_index_or t.nodes k n) where
    so_far_next : t ≡ dropped (suc k)
    so_far_next = so_far ∙ ap dropped next

    its_place : n ≡ slice_index_or s.nodes k n
    its_place = here ∙ ap (λ u. slice_index_or u.nodes k n) so_far_next ∙ index_here (stays c s) k s.nodes n lt

    asked : stays c s (slice_index_or s.nodes k n) ≡ stays c t n
    asked = ap (stays c s) (sym its_place) ∙ sym (stays_left (suc k) n) ∙ ap (λ u. stays c u n) (sym so_far_next)

    -- it stands
    pub node_there : In n t.nodes
    node_there =
        subst (λ u. In n u.nodes) (sym so_far_next)
        (subst (λ m. In m (left (suc k))) (sym its_place) (there_here (stays c s) k s.nodes n lt))

    pub node_kept : stays c t n ≡ true → t ≡ dropped k
    node_kept is = so_far_next ∙ ap (λ ns. record s { nodes = ns }) (kept_here (stays c s) k s.nodes n lt (asked ∙ is))

    pub node_removed : (ns : List Node) → ns ≡ remove t.nodes k → stays c t n ≡ false → record t { nodes = ns } ≡ dropped k
    node_removed ns is goes =
        ap₂ {A = Standing} {B = List Node} (λ u ms. record u { nodes = ms }) so_far_next (is ∙ ap (λ u. remove u.nodes k) so_far_next)
        ∙ ap (λ ms. record s { nodes = ms }) (gone_here (stays c s) k s.nodes n lt (asked ∙ goes))

-- while none is being destroyed, each stays
keeps_living : (r d k : Bool) → d ≡ false → (r || not (d && k)) ≡ true
keeps_living true d k is = refl
keeps_living false false k is = refl
keeps_living false true k is = absurd (cc)

pub all_stay : (c : Config) (s : Standing) (ns : List Node) → list_any (λ n. n.dying) ns ≡ false → ns ≡ filter (stays c s) ns
all_stay c s [] none = refl
all_stay c s (n ∷ ns) none =
    let parts = or_parts n.dying (list_any (λ m. m.dying) ns) none in
    cond_both (stays c s n) (n ∷ filter (stays c s) ns) (filter (stays c s) ns) (λ ms. n ∷ ns ≡ ms)
    (λ _. ap (λ ms. n ∷ ms) (all_stay c s ns parts.1))
    (λ goes. absurd (let e : true ≡ false = sym (keeps_living (is_root n.path) n.dying (is_clear c s n.path) parts.0) ∙ goes in cc))
