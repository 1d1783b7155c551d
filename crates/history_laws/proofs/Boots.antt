-- The adapters that are created at the start make a tree.
use Rattle.std.specs.Prelude.{◌≡◌, ◌≢◌, ℕ, true, false, not, ◌&&◌, if◌then◌else◌, List, [], ◌∷◌, ◌++◌, length, ◌⊎◌, refl}
use Rattle.std.proofs.Common.{inl, inr, sym, subst, ap, ◌∙◌, arith, append-nil}
use Rattle.std.proofs.Math.Seq.{append_snoc}
use Rattle.std.proofs.lemmas.Bool.{cond_both, cases_Bool, and_parts, true≢false, false≢true}
use Rattle.poa_base.specs.declared.Config.{Config}
use Rattle.poa_base.specs.declared.AdapterConf.{AdapterConf}
use Rattle.poa_policy.specs.Adapters.{IsAdapter}
use Rattle.poa_policy.specs.Entries.{EachAfter}
use Rattle.poa_policy.specs.Parents.{IsBoot}
use Rattle.poa_policy.specs.Kept.{KeepsRules}
use Rattle.history_standing.specs.declared.node.Node.{Node}
use Rattle.history_standing.specs.Paths.{is_root}
use Rattle.history_standing.specs.Trees.{In, IsTree, MayCreate}
use Rattle.history_standing.proofs.Members.{in_front, in_back, in_either}
use Rattle.history_standing.specs.Standings.{Standing}
use Rattle.history_standing.specs.Opening.{with_node, root_alone, with_boots}
use Rattle.poa_history.specs.Sound.{IsSound}
use Rattle.poa_history.proofs.SoundKept.{with_node_sound}
use Rattle.history_laws.proofs.Entries.{all_in, entry_in}
use Rattle.history_standing.proofs.Tests.{not_true}

-- the root alone is a tree
abbrev root : Node
root = record { number = 0; path = []; dying = false }

only_root : (n : Node) → In n (root ∷ []) → n ≡ root
only_root n (inl same) = same
only_root n (inr none) = absurd none

has_no_end : (q : List (List ℕ)) (x : List ℕ) → [] ≡ q ++ x ∷ [] → ⊥
has_no_end [] x same = (cc)
has_no_end (y ∷ q) x same = (cc)

root_tree : IsTree (root ∷ []) 1
root_tree = record {
  numbered = λ n is. (let same : n.number ≡ 0 = ap (λ x. x.number) (only_root n is) in omega (arith, same));
  number_alone = λ n m is is' _. only_root n is ∙ sym (only_root m is');
  path_alone = λ n m is is' _. only_root n is ∙ sym (only_root m is');
  rooted = (root, inl refl, refl);
  closed = λ n q x is at. absurd (has_no_end q x (sym (ap (λ y. y.path) (only_root n is)) ∙ at));
  below = λ n m is is' _ dying. absurd (false≢true (sym (ap (λ y. y.dying) (only_root n is)) ∙ dying));
}

root_sound : (c : Config) (run : ℕ) → IsSound c run root_alone
root_sound c run = record {
  tree = root_tree;
  homes = λ f is. absurd is;
  trials = λ f p is. absurd is;
  trial_alone = λ f g p is. absurd is;
  owners = λ a is. absurd is;
  counted = λ a is. absurd is;
  activation_alone = λ a b is. absurd is;
  life_alone = λ a b is. absurd is;
  ids = λ a is. absurd is;
}

root_path : (p : List (List ℕ)) → is_root p ≡ true → p ≡ []
root_path [] is = refl
root_path (x ∷ p) is = absurd (false≢true is)

module _ (c : Config) (run : ℕ) where
  -- what stands once these entries are through: the root, and an adapter for each that is created at the start
  pub record IsBooted (done : List AdapterConf) (s : Standing) : Type 0 where
    pub sound : IsSound c run s
    pub living : (n : Node) → In n s.nodes → n.dying ≡ false
    pub idle : s.flights ≡ []
    pub empty : s.activations ≡ []
    pub unmade : s.made ≡ 0
    pub booted : (a : AdapterConf) → In a done → a.boot ≡ true → (n : Node) × In n s.nodes × (n.path ≡ a.path)
    pub known : (n : Node) → In n s.nodes → (n.path ≡ []) ⊎ ((a : AdapterConf) × In a done × (a.path ≡ n.path))

  pub boot_stands : (done : List AdapterConf) (s : Standing) (p : List (List ℕ)) → IsBooted done s → (p ≡ []) ⊎ IsBoot done p → (n : Node) × In n s.nodes
      × (n.path ≡ p)
  boot_stands done s p is (inl at) = let there = is.sound.tree.rooted in (there.0, there.1, there.2 ∙ sym at)
  boot_stands done s p is (inr boot) =
      let there = is.booted boot.adapter (entry_in done boot.adapter boot.stands) boot.boots in (there.0, there.1, there.2 ∙ boot.path_is)

  known_later : (done : List AdapterConf) (a : AdapterConf) (n : Node) → (n.path ≡ []) ⊎ ((b : AdapterConf) × In b done × (b.path ≡ n.path)) → (n.path ≡ [])
      ⊎ ((b : AdapterConf) × In b (done ++ a ∷ []) × (b.path ≡ n.path))
  known_later done a n (inl at) = inl at
  known_later done a n (inr entry) = inr (entry.0, in_front entry.0 a done entry.1, entry.2)

  module _ (managers servants : ℕ) (done : List AdapterConf) (a : AdapterConf) (s : Standing) (is : IsBooted done s)
      (rule : IsAdapter managers servants done a) where
    may_create : a.boot ≡ true → is_root a.path ≡ false → MayCreate s.nodes a.path
    may_create boots inner =
        let below = rule.boot boots in
        let there = boot_stands done s below.parent is below.stands in
        record {
          parent = there.0;
          name = below.name;
          stands = there.1;
          living = is.living there.0 there.1;
          child = below.child ∙ ap (λ q. q ++ below.name ∷ []) (sym there.2);
          free = λ n stands at. elim (is.known n stands) [
            | inl top ↦ true≢false (ap is_root (sym top ∙ at) ∙ inner)
            | inr entry ↦ all_in (λ d. d.path ≢ a.path) done entry.0 rule.new entry.1 (entry.2 ∙ at)
          ];
        }

    abbrev made : Node
    made = record { number = s.count; path = a.path; dying = false }

    created_booted : a.boot ≡ true → is_root a.path ≡ false → IsBooted (done ++ a ∷ []) (with_node a.path s)
    created_booted boots inner = record {
      sound = with_node_sound c run s is.sound a.path (may_create boots inner) (λ f flies tries. subst (λ fs. In f fs) is.idle flies);
      living = λ n there. elim (in_either n made s.nodes there) [ inl was ↦ is.living n was | inr same ↦ ap (λ x. x.dying) same ];
      idle = is.idle;
      empty = is.empty;
      unmade = is.unmade;
      booted = λ b there boots'. elim (in_either b a done there) [
        | inl was ↦ (let found = is.booted b was boots' in (found.0, in_front found.0 made s.nodes found.1, found.2))
        | inr same ↦ (made, in_back made s.nodes, ap (λ x. x.path) (sym same))
      ];
      known = λ n there. elim (in_either n made s.nodes there) [
        | inl was ↦ known_later done a n (is.known n was)
        | inr same ↦ inr (a, in_back a done, ap (λ x. x.path) (sym same))
      ];
    }

    passed_booted : (a.boot ≡ true → is_root a.path ≡ true) → IsBooted (done ++ a ∷ []) s
    passed_booted top = record {
      sound = is.sound;
      living = is.living;
      idle = is.idle;
      empty = is.empty;
      unmade = is.unmade;
      booted = λ b there boots. elim (in_either b a done there) [
        | inl was ↦ is.booted b was boots
        | inr same ↦ (let found = is.sound.tree.rooted in
            let at : b.path ≡ [] = root_path b.path (ap (λ x. is_root x.path) same ∙ top (ap (λ x. x.boot) (sym same) ∙ boots)) in
            (found.0, found.1, found.2 ∙ sym at))
      ];
      known = λ n there. known_later done a n (is.known n there);
    }

    top_where : (a.boot && not (is_root a.path)) ≡ false → a.boot ≡ true → is_root a.path ≡ true
    top_where none boots =
        elim (cases_Bool (is_root a.path)) [
          | inl top ↦ top
          | inr inner ↦ absurd (true≢false (sym (ap (λ b. b && not (is_root a.path)) boots ∙ ap not inner) ∙ none))
        ]

    pub entry_booted : IsBooted (done ++ a ∷ []) (if a.boot && not (is_root a.path) then with_node a.path s else s)
    entry_booted =
        cond_both (a.boot && not (is_root a.path)) (with_node a.path s) s (λ t. IsBooted (done ++ a ∷ []) t)
        (λ both. let parts = and_parts a.boot (not (is_root a.path)) both in created_booted parts.0 (not_true (is_root a.path) parts.1))
        (λ none. passed_booted (top_where none))

  boots_booted : (managers servants : ℕ) (done as' : List AdapterConf) (s : Standing) → EachAfter (IsAdapter managers servants) done as' → IsBooted done s
      → IsBooted (done ++ as') (with_boots as' s)
  boots_booted managers servants done [] s each is = subst (λ ds. IsBooted ds s) (sym (append-nil done)) is
  boots_booted managers servants done (a ∷ as') s each is =
      let next = if a.boot && not (is_root a.path) then with_node a.path s else s in
      subst (λ ds. IsBooted ds (with_boots as' next)) (append_snoc done a as')
      (boots_booted managers servants (done ++ a ∷ []) as' next each.1 (entry_booted managers servants done a s is each.0))

  root_booted : IsBooted [] root_alone
  root_booted = record {
    sound = root_sound c run;
    living = λ n is. ap (λ x. x.dying) (only_root n is);
    idle = refl;
    empty = refl;
    unmade = refl;
    booted = λ a is. absurd is;
    known = λ n is. inl (ap (λ x. x.path) (only_root n is));
  }

  pub all_booted : KeepsRules c → IsBooted c.adapters (with_boots c.adapters root_alone)
  all_booted rules = boots_booted (length c.managers) (length c.servants) [] c.adapters root_alone rules.adapters root_booted
