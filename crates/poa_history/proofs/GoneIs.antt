-- Gone is what is being destroyed with nothing left in it and its children gone.
use Rattle.std.specs.Prelude.{◌≡◌, ℕ, Bool, true, false, not, ◌&&◌, ◌||◌, ◌==◌, nat_lt, List, [], ◌∷◌, ◌++◌, map, find, Some, None, ◌⊎◌, refl}
use Rattle.std.specs.List.{list_any}
use Rattle.std.proofs.Common.{inl, inr, sym, subst, ap, ap₂, ◌∙◌}
use Rattle.std.proofs.lemmas.Bool.{cases_Bool, and_parts, or_cases, true≢false, false_from_ne_true, eqb-true, eq-eqb, lt-ltb}
use Rattle.std.proofs.lemmas.List.{append-nil}
use Rattle.std.proofs.Math.Seq.{append_snoc}
use Rattle.poa_base.specs.declared.Config.{Config}
use Rattle.poa_base.specs.declared.Entry.{Entry}
use Rattle.history_standing.specs.declared.node.Node.{Node}
use Rattle.history_standing.specs.Paths.{same_bytes, leads_to, is_root}
use Rattle.history_standing.specs.Nodes.{stands_under}
use Rattle.history_standing.specs.Trees.{In}
use Rattle.history_standing.specs.Standings.{Standing}
use Rattle.history_standing.specs.Ends.{is_over, is_clear, is_done_with, let_out, settled, is_gone}
use Rattle.history_standing.specs.Changes.{standing, changed}
use Rattle.poa_history.specs.Legal.{IsLegal}
use Rattle.poa_history.specs.Sound.{IsGiven, IsSound}
use Rattle.poa_history.specs.Bounds.{IsWithinLimits}
use Rattle.poa_history.specs.Destroyed.{IsChildOf, IsEnded, IsEmptied}
use Rattle.history_standing.proofs.Members.{in_kept, kept_in, any_in, some_in, none_in}
use Rattle.history_standing.proofs.Finding.{find_in, find_none}
use Rattle.history_standing.proofs.Leading.{bytes_same, leads_on}
use Rattle.poa_history.proofs.SettledKept.{is_under_itself, clear_longer, stays, flight_stays, activation_stays, let_out_sound}
use Rattle.poa_history.proofs.StepMoves.{may_move}
use Rattle.poa_history.proofs.ChangeSound.{changed_sound}
use Rattle.poa_history.proofs.IdsFew.{has_ordinal}
use Rattle.poa_history.proofs.LegalSound.{legal_sound}
use Rattle.poa_history.proofs.DyingIs.{opening_live}
use Rattle.history_standing.proofs.Tests.{not_true, not_false}
use Rattle.history_standing.proofs.Clear.{clear_idle, clear_over, clear_parts}

-- a path that leads to another is its front
leads_split : (p q : List (List ℕ)) → leads_to p q ≡ true → (more : List (List ℕ)) × (q ≡ p ++ more)
leads_split [] q leads = (q, refl)
leads_split (x ∷ p) [] leads = absurd (let e : false ≡ true = leads in cc)
leads_split (x ∷ p) (y ∷ q) leads =
    let parts = and_parts (same_bytes x y) (leads_to p q) leads in let rest = leads_split p q parts.1 in
    (rest.0, ap₂ (λ a b. a ∷ b) (sym (bytes_same x y parts.0)) rest.1)

module _ (c : Config) (run : ℕ) (s : Standing) (sound : IsSound c run s) where
  -- at each path on the way to an adapter that stands one stands
  front_stands : (rest q : List (List ℕ)) (m : Node) → In m s.nodes → m.path ≡ q ++ rest → (d : Node) × In d s.nodes × (d.path ≡ q)
  front_stands [] q m there at = (m, there, at ∙ append-nil q)
  front_stands (y ∷ rest) q m there at =
      let next = front_stands rest (q ++ y ∷ []) m there (at ∙ sym (append_snoc q y rest)) in sound.tree.closed next.0 q y next.1 next.2

  -- below an adapter, and on the way to one that stands, a child of it stands
  pub on_the_way : (n m : Node) → In n s.nodes → In m s.nodes → leads_to n.path m.path ≡ true → (m ≡ n)
      ⊎ ((d : Node) × In d s.nodes × IsChildOf n d × (leads_to d.path m.path ≡ true))
  on_the_way n m is is' leads = by_rest (leads_split n.path m.path leads).0 (leads_split n.path m.path leads).1
    where
      by_rest : (more : List (List ℕ)) → m.path ≡ n.path ++ more → (m ≡ n) ⊎ ((d : Node) × In d s.nodes × IsChildOf n d × (leads_to d.path m.path ≡ true))
      by_rest [] at = inl (sound.tree.path_alone m n is' is (at ∙ append-nil n.path))
      by_rest (x ∷ rest) at =
          let whole : m.path ≡ (n.path ++ x ∷ []) ++ rest = at ∙ sym (append_snoc n.path x rest) in
          let d = front_stands rest (n.path ++ x ∷ []) m is' whole in
          inr (
            d.0,
            d.1,
            (x, d.2),
            subst (λ q. leads_to d.0.path q ≡ true) (sym whole)
                (subst (λ q. leads_to q ((n.path ++ x ∷ []) ++ rest) ≡ true) (sym d.2) (leads_on (n.path ++ x ∷ []) rest)),
          )

  number_found : (n : Node) → In n s.nodes → find (λ m. m.number == n.number) s.nodes ≡ Some n
  number_found n is =
      elim (find (λ m. m.number == n.number) s.nodes) as (λ o. find (λ m. m.number == n.number) s.nodes ≡ o → o ≡ Some n) [
        | None ↦ λ none. absurd (find_none (λ m. m.number == n.number) n s.nodes none is (eq-eqb n.number n.number refl))
        | Some m ↦
            λ found.
            (let there = find_in (λ x. x.number == n.number) m s.nodes found in
            ap (λ x. Some x) (sound.tree.number_alone m n there.0 is (eqb-true m.number n.number there.1)))
      ] refl

  -- an adapter that stands is gone where it is done with
  pub gone_done : (n : Node) → In n s.nodes → is_gone c s n.number ≡ is_done_with c s n
  gone_done n is =
      ap₂ (λ a o. a && (elim o [ Some m ↦ is_done_with c s m | None ↦ true ])) (lt-ltb _ _ (sound.tree.numbered n is)) (number_found n is)

  pub ended_by : (n : Node) → In n s.nodes → is_done_with c s n ≡ true → IsEnded c s n
  ended_by n is done =
      let parts = and_parts n.dying (is_clear c s n.path) done in
      let clear = clear_parts c s n.path parts.1 in
      record {
        dying = parts.0;
        idle = none_in (λ f. stands_under s.nodes n.path f.adapter) (λ f. f.adapter == n.number) s.flights
            (λ f _ at. is_under_itself c run s sound n f.adapter is (sym (eqb-true f.adapter n.number at))) clear.0;
        over = λ a there at. clear_over c s n.path a parts.1 there (is_under_itself c run s sound n a.adapter is (sym at));
        children = λ m there child.
            (let leads : leads_to n.path m.path ≡ true = subst (λ q. leads_to n.path q ≡ true) (sym child.1) (leads_on n.path (child.0 ∷ [])) in
            gone_done m there ∙ ap₂ (λ x y. x && y) (sound.tree.below n m is there leads parts.0) (clear_longer c run s sound n.path m.path leads parts.1));
      }

  -- an adapter of the number stands at the path or below it
  under_in : (p : List (List ℕ)) (k : ℕ) → stands_under s.nodes p k ≡ true → (m : Node) × In m s.nodes × (m.number ≡ k) × (leads_to p m.path ≡ true)
  under_in p k under =
      let found = some_in (λ m. (m.number == k) && leads_to p m.path) s.nodes under in
      let parts = and_parts (found.0.number == k) (leads_to p found.0.path) found.2 in
      (found.0, found.1, eqb-true found.0.number k parts.0, parts.1)

  under_by : (p : List (List ℕ)) (m : Node) → In m s.nodes → leads_to p m.path ≡ true → stands_under s.nodes p m.number ≡ true
  under_by p m is leads = any_in (λ x. (x.number == m.number) && leads_to p x.path) m s.nodes is (ap₂ (λ x y. x && y) (eq-eqb m.number m.number refl) leads)

  -- what is at or below an ended adapter is its own, or below a child that is done with
  own_or_below : {A : Type 0} (n : Node) → In n s.nodes → IsEnded c s n → (k : ℕ) → stands_under s.nodes n.path k ≡ true → (k ≡ n.number → A)
      → ((d : Node) → In d s.nodes → is_clear c s d.path ≡ true → stands_under s.nodes d.path k ≡ true → A) → A
  own_or_below n is ended k under own below =
      let m = under_in n.path k under in
      elim (on_the_way n m.0 is m.1 m.3) [
        | inl same ↦ own (sym m.2 ∙ ap (λ x. x.number) same)
        | inr d ↦ below d.0 d.1 (and_parts d.0.dying (is_clear c s d.0.path) (sym (gone_done d.0 d.1) ∙ ended.children d.0 d.1 d.2)).1
            (subst (λ x. stands_under s.nodes d.0.path x ≡ true) m.2 (under_by d.0.path m.0 m.1 d.3))
      ]

  pub gone_by : (n : Node) → In n s.nodes → IsEnded c s n → is_done_with c s n ≡ true
  gone_by n is ended =
      ap₂ (λ x y. x && y) ended.dying
      (ap₂ (λ x y. x && y)
      (not_false _ (false_from_ne_true (list_any (λ f. stands_under s.nodes n.path f.adapter) s.flights)
      (λ some_. let f = some_in (λ g. stands_under s.nodes n.path g.adapter) s.flights some_ in
      own_or_below n is ended f.0.adapter f.2
      (λ at. true≢false (sym (any_in (λ g. g.adapter == n.number) f.0 s.flights f.1 (eq-eqb f.0.adapter n.number at)) ∙ ended.idle))
      (λ d there clear under. true≢false (sym under ∙ clear_idle c s d.path f.0 clear f.1)))))
      (not_false _ (false_from_ne_true (list_any (λ a. not (is_over c a) && stands_under s.nodes n.path a.adapter) s.activations)
      (λ some_. let a = some_in (λ b. not (is_over c b) && stands_under s.nodes n.path b.adapter) s.activations some_ in
      let both = and_parts (not (is_over c a.0)) (stands_under s.nodes n.path a.0.adapter) a.2 in
      let lives : is_over c a.0 ≡ false = not_true (is_over c a.0) both.0 in
      own_or_below n is ended a.0.adapter both.1
      (λ at. true≢false (sym (ended.over a.0 a.1 at) ∙ lives))
      (λ d there clear under. true≢false
      (sym (clear_over c s d.path a.0 clear a.1 under) ∙ lives))))))

  -- nothing is left of an adapter that is gone
  pub emptied : (k : ℕ) → is_gone c s k ≡ true → IsEmptied c s k
  emptied k gone =
      elim (find (λ n. n.number == k) s.nodes) as (λ o. find (λ n. n.number == k) s.nodes ≡ o → (elim o [ Some n ↦ is_done_with c s n | None ↦ true ]) ≡ true
      → IsEmptied c s k) [
        | None ↦ λ none _. record {
          idle = λ f there at.
              (let home = sound.homes f there in find_none (λ n. n.number == k) home.0 s.nodes none home.1 (eq-eqb home.0.number k (home.2 ∙ at)));
          over = λ a there at. elim (cases_Bool (is_over c a)) [
            | inl over ↦ over
            | inr lives ↦
                (let home = sound.owners a there lives in
                absurd (find_none (λ n. n.number == k) home.node s.nodes none home.stands (eq-eqb home.node.number k (home.numbered ∙ at))))
          ];
        }
        | Some n ↦ λ found done.
            (let there = find_in (λ m. m.number == k) n s.nodes found in
            let at : n.number ≡ k = eqb-true n.number k there.1 in
            let ended = ended_by n there.0 done in
            record {
              idle = λ f is same. true≢false
                  (sym (any_in (λ g. g.adapter == n.number) f s.flights is (eq-eqb f.adapter n.number (same ∙ sym at))) ∙ ended.idle);
              over = λ a is same. ended.over a is (same ∙ sym at);
            })
      ] refl (and_parts (nat_lt k s.count) (elim (find (λ n. n.number == k) s.nodes) [ Some n ↦ is_done_with c s n | None ↦ true ]) gone).1

-- after what has ended went, only the root may be done with
module _ (c : Config) (run : ℕ) (s : Standing) (sound : IsSound c run s) where
  abbrev let_ : Standing
  let_ = record s { activations = map (let_out c s) s.activations }

  let_sound : IsSound c run let_
  let_sound = let_out_sound c run s sound

  not_done : (n : Node) → In n (settled c s).nodes → is_root n.path ≡ false → is_done_with c (settled c s) n ≡ false
  not_done n there below =
      let kept = in_kept (stays c run let_ let_sound) n s.nodes there in
      let undone : is_done_with c let_ n ≡ false = not_true' (is_done_with c let_ n) (or_false (is_root n.path) (not (is_done_with c let_ n)) below kept.1) in
      false_from_ne_true (is_done_with c (settled c s) n) (λ done.
      let parts = and_parts n.dying (is_clear c (settled c s) n.path) done in
      let clear =
      and_parts (not (list_any (λ f. stands_under (settled c s).nodes n.path f.adapter) s.flights))
      (not (list_any (λ a. not (is_over c a) && stands_under (settled c s).nodes n.path a.adapter) let_.activations)) parts.1 in
      true≢false (sym (ap₂ (λ x y. x && y) parts.0
      (ap₂ (λ x y. x && y)
      (not_false _ (none_in (λ f. stands_under (settled c s).nodes n.path f.adapter) (λ f. stands_under s.nodes n.path f.adapter) s.flights
      (λ f is under. still_under n.path f.adapter under (λ m at same. flight_stays c run let_ let_sound f m is at same)) (not_true _ clear.0)))
      (not_false _
      (none_in (λ a. not (is_over c a) && stands_under (settled c s).nodes n.path a.adapter)
      (λ a. not (is_over c a) && stands_under s.nodes n.path a.adapter) let_.activations
      (λ a is both. let two = and_parts (not (is_over c a)) (stands_under s.nodes n.path a.adapter) both in
      ap₂ (λ x y. x && y) two.0
      (still_under n.path a.adapter two.1 (λ m at same. activation_stays c run let_ let_sound a m is (not_true (is_over c a) two.0) at same)))
      (not_true _ clear.1))))) ∙ undone))
    where
      or_false : (x y : Bool) → x ≡ false → (x || y) ≡ true → y ≡ true
      or_false true y no_ is = absurd (let e : true ≡ false = no_ in cc)
      or_false false y no_ is = is

      not_true' : (b : Bool) → not b ≡ true → b ≡ false
      not_true' b e = not_true b e

      still_under : (p : List (List ℕ)) (k : ℕ) → stands_under s.nodes p k ≡ true
          → ((m : Node) → In m s.nodes → m.number ≡ k → stays c run let_ let_sound m ≡ true) → stands_under (settled c s).nodes p k ≡ true
      still_under p k under keeps =
          let m = some_in (λ x. (x.number == k) && leads_to p x.path) s.nodes under in
          let at : m.0.number ≡ k = eqb-true m.0.number k (and_parts (m.0.number == k) (leads_to p m.0.path) m.2).0 in
          any_in (λ x. (x.number == k) && leads_to p x.path) m.0 (settled c s).nodes
          (kept_in (stays c run let_ let_sound) m.0 s.nodes m.1 (keeps m.0 m.1 at)) m.2

module _ (c : Config) (run : ℕ) where
  pub ends_where : (s : Standing) → IsSound c run s → (n : Node) → In n s.nodes → (is_gone c s n.number ≡ true → IsEnded c s n)
      × (IsEnded c s n → is_gone c s n.number ≡ true)
  ends_where s sound n is = (
    λ gone. ended_by c run s sound n is (sym (gone_done c run s sound n is) ∙ gone),
    λ ended. gone_done c run s sound n is ∙ gone_by c run s sound n is ended,
  )

module _ (c : Config) (run limit : ℕ) where
  pub stands_ungone : (h : List Entry) → IsGiven c run → IsWithinLimits c limit → IsLegal c run limit h → (n : Node) → In n (standing c run h).nodes
      → is_root n.path ≡ false → is_gone c (standing c run h) n.number ≡ false
  stands_ungone [] given within legal n there below =
      gone_done c run (standing c run []) given.opens n there ∙ ap (λ b. b && is_clear c (standing c run []) n.path) (opening_live c run n there)
  stands_ungone (e ∷ past) given within legal n there below =
      gone_done c run (standing c run (e ∷ past)) (legal_sound c run limit (e ∷ past) given within legal) n there
      ∙ not_done c run (changed c run past e (standing c run past))
      (changed_sound c run past (standing c run past) (legal_sound c run limit past given within legal.1) e
      (may_move c run past (legal_sound c run limit past given within legal.1) given.numbered
      (has_ordinal c run limit within past legal.1) given.implicit limit e legal.0)) n there below

  pub emptied_where : (h : List Entry) → IsGiven c run → IsWithinLimits c limit → IsLegal c run limit h → (k : ℕ) → is_gone c (standing c run h) k ≡ true
      → IsEmptied c (standing c run h) k
  emptied_where h given within legal k gone = emptied c run (standing c run h) (legal_sound c run limit h given within legal) k gone
