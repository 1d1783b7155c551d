-- The reply that is collected leaves the outbox.
use Rattle.std.proofs.Common.{◌≡◌, ℕ, ◌+◌, zero, suc, Bool, true, false, not, ◌&&◌, ◌||◌, ◌==◌, List, [], ◌∷◌, ◌++◌, map, filter, find, take, drop, cond, Some, None, refl, sym, ap, ap₂, subst, ◌∙◌, inl, inr, ◌⊎◌, arith}
use Rattle.std.specs.List.{position_or_len}
use Rattle.std.proofs.lemmas.Bool.{cond_both, eqb-true, eq-eqb, false_from_ne_true, true≢false}
use Rattle.poa_base.specs.declared.Config.{Config}
use Rattle.poa_base.specs.declared.Entry.{Entry}
use Rattle.poa_base.specs.declared.Entry.TheVariants.{Collect}
use Rattle.history_standing.specs.Arrivals.{arrivals}
use Rattle.poa_history.specs.Replies.{asks, decided, is_collected}
use Rattle.history_standing.specs.Arrivals.{call_of}
use Rattle.poa_history.specs.States.{Stored}
use Rattle.history_standing.specs.Trees.{In}
use Rattle.history_standing.proofs.Members.{in_kept}
use Rattle.core_outboxes.specs.declared.filed.Filed.{Filed as FiledRow}
use Rattle.poa_history.specs.Numbers.{below}
use Rattle.core_outboxes.specs.Decided.{is_answered_by, answered, AreFiled}
use Rattle.core_outboxes.specs.Desk.{without_first}
use Rattle.poa_history.proofs.Numbers.{filter_twice, in_below}
use Rattle.core_outboxes.proofs.Lists.{filter_agrees}
use Rattle.core_outboxes.proofs.Arrived.{answered_decided}

-- no element twice
abbrev pub Distinct : List ℕ → Type 0
Distinct [] = Unit {0}
Distinct (x ∷ xs) = (In x xs → ⊥) × Distinct xs

pub distinct_kept : (p : ℕ → Bool) (xs : List ℕ) → Distinct xs → Distinct (filter p xs)
distinct_kept p [] is = tt
distinct_kept p (x ∷ xs) is =
    elim (p x) as (λ b. Distinct (cond b (x ∷ filter p xs) (filter p xs)))
    [ true ↦ ((λ there. is.0 (in_kept p x xs there).0), distinct_kept p xs is.1) | false ↦ distinct_kept p xs is.1 ]

in_either_part : (x : ℕ) (xs ys : List ℕ) → In x (xs ++ ys) → In x xs ⊎ In x ys
in_either_part x [] ys there = inr there
in_either_part x (z ∷ xs) ys (inl same) = inl (inl same)
in_either_part x (z ∷ xs) ys (inr further) = elim (in_either_part x xs ys further) [ inl a ↦ inl (inr a) | inr b ↦ inr b ]

distinct_both : (xs ys : List ℕ) → Distinct xs → Distinct ys → ((x : ℕ) → In x xs → In x ys → ⊥) → Distinct (xs ++ ys)
distinct_both [] ys one two apart = two
distinct_both (x ∷ xs) ys one two apart = (
  (λ there. elim (in_either_part x xs ys there) [ inl a ↦ one.0 a | inr b ↦ apart x (inl refl) b ]),
  distinct_both xs ys one.1 two (λ y a b. apart y (inr a) b),
)

pub distinct_below : (n : ℕ) → Distinct (below n)
distinct_below zero = tt
distinct_below (suc n) =
    distinct_both (below n) (n ∷ []) (distinct_below n) ((λ none. none), tt)
    (λ x a b. elim b [ inl same ↦ (let less = in_below x n a in let e : x ≡ n = same in absurd (omega (arith, less, e))) | inr none ↦ none ])

-- no arrival is answered twice
answered_distinct : (c : Config) (run : ℕ) (h : List Entry) → Distinct (answered c run h)
answered_distinct c run [] = tt
answered_distinct c run (e ∷ past) =
    distinct_both (answered c run past) (filter (is_answered_by c run e past) (below (arrivals past))) (answered_distinct c run past)
    (distinct_kept (is_answered_by c run e past) (below (arrivals past)) (distinct_below (arrivals past)))
    (λ r old new. (let its = in_kept (is_answered_by c run e past) r (below (arrivals past)) new in
    true≢false (sym (answered_decided c run past r old) ∙ last (asks (call_of past r)) (decided c run (e ∷ past) r) (decided c run past r) its.1)))
  where
    last : (a b d : Bool) → (a && (b && not d)) ≡ true → d ≡ false
    last true true false is = refl
    last true true true is = absurd (let x : false ≡ true = is in cc)
    last true false d is = absurd (let x : false ≡ true = is in cc)
    last false b d is = absurd (let x : false ≡ true = is in cc)

arrival_in_rows : (p : FiledRow → Bool) (f : FiledRow) (fs : List FiledRow) → find p fs ≡ Some f → In f.arrival (map (λ x. x.arrival) fs)
arrival_in_rows p f [] is = absurd (let e : None ≡ Some f = is in cc)
arrival_in_rows p f (x ∷ xs) is =
    cond_both (p x) (Some x) (find p xs) (λ o. o ≡ Some f → In f.arrival (x.arrival ∷ map (λ y. y.arrival) xs))
    (λ _ same. inl (let e : x ≡ f = (let s : Some x ≡ Some f = same in cc) in sym (ap (λ y. y.arrival) e)))
    (λ _ further. inr (arrival_in_rows p f xs further)) is

none_equal : (x : ℕ) (xs : List ℕ) → (In x xs → ⊥) → filter (λ r. not (x == r)) xs ≡ xs
none_equal x [] other = refl
none_equal x (y ∷ ys) other =
    ap₂ (λ b zs. cond (not b) (y ∷ zs) zs) (false_from_ne_true (x == y) (λ same. other (inl (eqb-true x y same))))
    (none_equal x ys (λ there. other (inr there)))

-- where no arrival stands twice, taking out the first row that passes takes out its arrival
removed : (p : FiledRow → Bool) (f : FiledRow) (fs : List FiledRow) → find p fs ≡ Some f → Distinct (map (λ x. x.arrival) fs)
    → map (λ x. x.arrival) (take (position_or_len p fs) fs ++ drop (suc (position_or_len p fs)) fs) ≡ filter (λ r. not (f.arrival == r))
    (map (λ x. x.arrival) fs)
removed p f [] is distinct = absurd (let e : None ≡ Some f = is in cc)
removed p f (x ∷ xs) is distinct =
    elim (p x) as (λ b. cond b (Some x) (find p xs) ≡ Some f
    → map (λ y. y.arrival) (take (cond (not b) (1 + position_or_len p xs) 0) (x ∷ xs) ++ drop (suc (cond (not b) (1 + position_or_len p xs) 0)) (x ∷ xs))
    ≡ filter (λ r. not (f.arrival == r)) (x.arrival ∷ map (λ y. y.arrival) xs)) [
      | true ↦ (λ same. (let e : x ≡ f = (let s : Some x ≡ Some f = same in cc) in let at : x.arrival ≡ f.arrival = ap (λ y. y.arrival) e in
          sym (ap (λ b. cond (not b) (x.arrival ∷ filter (λ r. not (f.arrival == r)) (map (λ y. y.arrival) xs))
          (filter (λ r. not (f.arrival == r)) (map (λ y. y.arrival) xs))) (eq-eqb f.arrival x.arrival (sym at))
          ∙ none_equal f.arrival (map (λ y. y.arrival) xs) (λ there. distinct.0 (subst (λ r. In r (map (λ y. y.arrival) xs)) (sym at) there)))))
      | false ↦ (λ further. (let rest = removed p f xs further distinct.1 in
          let apart : (f.arrival == x.arrival) ≡ false =
          false_from_ne_true (f.arrival == x.arrival)
          (λ same. distinct.0 (subst (λ r. In r (map (λ y. y.arrival) xs)) (eqb-true f.arrival x.arrival same) (arrival_in_rows p f xs further))) in
          let next : suc (position_or_len p xs) ≡ 1 + position_or_len p xs = omega arith in
          subst (λ n. map (λ y. y.arrival) (take n (x ∷ xs) ++ drop (suc n) (x ∷ xs)) ≡ filter (λ r. not (f.arrival == r))
          (x.arrival ∷ map (λ y. y.arrival) xs)) next
          (ap (λ ys. x.arrival ∷ ys) rest
          ∙ ap (λ b. cond (not b) (x.arrival ∷ filter (λ r. not (f.arrival == r)) (map (λ y. y.arrival) xs))
          (filter (λ r. not (f.arrival == r)) (map (λ y. y.arrival) xs))) (sym apart))))
    ] is

-- what is left of the outbox are the replies that aren't collected after the Collect
pub left_which : (c : Config) (run : ℕ) (opened : Stored) (h : List Entry) (fs : List FiledRow) (conn : ℕ) (f : FiledRow) → AreFiled c run opened h fs
    → find (λ x. x.conn == conn) fs ≡ Some f
    → map (λ x. x.arrival) (without_first conn fs) ≡ filter (λ r. not (is_collected (Collect conn f.arrival ∷ h) r)) (answered c run h)
left_which c run opened h fs conn f filed found =
    removed (λ x. x.conn == conn) f fs found
    (subst Distinct (sym filed.which) (distinct_kept (λ r. not (is_collected h r)) (answered c run h) (answered_distinct c run h)))
    ∙ ap (filter (λ r. not (f.arrival == r))) filed.which
    ∙ filter_twice (λ r. not (is_collected h r)) (λ r. not (f.arrival == r)) (answered c run h)
    ∙ filter_agrees (λ r. not (is_collected h r) && not (f.arrival == r)) (λ r. not (is_collected (Collect conn f.arrival ∷ h) r)) (answered c run h)
    (λ r _. neither (f.arrival == r) (is_collected h r))
  where
    neither : (a b : Bool) → (not b && not a) ≡ not (a || b)
    neither true true = refl
    neither true false = refl
    neither false true = refl
    neither false false = refl

pub left_in : (conn : ℕ) (fs : List FiledRow) (f : FiledRow) → In f (without_first conn fs) → In f fs
left_in conn fs f there = from_parts (position_or_len (λ x. x.conn == conn) fs) fs there
  where
    from_drop : (n : ℕ) (xs : List FiledRow) → In f (drop n xs) → In f xs
    from_drop zero xs there = there
    from_drop (suc n) [] there = there
    from_drop (suc n) (x ∷ xs) there = inr (from_drop n xs there)

    from_parts : (n : ℕ) (xs : List FiledRow) → In f (take n xs ++ drop (suc n) xs) → In f xs
    from_parts zero [] there = there
    from_parts zero (x ∷ xs) there = inr there
    from_parts (suc n) [] there = there
    from_parts (suc n) (x ∷ xs) (inl same) = inl same
    from_parts (suc n) (x ∷ xs) (inr more) = inr (from_parts n xs more)
