-- What is known of the activations that pass stays true, whatever is changed.
use Rattle.std.specs.Prelude.{◌≡◌, ℕ, Bool, true, false, not, ◌&&◌, ◌||◌, ◌==◌, if◌then◌else◌, cond, List, [], ◌∷◌, ◌++◌, map, filter, is_some, Some, ◌⊎◌, refl}
use Rattle.std.specs.List.{list_any}
use Rattle.std.proofs.Common.{inl, inr, sym, ap, subst, ◌∙◌}
use Rattle.std.proofs.lemmas.Bool.{and_left, and_parts, and_right, cond_both, cond-true, cond-false, eq-eqb, eqb-true, or_cases, or_left, or_right, true≢false, false_from_ne_true}
use Rattle.poa_base.specs.declared.Config.{Config}
use Rattle.poa_base.specs.declared.Sid.{Sid}
use Rattle.poa_base.specs.declared.Sid.TheVariants.{Fresh, Named}
use Rattle.history_standing.specs.declared.activation.Activation.{Activation}
use Rattle.history_standing.specs.declared.activation.Phase.{Phase}
use Rattle.history_standing.specs.declared.activation.Phase.TheVariants.{Begun, Complete, Void}
use Rattle.history_standing.specs.Ends.{is_finished, is_left, is_over, let_out}
use Rattle.history_standing.specs.Standings.{Standing, has_servant, is_begun, is_complete, is_mapped, is_void, same_servant}
use Rattle.history_standing.specs.Trees.{In}
use Rattle.history_standing.proofs.Members.{in_either, in_image, in_kept, some_in}
use Rattle.active_map.proofs.Covering.{covers_rest}
use Rattle.active_map.proofs.IdsKept.{row_of}
use Rattle.active_map.proofs.RowsKept.{values_kept}
use Rattle.std.specs.BTreeMap.{is_at}
use Rattle.std.specs.List.Sorted.{IsStrictlySortedBy}
use Rattle.std.specs.Map.{keys_of, values_of, lookup}
use Rattle.std.specs.Ordering.{nat_cmp}
use Rattle.history_standing.specs.Changes.{at_number, is_elsewhere}
use Rattle.history_standing.specs.Situations.{is_unfinished}
use Rattle.active_map.specs.Asked.{is_other}
use Rattle.active_map.specs.Endings.{ended, marked, takes}
use Rattle.active_map.specs.Noted.{IsNoted, NotedAs}
use Rattle.active_map.specs.Tables.{has_own, is_own, is_passing, IsKeyed, Keeps}
use Rattle.active_map.specs.declared.ending.Ending.{Ending}
use Rattle.active_map.specs.declared.ending.Ending.TheVariants.{Below, Managed, Id}
use Rattle.active_map.specs.declared.passing.Passing.{Passing}

-- ---- another came, or one was changed

pub noted_others : (a : Activation) (old new : Passing) (as' : List Activation) → NotedAs a old new
    → ((b : Activation) → In b as' → (b.number == a.number) ≡ false) → IsNoted old as' → IsNoted new as'
noted_others a old new as' came others known =
    record {
      passed = λ whole b there passes. came.others b.number (known.passed (came.whole whole) b there passes) (others b there);
      owned = λ own b there. known.owned (came.was own) b there;
    }

pub noted_more : (a : Activation) (old new : Passing) (as' : List Activation) → NotedAs a old new
    → ((b : Activation) → In b as' → (b.number == a.number) ≡ false) → IsNoted old as' → IsNoted new (as' ++ a ∷ [])
noted_more a old new as' came others known =
    (let was = noted_others a old new as' came others known in
    record {
      passed = λ whole b there passes. elim (in_either b a as' there) [
        | inl before ↦ was.passed whole b before passes
        | inr same ↦ subst (λ (x : Activation). In x.number new.numbers.items) (sym same) (came.its whole (sym (ap is_passing same) ∙ passes))
      ];
      owned = λ own b there. elim (in_either b a as' there) [
        | inl before ↦ was.owned own b before
        | inr same ↦ ap is_own same ∙ came.owns own
      ];
    })

-- that of a number, which is the only one, has become another
pub noted_at : (n : ℕ) (f : Activation → Activation) (as' : List Activation) (a b : Activation) (old new : Passing)
    → ((x : Activation) → In x as' → (x.number == n) ≡ true → x ≡ a) → b ≡ f a → b.number ≡ n → NotedAs b old new
    → IsNoted old as' → IsNoted new (map (at_number n f) as')
noted_at n f as' a b old new alone is its came known =
    record {
      passed = λ whole y there passes. (let found = in_image (at_number n f) y as' there in
          let x = found.0 in
          elim (x.number == n) as (λ t. (x.number == n) ≡ t → In y.number new.numbers.items) [
            | true ↦ (λ hit. (let same : y ≡ b = found.2 ∙ cond-true (x.number == n) (f x) x hit ∙ ap f (alone x found.1 hit) ∙ sym is in
                subst (λ (z : Activation). In z.number new.numbers.items) (sym same) (came.its whole (sym (ap is_passing same) ∙ passes))))
            | false ↦ (λ miss. (let same : y ≡ x = found.2 ∙ cond-false (x.number == n) (f x) x miss in
                subst (λ (z : Activation). In z.number new.numbers.items) (sym same)
                (came.others x.number (known.passed (came.whole whole) x found.1 (sym (ap is_passing same) ∙ passes))
                (subst (λ k. (x.number == k) ≡ false) (sym its) miss))))
          ] refl);
      owned = λ own y there. (let found = in_image (at_number n f) y as' there in
          let x = found.0 in
          elim (x.number == n) as (λ t. (x.number == n) ≡ t → is_own y ≡ true) [
            | true ↦ (λ hit. ap is_own (found.2 ∙ cond-true (x.number == n) (f x) x hit ∙ ap f (alone x found.1 hit) ∙ sym is) ∙ came.owns own)
            | false ↦ (λ miss. ap is_own (found.2 ∙ cond-false (x.number == n) (f x) x miss) ∙ known.owned (came.was own) x found.1)
          ] refl);
    }

-- ---- a change of each, and fewer

pub noted_each : (f : Activation → Activation) (as' : List Activation) (known : Passing) → Keeps f → ((a : Activation) → is_passing (f a) ≡ is_passing a)
    → ((a : Activation) → is_own (f a) ≡ is_own a) → IsNoted known as' → IsNoted known (map f as')
noted_each f as' known keeps passes owns was =
    record {
      passed = λ whole y there is. (let found = in_image f y as' there in
          subst (λ n. In n known.numbers.items) (sym (ap (λ (x : Activation). x.number) found.2 ∙ keeps.number found.0))
          (was.passed whole found.0 found.1 (sym (ap is_passing found.2 ∙ passes found.0) ∙ is)));
      owned = λ own y there. (let found = in_image f y as' there in ap is_own found.2 ∙ owns found.0 ∙ was.owned own found.0 found.1);
    }

-- where it isn't said that all are known
pub noted_unsure : (f : Activation → Activation) (as' : List Activation) (old new : Passing) → ((a : Activation) → is_own (f a) ≡ is_own a)
    → new.is_whole ≡ false → new.are_own ≡ old.are_own → IsNoted old as' → IsNoted new (map f as')
noted_unsure f as' old new owns unsure own was =
    record {
      passed = λ whole. absurd (true≢false (sym whole ∙ unsure));
      owned = λ is y there. (let found = in_image f y as' there in ap is_own found.2 ∙ owns found.0 ∙ was.owned (sym own ∙ is) found.0 found.1);
    }

pub noted_fewer : (known : Passing) (all some : List Activation) → ((a : Activation) → In a some → In a all) → IsNoted known all → IsNoted known some
noted_fewer known all some within was =
    record { passed = λ whole a there. was.passed whole a (within a there); owned = λ own a there. was.owned own a (within a there) }

-- some are kept, and what is known of these
pub noted_struck : (p : Activation → Bool) (rows rows' : List (ℕ × Activation)) → rows' ≡ filter (λ row. p row.1) rows → IsKeyed rows'
    → IsStrictlySortedBy nat_cmp (keys_of rows') → (old new : Passing) → new.is_whole ≡ old.is_whole → new.are_own ≡ old.are_own
    → ((n : ℕ) → In n old.numbers.items → is_some (lookup (is_at (nat_cmp n)) rows') ≡ true → In n new.numbers.items)
    → IsNoted old (values_of rows) → IsNoted new (values_of rows')
noted_struck p rows rows' rest keyed ordered old new whole own stays was =
    record {
      passed = λ is. covers_rest is_passing p rows rows' rest keyed ordered old.numbers.items new.numbers.items stays (was.passed (sym whole ∙ is));
      owned = λ is a there. was.owned (sym own ∙ is) a
          (in_kept p a (values_of rows) (subst (In a) (ap values_of rest ∙ values_kept p rows) there)).0;
    }

-- the only one of a number
pub only_one : (n : ℕ) (rows : List (ℕ × Activation)) → IsKeyed rows → IsStrictlySortedBy nat_cmp (keys_of rows) → (a : Activation)
    → lookup (is_at (nat_cmp n)) rows ≡ Some a → (x : Activation) → In x (values_of rows) → x.number ≡ n → x ≡ a
only_one n rows keyed ordered a had x there its =
    (let found : Some x ≡ Some a = sym (row_of rows keyed ordered x there) ∙ ap (λ k. lookup (is_at (nat_cmp k)) rows) its ∙ had in cc)

-- ---- what a change leaves

passing_mark : (e : Ending) (a : Activation) → is_passing (marked e a) ≡ is_passing a
passing_mark (Below nodes path etherealize) a = refl
passing_mark (Managed c manager) a = refl
passing_mark (Id k oid) a = refl

own_mark : (e : Ending) (a : Activation) → is_own (marked e a) ≡ is_own a
own_mark (Below nodes path etherealize) a = refl
own_mark (Managed c manager) a = refl
own_mark (Id k oid) a = refl

pub passing_ended : (e : Ending) (a : Activation) → is_passing (ended e a) ≡ is_passing a
passing_ended e a = cond_both (takes e a) (marked e a) a (λ b. is_passing b ≡ is_passing a) (λ _. passing_mark e a) (λ _. refl)

pub own_ended : (e : Ending) (a : Activation) → is_own (ended e a) ≡ is_own a
own_ended e a = cond_both (takes e a) (marked e a) a (λ b. is_own b ≡ is_own a) (λ _. own_mark e a) (λ _. refl)

pub own_out : (c : Config) (s : Standing) (a : Activation) → is_own (let_out c s a) ≡ is_own a
own_out c s a = cond_both (is_left c s a) (record a { out = true }) a (λ b. is_own b ≡ is_own a) (λ _. refl) (λ _. refl)

-- of that of a number
pub passing_at : (n : ℕ) (f : Activation → Activation) → ((a : Activation) → is_passing (f a) ≡ is_passing a) → (a : Activation)
    → is_passing (at_number n f a) ≡ is_passing a
passing_at n f same a = cond_both (a.number == n) (f a) a (λ b. is_passing b ≡ is_passing a) (λ _. same a) (λ _. refl)

pub own_at : (n : ℕ) (f : Activation → Activation) → ((a : Activation) → is_own (f a) ≡ is_own a) → (a : Activation)
    → is_own (at_number n f a) ≡ is_own a
own_at n f same a = cond_both (a.number == n) (f a) a (λ b. is_own b ≡ is_own a) (λ _. same a) (λ _. refl)

-- ---- what passes

incomplete_begun : (p : Phase) → elim p [ Begun ↦ true | Complete s ↦ false | Void ↦ false ] ≡ true
    → elim p [ Complete s ↦ true | Begun ↦ false | Void ↦ false ] ≡ false
incomplete_begun Begun is = refl
incomplete_begun (Complete s) is = sym is
incomplete_begun Void is = refl

incomplete_void : (p : Phase) → elim p [ Void ↦ true | Begun ↦ false | Complete s ↦ false ] ≡ true
    → elim p [ Complete s ↦ true | Begun ↦ false | Void ↦ false ] ≡ false
incomplete_void Begun is = refl
incomplete_void (Complete s) is = sym is
incomplete_void Void is = refl

pub unfinished_passes : (c : Config) (a : Activation) → is_unfinished c a ≡ true → is_passing a ≡ true
unfinished_passes c a is =
    elim (or_cases (is_begun a) (a.out && not (is_finished c a)) is) [
      | inl begun ↦ or_left (not (is_complete a)) a.out (ap not (incomplete_begun a.phase begun))
      | inr out ↦ or_right (not (is_complete a)) a.out (and_parts a.out (not (is_finished c a)) out).0
    ]

pub over_passes : (c : Config) (a : Activation) → is_over c a ≡ true → is_passing a ≡ true
over_passes c a is =
    elim (or_cases (is_void a) (is_finished c a) is) [
      | inl void ↦ or_left (not (is_complete a)) a.out (ap not (incomplete_void a.phase void))
      | inr out ↦ or_right (not (is_complete a)) a.out (and_parts a.out _ out).0
    ]

-- ---- who has the servant that was made for it is alone

made_for : (p : Phase) (m k : ℕ) → elim p [ Complete t ↦ same_servant t (Fresh m) | Begun ↦ false | Void ↦ false ] ≡ true
    → elim p [ Complete s ↦ elim s [ Fresh j ↦ j == k | Named j ↦ true ] | Begun ↦ true | Void ↦ true ] ≡ true → k ≡ m
made_for Begun m k has owns = absurd (true≢false (sym has))
made_for Void m k has owns = absurd (true≢false (sym has))
made_for (Complete (Named j)) m k has owns = absurd (true≢false (sym has))
made_for (Complete (Fresh j)) m k has owns = sym (eqb-true j k owns) ∙ eqb-true j m has

same_number : (p : Phase) (k : ℕ) (b : Activation) → elim p [ Complete s ↦ elim s [ Fresh m ↦ m == k | Named j ↦ false ] | Begun ↦ false | Void ↦ false ] ≡ true
    → is_own b ≡ true → (elim p [ Complete s ↦ has_servant s b | Begun ↦ false | Void ↦ false ]) ≡ true → b.number ≡ k
same_number Begun k b own owns has = absurd (true≢false (sym own))
same_number Void k b own owns has = absurd (true≢false (sym own))
same_number (Complete (Named j)) k b own owns has = absurd (true≢false (sym own))
same_number (Complete (Fresh m)) k b own owns has = made_for b.phase m b.number has owns ∙ eqb-true m k own

pub own_alone : (a : Activation) (as' : List Activation) → has_own a ≡ true → ((b : Activation) → In b as' → is_own b ≡ true)
    → is_elsewhere as' a ≡ false
own_alone a as' own owns =
    false_from_ne_true (is_elsewhere as' a) (λ some. (let found = some_in (is_other a) as' some in
    let b = found.0 in
    let parts = and_parts (not (b.number == a.number)) _ found.2 in
    let more = and_parts (b.adapter == a.adapter) _ parts.1 in
    let has = (and_parts (is_mapped b) _ more.1).1 in
    let same = same_number a.phase a.number b own (owns b found.1) has in
    true≢false (sym parts.0 ∙ ap not (eq-eqb b.number a.number same))))
