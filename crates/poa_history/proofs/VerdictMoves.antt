-- What a verdict on a request tells of what stands: enough for what its Admit begins.
use Rattle.std.specs.Prelude.{◌≡◌, ℕ, suc, Bool, true, false, not, ◌&&◌, ◌||◌, ◌==◌, nat_lt, List, [], ◌∷◌, ◌++◌, take, drop, length, find, Option, Some, None, refl}
use Rattle.std.proofs.Common.{inl, inr, sym, subst, ap, ap₂, ◌∙◌}
use Rattle.std.proofs.lemmas.Bool.{cases_Bool, and_parts, false_from_ne_true, true≢false, eq-eqb}
use Rattle.poa_base.specs.declared.Config.{Config}
use Rattle.poa_base.specs.declared.Key.{Key}
use Rattle.poa_base.specs.declared.Call.{Call}
use Rattle.poa_base.specs.declared.Entry.{Entry}
use Rattle.poa_base.specs.declared.Verdict.{Verdict}
use Rattle.poa_base.specs.declared.Verdict.TheVariants.{Incarnate, Try}
use Rattle.poa_choose.specs.declared.Choice.{Choice}
use Rattle.poa_choose.specs.declared.Choice.TheVariants.{Go}
use Rattle.poa_choose.specs.declared.Facts.{Facts}
use Rattle.poa_choose.specs.declared.MapFact.TheVariants.{Active, Busy, Free}
use Rattle.poa_choose.specs.declared.WalkFact.TheVariants.{Dying as MeetsDying, Missing as MeetsMissing, Found as MeetsAdapter}
use Rattle.poa_choose.specs.Table.{unmade, first_row}
use Rattle.std.specs.Int.{w32, from_be_bytes}
use Rattle.poa_base.specs.Policies.{is_retain}
use Rattle.history_standing.specs.Templates.{policies_at, makes_ids}
use Rattle.history_standing.specs.Commands.{is_bad_id}
use Rattle.history_standing.specs.declared.activation.Activation.{Activation}
use Rattle.history_standing.specs.Paths.{same_bytes, same_path}
use Rattle.history_standing.specs.Arrivals.{target_of}
use Rattle.history_standing.specs.Standings.{Standing, is_active, is_of, is_tried}
use Rattle.history_standing.specs.Ends.{is_over}
use Rattle.history_standing.specs.declared.found.Found.{Found}
use Rattle.history_standing.specs.declared.found.Found.TheVariants.{Live, Dying, Missing}
use Rattle.history_standing.specs.Walks.{walk, adapter_met, child_met}
use Rattle.history_standing.specs.Situations.{walk_fact, slot_of, key_fact, facts_met}
use Rattle.history_standing.specs.Trees.{In, IsFreePath}
use Rattle.poa_history.specs.Sound.{IsSound}
use Rattle.history_standing.proofs.Finding.{find_none, same_path_self}
use Rattle.history_standing.proofs.Leading.{same_self}
use Rattle.poa_history.proofs.SoundKept.{IsUntried, MayFly, MayLive}
use Rattle.history_standing.proofs.WalkStands.{Tells, walk_tells}
use Rattle.poa_history.proofs.ChangeSound.{MayAdmit}
use Rattle.poa_history.proofs.TableTells.{AsksAlone, servant, adapter, asked}
use Rattle.history_standing.proofs.Tests.{none_by}

abbrev tries_test : Choice → Bool
tries_test (Go Try) = true
tries_test choice = false

abbrev begins_test : Choice → Bool
begins_test (Go (Incarnate n)) = true
begins_test choice = false

tries_alone : AsksAlone tries_test
tries_alone =
    record {
      no_held = λ _. refl;
      no_refuse = λ _. refl;
      no_unknown = refl;
      no_forward = λ _. refl;
      no_addressing = refl;
      no_here = refl;
      no_serve = λ _. refl;
      no_preset = λ _. refl;
      no_locator = λ _. refl;
    }

begins_alone : AsksAlone begins_test
begins_alone =
    record {
      no_held = λ _. refl;
      no_refuse = λ _. refl;
      no_unknown = refl;
      no_forward = λ _. refl;
      no_addressing = refl;
      no_here = refl;
      no_serve = λ _. refl;
      no_preset = λ _. refl;
      no_locator = λ _. refl;
    }

-- the front of a path up to the name behind a shorter one
take_one_more : (q : List (List ℕ)) (x : List ℕ) (more : List (List ℕ)) → take (suc (length q)) (q ++ x ∷ more) ≡ q ++ x ∷ []
take_one_more [] x more = refl
take_one_more (y ∷ q) x more = ap (λ r. y ∷ r) (take_one_more q x more)

module _ (c : Config) (run : ℕ) (s : Standing) (sound : IsSound c run s) where
  -- no trial of the child is in flight
  pub untried_by : (p : List (List ℕ)) → is_tried s.flights p ≡ false → IsUntried c run s sound p
  untried_by p none f is tries =
      let here = none_by (λ g. elim g.child [ Some q ↦ same_path q p | None ↦ false ]) f s.flights is none in
      let e : true ≡ false = sym (same_path_self p) ∙ (sym (ap (λ o. elim o [ Some q ↦ same_path q p | None ↦ false ]) tries) ∙ here) in cc

module _ (c : Config) (run : ℕ) (s : Standing) (sound : IsSound c run s) (r : ℕ) (key : Key) where
  -- the walk meets a missing child that isn't tried
  may_fly : (found : Found) → Tells s.nodes key.path found → walk_fact found ≡ MeetsMissing → is_tried s.flights (child_met found key.path) ≡ false
      → MayFly c run s sound (record { arrival = r; adapter = adapter_met found; activation = None; child = Some (child_met found key.path) })
  may_fly (Live k) tells is none = absurd (let e : MeetsAdapter ≡ MeetsMissing = is in cc)
  may_fly (Dying k) tells is none = absurd (let e : MeetsDying ≡ MeetsMissing = is in cc)
  may_fly (Missing k depth) tells is none =
      let (parent, stands, numbered, living, deep, rest) = tells in
      let (x, more, whole, free) = rest in
      let child : take (suc depth) key.path ≡ parent.path ++ x ∷ [] = ap₂ (λ d p. take (suc d) p) deep whole ∙ take_one_more parent.path x more in
      record {
        home = (parent, stands, numbered);
        missing =
            λ p tries.
            (let same : take (suc depth) key.path ≡ p = cc in
            record {
              parent = parent;
              name = x;
              stands = stands;
              numbered = numbered;
              child = sym same ∙ child;
              free = subst (λ q. IsFreePath s.nodes q) (sym child ∙ same) free;
            });
        untried = λ p tries. (let same : take (suc depth) key.path ≡ p = cc in untried_by c run s sound p (ap (λ q. is_tried s.flights q) (sym same) ∙ none));
      }

  -- no activation of the id holds it
  over_by : (k : ℕ) → slot_of c s.activations k key.oid ≡ Free → (a : Activation) → In a s.activations → a.adapter ≡ k → a.oid ≡ key.oid → is_over c a ≡ true
  over_by k free a is at_k of_id =
      elim (cases_Bool (is_over c a)) [
        | inl over ↦ over
        | inr lives ↦ absurd (elim (find (λ b. is_of k key.oid b && is_active b) s.activations) as (λ o. (elim o [
          | Some b ↦ Active b.number
          | None ↦ elim (find (λ b. is_of k key.oid b && not (is_over c b)) s.activations) [ Some b ↦ Busy b.number | None ↦ Free ]
        ]) ≡ Free → ⊥) [
          | Some b ↦ λ not_free. (let e : Active b.number ≡ Free = not_free in cc)
          | None ↦ λ not_busy. (elim (find (λ b. is_of k key.oid b && not (is_over c b)) s.activations) as (λ o. find
              (λ b. is_of k key.oid b && not (is_over c b)) s.activations ≡ o → (elim o [
                | Some b ↦ Busy b.number
                | None ↦ Free
              ]) ≡ Free → ⊥) [
                | Some b ↦ λ _ not_free. (let e : Busy b.number ≡ Free = not_free in cc)
                | None ↦ λ none _. find_none (λ b. is_of k key.oid b && not (is_over c b)) a s.activations none is
                    (ap₂ (λ x y. x && y) (ap₂ (λ x y. x && y) (eq-eqb _ _ at_k) (ap (λ i. same_bytes i key.oid) of_id ∙ same_self key.oid)) (ap not lives))
              ] refl not_busy)
        ] free)
      ]

  may_live : (found : Found) → Tells s.nodes key.path found → walk_fact found ≡ MeetsAdapter → slot_of c s.activations (adapter_met found) key.oid ≡ Free
      → is_bad_id c run s.made key.path key.oid ≡ false → MayLive c run s sound (adapter_met found) key.path key.oid
  may_live (Live k) tells is free made =
      (let (n, stands, numbered, placed, living) = tells in
      record { node = n; stands = stands; numbered = numbered; placed = placed; over = over_by k free; made = made })
  may_live (Dying k) tells is free made = absurd (let e : MeetsDying ≡ MeetsAdapter = is in cc)
  may_live (Missing k depth) tells is free made = absurd (let e : MeetsMissing ≡ MeetsAdapter = is in cc)

  module _ (past : List Entry) (locate crowded : Bool) (call : Option Call) (w : ℕ) (v : Verdict) where
    abbrev facts : Facts
    facts = facts_met c run past s locate crowded (key_fact run (target_of call)) key (walk s.nodes key.path)

    tells_walk : Tells s.nodes key.path (walk s.nodes key.path)
    tells_walk = walk_tells s.nodes s.count key.path sound.tree

    -- where the table doesn't call the id one that wasn't made, it isn't
    good_id : is_retain (policies_at c key.path).retention ≡ true → unmade facts ≡ false → is_bad_id c run s.made key.path key.oid ≡ false
    good_id retains made =
        false_from_ne_true (is_bad_id c run s.made key.path key.oid)
        (λ bad. true≢false
        (sym (ap₂ (λ a b. a && b) retains
        (ap₂ (λ a b. a && b)
        (and_parts (makes_ids (policies_at c key.path))
        (not (length key.oid == 8) ||
        ((from_be_bytes w32 (take 4 key.oid) == run) && ((from_be_bytes w32 (drop 4 key.oid) == 0) || nat_lt s.made (from_be_bytes w32 (drop 4 key.oid)))))
        bad).0 bad)) ∙ made))

    tries_by : first_row facts w ≡ Go Try → MayFly c run s sound
        (record { arrival = r; adapter = adapter_met (walk s.nodes key.path); activation = None; child = Some (child_met (walk s.nodes key.path) key.path) })
    tries_by chosen_try =
        elim (asked tries_test tries_alone facts w (ap tries_test chosen_try)) [
          | servant is free asks ↦ absurd (let e : false ≡ true = asks.passes in cc)
          | adapter is none passes ↦ may_fly (walk s.nodes key.path) tells_walk is none
        ]

    begins_by : (n : ℕ) → first_row facts w ≡ Go (Incarnate n) → MayLive c run s sound (adapter_met (walk s.nodes key.path)) key.path key.oid
    begins_by n chosen_begin =
        elim (asked begins_test begins_alone facts w (ap begins_test chosen_begin)) [
          | servant is free asks ↦ may_live (walk s.nodes key.path) tells_walk is free (good_id asks.retains asks.made)
          | adapter is none passes ↦ absurd (let e : false ≡ true = passes in cc)
        ]

    pub may_admit : first_row facts w ≡ Go v → MayAdmit c run s sound r key v
    may_admit row = record {
      tries = λ is. tries_by (row ∙ ap (λ u. Go u) is);
      begins = λ n is. begins_by n (row ∙ ap (λ u. Go u) is);
    }
