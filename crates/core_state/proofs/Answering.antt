-- What is kept answers as what stands.
use Rattle.std.specs.Prelude.{◌≡◌, ℕ, Bool, true, false, not, ◌&&◌, ◌||◌, ◌==◌, nat_lt, if◌then◌else◌, List, [], ◌∷◌, find, Option, Some, None, option_map, refl}
use Rattle.std.specs.List.{list_any}
use Rattle.std.proofs.Common.{sym, ap, ap₂, ◌∙◌, arith}
use Rattle.std.proofs.lemmas.Bool.{false_from_ne_true, true≢false, eqb-true}
use Rattle.poa_base.specs.declared.Config.{Config}
use Rattle.poa_base.specs.declared.Sid.{Sid}
use Rattle.poa_base.specs.declared.Entry.{Entry}
use Rattle.poa_base.specs.declared.Entry.TheVariants.{TakeOut}
use Rattle.poa_base.specs.declared.Verdict.{Verdict}
use Rattle.poa_base.specs.declared.Verdict.TheVariants.{Serve, Preset, Locator, Incarnate, Try, Refuse, Forward, Addressing, Here, Unknown, Answer, Wait}
use Rattle.poa_choose.specs.declared.MapFact.TheVariants.{Active, Busy, Free}
use Rattle.history_standing.specs.Nodes.{stands_under}
use Rattle.history_standing.specs.Trees.{In}
use Rattle.history_standing.specs.declared.activation.Activation.{Activation}
use Rattle.history_standing.specs.declared.stage.Stage.TheVariants.{Serving}
use Rattle.poa_history.specs.Alone.{IsGivenAlone}
use Rattle.poa_history.specs.Bounds.{IsWithinLimits}
use Rattle.history_standing.specs.Changes.{standing}
use Rattle.history_standing.specs.Ends.{is_over, is_clear, is_done_with, is_gone}
use Rattle.poa_history.specs.InFlight.{named}
use Rattle.poa_history.specs.Legal.{IsLegal}
use Rattle.poa_history.specs.Settling.{are_ended}
use Rattle.history_standing.specs.Situations.{slot_of, is_unfinished, is_changing}
use Rattle.poa_history.specs.Sound.{IsGiven, IsSound}
use Rattle.history_standing.specs.Stages.{stage, admitted}
use Rattle.history_standing.specs.Standings.{Standing, is_active, is_complete, is_ending, is_mapped, has_servant, is_of, is_in_map, is_used}
use Rattle.poa_history.specs.States.{servant_by, servant_of_activation}
use Rattle.history_standing.specs.Templates.{has_activator, manager_at}
use Rattle.poa_history.specs.Turns.{activation_numbered, is_due, removal}
use Rattle.poa_history.proofs.LegalSound.{legal_sound}
use Rattle.poa_history.proofs.MannedKept.{all_manned}
use Rattle.poa_history.proofs.OutIs.{out_complete}
use Rattle.core_standing.specs.Seen.{forgotten}
use Rattle.core_standing.specs.Kept.{Forgets, StandingAgrees}
use Rattle.core_standing.specs.Answers.{AnswersAs}
use Rattle.core_standing.proofs.Kept.{any_alike, all_alike, find_alike}
use Rattle.core_standing.proofs.ChangesAlike.{unmapped, mapped_alike, lived_alike}
use Rattle.core_standing.proofs.Behind.{first_fails, second_fails}
use Rattle.core_state.proofs.OverTests.{inactive, unchanging, undue}
use Rattle.core_state.proofs.WorkedOn.{IsLive, worked_lives, served_there}

find_same : {A : Type 0} (test other : A → Bool) (xs : List A) → ((x : A) → test x ≡ other x) → find test xs ≡ find other xs
find_same test other [] same = refl
find_same test other (x ∷ xs) same = ap₂ (λ b o. if b then Some x else o) (same x) (find_same test other xs same)

module _ (c : Config) (run limit : ℕ) (h : List Entry) (given : IsGiven c run) (alone : IsGivenAlone c run) (within : IsWithinLimits c limit)
    (legal : IsLegal c run limit h)
    (t : Standing) (kept : StandingAgrees c run h t) where
  abbrev s : Standing
  s = standing c run h

  abbrev forgets : Forgets c s.activations t.activations
  forgets = kept.stands.forgets

  flights_same : t.flights ≡ s.flights
  flights_same = ap (λ u. u.flights) kept.stands.same

  nodes_same : t.nodes ≡ s.nodes
  nodes_same = ap (λ u. u.nodes) kept.stands.same

  over_inactive : (a : Activation) → In a s.activations → is_over c a ≡ true → is_active a ≡ false
  over_inactive a there = inactive c a ((all_manned c run limit h given alone within legal).out_ending a there)

  over_unchanging : (a : Activation) → In a s.activations → is_over c a ≡ true → is_unfinished c a ≡ false
  over_unchanging a there = unchanging c a (out_complete c run limit given alone within h legal a there)

  active_same : (k : ℕ) (oid : List ℕ) → find (λ a. is_of k oid a && is_active a) t.activations ≡ find (λ a. is_of k oid a && is_active a) s.activations
  active_same k oid =
      find_alike c s.activations t.activations forgets (λ a. is_of k oid a && is_active a) (second_fails (is_of k oid forgotten) _ refl)
      (λ a there over. second_fails (is_of k oid a) _ (over_inactive a there over))

  any_active_same : (k : ℕ) (oid : List ℕ)
      → list_any (λ a. is_of k oid a && is_active a) t.activations ≡ list_any (λ a. is_of k oid a && is_active a) s.activations
  any_active_same k oid =
      any_alike c s.activations t.activations forgets (λ a. is_of k oid a && is_active a) (second_fails (is_of k oid forgotten) _ refl)
      (λ a there over. second_fails (is_of k oid a) _ (over_inactive a there over))

  held_same : (k : ℕ) (oid : List ℕ) → find (λ a. is_of k oid a && not (is_over c a)) t.activations ≡ find
      (λ a. is_of k oid a && not (is_over c a)) s.activations
  held_same k oid =
      find_alike c s.activations t.activations forgets (λ a. is_of k oid a && not (is_over c a)) (second_fails (is_of k oid forgotten) _ refl)
      (λ a there over. second_fails (is_of k oid a) _ (ap not over))

  any_held_same : (k : ℕ) (oid : List ℕ) → list_any (λ a. is_of k oid a && not (is_over c a)) t.activations ≡ list_any
      (λ a. is_of k oid a && not (is_over c a)) s.activations
  any_held_same k oid =
      any_alike c s.activations t.activations forgets (λ a. is_of k oid a && not (is_over c a)) (second_fails (is_of k oid forgotten) _ refl)
      (λ a there over. second_fails (is_of k oid a) _ (ap not over))

  slot_same : (k : ℕ) (oid : List ℕ) → slot_of c t.activations k oid ≡ slot_of c s.activations k oid
  slot_same k oid =
      ap₂ (λ o p. elim o [ Some a ↦ Active a.number | None ↦ elim p [ Some a ↦ Busy a.number | None ↦ Free ] ]) (active_same k oid) (held_same k oid)

  changing_same : (k : ℕ) → is_changing c t.activations k ≡ is_changing c s.activations k
  changing_same k =
      any_alike c s.activations t.activations forgets (λ a. (a.adapter == k) && is_unfinished c a) (second_fails (forgotten.adapter == k) _ refl)
      (λ a there over. second_fails (a.adapter == k) _ (over_unchanging a there over))

  in_map_same : (k : ℕ) (sid : Sid) → is_in_map t.activations k sid ≡ is_in_map s.activations k sid
  in_map_same k sid =
      any_alike c s.activations t.activations forgets (λ a. (a.adapter == k) && (is_mapped a && has_servant sid a))
      (second_fails (forgotten.adapter == k) _ refl)
      (λ a there over. second_fails (a.adapter == k) _ (first_fails _ _ (unmapped c a over)))

  due_same : (a : Activation) → is_due c t a ≡ is_due c s a
  due_same a =
      ap₂ (λ fs b. (is_complete a && (is_ending a && (has_activator c a.path && not a.out))) && (not (is_used fs a.number) && not b)) flights_same
      (changing_same a.adapter)

  removal_same : (w : ℕ) → removal c t w ≡ removal c s w
  removal_same w =
      ap (option_map (λ a. TakeOut w a.number (not a.quiet)))
      (find_same (is_due c t) (is_due c s) t.activations due_same
      ∙ find_alike c s.activations t.activations forgets (is_due c s) refl (λ a there over. first_fails _ _ (undue c a (is_ending a) over)))

  ended_same : (m begun : ℕ) → are_ended c t m begun ≡ are_ended c s m begun
  ended_same m begun =
      all_alike c s.activations t.activations forgets
      (λ a. is_over c a || (not (nat_lt a.number begun) || not (has_activator c a.path && (manager_at c a.path == m)))) refl
      (λ a there over. ap (λ b. b || (not (nat_lt a.number begun) || not (has_activator c a.path && (manager_at c a.path == m)))) over)

  clear_same : (p : List (List ℕ)) → is_clear c t p ≡ is_clear c s p
  clear_same p =
      ap (λ ns. not (list_any (λ f. stands_under ns p f.adapter) t.flights) && not
      (list_any (λ a. not (is_over c a) && stands_under ns p a.adapter) t.activations)) nodes_same
      ∙ ap₂ (λ fs b. not (list_any (λ f. stands_under s.nodes p f.adapter) fs) && not b) flights_same
      (lived_alike c s.activations t.activations forgets s.nodes p)

  gone_same : (k : ℕ) → is_gone c t k ≡ is_gone c s k
  gone_same k =
      ap₂ (λ n ns. nat_lt k n && (elim (find (λ m. m.number == k) ns) [ Some m ↦ is_done_with c t m | None ↦ true ]))
      (ap (λ u. u.count) kept.stands.same) nodes_same
      ∙ elim (find (λ m. m.number == k) s.nodes) as (λ o. (nat_lt k s.count && (elim o [ Some m ↦ is_done_with c t m | None ↦ true ])) ≡
      (nat_lt k s.count && (elim o [ Some m ↦ is_done_with c s m | None ↦ true ])))
      [ Some m ↦ ap (λ b. nat_lt k s.count && (m.dying && b)) (clear_same m.path) | None ↦ refl ]

  -- an activation that isn't over is found by its number
  numbered_same : (n : ℕ) → IsLive c run limit given alone within h legal n → activation_numbered t n ≡ activation_numbered s n
  numbered_same n it =
      find_alike c s.activations t.activations forgets (λ a. a.number == n)
      (false_from_ne_true (forgotten.number == n)
      (λ same.
      (let e = eqb-true forgotten.number n same in let low = sound.counted it.0 it.1 in let at = it.2 in let few = kept.few in let many = forgets.begun in
      omega (arith, e, low, at, few, many))))
      (λ a there over. false_from_ne_true (a.number == n)
      (λ same. (let alike : a ≡ it.0 = sound.activation_alone a it.0 there it.1 (eqb-true a.number n same ∙ sym it.2) in
      true≢false (sym over ∙ ap (is_over c) alike ∙ it.3))))
    where
      sound : IsSound c run s
      sound = legal_sound c run limit h given within legal

  served_same : (w r : ℕ) → stage h w ≡ Serving r → servant_by c t (admitted h r) ≡ servant_by c s (admitted h r)
  served_same w r at = by (admitted h r) refl
    where
      by : (v : Option Verdict) → admitted h r ≡ v → servant_by c t v ≡ servant_by c s v
      by (Some (Serve n)) is = ap servant_of_activation (numbered_same n (served_there c run limit given alone within h legal w r n at (ap named is)))
      by (Some (Incarnate n)) is = ap servant_of_activation (numbered_same n (served_there c run limit given alone within h legal w r n at (ap named is)))
      by (Some (Preset name)) is = refl
      by (Some (Locator name)) is = refl
      by (Some Try) is = refl
      by (Some (Refuse x)) is = refl
      by (Some (Forward x)) is = refl
      by (Some Addressing) is = refl
      by (Some Here) is = refl
      by (Some Unknown) is = refl
      by (Some (Answer x)) is = refl
      by (Some Wait) is = refl
      by None is = refl

  answered : AnswersAs c run h t
  answered = record {
    same = kept.stands.same;
    begun = forgets.begun;
    slot = slot_same;
    active = any_active_same;
    held = any_held_same;
    changing = changing_same;
    in_map = in_map_same;
    mapped = mapped_alike c s.activations t.activations forgets;
    removal = removal_same;
    ended = ended_same;
    gone = gone_same;
    worked = λ w n is. numbered_same n (worked_lives c run limit given alone within h legal w n is);
    served = served_same;
  }

pub answers : (c : Config) (run limit : ℕ) (h : List Entry) → IsGiven c run → IsGivenAlone c run → IsWithinLimits c limit → IsLegal c run limit h
    → (t : Standing) → StandingAgrees c run h t → AnswersAs c run h t
answers c run limit h given alone within legal t kept = answered c run limit h given alone within legal t kept
