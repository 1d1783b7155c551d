-- An activation that is on its way in or out stays so, or the entry frees it.
use Rattle.std.specs.Prelude.{◌≡◌, ℕ, suc, ◌<◌, Bool, true, false, not, ◌&&◌, ◌||◌, ◌==◌, List, [], ◌∷◌, length, find, Option, Some, None, ◌⊎◌, refl}
use Rattle.std.specs.List.{list_any}
use Rattle.std.proofs.Common.{inl, inr, sym, subst, ap, ap₂, ◌∙◌, arith}
use Rattle.std.proofs.lemmas.Bool.{cases_Bool, true≢false, false_from_ne_true, true_from_ne_false, and_parts, and_from, and_cases, or_cases, or_parts, or_left, or_right, not-true, not-false, not_from_false, not_from_true, eqb-true, eq-eqb}
use Rattle.poa_base.specs.declared.Config.{Config}
use Rattle.poa_base.specs.declared.Command.{Command}
use Rattle.poa_base.specs.declared.Entry.{Entry}
use Rattle.poa_base.specs.declared.Entry.TheVariants.{TakeOut, Etherealized}
use Rattle.poa_choose.specs.declared.MapFact.TheVariants.{Active, Busy, Free}
use Rattle.history_standing.specs.declared.activation.Activation.{Activation}
use Rattle.history_standing.specs.declared.activation.Phase.{Phase}
use Rattle.history_standing.specs.declared.activation.Phase.TheVariants.{Begun, Complete, Void}
use Rattle.poa_history.specs.Alone.{IsGivenAlone}
use Rattle.poa_history.specs.Bounds.{IsWithinLimits}
use Rattle.history_standing.specs.Changes.{standing, changed}
use Rattle.history_standing.specs.Ends.{is_finished, is_over}
use Rattle.poa_history.specs.InFlight.{IsManned}
use Rattle.poa_history.specs.Legal.{MayFollow, IsLegal}
use Rattle.history_standing.specs.Logs.{command_done}
use Rattle.poa_history.specs.Out.{has_run_out}
use Rattle.history_standing.specs.Situations.{slot_of, is_unfinished, is_changing}
use Rattle.poa_history.specs.Sound.{IsGiven, IsSound}
use Rattle.history_standing.specs.Stages.{is_at}
use Rattle.history_standing.specs.Standings.{Standing, is_complete, is_void, is_begun, is_ending, is_active, is_of, is_used}
use Rattle.history_standing.specs.Templates.{has_activator}
use Rattle.history_standing.specs.Paths.{same_bytes}
use Rattle.history_standing.specs.Trees.{In}
use Rattle.history_standing.proofs.Finding.{find_in, find_none}
use Rattle.history_standing.proofs.Leading.{bytes_same}
use Rattle.poa_history.proofs.ActivationsFrom.{IsStep, Leaves, TakesOut, Tells, IsBegun, incarnating, activating, activating_id, referring, stood, begun, activation_from}
use Rattle.poa_history.proofs.ActivationsLater.{step_later}
use Rattle.history_standing.proofs.Members.{some_in, any_in}
use Rattle.poa_history.proofs.LegalSound.{legal_sound}
use Rattle.poa_history.proofs.MannedKept.{all_manned}
use Rattle.poa_history.proofs.OutIs.{out_run_out}
use Rattle.poa_history.proofs.TurnTells.{takeout_is}
use Rattle.held_queue.specs.Frees.{freed_by}
use Rattle.held_queue.proofs.Unchanged.{no_command}
use Rattle.held_queue.proofs.Landing.{freed_never, flies_on, brings_moves, brings_changes, tells_moves, tells_changes}

-- tests on how far an activation came
abbrev void_phase : Phase → Bool
void_phase p = elim p [ Void ↦ true | Begun ↦ false | Complete s ↦ false ]

abbrev begun_phase : Phase → Bool
begun_phase p = elim p [ Begun ↦ true | Complete s ↦ false | Void ↦ false ]

abbrev complete_phase : Phase → Bool
complete_phase p = elim p [ Complete s ↦ true | Begun ↦ false | Void ↦ false ]

-- one that has a servant and isn't active is ending
ends_by : (a : Activation) → is_active a ≡ false → is_complete a ≡ true → a.ending ≡ true
ends_by a inactive complete =
    elim (and_cases (is_complete a) (not a.ending) inactive) [ inl none ↦ absurd (true≢false (sym complete ∙ none)) | inr ending ↦ not-false a.ending ending ]

-- what the map has for an id
module _ (c : Config) (acts : List Activation) (k : ℕ) (oid : List ℕ) where
  abbrev active_one : Activation → Bool
  active_one a = is_of k oid a && is_active a

  abbrev live_one : Activation → Bool
  live_one a = is_of k oid a && not (is_over c a)

  busy_tells : (n : ℕ) → slot_of c acts k oid ≡ Busy n → (find active_one acts ≡ None) × ((a : Activation) × (find live_one acts ≡ Some a) × (a.number ≡ n))
  busy_tells n is =
      elim (find active_one acts) as (λ o. find active_one acts ≡ o
      → (elim o [ Some a ↦ Active a.number | None ↦ elim (find live_one acts) [ Some a ↦ Busy a.number | None ↦ Free ] ]) ≡ Busy n
      → (find active_one acts ≡ None) × ((a : Activation) × (find live_one acts ≡ Some a) × (a.number ≡ n))) [
        | Some a ↦ λ _ same. absurd (let e : Active a.number ≡ Busy n = same in cc)
        | None ↦ λ none. (elim (find live_one acts) as (λ o. find live_one acts ≡ o → (elim o [
          | Some a ↦ Busy a.number
          | None ↦ Free
        ]) ≡ Busy n → (find active_one acts ≡ None) × ((a : Activation) × (find live_one acts ≡ Some a) × (a.number ≡ n))) [
          | Some a ↦ λ found same. (none, (a, found, (let e : Busy a.number ≡ Busy n = same in cc)))
          | None ↦ λ _ same. absurd (let e : Free ≡ Busy n = same in cc)
        ] refl)
      ] refl is

  busy_by : (a : Activation) → find active_one acts ≡ None → find live_one acts ≡ Some a → slot_of c acts k oid ≡ Busy a.number
  busy_by a none found =
      ap (λ o. elim o [ Some b ↦ Active b.number | None ↦ elim (find live_one acts) [ Some b ↦ Busy b.number | None ↦ Free ] ]) none
      ∙ ap (λ o. elim o [ Some b ↦ Busy b.number | None ↦ Free ]) found

  active_tells : (n : ℕ) → slot_of c acts k oid ≡ Active n → (a : Activation) × (find active_one acts ≡ Some a)
  active_tells n is =
      elim (find active_one acts) as (λ o. find active_one acts ≡ o
      → (elim o [ Some a ↦ Active a.number | None ↦ elim (find live_one acts) [ Some a ↦ Busy a.number | None ↦ Free ] ]) ≡ Active n → (a : Activation)
      × (find active_one acts ≡ Some a)) [
        | Some a ↦ λ found _. (a, found)
        | None ↦ λ none. (elim (find live_one acts) as (λ o. (elim o [
          | Some a ↦ Busy a.number
          | None ↦ Free
        ]) ≡ Active n → (a : Activation) × (find active_one acts ≡ Some a)) [
          | Some a ↦ λ same. absurd (let e : Busy a.number ≡ Active n = same in cc)
          | None ↦ λ same. absurd (let e : Free ≡ Active n = same in cc)
        ])
      ] refl is

  active_by : (a : Activation) → In a acts → active_one a ≡ true → (n : ℕ) × (slot_of c acts k oid ≡ Active n)
  active_by a there passes =
      elim (find active_one acts) as (λ o. find active_one acts ≡ o → (n : ℕ)
      × ((elim o [ Some b ↦ Active b.number | None ↦ elim (find live_one acts) [ Some b ↦ Busy b.number | None ↦ Free ] ]) ≡ Active n)) [
        | Some b ↦ λ _. (b.number, refl)
        | None ↦ λ none. absurd (find_none active_one a acts none there passes)
      ] refl

module _ (c : Config) (run limit : ℕ) (past : List Entry) (e : Entry) (given : IsGiven c run) (alone : IsGivenAlone c run) (within : IsWithinLimits c limit)
    (legal : IsLegal c run limit (e ∷ past)) (few : (freed_by c run past e).all ≡ false) where
  abbrev s : Standing
  s = standing c run past

  abbrev t : Standing
  t = standing c run (e ∷ past)

  abbrev moved : Option ℕ
  moved = (freed_by c run past e).moved

  abbrev changed_in : Option ℕ
  changed_in = (freed_by c run past e).changed

  sound : IsSound c run s
  sound = legal_sound c run limit past given within legal.1

  after : IsSound c run t
  after = legal_sound c run limit (e ∷ past) given within legal

  manned : IsManned c run past
  manned = all_manned c run limit past given alone within legal.1

  manned_after : IsManned c run (e ∷ past)
  manned_after = all_manned c run limit (e ∷ past) given alone within legal

  abbrev Step : Activation → Activation → Type 0
  Step a b = IsStep c run past s e a b

  act_after : (a : Activation) → In a s.activations → (b : Activation) × In b t.activations × Step a b
  act_after a there =
      let (b, there', goes) = step_later c run past e a there in
      elim (activation_from c run past e b there') [
        | begun fresh ↦
            absurd (let low = sound.counted a there in let f : b.number ≡ a.number = goes.number in let g : b.number ≡ length s.activations = fresh.number in
            omega (arith, low, f, g))
        | stood a' was step ↦ (b, there', subst (λ x. Step x b) (sound.activation_alone a' a was there (sym step.later.number ∙ goes.number)) step)
      ]

  never_over : {A : Type 0} (a : Activation) → is_over c a ≡ false → is_finished c a ≡ true → A
  never_over a lives finished = absurd (true≢false (sym finished ∙ (or_parts (is_void a) (is_finished c a) lives).1))

  -- one that was out and is finished now was finished before, unless its etherealization ends
  finished_back : (a b : Activation) → In a s.activations → Step a b → (Tells c run past s e a.number → ⊥) → a.out ≡ true → is_finished c b ≡ true
      → is_finished c a ≡ true
  finished_back a b there step untold out finished =
      let parts = and_parts b.out (b.quiet || (not (has_activator c b.path) || b.etherealized)) finished in
      and_from a.out (a.quiet || (not (has_activator c a.path) || a.etherealized)) out
      (elim (or_cases b.quiet (not (has_activator c b.path) || b.etherealized) parts.1) [
        | inl quiet ↦ elim (step.quiet_back quiet) [
          | inl was ↦ or_left a.quiet (not (has_activator c a.path) || a.etherealized) was
          | inr never ↦ absurd (true≢false (sym (manned.out_ending a there out) ∙ never))
        ]
        | inr more ↦ or_right a.quiet (not (has_activator c a.path) || a.etherealized) (elim (or_cases (not (has_activator c b.path)) b.etherealized more) [
          | inl none ↦ or_left (not (has_activator c a.path)) a.etherealized (ap (λ p. not (has_activator c p)) (sym step.later.path) ∙ none)
          | inr told ↦ elim (step.told_back told) [
            | inl was ↦ or_right (not (has_activator c a.path)) a.etherealized was
            | inr tells ↦ absurd (untold tells)
          ]
        ])
      ])

  module _ (a b : Activation) (there : In a s.activations) (step : Step a b) (lives : is_over c a ≡ false) (inactive : is_active a ≡ false)
      (still : is_at a.number moved ≡ false) where
    complete_before : is_complete b ≡ true → is_complete a ≡ true
    complete_before complete =
        elim step.came [
          | inl kept ↦ ap complete_phase (sym kept) ∙ complete
          | inr came ↦ freed_never a.number moved still (brings_moves c run past manned sound limit e legal.0 few a.number b.phase came.1)
        ]

    -- without an activator it goes once nothing is in flight in it, which the entry then frees
    by_leaves : Leaves c run past s e b → ⊥
    by_leaves leaves =
        let complete = complete_before leaves.3 in
        let ending = ends_by a inactive complete in
        let none : has_activator c a.path ≡ false = ap (has_activator c) (sym step.later.path) ∙ leaves.0 in
        elim (cases_Bool (is_used s.flights a.number)) [
          | inl used ↦ by_flight used leaves.2
          | inr unused ↦ (let out : a.out ≡ true = out_run_out c run limit given alone within past legal.1 a there none
              ∙ and_from (is_complete a) (is_ending a && not (is_used s.flights a.number)) complete (and_from (is_ending a) (not (is_used s.flights a.number))
              (and_from a.ending (not (is_void a)) ending (not_from_false (is_void a) (or_parts (is_void a) (is_finished c a) lives).0))
              (not_from_false (is_used s.flights a.number) unused)) in
              never_over a lives (and_from a.out (a.quiet || (not (has_activator c a.path) || a.etherealized)) out
              (or_right a.quiet (not (has_activator c a.path) || a.etherealized)
              (or_left (not (has_activator c a.path)) a.etherealized (not_from_false (has_activator c a.path) none)))))
        ]
      where
        activation_is : (o : Option ℕ) → (elim o as (λ _. Bool) [ Some m ↦ m == a.number | None ↦ false ]) ≡ true → o ≡ Some a.number
        activation_is (Some m) is = ap (λ x. Some x) (eqb-true m a.number is)
        activation_is None is = absurd (let f : false ≡ true = is in cc)

        by_flight : is_used s.flights a.number ≡ true → is_used (changed c run past e s).flights b.number ≡ false → ⊥
        by_flight used unused =
            let f = some_in (λ g. elim g.activation as (λ _. Bool) [ Some m ↦ m == a.number | None ↦ false ]) s.flights used in
            elim (flies_on c run past manned sound limit e legal.0 few f.0 f.1) [
              | inl flies ↦
                  true≢false
                  (sym (any_in (λ g. elim g.activation as (λ _. Bool) [ Some m ↦ m == a.number | None ↦ false ]) f.0 (changed c run past e s).flights flies f.2)
                  ∙ (ap (λ n. is_used (changed c run past e s).flights n) (sym step.later.number) ∙ unused))
              | inr lands ↦ freed_never a.number moved still (lands.1 ∙ activation_is f.0.activation f.2)
            ]

    -- what is taken out loudly is to be etherealized
    by_takes : TakesOut c run past s e a.number → is_finished c b ≡ true → ⊥
    by_takes (w, false, is) finished = freed_never a.number moved still (ap (λ x. (freed_by c run past x).moved) is)
    by_takes (w, true, is) finished =
        let it = takeout_is c run past w a.number true (subst (λ x. MayFollow c run limit past x) is legal.0) in
        let same : it.it ≡ a = sound.activation_alone it.it a it.there there it.numbered in
        let due =
        and_parts (is_complete it.it && (is_ending it.it && (has_activator c it.it.path && not it.it.out)))
        (not (is_used s.flights it.it.number) && not (is_changing c s.activations it.it.adapter)) it.due in
        let first = and_parts (is_complete it.it) (is_ending it.it && (has_activator c it.it.path && not it.it.out)) due.0 in
        let second = and_parts (is_ending it.it) (has_activator c it.it.path && not it.it.out) first.1 in
        let third = and_parts (has_activator c it.it.path) (not it.it.out) second.1 in
        let loud : a.quiet ≡ false = not-true a.quiet (ap (λ x. not x.quiet) (sym same) ∙ it.told) in
        let ending : a.ending ≡ true = ap (λ x. x.ending) (sym same) ∙ (and_parts it.it.ending (not (is_void it.it)) second.0).0 in
        let activator : has_activator c a.path ≡ true = ap (λ x. has_activator c x.path) (sym same) ∙ third.0 in
        let mapped : a.out ≡ false = not-true a.out (ap (λ x. not x.out) (sym same) ∙ third.1) in
        let parts = and_parts b.out (b.quiet || (not (has_activator c b.path) || b.etherealized)) finished in
        elim (or_cases b.quiet (not (has_activator c b.path) || b.etherealized) parts.1) [
          | inl quiet ↦ elim (step.quiet_back quiet) [ inl was ↦ true≢false (sym was ∙ loud) | inr never ↦ true≢false (sym ending ∙ never) ]
          | inr more ↦ elim (or_cases (not (has_activator c b.path)) b.etherealized more) [
            | inl none ↦ true≢false (sym (ap (has_activator c) step.later.path ∙ activator) ∙ not-true (has_activator c b.path) none)
            | inr told ↦ elim (step.told_back told) [
              | inl was ↦ true≢false (sym (manned.told_out a there was) ∙ mapped)
              | inr tells ↦ (let x : Etherealized tells.0 tells.1 tells.2 ≡ TakeOut w a.number true = sym tells.3 ∙ is in cc)
            ]
          ]
        ]

    finishes_not : is_finished c b ≡ true → ⊥
    finishes_not finished =
        let parts = and_parts b.out (b.quiet || (not (has_activator c b.path) || b.etherealized)) finished in
        elim (step.out_back parts.0) [
          | inl out ↦
              never_over a lives
              (finished_back a b there step (λ tells. freed_never a.number moved still (tells_moves c run past manned sound limit e legal.0 few a.number tells))
              out finished)
          | inr other ↦ elim other [ inl leaves ↦ by_leaves leaves | inr takes ↦ by_takes takes finished ]
        ]

    pub lives_on : is_over c b ≡ false
    lives_on = false_from_ne_true (is_over c b) (λ over. elim (or_cases (is_void b) (is_finished c b) over) [
      | inl void ↦ elim step.came [
        | inl kept ↦ true≢false (sym (ap void_phase (sym kept) ∙ void) ∙ (or_parts (is_void a) (is_finished c a) lives).0)
        | inr came ↦ freed_never a.number moved still (brings_moves c run past manned sound limit e legal.0 few a.number b.phase came.1)
      ]
      | inr finished ↦ finishes_not finished
    ])

    pub stays_inactive : is_active b ≡ false
    stays_inactive = false_from_ne_true (is_active b) (λ active.
        let parts = and_parts (is_complete b) (not b.ending) active in
        true≢false (sym (step.later.ending (ends_by a inactive (complete_before parts.0))) ∙ not-true b.ending parts.1))

  -- what the entry begins is none that is active
  fresh_inactive : (b : Activation) → IsBegun c run past s e b → is_active b ≡ true → ⊥
  fresh_inactive b fresh active =
      let complete = (and_parts (is_complete b) (not b.ending) active).0 in
      let none = no_command c run past e few in
      elim fresh.how [
        | incarnating w r n key is has at placed of_id phase ↦ true≢false (sym complete ∙ ap complete_phase phase)
        | activating p servant done at placed of_id phase ↦ (let x : None ≡ Some _ = sym none ∙ done in cc)
        | activating_id p oid servant done at placed of_id phase ↦ (let x : None ≡ Some _ = sym none ∙ done in cc)
        | referring p servant n k done lives known implicit at placed of_id phase ↦ (let x : None ≡ Some _ = sym none ∙ done in cc)
      ]

  -- what is active isn't over
  active_lives : (b : Activation) → In b t.activations → is_active b ≡ true → is_over c b ≡ false
  active_lives b there active =
      let parts = and_parts (is_complete b) (not b.ending) active in
      false_from_ne_true (is_over c b) (λ over. elim (or_cases (is_void b) (is_finished c b) over) [
        | inl void ↦ both b.phase parts.0 void
        | inr finished ↦
            true≢false
            (sym (manned_after.out_ending b there (and_parts b.out (b.quiet || (not (has_activator c b.path) || b.etherealized)) finished).0)
            ∙ not-true b.ending parts.1)
      ])
    where
      both : (p : Phase) → complete_phase p ≡ true → void_phase p ≡ true → ⊥
      both (Complete x) complete void = (let y : false ≡ true = void in cc)
      both Begun complete void = (let y : false ≡ true = void in cc)
      both Void complete void = (let y : false ≡ true = complete in cc)

  over_later : (a b : Activation) → Step a b → is_over c a ≡ true → is_over c b ≡ true
  over_later a b step over =
      elim (or_cases (is_void a) (is_finished c a) over) [
        | inl void ↦ or_left (is_void b) (is_finished c b) (ap void_phase (step.later.void (void_is a.phase void)))
        | inr finished ↦ or_right (is_void b) (is_finished c b) (step.later.finished finished)
      ]
    where
      void_is : (p : Phase) → void_phase p ≡ true → p ≡ Void
      void_is Void is = refl
      void_is Begun is = absurd (let y : false ≡ true = is in cc)
      void_is (Complete x) is = absurd (let y : false ≡ true = is in cc)

  module _ (k : ℕ) (oid : List ℕ) where
    -- two of one id of one adapter that aren't over are one
    same_of : (u : Standing) → IsSound c run u → (a b : Activation) → In a u.activations → In b u.activations → is_of k oid a ≡ true → is_of k oid b ≡ true
        → is_over c a ≡ false → is_over c b ≡ false → a ≡ b
    same_of u sound_ a b is is' of_a of_b lives lives' =
        let pa = and_parts (a.adapter == k) (same_bytes a.oid oid) of_a in
        let pb = and_parts (b.adapter == k) (same_bytes b.oid oid) of_b in
        sound_.life_alone a b is is' (eqb-true a.adapter k pa.0 ∙ sym (eqb-true b.adapter k pb.0))
        (bytes_same a.oid oid pa.1 ∙ sym (bytes_same b.oid oid pb.1)) lives lives'

    of_later : (a b : Activation) → Step a b → is_of k oid b ≡ is_of k oid a
    of_later a b step = ap₂ (λ x y. (x == k) && same_bytes y oid) step.later.adapter step.later.oid

    pub busy_stays : (n : ℕ) → is_at n moved ≡ false → slot_of c s.activations k oid ≡ Busy n → slot_of c t.activations k oid ≡ Busy n
    busy_stays n still is =
        let (none, rest) = busy_tells c s.activations k oid n is in
        let (a, found, numbered) = rest in
        let there = find_in (live_one c s.activations k oid) a s.activations found in
        let tests = and_parts (is_of k oid a) (not (is_over c a)) there.1 in
        let lives : is_over c a ≡ false = not-true (is_over c a) tests.1 in
        let inactive : is_active a ≡ false =
        false_from_ne_true (is_active a)
        (λ active. find_none (active_one c s.activations k oid) a s.activations none there.0 (and_from (is_of k oid a) (is_active a) tests.0 active)) in
        let still' : is_at a.number moved ≡ false = ap (λ m. is_at m moved) numbered ∙ still in
        let (b, there', step) = act_after a there.0 in
        let of_b : is_of k oid b ≡ true = of_later a b step ∙ tests.0 in
        let lives' : is_over c b ≡ false = lives_on a b there.0 step lives inactive still' in
        let idle : find (active_one c t.activations k oid) t.activations ≡ None = none_active (λ d there_d of_d active_d.
        let d_lives = active_lives d there_d active_d in
        true≢false
        (sym (ap is_active (same_of t after b d there' there_d of_b of_d lives' d_lives) ∙ active_d)
        ∙ stays_inactive a b there.0 step lives inactive still')) in
        found_busy b there' of_b lives' idle ∙ ap (λ m. Busy m) (step.later.number ∙ numbered)
      where
        none_active : ((d : Activation) → In d t.activations → is_of k oid d ≡ true → is_active d ≡ true → ⊥)
            → find (active_one c t.activations k oid) t.activations ≡ None
        none_active never =
            elim (find (active_one c t.activations k oid) t.activations) as (λ o. find (active_one c t.activations k oid) t.activations ≡ o → o ≡ None) [
              | None ↦ λ _. refl
              | Some d ↦
                  λ found.
                  (let it = find_in (active_one c t.activations k oid) d t.activations found in let two = and_parts (is_of k oid d) (is_active d) it.1 in
                  absurd (never d it.0 two.0 two.1))
            ] refl

        found_busy : (b : Activation) → In b t.activations → is_of k oid b ≡ true → is_over c b ≡ false
            → find (active_one c t.activations k oid) t.activations ≡ None → slot_of c t.activations k oid ≡ Busy b.number
        found_busy b there of_b lives idle =
            elim (find (live_one c t.activations k oid) t.activations) as (λ o. find (live_one c t.activations k oid) t.activations ≡ o
            → slot_of c t.activations k oid ≡ Busy b.number) [
              | None ↦
                  λ none. absurd
                  (find_none (live_one c t.activations k oid) b t.activations none there
                  (and_from (is_of k oid b) (not (is_over c b)) of_b (not_from_false (is_over c b) lives)))
              | Some d ↦
                  λ found.
                  (let it = find_in (live_one c t.activations k oid) d t.activations found in let two = and_parts (is_of k oid d) (not (is_over c d)) it.1 in
                  busy_by c t.activations k oid d idle found
                  ∙ ap (λ x. Busy x.number) (same_of t after d b it.0 there two.0 of_b (not-true (is_over c d) two.1) lives))
            ] refl

    pub inactive_stays : is_at k changed_in ≡ false → ((n : ℕ) → slot_of c s.activations k oid ≡ Active n → ⊥) → (n : ℕ)
        → slot_of c t.activations k oid ≡ Active n → ⊥
    inactive_stays still never n is =
        let (b, found) = active_tells c t.activations k oid n is in
        let it = find_in (active_one c t.activations k oid) b t.activations found in
        let two = and_parts (is_of k oid b) (is_active b) it.1 in
        elim (activation_from c run past e b it.0) [
          | begun fresh ↦ fresh_inactive b fresh two.1
          | stood a there step ↦ by_step a b there step (sym (of_later a b step) ∙ two.0) two.1
        ]
      where
        by_step : (a b : Activation) → In a s.activations → Step a b → is_of k oid a ≡ true → is_active b ≡ true → ⊥
        by_step a b there step of_a active =
            let parts = and_parts (is_complete b) (not b.ending) active in
            elim (cases_Bool (is_active a)) [
              | inl was ↦ (let slot = active_by c s.activations k oid a there (and_from (is_of k oid a) (is_active a) of_a was) in never slot.0 slot.1)
              | inr inactive ↦ elim step.came [
                | inl kept ↦ true≢false (sym (step.later.ending (ends_by a inactive (ap complete_phase (sym kept) ∙ parts.0))) ∙ not-true b.ending parts.1)
                | inr came ↦
                    freed_never k changed_in still
                    (brings_changes c run past manned sound limit e legal.0 few a b.phase there came.1
                    ∙ ap (λ x. Some x) (eqb-true a.adapter k (and_parts (a.adapter == k) (same_bytes a.oid oid) of_a).0))
              ]
            ]

  -- what is unfinished stays so, unless an incarnation or etherealization in the adapter ends
  pub changing_stays : (k : ℕ) → is_at k changed_in ≡ false → is_changing c s.activations k ≡ true → is_changing c t.activations k ≡ true
  changing_stays k still changing =
      let found = some_in (λ a. (a.adapter == k) && is_unfinished c a) s.activations changing in
      let two = and_parts (found.0.adapter == k) (is_unfinished c found.0) found.2 in
      let (b, there, step) = act_after found.0 found.1 in
      any_in (λ a. (a.adapter == k) && is_unfinished c a) b t.activations there
      (and_from (b.adapter == k) (is_unfinished c b) (ap (λ x. x == k) step.later.adapter ∙ two.0)
      (unfinished found.0 b found.1 step (eqb-true found.0.adapter k two.0) two.1))
    where
      unfinished : (a b : Activation) → In a s.activations → Step a b → a.adapter ≡ k → is_unfinished c a ≡ true → is_unfinished c b ≡ true
      unfinished a b there step at is =
          elim (or_cases (is_begun a) (a.out && not (is_finished c a)) is) [
            | inl begins ↦ elim step.came [
              | inl kept ↦ or_left (is_begun b) (b.out && not (is_finished c b)) (ap begun_phase kept ∙ begins)
              | inr came ↦
                  freed_never k changed_in still (brings_changes c run past manned sound limit e legal.0 few a b.phase there came.1 ∙ ap (λ x. Some x) at)
            ]
            | inr going ↦ (let parts = and_parts a.out (not (is_finished c a)) going in
                or_right (is_begun b) (b.out && not (is_finished c b)) (and_from b.out (not (is_finished c b)) (step.later.out parts.0)
                (not_from_false (is_finished c b) (false_from_ne_true (is_finished c b) (λ finished.
                true≢false
                (sym (finished_back a b there step
                (λ tells. freed_never k changed_in still (tells_changes c run past manned sound limit e legal.0 few a there tells ∙ ap (λ x. Some x) at))
                parts.0 finished) ∙ not-true (is_finished c a) parts.1))))))
          ]
