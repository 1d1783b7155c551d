-- What stands where no worker has a next entry.
use Rattle.history_laws.proofs.Begun.{begun_worked, removal_worked}
use Rattle.history_laws.proofs.Dying.{dying_ends}
use Rattle.history_laws.proofs.Workers.{below_sixteen, goes_with}
use Rattle.history_laws.specs.Undone.{AreIdle}
use Rattle.poa_base.specs.declared.Config.{Config}
use Rattle.poa_base.specs.declared.Entry.{Entry}
use Rattle.poa_base.specs.declared.Entry.TheVariants.{Done, Etherealized, Incarnated, Run, TakeOut, Tried}
use Rattle.poa_base.specs.declared.Sid.{Sid}
use Rattle.poa_history.proofs.ActivationsLater.{begun_phase}
use Rattle.poa_history.proofs.GoneIs.{gone_done, stands_ungone}
use Rattle.history_standing.proofs.Members.{some_in}
use Rattle.poa_history.proofs.LegalSound.{legal_sound}
use Rattle.poa_history.proofs.MannedKept.{all_manned}
use Rattle.poa_history.proofs.OutIs.{out_run_out}
use Rattle.poa_history.proofs.SettledKept.{or_first, or_second}
use Rattle.poa_history.specs.Alone.{IsGivenAlone}
use Rattle.history_standing.specs.Arrivals.{arrivals}
use Rattle.poa_history.specs.Bounds.{IsWithinLimits}
use Rattle.history_standing.specs.Changes.{standing}
use Rattle.history_standing.specs.Ends.{is_done_with, is_finished, is_gone, is_over}
use Rattle.poa_history.specs.InFlight.{Holds, IsManned}
use Rattle.poa_history.specs.Legal.{IsLegal}
use Rattle.history_standing.specs.Rules.{brought}
use Rattle.history_standing.specs.Searches.{first_given}
use Rattle.history_standing.specs.Situations.{is_changing, is_unfinished}
use Rattle.poa_history.specs.Sound.{IsGiven, IsSound}
use Rattle.history_standing.specs.Stages.{arrival_in, stage}
use Rattle.history_standing.specs.Standings.{Standing, is_active, is_begun, is_complete, is_ending, is_used, is_void}
use Rattle.history_standing.specs.Templates.{has_activator}
use Rattle.poa_history.specs.Turns.{activation_numbered, admission, admission_of, attempt, going_on, is_due, next_of, removal, turn}
use Rattle.history_standing.specs.declared.activation.Activation.{Activation}
use Rattle.history_standing.specs.declared.activation.Phase.{Phase}
use Rattle.history_standing.specs.declared.activation.Phase.TheVariants.{Begun, Complete, Void}
use Rattle.history_standing.specs.declared.stage.Stage.{Stage}
use Rattle.history_standing.specs.declared.stage.Stage.TheVariants.{Free, Incarnating, Ran, Removing, Serving, Trying}
use Rattle.history_standing.proofs.Finding.{find_none}
use Rattle.history_standing.specs.Nodes.{stands_under}
use Rattle.history_standing.specs.Paths.{is_root, leads_to}
use Rattle.history_standing.specs.Trees.{In}
use Rattle.history_standing.specs.declared.node.Node.{Node}
use Rattle.std.proofs.Common.{◌∙◌, ap, ap₂, arith, inl, inr, subst, sym}
use Rattle.std.proofs.lemmas.Bool.{and_parts, cases_Bool, eq-eqb, eqb-true, false_from_ne_true, ltb-false, ltb-true, or_cases, true≢false}
use Rattle.std.specs.List.{list_any}
use Rattle.std.specs.Option.{option_or}
use Rattle.std.specs.Prelude.{◌&&◌, ◌<◌, ◌==◌, ◌||◌, ◌∷◌, ◌≡◌, Bool, List, None, Option, Some, [], false, find, nat_lt, not, option_map, refl, suc, true, zero, ℕ}
use Rattle.history_standing.proofs.Tests.{not_false, not_true}

-- where the numbers below a bound give nothing, none of them does
pub given_none : {A : Type 0} (give : ℕ → Option A) (k : ℕ) → first_given give k ≡ None → (r : ℕ) → r < k → give r ≡ None
given_none give zero none r less = absurd (omega (arith, less))
given_none {A} give (suc k) none r less =
    elim (first_given give k) as (λ o. first_given give k ≡ o → option_or o (give k) ≡ None → give r ≡ None) [
      | Some x ↦ λ _ is. absurd (let e : Some x ≡ None = is in cc)
      | None ↦ λ before is. elim (cases_Bool (nat_lt r k)) [
        | inl low ↦ given_none give k before r (ltb-true r k low)
        | inr high ↦ (let above = ltb-false r k high in let same : r ≡ k = omega (arith, above, less) in ap give same ∙ is)
      ]
    ] refl none

pub mapped_none : {A B : Type 0} (f : A → B) (o : Option A) → option_map f o ≡ None → o ≡ None
mapped_none f None is = refl
mapped_none f (Some x) is = absurd (let e : Some (f x) ≡ None = is in cc)

pub first_none : {A : Type 0} (o p : Option A) → option_or o p ≡ None → (o ≡ None) × (p ≡ None)
first_none None p is = (refl, is)
first_none (Some x) p is = absurd (let e : Some x ≡ None = is in cc)

empty_by : {A : Type 0} (xs : List A) → ((x : A) → In x xs → ⊥) → xs ≡ []
empty_by [] none = refl
empty_by (x ∷ xs) none = absurd (none x (inl refl))

-- it is out, and not finished, where a servant activator is to be told
unfinished_parts : (q h t : Bool) → (q || (not h || t)) ≡ false → (q ≡ false) × (h ≡ true) × (t ≡ false)
unfinished_parts true h t is = absurd (let e : true ≡ false = is in cc)
unfinished_parts false false t is = absurd (let e : true ≡ false = is in cc)
unfinished_parts false true true is = absurd (let e : true ≡ false = is in cc)
unfinished_parts false true false is = (refl, refl, refl)

pub phase_void : (a : Activation) → a.phase ≡ Void → is_void a ≡ true
phase_void a at = ap (λ p. elim p as (λ _. Bool) [ Void ↦ true | Begun ↦ false | Complete s ↦ false ]) at

pub phase_complete : (a : Activation) (t : Sid) → a.phase ≡ Complete t → is_complete a ≡ true
phase_complete a t at = ap (λ p. elim p as (λ _. Bool) [ Complete s ↦ true | Begun ↦ false | Void ↦ false ]) at

unvoid : (a : Activation) (t : Sid) → a.phase ≡ Complete t → is_void a ≡ false
unvoid a t at = ap (λ p. elim p as (λ _. Bool) [ Void ↦ true | Begun ↦ false | Complete s ↦ false ]) at

pub data PhaseIs (a : Activation) : Type 0 where
  is_begun_now : a.phase ≡ Begun → PhaseIs a
  is_void_now : a.phase ≡ Void → PhaseIs a
  is_served_now : (t : Sid) → a.phase ≡ Complete t → PhaseIs a

pub phase_is_one : (a : Activation) → PhaseIs a
phase_is_one a = by_phase a.phase refl
  where
    by_phase : (p : Phase) → a.phase ≡ p → PhaseIs a
    by_phase Begun at = is_begun_now at
    by_phase Void at = is_void_now at
    by_phase (Complete t) at = is_served_now t at

module _ (c : Config) (run limit : ℕ) (given : IsGiven c run) (alone : IsGivenAlone c run) (within : IsWithinLimits c limit) (h : List Entry)
    (legal : IsLegal c run limit h) (idle : AreIdle c run h) where
  abbrev s : Standing
  s = standing c run h

  sound : IsSound c run s
  sound = legal_sound c run limit h given within legal

  manned_ : IsManned c run h
  manned_ = all_manned c run limit h given alone within legal

  goes_none : (w : ℕ) (b : Stage) → stage h w ≡ b → (b ≡ Free → ⊥) → going_on c s w b ≡ None
  goes_none w b at busy = goes_with c run limit h w None b (idle w (below_sixteen c run limit h legal w (λ free. busy (sym at ∙ free)))) at busy

  unfound : (n : ℕ) (a : Activation) → In a s.activations → a.number ≡ n → activation_numbered s n ≡ None → ⊥
  unfound n a there at none = find_none (λ x. x.number == n) a s.activations none there (eq-eqb a.number n at)

  pub all_free : (w : ℕ) → stage h w ≡ Free
  all_free w = by_stage (stage h w) refl
    where
      by_stage : (b : Stage) → stage h w ≡ b → stage h w ≡ Free
      by_stage Free at = at
      by_stage (Trying r) at = absurd (let e : Some (Tried w (attempt c s r)) ≡ None = goes_none w (Trying r) at (λ f. cc) in cc)
      by_stage (Incarnating r n) at =
          (let holds : Holds h s (Incarnating r n) = subst (λ b. Holds h s b) at (manned_.stages w) in
          let a = holds.2 in
          absurd (unfound n a.0 a.1 a.2
          (mapped_none (λ x. Incarnated w (brought c s x)) (activation_numbered s n) (goes_none w (Incarnating r n) at (λ f. cc)))))
      by_stage (Serving r) at = absurd (let e : Some (Run w) ≡ None = goes_none w (Serving r) at (λ f. cc) in cc)
      by_stage (Ran r) at = absurd (let e : Some (Done w) ≡ None = goes_none w (Ran r) at (λ f. cc) in cc)
      by_stage (Removing n) at =
          (let holds : Holds h s (Removing n) = subst (λ b. Holds h s b) at (manned_.stages w) in
          absurd (unfound n holds.0 holds.1 holds.2
          (mapped_none (λ x. Etherealized w x.cleanup x.remaining) (activation_numbered s n) (goes_none w (Removing n) at (λ f. cc)))))

  nothing_next : (removal c s 0 ≡ None) × (admission c run h 0 ≡ None)
  unfolding turn
  nothing_next = first_none (removal c s 0) (admission c run h 0) (ap (next_of c run h 0) (sym (all_free 0)) ∙ idle 0 (omega arith))

  none_due : find (is_due c s) s.activations ≡ None
  none_due = mapped_none (λ a. TakeOut 0 a.number (not a.quiet)) (find (is_due c s) s.activations) nothing_next.0

  pub none_admitted : (r : ℕ) → r < arrivals h → admission_of c run h 0 r ≡ None
  none_admitted = given_none (admission_of c run h 0) (arrivals h) nothing_next.1

  pub all_landed : s.flights ≡ []
  all_landed = empty_by s.flights (λ f there. let m = manned_.manned f there in let e : None ≡ Some f.arrival = sym (ap arrival_in (all_free m.0)) ∙ m.1 in cc)

  pub none_begun : (a : Activation) → In a s.activations → a.phase ≡ Begun → ⊥
  none_begun a there at =
      let worked = begun_worked c run limit given alone within h legal a there at in
      let e : Free ≡ Incarnating worked.1 a.number = sym (all_free worked.0) ∙ worked.2 in cc

  none_removed : (a : Activation) → In a s.activations → has_activator c a.path ≡ true → a.out ≡ true → a.quiet ≡ false → a.etherealized ≡ false → ⊥
  none_removed a there activator out loud untold =
      let worked = removal_worked c run limit given alone within h legal a there activator out loud untold in
      let e : Free ≡ Removing a.number = sym (all_free worked.0) ∙ worked.1 in cc

  out_finished : (a : Activation) → In a s.activations → a.out ≡ true → is_finished c a ≡ true
  out_finished a there out =
      elim (cases_Bool (is_finished c a)) [
        | inl finished ↦ finished
        | inr unfinished ↦
            (let parts =
            unfinished_parts a.quiet (has_activator c a.path) a.etherealized
            (ap (λ o. o && (a.quiet || (not (has_activator c a.path) || a.etherealized))) (sym out) ∙ unfinished) in
            absurd (none_removed a there parts.1 out parts.0 parts.2))
      ]

  none_unfinished : (a : Activation) → In a s.activations → is_unfinished c a ≡ false
  none_unfinished a there =
      false_from_ne_true (is_unfinished c a) (λ is. elim (or_cases (is_begun a) (a.out && not (is_finished c a)) is) [
        | inl begun ↦ none_begun a there (begun_phase a.phase begun)
        | inr open_ ↦
            (let parts = and_parts a.out (not (is_finished c a)) open_ in true≢false (sym (out_finished a there parts.0) ∙ not_true (is_finished c a) parts.1))
      ])

  pub none_changing : (k : ℕ) → is_changing c s.activations k ≡ false
  none_changing k =
      false_from_ne_true (is_changing c s.activations k) (λ is.
      let a = some_in (λ x. (x.adapter == k) && is_unfinished c x) s.activations is in
      true≢false (sym (and_parts (a.0.adapter == k) (is_unfinished c a.0) a.2).1 ∙ none_unfinished a.0 a.1))

  none_used : (n : ℕ) → is_used s.flights n ≡ false
  none_used n = ap (λ fs. is_used fs n) all_landed

  -- what is complete and ending is out
  ended_out : (a : Activation) → In a s.activations → is_complete a ≡ true → is_ending a ≡ true → a.out ≡ true
  ended_out a there complete ending =
      elim (cases_Bool (has_activator c a.path)) [
        | inr none ↦ out_run_out c run limit given alone within h legal a there none
            ∙ ap₂ (λ x y. x && y) complete (ap₂ (λ x y. x && y) ending (ap not (none_used a.number)))
        | inl activator ↦ elim (cases_Bool a.out) [
          | inl out ↦ out
          | inr mapped ↦ absurd (find_none (is_due c s) a s.activations none_due there
              (ap₂ (λ x y. x && y)
              (ap₂ (λ x y. x && y) complete (ap₂ (λ x y. x && y) ending (ap₂ (λ x y. x && y) activator (ap not mapped))))
              (ap₂ (λ x y. x && y) (ap not (none_used a.number)) (ap not (none_changing a.adapter)))))
        ]
      ]

  pub ending_finished : (a : Activation) → In a s.activations → is_ending a ≡ true → is_finished c a ≡ true
  ending_finished a there ending =
      elim (phase_is_one a) [
        | is_begun_now at ↦ absurd (none_begun a there at)
        | is_void_now at ↦ absurd (true≢false (sym (phase_void a at) ∙ not_true (is_void a) (and_parts a.ending (not (is_void a)) ending).1))
        | is_served_now t at ↦ out_finished a there (ended_out a there (phase_complete a t at) ending)
      ]

  -- what was ended is over
  pub ended_over : (a : Activation) → In a s.activations → a.ending ≡ true → is_over c a ≡ true
  ended_over a there ending =
      elim (phase_is_one a) [
        | is_begun_now at ↦ absurd (none_begun a there at)
        | is_void_now at ↦ or_first (is_void a) (is_finished c a) (phase_void a at)
        | is_served_now t at ↦ or_second (is_void a) (is_finished c a) (ending_finished a there (ap₂ (λ x y. x && not y) ending (unvoid a t at)))
      ]

  pub living_active : (a : Activation) → In a s.activations → is_over c a ≡ false → is_active a ≡ true
  living_active a there lives =
      elim (phase_is_one a) [
        | is_begun_now at ↦ absurd (none_begun a there at)
        | is_void_now at ↦ absurd (true≢false (sym (or_first (is_void a) (is_finished c a) (phase_void a at)) ∙ lives))
        | is_served_now t at ↦
            ap₂ (λ x y. x && not y) (phase_complete a t at) (false_from_ne_true a.ending (λ ending. true≢false (sym (ended_over a there ending) ∙ lives)))
      ]

  -- of an adapter that was destroyed nothing is left
  pub dying_done : (n : Node) → In n s.nodes → n.dying ≡ true → is_done_with c s n ≡ true
  dying_done n there dying =
      ap₂ (λ x y. x && y) dying
      (ap₂ (λ x y. x && y)
      (ap (λ fs. not (list_any (λ f. stands_under s.nodes n.path f.adapter) fs)) all_landed)
      (not_false (list_any (λ a. not (is_over c a) && stands_under s.nodes n.path a.adapter) s.activations)
      (false_from_ne_true (list_any (λ a. not (is_over c a) && stands_under s.nodes n.path a.adapter) s.activations) (λ some_.
      let a = some_in (λ x. not (is_over c x) && stands_under s.nodes n.path x.adapter) s.activations some_ in
      let parts = and_parts (not (is_over c a.0)) (stands_under s.nodes n.path a.0.adapter) a.2 in
      let m = some_in (λ x. (x.number == a.0.adapter) && leads_to n.path x.path) s.nodes parts.1 in
      let at = and_parts (m.0.number == a.0.adapter) (leads_to n.path m.0.path) m.2 in
      let ending =
      dying_ends c run limit given within h legal a.0 m.0 a.1 m.1 (eqb-true m.0.number a.0.adapter at.0) (sound.tree.below n m.0 there m.1 at.1 dying) in
      true≢false (sym (ended_over a.0 a.1 ending) ∙ not_true (is_over c a.0) parts.0)))))

  pub dying_gone : (n : Node) → In n s.nodes → n.dying ≡ true → (is_root n.path ≡ true) × (is_gone c s n.number ≡ true)
  dying_gone n there dying =
      let gone = gone_done c run s sound n there ∙ dying_done n there dying in (
        elim (cases_Bool (is_root n.path)) [
          | inl root ↦ root
          | inr below ↦ absurd (true≢false (sym gone ∙ stands_ungone c run limit h given within legal n there below))
        ],
        gone,
      )
