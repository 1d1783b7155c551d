-- A worker without a next entry has begun nothing; where that is so of all, and no call is unadmitted, one tells for all.
use Rattle.std.proofs.Common.{◌≡◌, ℕ, zero, suc, ◌<◌, false, if◌then◌else◌, ◌==◌, not, List, find, Option, Some, None, option_map, refl, sym, ap, ap₂, ◌∙◌, subst, arith}
use Rattle.std.specs.Option.{option_or}
use Rattle.poa_base.specs.declared.Entry.{Entry}
use Rattle.poa_base.specs.declared.Entry.TheVariants.{Admit, Tried, Incarnated, Run, Done, TakeOut, Etherealized}
use Rattle.history_standing.specs.Arrivals.{arrivals}
use Rattle.history_standing.specs.Changes.{standing}
use Rattle.poa_history.specs.InFlight.{Holds, IsManned}
use Rattle.history_standing.specs.Rules.{brought}
use Rattle.history_standing.specs.Searches.{first_given}
use Rattle.history_standing.specs.Stages.{is_unadmitted, stage}
use Rattle.history_standing.specs.Standings.{Standing}
use Rattle.poa_history.specs.Turns.{activation_numbered, admission, admission_of, attempt, going_on, is_due, next_of, removal, turn}
use Rattle.poa_history.specs.Verdicts.{verdict}
use Rattle.history_standing.specs.declared.activation.Activation.{Activation}
use Rattle.history_standing.specs.declared.stage.Stage.{Stage}
use Rattle.history_standing.specs.declared.stage.Stage.TheVariants.{Free, Trying, Incarnating, Serving, Ran, Removing}
use Rattle.poa_history.proofs.MannedKept.{all_manned}
use Rattle.history_standing.specs.Trees.{In}
use Rattle.history_standing.proofs.Finding.{find_none}
use Rattle.history_laws.specs.Undone.{AreIdle}
use Rattle.history_laws.proofs.Workers.{goes_with}
use Rattle.history_laws.proofs.Opened.{alone, given, within}
use Rattle.poa_history.specs.declared.givens.Givens.{Givens}
use Rattle.poa_history.specs.GivenRuns.{IsHistory}
use Rattle.std.proofs.lemmas.Bool.{eq-eqb}

-- what maps to nothing is nothing
none_of_map : {A B : Type 0} (f : A → B) (o : Option A) → option_map f o ≡ None → o ≡ None
none_of_map f None is = refl
none_of_map f (Some x) is = absurd (let e : Some (f x) ≡ None = is in cc)

module _ (g : Givens) (h : List Entry) (is : IsHistory g h) (w : ℕ) (idle : turn g.config g.run h w ≡ None) where
  abbrev s : Standing
  s = standing g.config g.run h

  manned : IsManned g.config g.run h
  manned =
      all_manned g.config g.run g.limit h (given g.config g.run g.limit h is) (alone g.config g.run g.limit h is) (within g.config g.run g.limit h is) is.legal

  goes_none : (b : Stage) → stage h w ≡ b → (b ≡ Free → ⊥) → going_on g.config s w b ≡ None
  goes_none b at busy = goes_with g.config g.run g.limit h w None b idle at busy

  there_is : (n : ℕ) (a : Activation) → In a s.activations → a.number ≡ n → activation_numbered s n ≡ None → ⊥
  there_is n a there at none = find_none (λ x. x.number == n) a s.activations none there (eq-eqb a.number n at)

  pub freed : stage h w ≡ Free
  freed = by_stage (stage h w) refl
    where
      by_stage : (b : Stage) → stage h w ≡ b → stage h w ≡ Free
      by_stage Free at = at
      by_stage (Trying r) at = absurd (let e : Some (Tried w (attempt g.config s r)) ≡ None = goes_none (Trying r) at (λ f. cc) in cc)
      by_stage (Incarnating r n) at =
          (let holds : Holds h s (Incarnating r n) = subst (λ b. Holds h s b) at (manned.stages w) in
          let a = holds.2 in
          absurd (there_is n a.0 a.1 a.2
          (none_of_map (λ x. Incarnated w (brought g.config s x)) (activation_numbered s n) (goes_none (Incarnating r n) at (λ f. cc)))))
      by_stage (Serving r) at = absurd (let e : Some (Run w) ≡ None = goes_none (Serving r) at (λ f. cc) in cc)
      by_stage (Ran r) at = absurd (let e : Some (Done w) ≡ None = goes_none (Ran r) at (λ f. cc) in cc)
      by_stage (Removing n) at =
          (let holds : Holds h s (Removing n) = subst (λ b. Holds h s b) at (manned.stages w) in
          absurd (there_is n holds.0 holds.1 holds.2
          (none_of_map (λ x. Etherealized w x.cleanup x.remaining) (activation_numbered s n) (goes_none (Removing n) at (λ f. cc)))))

-- nothing is given where no number below the bound gives anything
none_given : {A : Type 0} (give : ℕ → Option A) (k : ℕ) → ((r : ℕ) → r < k → give r ≡ None) → first_given give k ≡ None
none_given give zero none = refl
none_given give (suc k) none = ap₂ (λ x y. option_or x y) (none_given give k (λ r less. none r (omega (arith, less)))) (none k (omega arith))

first_of : {A : Type 0} (o p : Option A) → option_or o p ≡ None → o ≡ None
first_of None p is = refl
first_of (Some x) p is = absurd (let e : Some x ≡ None = is in cc)

module _ (g : Givens) (h : List Entry) (w : ℕ) (idle : turn g.config g.run h w ≡ None) (free : (v : ℕ) → stage h v ≡ Free)
    (admitted : (r : ℕ) → r < arrivals h → is_unadmitted h r ≡ false) where
  none_admitted : (v : ℕ) → admission g.config g.run h v ≡ None
  none_admitted v =
      none_given (admission_of g.config g.run h v) (arrivals h)
      (λ r less. ap (λ b. if b then option_map (λ u. Admit v r u) (verdict g.config g.run h r v) else None) (admitted r less))

  none_due : find (is_due g.config (standing g.config g.run h)) (standing g.config g.run h).activations ≡ None
  unfolding turn
  none_due =
      none_of_map (λ a. TakeOut w a.number (not a.quiet)) (find (is_due g.config (standing g.config g.run h)) (standing g.config g.run h).activations)
      (first_of (removal g.config (standing g.config g.run h) w) (admission g.config g.run h w) (ap (next_of g.config g.run h w) (sym (free w)) ∙ idle))

  pub all_idle : AreIdle g.config g.run h
  unfolding turn
  all_idle v low =
      ap (next_of g.config g.run h v) (free v)
      ∙ ap₂ (λ x y. option_or x y) (ap (option_map (λ a. TakeOut v a.number (not a.quiet))) none_due) (none_admitted v)
