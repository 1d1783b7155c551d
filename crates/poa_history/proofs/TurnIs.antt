-- What the next entry of a worker tells: it goes on with what was begun, or takes an activation out, or admits an arrival.
use Rattle.std.specs.Prelude.{◌≡◌, ℕ, zero, suc, ◌<◌, true, false, not, if◌then◌else◌, List, find, Option, Some, None, option_map, refl}
use Rattle.std.specs.Option.{option_or}
use Rattle.std.proofs.Common.{ap, ◌∙◌, arith}
use Rattle.poa_base.specs.declared.Config.{Config}
use Rattle.poa_base.specs.declared.Entry.{Entry}
use Rattle.poa_base.specs.declared.Entry.TheVariants.{Admit, TakeOut}
use Rattle.poa_base.specs.declared.Verdict.{Verdict}
use Rattle.history_standing.specs.declared.activation.Activation.{Activation}
use Rattle.history_standing.specs.declared.stage.Stage.{Stage}
use Rattle.history_standing.specs.declared.stage.Stage.TheVariants.{Free, Trying, Incarnating, Serving, Ran, Removing}
use Rattle.history_standing.specs.Searches.{first_given}
use Rattle.history_standing.specs.Arrivals.{arrivals}
use Rattle.history_standing.specs.Stages.{stage, is_unadmitted}
use Rattle.history_standing.specs.Changes.{standing}
use Rattle.poa_history.specs.Verdicts.{verdict}
use Rattle.poa_history.specs.Turns.{going_on, is_due, removal, admission_of, admission, next_of, turn}
use Rattle.history_standing.specs.Trees.{In}
use Rattle.history_standing.proofs.Finding.{find_in}

-- what the numbers below a bound give first is given by one of them
pub given_by : {A : Type 0} (give : ℕ → Option A) (k : ℕ) (x : A) → first_given give k ≡ Some x → (r : ℕ) × (r < k) × (give r ≡ Some x)
given_by give zero x given = absurd (let e : None ≡ Some x = given in cc)
given_by {A} give (suc k) x given =
    elim (first_given give k) as (λ o. first_given give k ≡ o → option_or o (give k) ≡ Some x → (r : ℕ) × (r < suc k) × (give r ≡ Some x)) [
      | None ↦ λ _ here. (k, omega arith, here)
      | Some y ↦ λ before same. (let found = given_by give k x (before ∙ same) in (found.0, (let less = found.1 in omega arith), found.2))
    ] refl given

-- what a map of an option gives comes of its value
pub mapped_by : {A B : Type 0} (f : A → B) (o : Option A) (y : B) → option_map f o ≡ Some y → (x : A) × (o ≡ Some x) × (f x ≡ y)
mapped_by f None y none = absurd (let e : None ≡ Some y = none in cc)
mapped_by f (Some x) y same = (x, refl, (let e : Some (f x) ≡ Some y = same in cc))

pub data Turned (c : Config) (run : ℕ) (past : List Entry) (w : ℕ) (e : Entry) : Type 0 where
  -- what was begun goes on
  goes_on : going_on c (standing c run past) w (stage past w) ≡ Some e → Turned c run past w e
  -- an activation that is due is taken out
  takes : (a : Activation) → stage past w ≡ Free → In a (standing c run past).activations → is_due c (standing c run past) a ≡ true
      → TakeOut w a.number (not a.quiet) ≡ e → Turned c run past w e
  -- an arrival that is unadmitted and isn't held is admitted
  admits : (r : ℕ) (v : Verdict) → stage past w ≡ Free → r < arrivals past → is_unadmitted past r ≡ true → verdict c run past r w ≡ Some v → Admit w r v ≡ e
      → Turned c run past w e

module _ (c : Config) (run : ℕ) (past : List Entry) (w : ℕ) (e : Entry) where
  admitted_by : (r : ℕ) → stage past w ≡ Free → r < arrivals past → admission_of c run past w r ≡ Some e → Turned c run past w e
  admitted_by r free less given =
      elim (is_unadmitted past r) as (λ b. is_unadmitted past r ≡ b → (if b then option_map (λ v. Admit w r v) (verdict c run past r w) else None) ≡ Some e
      → Turned c run past w e) [
        | true ↦
            λ unadmitted same.
            (let found = mapped_by (λ v. Admit w r v) (verdict c run past r w) e same in admits r found.0 free less unadmitted found.1 found.2)
        | false ↦ λ _ none. absurd (let f : None ≡ Some e = none in cc)
      ] refl given

  free_turn : stage past w ≡ Free → option_or (removal c (standing c run past) w) (admission c run past w) ≡ Some e → Turned c run past w e
  free_turn free given =
      elim (removal c (standing c run past) w) as (λ o. removal c (standing c run past) w ≡ o → option_or o (admission c run past w) ≡ Some e
      → Turned c run past w e) [
        | Some taken ↦ λ is same.
            (let found =
            mapped_by (λ a. TakeOut w a.number (not a.quiet)) (find (is_due c (standing c run past)) (standing c run past).activations) e (is ∙ same) in
            let there = find_in (is_due c (standing c run past)) found.0 (standing c run past).activations found.1 in
            takes found.0 free there.0 there.1 found.2)
        | None ↦ λ _ same. (let found = given_by (admission_of c run past w) (arrivals past) e same in admitted_by found.0 free found.1 found.2)
      ] refl given

  by_stage : (begun : Stage) → stage past w ≡ begun → next_of c run past w begun ≡ Some e → Turned c run past w e
  by_stage Free is given = free_turn is given
  by_stage (Trying r) is given = goes_on (ap (λ b. going_on c (standing c run past) w b) is ∙ given)
  by_stage (Incarnating r n) is given = goes_on (ap (λ b. going_on c (standing c run past) w b) is ∙ given)
  by_stage (Serving r) is given = goes_on (ap (λ b. going_on c (standing c run past) w b) is ∙ given)
  by_stage (Ran r) is given = goes_on (ap (λ b. going_on c (standing c run past) w b) is ∙ given)
  by_stage (Removing n) is given = goes_on (ap (λ b. going_on c (standing c run past) w b) is ∙ given)

  pub turned : turn c run past w ≡ Some e → Turned c run past w e
  unfolding turn
  turned given = by_stage (stage past w) refl given
