-- What a worker has begun goes on by what answers as what stands after the history.
use Rattle.std.proofs.Common.{◌≡◌, ℕ, List, Option, Some, None, refl, sym, ap, ◌∙◌}
use Rattle.std.specs.Prelude.{option_map, ◌&&◌, true, false}
use Rattle.poa_base.specs.declared.Config.{Config}
use Rattle.poa_base.specs.declared.Entry.{Entry}
use Rattle.poa_base.specs.declared.Entry.TheVariants.{Tried, Incarnated, Etherealized}
use Rattle.poa_base.specs.declared.Gives.TheVariants.{Fresh as FreshKind, Servant, Forward as ForwardTo, Raise as RaiseThis}
use Rattle.poa_base.specs.declared.Incarnation.TheVariants.{Double, Named as Brought, Raise}
use Rattle.poa_base.specs.declared.RuleConf.{RuleConf}
use Rattle.poa_base.specs.declared.Sid.TheVariants.{Named}
use Rattle.history_standing.specs.declared.activation.Activation.{Activation}
use Rattle.history_standing.specs.declared.stage.Stage.{Stage}
use Rattle.history_standing.specs.declared.stage.Stage.TheVariants.{Free, Trying, Incarnating, Serving, Ran, Removing}
use Rattle.history_standing.specs.Changes.{standing}
use Rattle.history_standing.specs.Rules.{brought, brought_by, not_active, rule_for}
use Rattle.history_standing.specs.Stages.{stage}
use Rattle.history_standing.specs.Standings.{Standing}
use Rattle.history_standing.specs.Templates.{policies_at, is_unique, rules_at, servant_name}
use Rattle.poa_history.specs.Turns.{attempt, going_on}
use Rattle.core_standing.specs.Answers.{AnswersAs, works_on}

module _ (c : Config) (run : ℕ) (past : List Entry) (t : Standing) (answers : AnswersAs c run past t) where
  -- the servant activator brings the same
  brought_same : (a : Activation) (rule : Option RuleConf) → brought_by c t a rule ≡ brought_by c (standing c run past) a rule
  brought_same a None = refl
  brought_same a (Some rule) =
      elim rule.gives as (λ g. brought_by c t a (Some (record rule { gives = g })) ≡ brought_by c (standing c run past) a (Some (record rule { gives = g }))) [
        | FreshKind kind ↦ refl
        | Servant k ↦
            ap (λ b. elim (is_unique (policies_at c a.path) && b)
            [ true ↦ Double | false ↦ elim (servant_name c k) [ Some name ↦ Brought name | None ↦ Raise not_active ] ]) (answers.in_map a.adapter (Named k))
        | ForwardTo endpoint ↦ refl
        | RaiseThis exception ↦ refl
      ]

  brings : (w : ℕ) (o : Option Activation)
      → option_map (λ a. Incarnated w (brought c t a)) o ≡ option_map (λ a. Incarnated w (brought c (standing c run past) a)) o
  brings w None = refl
  brings w (Some a) = ap (λ i. Some (Incarnated w i)) (brought_same a (rule_for (rules_at c a.path) a.oid))

  pub going_same : (w : ℕ) (begun : Stage) → begun ≡ stage past w → going_on c t w begun ≡ going_on c (standing c run past) w begun
  going_same w (Trying r) at = ap (λ u. Some (Tried w (attempt c u r))) answers.same
  going_same w (Incarnating r n) at =
      brings w _ ∙ ap (option_map (λ a. Incarnated w (brought c (standing c run past) a))) (answers.worked w n (ap works_on (sym at)))
  going_same w (Removing n) at =
      ap (option_map (λ (a : Activation). Etherealized w a.cleanup a.remaining)) (answers.worked w n (ap works_on (sym at)))
  going_same w (Serving r) at = refl
  going_same w (Ran r) at = refl
  going_same w Free at = refl
