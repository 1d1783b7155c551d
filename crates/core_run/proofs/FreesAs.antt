-- What an entry frees is told by what is kept.
use Rattle.std.specs.Prelude.{◌≡◌, ℕ, Bool, false, List, Option, None, Some, refl, option_map}
use Rattle.std.proofs.Common.{ap, sym, ◌∙◌}
use Rattle.poa_base.specs.declared.Config.{Config}
use Rattle.poa_base.specs.declared.Entry.{Entry}
use Rattle.history_standing.specs.declared.stage.Stage.{Stage}
use Rattle.history_standing.specs.declared.stage.Stage.TheVariants.{Free, Trying, Incarnating, Serving, Ran, Removing}
use Rattle.history_standing.specs.Changes.{standing}
use Rattle.history_standing.specs.Stages.{stage}
use Rattle.history_standing.specs.Standings.{Standing}
use Rattle.held_queue.specs.declared.freed.Freed.{Freed}
use Rattle.held_queue.specs.Frees.{etherealizing}
use Rattle.core_standing.specs.Answers.{AnswersAs, works_on}

etherealizing_at : (c : Config) (run : ℕ) (h : List Entry) (t : Standing) → AnswersAs c run h t → (w : ℕ) (b : Stage) → stage h w ≡ b
    → etherealizing t b ≡ etherealizing (standing c run h) b
etherealizing_at c run h t a w (Removing n) is =
    ap (λ o. let f : Freed = record { all = false; landed = None; changed = option_map (λ x. x.adapter) o; moved = Some n } in f)
    (a.worked w n (ap works_on is))
etherealizing_at c run h t a w Free is = refl
etherealizing_at c run h t a w (Trying r) is = refl
etherealizing_at c run h t a w (Incarnating r n) is = refl
etherealizing_at c run h t a w (Serving r) is = refl
etherealizing_at c run h t a w (Ran r) is = refl

pub etherealizing_kept : (c : Config) (run : ℕ) (h : List Entry) (t : Standing) → AnswersAs c run h t → (w : ℕ)
    → etherealizing t (stage h w) ≡ etherealizing (standing c run h) (stage h w)
etherealizing_kept c run h t a w = etherealizing_at c run h t a w (stage h w) refl
