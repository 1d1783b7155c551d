-- What stands by the definitions answers as itself.
use Rattle.std.proofs.Common.{◌≡◌, ℕ, List, refl, inr, sym, subst}
use Rattle.poa_base.specs.declared.Config.{Config}
use Rattle.poa_base.specs.declared.Entry.{Entry}
use Rattle.history_standing.specs.Changes.{standing}
use Rattle.history_standing.specs.Standings.{Standing}
use Rattle.core_standing.specs.Answers.{AnswersAs}
use Rattle.core_standing.specs.Kept.{StandsFor}

pub answers_itself : (c : Config) (run : ℕ) (h : List Entry) (t : Standing) → t ≡ standing c run h → AnswersAs c run h t
answers_itself c run h t is = subst (AnswersAs c run h) (sym is) (record {
  same = refl;
  begun = refl;
  slot = λ k oid. refl;
  active = λ k oid. refl;
  held = λ k oid. refl;
  changing = λ k. refl;
  in_map = λ k s. refl;
  mapped = λ k s. refl;
  removal = λ w. refl;
  ended = λ m begun. refl;
  gone = λ k. refl;
  worked = λ w n is. refl;
  served = λ w r is. refl;
})

pub stands_itself : (c : Config) (s t : Standing) → t ≡ s → StandsFor c s t
stands_itself c s t is = subst (StandsFor c s) (sym is) (record { same = refl; forgets = record { begun = refl; lives = refl; known = λ a there. inr there } })
