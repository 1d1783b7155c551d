-- The run is filled by the first call that isn't taken.
use Rattle.std.proofs.Common.{◌≡◌, ℕ, Bool, true, false, not, List, Option, Some, None, option_map, is_none, if◌then◌else◌, refl, sym, ap, ◌∙◌}
use Rattle.poa_base.specs.declared.Entry.{Entry}
use Rattle.poa_base.specs.declared.Entry.TheVariants.{Filled}
use Rattle.poa_history.specs.Legal.{is_filled}
use Rattle.poa_history.specs.declared.Full.{Full}
use Rattle.poa_history.specs.Life.{Life, with_entry}
use Rattle.poa_core.specs.Answers.{filled_by}

-- whether it was filled before
module _ (h : List Entry) (found : Option Full) (tells : is_none found ≡ not (is_filled h)) where
  pub was_filled : (full : Full) → found ≡ Some full → is_filled h ≡ true
  was_filled full is = flip (is_filled h) (sym tells ∙ ap is_none is)
    where
      flip : (b : Bool) → not b ≡ false → b ≡ true
      flip true is = refl
      flip false is = absurd (let e : true ≡ false = is in cc)

  pub was_unfilled : found ≡ None → is_filled h ≡ false
  was_unfilled is = flip (is_filled h) (sym tells ∙ ap is_none is)
    where
      flip : (b : Bool) → not b ≡ true → b ≡ false
      flip false is = refl
      flip true is = absurd (let e : false ≡ true = is in cc)

pub filled_same : (conn size : ℕ) (l : Life) → is_filled l.history ≡ true → l ≡ filled_by conn size l
filled_same conn size l is = ap (λ b. if b then l else with_entry (Filled conn size) l) (sym is)

pub filled_more : (conn size : ℕ) (l : Life) → is_filled l.history ≡ false → with_entry (Filled conn size) l ≡ filled_by conn size l
filled_more conn size l is = ap (λ b. if b then l else with_entry (Filled conn size) l) (sym is)
