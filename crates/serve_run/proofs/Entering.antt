-- A connection enters once.
use Rattle.std.proofs.Common.{◌≡◌, ℕ, suc, ◌≤◌, ◌<◌, List, [], ◌∷◌, length, reverse, sym, ap, ◌∙◌, subst, ⊎_elim, arith}
use Rattle.std.proofs.lemmas.List.{reverse-reverse}
use mathlib.Core.Option.{some, some-ne-none}
use lib.ListN.{get_elem?}
use Rattle.poa_base.specs.declared.Config.{Config}
use Rattle.poa_base.specs.declared.Entry.{Entry}
use Rattle.poa_base.specs.declared.Entry.TheVariants.{Entered, Arrive, Filled, Left, Collect, Admit, Tried, Incarnated, Run, Done, TakeOut, Etherealized, Abandon}
use Rattle.history_standing.specs.Arrivals.{connections}
use Rattle.poa_history.specs.Legal.{IsLegal, MayFollow}
use Rattle.poa_history.specs.declared.givens.Givens.{Givens}
use Rattle.poa_history.specs.GivenRuns.{IsLog}
use Rattle.serve_run.proofs.Places.{which_stands}

more_connections : (e : Entry) (past : List Entry) → connections past ≤ connections (e ∷ past)
more_connections (Entered k) past = omega arith
more_connections (Arrive k size call) past = omega arith
more_connections (Filled k size) past = omega arith
more_connections (Left k) past = omega arith
more_connections (Collect k a) past = omega arith
more_connections (Admit w r v) past = omega arith
more_connections (Tried w a) past = omega arith
more_connections (Incarnated w a) past = omega arith
more_connections (Run w) past = omega arith
more_connections (Done w) past = omega arith
more_connections (TakeOut w n x) past = omega arith
more_connections (Etherealized w x y) past = omega arith
more_connections (Abandon w) past = omega arith

module _ (c : Config) (run limit : ℕ) where
  -- it got the next number
  entered_next : (e : Entry) (past : List Entry) (k : ℕ) → MayFollow c run limit past e → e ≡ Entered k → k ≡ connections past
  entered_next e past k may is = (subst (MayFollow c run limit past) is may).0

  pub entered_low : (h : List Entry) (x k : ℕ) → IsLegal c run limit h → get_elem? (reverse h) x ≡ some (Entered k) → k < connections h
  entered_low [] x k legal at = absurd (some-ne-none (Entered k) (sym at))
  entered_low (e ∷ past) x k legal at = ⊎_elim
      (λ (old : get_elem? (reverse past) x ≡ some (Entered k)).
      (let low = entered_low past x k legal.1 old in let more = more_connections e past in omega arith))
      (λ (new : (x ≡ length past) × (e ≡ Entered k)).
      (let next = entered_next e past k legal.0 new.1 in
      let grown : connections (e ∷ past) ≡ suc (connections past) = ap (λ d. connections (d ∷ past)) new.1 in omega arith))
      (which_stands e past x (Entered k) at)

  once_by : (h : List Entry) (x y k : ℕ) → IsLegal c run limit h → get_elem? (reverse h) x ≡ some (Entered k) → get_elem? (reverse h) y ≡ some (Entered k)
      → x ≡ y
  once_by [] x y k legal at _ = absurd (some-ne-none (Entered k) (sym at))
  once_by (e ∷ past) x y k legal at at' = ⊎_elim
      (λ (old : get_elem? (reverse past) x ≡ some (Entered k)). ⊎_elim
      (λ (old' : get_elem? (reverse past) y ≡ some (Entered k)). once_by past x y k legal.1 old old')
      (λ (new' : (y ≡ length past) × (e ≡ Entered k)). absurd
      (let next = entered_next e past k legal.0 new'.1 in let low = entered_low past x k legal.1 old in omega arith))
      (which_stands e past y (Entered k) at'))
      (λ (new : (x ≡ length past) × (e ≡ Entered k)). ⊎_elim
      (λ (old' : get_elem? (reverse past) y ≡ some (Entered k)). absurd
      (let next = entered_next e past k legal.0 new.1 in let low = entered_low past y k legal.1 old' in omega arith))
      (λ (new' : (y ≡ length past) × (e ≡ Entered k)). new.0 ∙ sym new'.0)
      (which_stands e past y (Entered k) at'))
      (which_stands e past x (Entered k) at)

pub entered_once : (g : Givens) (log : List Entry) (x y k : ℕ) → IsLog g log → get_elem? log x ≡ some (Entered k) → get_elem? log y ≡ some (Entered k) → x ≡ y
entered_once g log x y k is at at' =
    once_by g.config g.run g.limit (reverse log) x y k is.legal (subst (λ l. get_elem? l x ≡ some (Entered k)) (sym (reverse-reverse log)) at)
    (subst (λ l. get_elem? l y ≡ some (Entered k)) (sym (reverse-reverse log)) at')
