-- Once all seats are joined, the run's seat made every entry of the journal.
use Rattle.std.proofs.Common.{◌≡◌, ℕ, ◌+◌, ◌<◌, true, false, ◌==◌, List, [], ◌∷◌, ◌++◌, length, reverse, refl, sym, ap, ◌∙◌, subst, inl, inr, ⊎_elim, arith}
use Rattle.std.proofs.lemmas.Bool.{eqb-true, eq-eqb, or_cases}
use Rattle.std.proofs.lemmas.List.{append-nil, length-append}
use mathlib.Core.Logic.{dite}
use mathlib.Core.Option.{some, some-ne-none}
use native.Mathlib.Decide.{ℕ_discrete}
use lib.ListN.{get_elem?}
use Rattle.poa_base.specs.declared.Entry.{Entry}
use Rattle.poa_base.specs.declared.Entry.TheVariants.{Entered, Arrive, Filled, Left, Collect, Admit, Tried, Incarnated, Run, Done, TakeOut, Etherealized, Abandon}
use Rattle.history_standing.specs.Arrivals.{connections}
use Rattle.history_standing.specs.Stages.{is_abandoned}
use Rattle.poa_history.specs.Legal.{IsLegal}
use Rattle.poa_history.proofs.SettledKept.{or_first, or_second}
use Rattle.poa_history.specs.declared.givens.Givens.{Givens}
use Rattle.poa_history.specs.Owners.{owner_of}
use Rattle.seat_lock.specs.declared.view.View.{View}
use Rattle.seat_lock.specs.Histories.{In}
use Rattle.seat_lock.specs.Steps.{Knows}
use Rattle.serve_run.proofs.Places.{earlier_stands, newest_stands, which_stands}

-- every entry of the journal was made by the seat
pub record IsWhole (v : View Givens Entry) (log : List Entry) : Type 0 where
  pub seen : log ≡ v.seen
  pub all : (x : ℕ) → x < length v.seen → In x v.mine

pub whole : (v : View Givens Entry) (log : List Entry) → Knows owner_of v log → v.room ≡ 1024 → v.base ≡ 0 → IsWhole v log
whole v log knows room base = by_rest knows.saw.0 knows.saw.1
  where
    made : (x : ℕ) → x < length log → In x v.mine
    made x low = knows.all_mine room x (omega arith) low

    by_rest : (rest : List Entry) → log ≡ v.seen ++ rest → IsWhole v log
    by_rest [] is = (let same = is ∙ append-nil v.seen in record { seen = same; all = λ x low. made x (subst (λ l. x < length l) (sym same) low) })
    by_rest (e ∷ rest) is = absurd
        (let long : length log ≡ length v.seen + length (e ∷ rest) = ap length is ∙ length-append v.seen (e ∷ rest) in
        let there = made (length v.seen) (omega arith) in
        let low = knows.within (length v.seen) there in omega arith)

-- a worker that gave the run up did so at some place
pub abandoned_at : (h : List Entry) (w : ℕ) → is_abandoned h w ≡ true → (x : ℕ) × (get_elem? (reverse h) x ≡ some (Abandon w))
abandoned_at [] w is = absurd (let e : false ≡ true = is in cc)
abandoned_at (Abandon v ∷ past) w is =
    elim (or_cases (v == w) (is_abandoned past w) is) [
      | inl now ↦ (length past, newest_stands (Abandon v) past ∙ ap (λ k. some (Abandon k)) (eqb-true v w now))
      | inr was ↦ (let it = abandoned_at past w was in (it.0, earlier_stands (Abandon v) past it.0 (Abandon w) it.1))
    ]
abandoned_at (Entered k ∷ past) w is = (let it = abandoned_at past w is in (it.0, earlier_stands (Entered k) past it.0 (Abandon w) it.1))
abandoned_at (Arrive k size call ∷ past) w is = (let it = abandoned_at past w is in (it.0, earlier_stands (Arrive k size call) past it.0 (Abandon w) it.1))
abandoned_at (Filled k size ∷ past) w is = (let it = abandoned_at past w is in (it.0, earlier_stands (Filled k size) past it.0 (Abandon w) it.1))
abandoned_at (Left k ∷ past) w is = (let it = abandoned_at past w is in (it.0, earlier_stands (Left k) past it.0 (Abandon w) it.1))
abandoned_at (Collect k a ∷ past) w is = (let it = abandoned_at past w is in (it.0, earlier_stands (Collect k a) past it.0 (Abandon w) it.1))
abandoned_at (Admit v r x ∷ past) w is = (let it = abandoned_at past w is in (it.0, earlier_stands (Admit v r x) past it.0 (Abandon w) it.1))
abandoned_at (Tried v a ∷ past) w is = (let it = abandoned_at past w is in (it.0, earlier_stands (Tried v a) past it.0 (Abandon w) it.1))
abandoned_at (Incarnated v a ∷ past) w is = (let it = abandoned_at past w is in (it.0, earlier_stands (Incarnated v a) past it.0 (Abandon w) it.1))
abandoned_at (Run v ∷ past) w is = (let it = abandoned_at past w is in (it.0, earlier_stands (Run v) past it.0 (Abandon w) it.1))
abandoned_at (Done v ∷ past) w is = (let it = abandoned_at past w is in (it.0, earlier_stands (Done v) past it.0 (Abandon w) it.1))
abandoned_at (TakeOut v n x ∷ past) w is = (let it = abandoned_at past w is in (it.0, earlier_stands (TakeOut v n x) past it.0 (Abandon w) it.1))
abandoned_at (Etherealized v x y ∷ past) w is = (let it = abandoned_at past w is in (it.0, earlier_stands (Etherealized v x y) past it.0 (Abandon w) it.1))

pub abandoned_now : (w : ℕ) (e : Entry) (past : List Entry) → e ≡ Abandon w → is_abandoned (e ∷ past) w ≡ true
abandoned_now w e past is = ap (λ d. is_abandoned (d ∷ past) w) is ∙ or_first (w == w) (is_abandoned past w) (eq-eqb w w refl)

pub abandoned_still : (w : ℕ) (e : Entry) (past : List Entry) → is_abandoned past w ≡ true → is_abandoned (e ∷ past) w ≡ true
abandoned_still w (Abandon v) past was = or_second (v == w) (is_abandoned past w) was
abandoned_still w (Entered k) past was = was
abandoned_still w (Arrive k size call) past was = was
abandoned_still w (Filled k size) past was = was
abandoned_still w (Left k) past was = was
abandoned_still w (Collect k a) past was = was
abandoned_still w (Admit v r x) past was = was
abandoned_still w (Tried v a) past was = was
abandoned_still w (Incarnated v a) past was = was
abandoned_still w (Run v) past was = was
abandoned_still w (Done v) past was = was
abandoned_still w (TakeOut v n x) past was = was
abandoned_still w (Etherealized v x y) past was = was

pub stands_abandoned : (h : List Entry) (w x : ℕ) → get_elem? (reverse h) x ≡ some (Abandon w) → is_abandoned h w ≡ true
stands_abandoned [] w x at = absurd (some-ne-none (Abandon w) (sym at))
stands_abandoned (e ∷ past) w x at = ⊎_elim
    (λ (old : get_elem? (reverse past) x ≡ some (Abandon w)). abandoned_still w e past (stands_abandoned past w x old))
    (λ (new : (x ≡ length past) × (e ≡ Abandon w)). abandoned_now w e past new.1)
    (which_stands e past x (Abandon w) at)

-- each connection of a legal history entered at some place
module _ (g : Givens) where
  pub entered_at : (h : List Entry) → IsLegal g.config g.run g.limit h → (c : ℕ) → c < connections h → (x : ℕ) × (get_elem? (reverse h) x ≡ some (Entered c))
  entered_at [] legal c low = absurd (omega arith)
  entered_at (Entered k ∷ past) legal c low =
      dite (ℕ_discrete c (connections past))
      (λ (new : c ≡ connections past). (length past, newest_stands (Entered k) past ∙ ap (λ n. some (Entered n)) (legal.0.0 ∙ sym new)))
      (λ (old : c ≡ connections past → ⊥). (let it = entered_at past legal.1 c (omega arith) in (it.0, earlier_stands (Entered k) past it.0 (Entered c) it.1)))
  entered_at (Arrive k size call ∷ past) legal c low =
      (let it = entered_at past legal.1 c low in (it.0, earlier_stands (Arrive k size call) past it.0 (Entered c) it.1))
  entered_at (Filled k size ∷ past) legal c low = (let it = entered_at past legal.1 c low in (it.0, earlier_stands (Filled k size) past it.0 (Entered c) it.1))
  entered_at (Left k ∷ past) legal c low = (let it = entered_at past legal.1 c low in (it.0, earlier_stands (Left k) past it.0 (Entered c) it.1))
  entered_at (Collect k a ∷ past) legal c low = (let it = entered_at past legal.1 c low in (it.0, earlier_stands (Collect k a) past it.0 (Entered c) it.1))
  entered_at (Admit v r x ∷ past) legal c low = (let it = entered_at past legal.1 c low in (it.0, earlier_stands (Admit v r x) past it.0 (Entered c) it.1))
  entered_at (Tried v a ∷ past) legal c low = (let it = entered_at past legal.1 c low in (it.0, earlier_stands (Tried v a) past it.0 (Entered c) it.1))
  entered_at (Incarnated v a ∷ past) legal c low =
      (let it = entered_at past legal.1 c low in (it.0, earlier_stands (Incarnated v a) past it.0 (Entered c) it.1))
  entered_at (Run v ∷ past) legal c low = (let it = entered_at past legal.1 c low in (it.0, earlier_stands (Run v) past it.0 (Entered c) it.1))
  entered_at (Done v ∷ past) legal c low = (let it = entered_at past legal.1 c low in (it.0, earlier_stands (Done v) past it.0 (Entered c) it.1))
  entered_at (TakeOut v n x ∷ past) legal c low = (let it = entered_at past legal.1 c low in (it.0, earlier_stands (TakeOut v n x) past it.0 (Entered c) it.1))
  entered_at (Etherealized v x y ∷ past) legal c low =
      (let it = entered_at past legal.1 c low in (it.0, earlier_stands (Etherealized v x y) past it.0 (Entered c) it.1))
  entered_at (Abandon v ∷ past) legal c low = (let it = entered_at past legal.1 c low in (it.0, earlier_stands (Abandon v) past it.0 (Entered c) it.1))
