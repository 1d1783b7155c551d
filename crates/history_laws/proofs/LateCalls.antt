-- Once all connections but the first have left, calls arrive only on the first and on those that enter later.
use Rattle.std.proofs.Common.{◌≡◌, ℕ, ◌≤◌, ◌<◌, ◌⊎◌, true, ◌==◌, if◌then◌else◌, List, [], ◌∷◌, ◌++◌, Some, sym, ap, ◌∙◌, subst, inl, inr, arith}
use Rattle.std.proofs.lemmas.Bool.{cases_lt, ne_eqb, true≢false, eq-eqb}
use mathlib.Core.Logic.{dite}
use native.Mathlib.Decide.{ℕ_discrete}
use Rattle.poa_base.specs.declared.Config.{Config}
use Rattle.poa_base.specs.declared.Entry.{Entry}
use Rattle.poa_base.specs.declared.Entry.TheVariants.{Entered, Arrive, Filled, Left, Collect, Admit, Tried, Incarnated, Run, Done, TakeOut, Etherealized, Abandon}
use Rattle.history_standing.specs.Arrivals.{arrivals, conn_of, connections}
use Rattle.poa_history.specs.Legal.{has_left, IsLegal, IsOpen}
use Rattle.poa_history.proofs.SettledKept.{or_second}

left_still : (e : Entry) (past : List Entry) (conn : ℕ) → has_left past conn ≡ true → has_left (e ∷ past) conn ≡ true
left_still (Left c) past conn left = or_second (c == conn) (has_left past conn) left
left_still (Entered c) past conn left = left
left_still (Arrive c size call) past conn left = left
left_still (Filled c size) past conn left = left
left_still (Collect c a) past conn left = left
left_still (Admit w r v) past conn left = left
left_still (Tried w a) past conn left = left
left_still (Incarnated w a) past conn left = left
left_still (Run w) past conn left = left
left_still (Done w) past conn left = left
left_still (TakeOut w n x) past conn left = left
left_still (Etherealized w x y) past conn left = left
left_still (Abandon w) past conn left = left

pub left_since : (more h : List Entry) (conn : ℕ) → has_left h conn ≡ true → has_left (more ++ h) conn ≡ true
left_since [] h conn left = left
left_since (e ∷ more) h conn left = left_still e (more ++ h) conn (left_since more h conn left)

module _ (c : Config) (run limit : ℕ) (h : List Entry) (left : (conn : ℕ) → 0 < conn → conn < connections h → has_left h conn ≡ true) (r conn : ℕ)
    (after : arrivals h ≤ r) where
  abbrev IsLate : Type 0
  IsLate = (conn ≡ 0) ⊎ (connections h ≤ conn)

  -- who sends a call is there
  open_late : (more : List Entry) → IsOpen (more ++ h) conn → IsLate
  open_late more opens =
      dite (ℕ_discrete conn 0) (λ (first : conn ≡ 0). inl first) (λ (other : conn ≡ 0 → ⊥).
      by_order (cases_lt conn (connections h)) (omega arith))
    where
      by_order : (conn < connections h) ⊎ (connections h ≤ conn) → 0 < conn → IsLate
      by_order (inl early) above = absurd (true≢false (sym (left_since more h conn (left conn above early)) ∙ opens.staying))
      by_order (inr late) above = inr late

  pub late : (more : List Entry) → IsLegal c run limit (more ++ h) → r < arrivals (more ++ h) → conn_of (more ++ h) r ≡ Some conn → IsLate
  late [] legal less is = absurd (omega arith)
  late (Arrive k size call ∷ more) legal less is =
      dite (ℕ_discrete r (arrivals (more ++ h)))
      (λ (now : r ≡ arrivals (more ++ h)).
      let by : Some k ≡ Some conn = sym (ap (λ b. if b then Some k else conn_of (more ++ h) r) (eq-eqb r (arrivals (more ++ h)) now)) ∙ is in
      let same : k ≡ conn = cc in
      open_late more (subst (IsOpen (more ++ h)) same legal.0.open_))
      (λ (before : r ≡ arrivals (more ++ h) → ⊥).
      late more legal.1 (omega arith) (sym (ap (λ b. if b then Some k else conn_of (more ++ h) r) (ne_eqb r (arrivals (more ++ h)) before)) ∙ is))
  late (Entered k ∷ more) legal less is = late more legal.1 less is
  late (Filled k size ∷ more) legal less is = late more legal.1 less is
  late (Left k ∷ more) legal less is = late more legal.1 less is
  late (Collect k a ∷ more) legal less is = late more legal.1 less is
  late (Admit w q v ∷ more) legal less is = late more legal.1 less is
  late (Tried w a ∷ more) legal less is = late more legal.1 less is
  late (Incarnated w a ∷ more) legal less is = late more legal.1 less is
  late (Run w ∷ more) legal less is = late more legal.1 less is
  late (Done w ∷ more) legal less is = late more legal.1 less is
  late (TakeOut w n x ∷ more) legal less is = late more legal.1 less is
  late (Etherealized w x y ∷ more) legal less is = late more legal.1 less is
  late (Abandon w ∷ more) legal less is = late more legal.1 less is
