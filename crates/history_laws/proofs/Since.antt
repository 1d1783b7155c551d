-- What has come of a command since it was admitted.
use Rattle.history_laws.proofs.Keyed.{admitted_before}
use Rattle.poa_base.specs.declared.Config.{Config}
use Rattle.poa_base.specs.declared.Entry.{Entry}
use Rattle.poa_base.specs.declared.Entry.TheVariants.{Abandon, Admit, Arrive, Collect, Done, Entered, Etherealized, Filled, Incarnated, Left, Run, TakeOut, Tried}
use Rattle.poa_base.specs.declared.Verdict.TheVariants.{Wait}
use Rattle.poa_history.proofs.NodesFrom.{count_from, new as node_new, node_before, stood as node_stood}
use Rattle.poa_history.proofs.SettledKept.{or_second}
use Rattle.poa_history.proofs.TurnTells.{admission_is}
use Rattle.history_standing.specs.Arrivals.{arrivals, call_of}
use Rattle.poa_history.specs.Bounds.{IsWithinLimits}
use Rattle.history_standing.specs.Changes.{standing}
use Rattle.poa_history.specs.Destroyed.{destroys, was_destroyed}
use Rattle.poa_history.specs.Endings.{is_ended_by, was_ended}
use Rattle.poa_history.specs.Legal.{IsLegal}
use Rattle.history_standing.specs.Logs.{command_done}
use Rattle.poa_history.specs.Settling.{before_admit}
use Rattle.poa_history.specs.Sound.{IsGiven}
use Rattle.history_standing.specs.Stages.{admitted, is_unadmitted}
use Rattle.history_standing.specs.declared.activation.Activation.{Activation}
use Rattle.history_standing.specs.Trees.{In}
use Rattle.history_standing.specs.declared.node.Node.{Node}
use Rattle.std.proofs.Common.{◌∙◌, ap, arith, inl, inr, sym}
use Rattle.std.proofs.lemmas.Bool.{cond_both, eq-eqb, eqb-true, true≢false}
use Rattle.std.specs.Prelude.{◌&&◌, ◌++◌, ◌<◌, ◌==◌, ◌∷◌, ◌≡◌, ◌≤◌, List, None, Some, [], if◌then◌else◌, is_none, nat_lt, refl, true, ℕ}
use Rattle.history_standing.proofs.CallsKept.{arrivals_kept, call_kept}

module _ (c : Config) (run limit : ℕ) (given : IsGiven c run) (within : IsWithinLimits c limit) where
  pub legal_before : (more past : List Entry) → IsLegal c run limit (more ++ past) → IsLegal c run limit past
  legal_before [] past legal = legal
  legal_before (x ∷ more) past legal = legal_before more past legal.1

  pub ended_since : (more past : List Entry) (a : Activation) → was_ended c run past a ≡ true → was_ended c run (more ++ past) a ≡ true
  ended_since [] past a is = is
  ended_since (x ∷ more) past a is = or_second (is_ended_by c run (more ++ past) x a) (was_ended c run (more ++ past) a) (ended_since more past a is)

  pub destroyed_since : (more past : List Entry) (k : ℕ) (p : List (List ℕ)) → was_destroyed c run past k p ≡ true
      → was_destroyed c run (more ++ past) k p ≡ true
  destroyed_since [] past k p is = is
  destroyed_since (x ∷ more) past k p is =
      or_second (nat_lt k (standing c run (more ++ past)).count && destroys p (command_done (more ++ past) x)) (was_destroyed c run (more ++ past) k p)
      (destroyed_since more past k p is)

  pub count_since : (more past : List Entry) → (standing c run past).count ≤ (standing c run (more ++ past)).count
  count_since [] past = omega arith
  count_since (x ∷ more) past =
      (let low = count_since more past in let next = count_from c run (more ++ past) x (standing c run (more ++ past)) in omega (arith, low, next))

  pub call_since : (more past : List Entry) (r : ℕ) → r < arrivals past → (call_of (more ++ past) r ≡ call_of past r) × (r < arrivals (more ++ past))
  call_since [] past r less = (refl, less)
  call_since (x ∷ more) past r less =
      (let before = call_since more past r less in
      (call_kept x (more ++ past) r before.1 ∙ before.0, (let grows = arrivals_kept x (more ++ past) in let low = before.1 in omega (arith, grows, low))))

  -- an adapter that stands and was created by then stood then, at its path
  pub node_since : (more past : List Entry) (n : Node) → In n (standing c run (more ++ past)).nodes → n.number < (standing c run past).count → (m : Node)
      × In m (standing c run past).nodes × (n.number ≡ m.number) × (n.path ≡ m.path)
  node_since [] past n there early = (n, there, refl, refl)
  node_since (x ∷ more) past n there early =
      elim (node_before c run (more ++ past) x n there) [
        | node_stood m was number path dying ↦
            (let before = node_since more past m was (let same = number in omega (arith, early, same)) in
            (before.0, before.1, number ∙ before.2, path ∙ before.3))
        | node_new number living ↦ absurd (let low = count_since more past in omega (arith, early, low, number))
      ]

  -- where an arrival waits, the history goes on from its Admit
  pub record IsSince (h : List Entry) (r : ℕ) : Type 0 where
    pub more : List Entry
    pub past : List Entry
    pub worker : ℕ
    pub split : h ≡ more ++ (Admit worker r Wait ∷ past)
    pub before : before_admit h r ≡ past

  before_other : (past : List Entry) (e : Entry) (r : ℕ) → IsLegal c run limit (e ∷ past) → admitted past r ≡ Some Wait
      → before_admit (e ∷ past) r ≡ before_admit past r
  before_other past (Admit w a v) r legal was =
      cond_both (a == r) past (before_admit past r) (λ x. x ≡ before_admit past r)
      (λ same. absurd
      (let unadmitted = (admission_is c run past w a v legal.0).unadmitted in
      true≢false (sym unadmitted ∙ (ap (is_unadmitted past) (eqb-true a r same) ∙ ap is_none was)))) (λ _. refl)
  before_other past (Entered conn) r legal was = refl
  before_other past (Arrive conn size call) r legal was = refl
  before_other past (Filled conn size) r legal was = refl
  before_other past (Left conn) r legal was = refl
  before_other past (Collect conn a) r legal was = refl
  before_other past (Tried w a) r legal was = refl
  before_other past (Incarnated w a) r legal was = refl
  before_other past (Run w) r legal was = refl
  before_other past (Done w) r legal was = refl
  before_other past (TakeOut w n x) r legal was = refl
  before_other past (Etherealized w x y) r legal was = refl
  before_other past (Abandon w) r legal was = refl

  pub since : (h : List Entry) → IsLegal c run limit h → (r : ℕ) → admitted h r ≡ Some Wait → IsSince h r
  since [] legal r is = absurd (let f : None ≡ Some Wait = is in cc)
  since (e ∷ past) legal r is =
      elim (admitted_before e past r Wait is) [
        | inr now ↦
            record {
              more = [];
              past = past;
              worker = now.0;
              split = ap (λ y. y ∷ past) now.1;
              before = ap (λ y. before_admit (y ∷ past) r) now.1 ∙ ap (λ b. if b then past else before_admit past r) (eq-eqb r r refl);
            }
        | inl was ↦
            (let it = since past legal.1 r was in
            record {
              more = e ∷ it.more;
              past = it.past;
              worker = it.worker;
              split = ap (λ y. e ∷ y) it.split;
              before = before_other past e r legal was ∙ it.before;
            })
      ]
