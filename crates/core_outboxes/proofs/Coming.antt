-- An entry that comes to the desk.
use Rattle.std.proofs.Common.{◌≡◌, ℕ, not, List, [], ◌∷◌, ◌++◌, map, filter, Option, refl, sym, ap, subst, ◌∙◌}
use Rattle.poa_base.specs.declared.Config.{Config}
use Rattle.poa_base.specs.declared.Verdict.{Verdict}
use Rattle.poa_base.specs.declared.Entry.{Entry}
use Rattle.poa_base.specs.declared.Entry.TheVariants.{Entered, Arrive, Filled, Left, Collect, Admit, Tried, Incarnated, Run, Done, TakeOut, Etherealized, Abandon}
use Rattle.history_standing.specs.Arrivals.{arrivals}
use Rattle.history_standing.specs.Changes.{standing as stands_after}
use Rattle.history_standing.specs.Standings.{Standing}
use Rattle.core_outboxes.specs.declared.decision.Decision.{Decision}
use Rattle.core_outboxes.specs.declared.filed.Filed.{Filed as FiledRow}
use Rattle.core_outboxes.specs.declared.owing.Owing.{Owing}
use Rattle.core_outboxes.specs.declared.wait.Wait.{Wait}
use Rattle.core_outboxes.specs.declared.wait.Ordered.{Ordered}
use Rattle.core_outboxes.specs.Waits.{ordered_by}
use Rattle.poa_history.specs.Numbers.{Ascends}
use Rattle.core_outboxes.specs.Owed.{AreOwed, arrivals_of}
use Rattle.core_outboxes.specs.Decided.{AreFiled, target_of}
use Rattle.core_outboxes.specs.Desk.{is_decided, file, set_wait, waited, waited_by, WaitIs, Comes, AreOwedBefore, AreLeft, IsAlone}
use Rattle.core_outboxes.proofs.Lists.{filter_agrees}
use Rattle.core_outboxes.proofs.Answered.{decided_same}
use Rattle.core_outboxes.proofs.DeskAfter.{rows_alone, rows_ascend, owed_before, each_owed, owed_after, filed_then}

map_same : {A : Type 0} (xs : List A) → map (λ x. x) xs ≡ xs
map_same [] = refl
map_same (x ∷ xs) = ap (λ ys. x ∷ ys) (map_same xs)

-- the rows as the history says that they wait
pub waited_is : (c : Config) (run : ℕ) (past : List Entry) (e : Entry) (wait : Option Wait) → WaitIs c run past e wait → (os : List Owing)
    → map (waited_by e wait) os ≡ map (waited c run past e) os
waited_is c run past (Admit w a v) wait is os = ap (λ x. map (set_wait a x) os) is
waited_is c run past (Entered conn) wait is os = refl
waited_is c run past (Arrive conn size call) wait is os = refl
waited_is c run past (Filled conn size) wait is os = refl
waited_is c run past (Left conn) wait is os = refl
waited_is c run past (Collect conn a) wait is os = refl
waited_is c run past (Tried w a) wait is os = refl
waited_is c run past (Incarnated w a) wait is os = refl
waited_is c run past (Run w) wait is os = refl
waited_is c run past (Done w) wait is os = refl
waited_is c run past (TakeOut w n x) wait is os = refl
waited_is c run past (Etherealized w x y) wait is os = refl
waited_is c run past (Abandon w) wait is os = refl

module _ (c : Config) (e : Entry) (standing : Standing) (decision : Option Decision) (wait : Option Wait) (ordered : Option Ordered) (os : List Owing)
    (k : Comes c e standing decision wait ordered os) where
  abbrev target : Option ℕ
  target = target_of decision

  rows : map (waited_by e wait) os ≡ map (waited c k.run k.past e) os
  rows = waited_is c k.run k.past e wait k.waits os

  pub alone_then : IsAlone target (map (waited_by e wait) os)
  alone_then = subst (IsAlone target) (sym rows) (rows_alone c k.run k.limit k.opened k.past e k.manned k.legal decision k.decides os k.owed)

  pub ascend_then : Ascends (arrivals_of (map (waited_by e wait) os))
  ascend_then =
      subst (λ rs. Ascends (arrivals_of rs)) (sym rows) (rows_ascend c k.run k.limit k.opened k.past e k.manned k.legal decision k.decides os k.owed)

  -- the rows that the desk keeps and those that it files are those of the history
  keeps : filter (λ o. not (is_decided c standing target ordered o)) (map (waited_by e wait) os)
      ≡ filter (λ o. not (is_decided c (stands_after c k.run (e ∷ k.past)) target (ordered_by c k.past e) o)) (map (waited c k.run k.past e) os)
  keeps =
      filter_agrees _ _ (map (waited_by e wait) os) (λ o _. ap not (decided_same c k.run (e ∷ k.past) standing k.stands target ordered o))
      ∙ ap (λ r. filter (λ o. not (is_decided c (stands_after c k.run (e ∷ k.past)) target r o)) (map (waited_by e wait) os)) k.orders
      ∙ ap (filter (λ o. not (is_decided c (stands_after c k.run (e ∷ k.past)) target (ordered_by c k.past e) o))) rows

  files : filter (is_decided c standing target ordered) (map (waited_by e wait) os)
      ≡ filter (is_decided c (stands_after c k.run (e ∷ k.past)) target (ordered_by c k.past e)) (map (waited c k.run k.past e) os)
  files =
      filter_agrees _ _ (map (waited_by e wait) os) (λ o _. decided_same c k.run (e ∷ k.past) standing k.stands target ordered o)
      ∙ ap (λ r. filter (is_decided c (stands_after c k.run (e ∷ k.past)) target r) (map (waited_by e wait) os)) k.orders
      ∙ ap (filter (is_decided c (stands_after c k.run (e ∷ k.past)) target (ordered_by c k.past e))) rows

  pub before_then : (new : List Owing) → new ≡ filter (λ o. not (is_decided c standing target ordered o)) (map (waited_by e wait) os)
      → AreOwedBefore c k.run k.past e new
  before_then new is =
      subst (AreOwedBefore c k.run k.past e) (sym (is ∙ keeps))
      (record {
        which = owed_before c k.run k.limit k.opened k.past e k.manned k.legal decision k.decides os k.owed;
        each = each_owed c k.run k.limit k.opened k.past e k.manned k.legal decision k.decides os k.owed;
      })

  pub owed_then : (new : List Owing) → new ≡ filter (λ o. not (is_decided c standing target ordered o)) (map (waited_by e wait) os)
      → arrivals (e ∷ k.past) ≡ arrivals k.past → AreOwed c k.run (e ∷ k.past) new
  owed_then new is same =
      subst (AreOwed c k.run (e ∷ k.past)) (sym (is ∙ keeps))
      (owed_after c k.run k.limit k.opened k.past e k.manned k.legal decision k.decides os k.owed same)

  pub filed_after_all : (fs new : List FiledRow)
      → new ≡ fs ++ map (file decision) (filter (is_decided c standing target ordered) (map (waited_by e wait) os)) → AreLeft c k.run k.opened k.past e fs
      → AreFiled c k.run k.opened (e ∷ k.past) new
  filed_after_all fs new is left =
      subst (AreFiled c k.run k.opened (e ∷ k.past)) (sym (is ∙ ap (λ rs. fs ++ map (file decision) rs) files))
      (filed_then c k.run k.limit k.opened k.past e k.manned k.legal decision k.decides os k.owed fs left.which left.each)

-- no other entry gives a row something to wait for
pub waits_not : (e : Entry) (wait : Option Wait) (os : List Owing) → ((w r : ℕ) (v : Verdict) → e ≡ Admit w r v → ⊥) → os ≡ map (waited_by e wait) os
waits_not (Admit w a v) wait os none = absurd (none w a v refl)
waits_not (Entered conn) wait os none = sym (map_same os)
waits_not (Arrive conn size call) wait os none = sym (map_same os)
waits_not (Filled conn size) wait os none = sym (map_same os)
waits_not (Left conn) wait os none = sym (map_same os)
waits_not (Collect conn a) wait os none = sym (map_same os)
waits_not (Tried w a) wait os none = sym (map_same os)
waits_not (Incarnated w a) wait os none = sym (map_same os)
waits_not (Run w) wait os none = sym (map_same os)
waits_not (Done w) wait os none = sym (map_same os)
waits_not (TakeOut w n x) wait os none = sym (map_same os)
waits_not (Etherealized w x y) wait os none = sym (map_same os)
waits_not (Abandon w) wait os none = sym (map_same os)
