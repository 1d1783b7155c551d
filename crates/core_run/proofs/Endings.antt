-- Of each worker that has only to end what it began, one entry may still come; and one of each that hasn't given up.
use Rattle.std.proofs.Common.{◌≡◌, ℕ, ◌+◌, ◌<◌, ◌≤◌, Bool, true, false, not, ◌||◌, ◌==◌, List, [], ◌∷◌, Some, if◌then◌else◌, slice_index_or, refl, sym, ap, ap₂, ◌∙◌, arith}
use Rattle.std.proofs.lemmas.Bool.{eq-eqb}
use Rattle.poa_base.specs.declared.Config.{Config}
use Rattle.poa_base.specs.declared.Entry.{Entry}
use Rattle.poa_base.specs.declared.Entry.TheVariants.{Entered, Arrive, Filled, Left, Collect, Admit, Tried, Incarnated, Run, Done, TakeOut, Etherealized, Abandon}
use Rattle.history_standing.specs.declared.stage.Stage.TheVariants.{Free}
use Rattle.history_standing.specs.Searches.{count_below}
use Rattle.history_standing.specs.Stages.{stage, is_abandoned}
use Rattle.poa_history.specs.Legal.{MayFollow}
use Rattle.poa_history.proofs.TurnTells.{done_is, removal_is}
use Rattle.poa_history.proofs.StagesFrom.{maker, stage_other}
use Rattle.poa_history.specs.Entries.{stage_at}
use Rattle.core_arrivals.specs.declared.workers.Workers.{Workers}
use Rattle.core_arrivals.specs.Begun.{WorkersAgree, only_ends}
use Rattle.core_arrivals.proofs.Staying.{count_few, count_same, count_less, count_near}
use Rattle.core_state.specs.State.{only_ends as only_ends_by}
use Rattle.poa_history.specs.Entries.{is_turn}
use Rattle.core_run.specs.ToCome.{by_workers, is_conn, is_ending}

-- the same of the history, for the workers below a number
abbrev below_of : ℕ → List Entry → ℕ
below_of n h = count_below (λ w. only_ends (stage h w)) n + count_below (λ w. not (is_abandoned h w)) n

unfoldable pub by_history : List Entry → ℕ
by_history h = below_of 16 h

pub workers_is : (h : List Entry) (workers : Workers) → WorkersAgree h workers → by_workers workers ≡ by_history h
unfolding by_workers by_history
workers_is h workers is =
    ap₂ (λ a b. a + b)
    (count_same (λ w. only_ends (slice_index_or workers.stages.items w Free)) (λ w. only_ends (stage h w)) 16 (λ w low. ap only_ends (is.begun.are w low)))
    (count_same (λ w. not (slice_index_or workers.abandoned.items w false)) (λ w. not (is_abandoned h w)) 16 (λ w low. ap not (is.stopped.are w low)))

pub workers_few : (workers : Workers) → by_workers workers ≤ 32
unfolding by_workers
workers_few workers =
    few (count_few (λ w. only_ends (slice_index_or workers.stages.items w Free)) 16) (count_few (λ w. not (slice_index_or workers.abandoned.items w false)) 16)
  where
    few : {a b : ℕ} → a ≤ 16 → b ≤ 16 → a + b ≤ 32
    few one other = omega (arith, one, other)

-- before the first entry no worker has begun anything, and none has given up
pub none_begun : by_history [] ≡ 16
unfolding by_history
none_begun = refl

-- the entries of connections are none of them
pub conns_keep : (h : List Entry) (e : Entry) → is_conn e ≡ true → by_history (e ∷ h) ≡ by_history h
unfolding by_history
conns_keep h (Entered conn) is = refl
conns_keep h (Arrive conn size call) is = refl
conns_keep h (Filled conn size) is = refl
conns_keep h (Left conn) is = refl
conns_keep h (Collect conn a) is = refl
conns_keep h (Admit w r v) is = absurd (let e : false ≡ true = is in cc)
conns_keep h (Tried w a) is = absurd (let e : false ≡ true = is in cc)
conns_keep h (Incarnated w a) is = absurd (let e : false ≡ true = is in cc)
conns_keep h (Run w) is = absurd (let e : false ≡ true = is in cc)
conns_keep h (Done w) is = absurd (let e : false ≡ true = is in cc)
conns_keep h (TakeOut w n x) is = absurd (let e : false ≡ true = is in cc)
conns_keep h (Etherealized w x y) is = absurd (let e : false ≡ true = is in cc)
conns_keep h (Abandon w) is = absurd (let e : false ≡ true = is in cc)

-- a worker's entry is that of one worker, and none gives up
module _ (h : List Entry) (e : Entry) (v : ℕ) (by : maker e ≡ Some v) (going : (w : ℕ) → is_abandoned (e ∷ h) w ≡ is_abandoned h w) (n : ℕ) where
  others : (w : ℕ) → (v == w) ≡ false → only_ends (stage (e ∷ h) w) ≡ only_ends (stage h w)
  others w other = ap only_ends (stage_other e h w (λ made. apart (let f : Some v ≡ Some w = sym by ∙ made in let same : v ≡ w = cc in same)))
    where
      apart : v ≡ w → ⊥
      apart same = (let yes_ : true ≡ false = sym (eq-eqb v w same) ∙ other in cc)

  as_many_going : count_below (λ w. not (is_abandoned (e ∷ h) w)) n ≡ count_below (λ w. not (is_abandoned h w)) n
  as_many_going = count_same (λ w. not (is_abandoned (e ∷ h) w)) (λ w. not (is_abandoned h w)) n (λ w _. ap not (going w))

  one_more : below_of n (e ∷ h) ≤ below_of n h + 1
  one_more = sums _ _ _ _ (count_near (λ w. only_ends (stage (e ∷ h) w)) (λ w. only_ends (stage h w)) v n others) as_many_going
    where
      sums : (a b c d : ℕ) → a ≤ b + 1 → c ≡ d → a + c ≤ b + d + 1
      sums a b c d more same = omega (arith, more, same)

  one_less : v < n → only_ends (stage h v) ≡ true → only_ends (stage (e ∷ h) v) ≡ false → below_of n (e ∷ h) + 1 ≡ below_of n h
  one_less low was is =
      sums _ _ _ _ (count_less (λ w. only_ends (stage h w)) (λ w. only_ends (stage (e ∷ h) w)) v n low was is (λ w other. sym (others w other))) as_many_going
    where
      sums : (a b c d : ℕ) → b ≡ a + 1 → c ≡ d → a + c + 1 ≡ b + d
      sums a b c d less same = omega (arith, less, same)

pub turns_add : (h : List Entry) (e : Entry) → is_turn e ≡ true → by_history (e ∷ h) ≤ by_history h + 1
unfolding by_history
turns_add h (Admit w r v) is = one_more h (Admit w r v) w refl (λ _. refl) 16
turns_add h (Tried w a) is = one_more h (Tried w a) w refl (λ _. refl) 16
turns_add h (Incarnated w a) is = one_more h (Incarnated w a) w refl (λ _. refl) 16
turns_add h (Run w) is = one_more h (Run w) w refl (λ _. refl) 16
turns_add h (Done w) is = one_more h (Done w) w refl (λ _. refl) 16
turns_add h (TakeOut w n x) is = one_more h (TakeOut w n x) w refl (λ _. refl) 16
turns_add h (Etherealized w x y) is = one_more h (Etherealized w x y) w refl (λ _. refl) 16
turns_add h (Entered conn) is = absurd (let e : false ≡ true = is in cc)
turns_add h (Arrive conn size call) is = absurd (let e : false ≡ true = is in cc)
turns_add h (Filled conn size) is = absurd (let e : false ≡ true = is in cc)
turns_add h (Left conn) is = absurd (let e : false ≡ true = is in cc)
turns_add h (Collect conn a) is = absurd (let e : false ≡ true = is in cc)
turns_add h (Abandon w) is = absurd (let e : false ≡ true = is in cc)

free_now : (h : List Entry) (w : ℕ) → only_ends (if w == w then Free else stage h w) ≡ false
free_now h w = ap (λ b. only_ends (if b then Free else stage h w)) (eq-eqb w w refl)

-- what is so of each entry that only ends something
pub by_ending : (P : Entry → Type 0) → ((w : ℕ) → P (Done w)) → ((w : ℕ) (cleanup remaining : Bool) → P (Etherealized w cleanup remaining)) → (e : Entry)
    → is_ending e ≡ true → P e
by_ending P done removed (Done w) is = done w
by_ending P done removed (Etherealized w x y) is = removed w x y
by_ending P done removed (Admit w r v) is = absurd (let e : false ≡ true = is in cc)
by_ending P done removed (Tried w a) is = absurd (let e : false ≡ true = is in cc)
by_ending P done removed (Incarnated w a) is = absurd (let e : false ≡ true = is in cc)
by_ending P done removed (Run w) is = absurd (let e : false ≡ true = is in cc)
by_ending P done removed (TakeOut w n x) is = absurd (let e : false ≡ true = is in cc)
by_ending P done removed (Entered conn) is = absurd (let e : false ≡ true = is in cc)
by_ending P done removed (Arrive conn size call) is = absurd (let e : false ≡ true = is in cc)
by_ending P done removed (Filled conn size) is = absurd (let e : false ≡ true = is in cc)
by_ending P done removed (Left conn) is = absurd (let e : false ≡ true = is in cc)
by_ending P done removed (Collect conn a) is = absurd (let e : false ≡ true = is in cc)
by_ending P done removed (Abandon w) is = absurd (let e : false ≡ true = is in cc)

-- what was begun only ends with it
pub ends_only : (e : Entry) → is_ending e ≡ true → only_ends_by e ≡ true
ends_only = by_ending (λ e. only_ends_by e ≡ true) (λ _. refl) (λ _ _ _. refl)

module _ (c : Config) (run limit : ℕ) (h : List Entry) where
  -- it has its room since what it ends began
  pub endings_take : (e : Entry) → MayFollow c run limit h e → is_ending e ≡ true → by_history (e ∷ h) + 1 ≡ by_history h
  unfolding by_history
  endings_take e may is =
      by_ending (λ x. MayFollow c run limit h x → below_of 16 (x ∷ h) + 1 ≡ below_of 16 h)
      (λ w at. one_less h (Done w) w refl (λ _. refl) 16 at.worker (ap only_ends (done_is c run h w at).1) (free_now h w))
      (λ w x y at. one_less h (Etherealized w x y) w refl (λ _. refl) 16 at.worker (ap only_ends (removal_is c run h w x y at).begun) (free_now h w))
      e is may

  pub ending_stage : (e : Entry) → MayFollow c run limit h e → is_ending e ≡ true → only_ends (stage_at h e) ≡ true
  ending_stage e may is =
      by_ending (λ x. MayFollow c run limit h x → only_ends (stage_at h x) ≡ true)
      (λ w at. ap only_ends (done_is c run h w at).1) (λ w x y at. ap only_ends (removal_is c run h w x y at).begun) e is may

-- a worker that gives up takes the room that was kept for that
pub abandon_takes : (h : List Entry) (v : ℕ) → v < 16 → is_abandoned h v ≡ false → by_history (Abandon v ∷ h) + 1 ≡ by_history h
unfolding by_history
abandon_takes h v low going =
    sums _ _ _ _ refl
    (count_less (λ w. not (is_abandoned h w)) (λ w. not ((v == w) || is_abandoned h w)) v 16 low (ap not going)
    (ap (λ b. not (b || is_abandoned h v)) (eq-eqb v v refl))
    (λ w other. ap (λ b. not (b || is_abandoned h w)) (sym other)))
  where
    sums : (a b c d : ℕ) → a ≡ b → d ≡ c + 1 → a + c + 1 ≡ b + d
    sums a b c d same less = omega (arith, same, less)
