-- The room that the journal has, as entries follow.
use Rattle.std.proofs.Common.{◌≡◌, ℕ, ◌+◌, ◌-◌, ◌<◌, ◌≤◌, Bool, true, false, not, ◌&&◌, ◌||◌, ◌==◌, List, ◌∷◌, zero, suc, Option, Some, None, is_none, is_some, if◌then◌else◌, refl, sym, ap, ap₂, subst, ◌∙◌, arith}
use Rattle.std.proofs.lemmas.Bool.{true≢false, eqb-true, eq-eqb}
use Rattle.poa_base.specs.declared.Config.{Config}
use Rattle.poa_base.specs.declared.Entry.{Entry}
use Rattle.poa_base.specs.declared.Entry.TheVariants.{Entered, Arrive, Filled, Left, Collect, Admit, Tried, Incarnated, Run, Done, TakeOut, Etherealized, Abandon}
use Rattle.history_standing.specs.Arrivals.{arrivals, connections}
use Rattle.poa_history.specs.Legal.{MayFollow, has_left, is_filled, IsOpen}
use Rattle.history_standing.specs.Searches.{count_below}
use Rattle.history_standing.specs.Stages.{is_abandoned}
use Rattle.core_arrivals.specs.declared.Tally.{Tally}
use Rattle.poa_history.specs.declared.Full.{Full}
use Rattle.core_arrivals.specs.Tallies.{TallyAgrees}
use Rattle.poa_history.specs.Leaving.{staying, is_staying}
use Rattle.core_arrivals.proofs.Staying.{staying_less}
use Rattle.core_arrivals.proofs.Follows.{unfilled_is}
use Rattle.poa_history.specs.Entries.{is_turn}
use Rattle.core_run.specs.declared.tables.Tables.{Tables}
use Rattle.core_run.specs.Known.{TablesAgree}
use Rattle.core_run.specs.ToCome.{unless, by_connections, by_workers, stay, is_conn, is_ending}
use Rattle.core_run.proofs.Endings.{by_history, workers_is, conns_keep, turns_add, endings_take, abandon_takes}

-- the same of the history
abbrev pub conns_of : List Entry → ℕ
conns_of h = staying h (connections h) + unless (has_left h 0) + unless (is_filled h)

some_is : (o : Option Full) (b : Bool) → is_none o ≡ not b → is_some o ≡ b
some_is None true is = absurd (let e : true ≡ false = is in cc)
some_is None false is = refl
some_is (Some f) true is = refl
some_is (Some f) false is = absurd (let e : false ≡ true = is in cc)

tally_is : (h : List Entry) (t : Tally) → TallyAgrees h t → by_connections t ≡ conns_of h
tally_is h t is = ap₂ (λ a b. a + b) (ap₂ (λ a b. a + unless b) is.stayers (is.leavers 0)) (ap unless (some_is t.filled (is_filled h) (unfilled_is h t is)))

-- of the entries of workers, and of calls and replies, none enters, leaves or is filled
abbrev pub keeps_conns : Entry → Bool
keeps_conns (Entered conn) = false
keeps_conns (Filled conn size) = false
keeps_conns (Left conn) = false
keeps_conns e = true

conns_same : (h : List Entry) (e : Entry) → keeps_conns e ≡ true → conns_of (e ∷ h) ≡ conns_of h
conns_same h (Entered conn) is = absurd (let e : false ≡ true = is in cc)
conns_same h (Arrive conn size call) is = refl
conns_same h (Filled conn size) is = absurd (let e : false ≡ true = is in cc)
conns_same h (Left conn) is = absurd (let e : false ≡ true = is in cc)
conns_same h (Collect conn a) is = refl
conns_same h (Admit w r v) is = refl
conns_same h (Tried w a) is = refl
conns_same h (Incarnated w a) is = refl
conns_same h (Run w) is = refl
conns_same h (Done w) is = refl
conns_same h (TakeOut w n x) is = refl
conns_same h (Etherealized w x y) is = refl
conns_same h (Abandon w) is = refl

turns_keep : (e : Entry) → is_turn e ≡ true → keeps_conns e ≡ true
turns_keep (Entered conn) is = absurd (let e : false ≡ true = is in cc)
turns_keep (Arrive conn size call) is = absurd (let e : false ≡ true = is in cc)
turns_keep (Filled conn size) is = absurd (let e : false ≡ true = is in cc)
turns_keep (Left conn) is = absurd (let e : false ≡ true = is in cc)
turns_keep (Collect conn a) is = absurd (let e : false ≡ true = is in cc)
turns_keep (Admit w r v) is = refl
turns_keep (Tried w a) is = refl
turns_keep (Incarnated w a) is = refl
turns_keep (Run w) is = refl
turns_keep (Done w) is = refl
turns_keep (TakeOut w n x) is = refl
turns_keep (Etherealized w x y) is = refl
turns_keep (Abandon w) is = absurd (let e : false ≡ true = is in cc)

pub turns_arrive_none : (h : List Entry) (e : Entry) → is_turn e ≡ true → arrivals (e ∷ h) ≡ arrivals h
turns_arrive_none h (Entered conn) is = absurd (let e : false ≡ true = is in cc)
turns_arrive_none h (Arrive conn size call) is = absurd (let e : false ≡ true = is in cc)
turns_arrive_none h (Filled conn size) is = absurd (let e : false ≡ true = is in cc)
turns_arrive_none h (Left conn) is = absurd (let e : false ≡ true = is in cc)
turns_arrive_none h (Collect conn a) is = absurd (let e : false ≡ true = is in cc)
turns_arrive_none h (Admit w r v) is = refl
turns_arrive_none h (Tried w a) is = refl
turns_arrive_none h (Incarnated w a) is = refl
turns_arrive_none h (Run w) is = refl
turns_arrive_none h (Done w) is = refl
turns_arrive_none h (TakeOut w n x) is = refl
turns_arrive_none h (Etherealized w x y) is = refl
turns_arrive_none h (Abandon w) is = absurd (let e : false ≡ true = is in cc)

tally_after : (h : List Entry) (e : Entry) (t u : Tally) → keeps_conns e ≡ true → TallyAgrees h t → TallyAgrees (e ∷ h) u → by_connections u ≡ by_connections t
tally_after h e t u keeps old new = tally_is (e ∷ h) u new ∙ conns_same h e keeps ∙ sym (tally_is h t old)

-- one more may leave
entered_of : (h : List Entry) (conn : ℕ) → conns_of (Entered conn ∷ h) ≤ conns_of h + 1
entered_of h conn =
    elim (is_staying h (connections h)) as (λ b. (count_below (is_staying h) (connections h) + (if b then 1 else 0)) + unless (has_left h 0) + unless
    (is_filled h) ≤ count_below (is_staying h) (connections h) + unless (has_left h 0) + unless (is_filled h) + 1)
    [ true ↦ omega arith | false ↦ omega arith ]

tally_entered : (h : List Entry) (conn : ℕ) (t u : Tally) → TallyAgrees h t → TallyAgrees (Entered conn ∷ h) u → by_connections u ≤ by_connections t + 1
tally_entered h conn t u old new =
    (let a = tally_is h t old in let b = tally_is (Entered conn ∷ h) u new in let more = entered_of h conn in omega (arith, a, b, more))

-- one less may come when the run was filled
tally_filled : (h : List Entry) (conn size : ℕ) (t u : Tally) → is_filled h ≡ false → TallyAgrees h t → TallyAgrees (Filled conn size ∷ h) u
    → by_connections u + 1 ≡ by_connections t
tally_filled h conn size t u fresh old new =
    (let a = tally_is h t old in let b = tally_is (Filled conn size ∷ h) u new in
    let less : unless (is_filled h) ≡ 1 = ap unless fresh in omega (arith, a, b, less))

-- one less may leave
one_there : (p : ℕ → Bool) (x n : ℕ) → x < n → p x ≡ true → 1 ≤ count_below p n
one_there p x zero below is = absurd (omega (arith, below))
one_there p x (suc n) below is =
    elim (x == n) as (λ b. (x == n) ≡ b → 1 ≤ count_below p n + (if p n then 1 else 0)) [
      | true ↦ (λ same. (let e : x ≡ n = eqb-true x n same in subst (λ b. 1 ≤ count_below p n + (if b then 1 else 0)) (sym (ap p (sym e) ∙ is)) (omega arith)))
      | false ↦
          (λ other.
          (let low : x < n = lower x n below (λ e. true≢false (sym (eq-eqb x n e) ∙ other)) in let more = one_there p x n low is in omega (arith, more)))
    ] refl
  where
    lower : (x n : ℕ) → x < suc n → (x ≡ n → ⊥) → x < n
    lower x n below ne = omega (arith, below, ne)

left_of : (h : List Entry) (conn : ℕ) → IsOpen h conn → conns_of (Left conn ∷ h) + 1 ≡ conns_of h
left_of h conn open_ =
    let s = staying h (connections h) in
    let less = staying_less h conn s open_.entered open_.staying refl in
    elim (conn == 0) as (λ b. (conn == 0) ≡ b → (if b then s else s - 1) ≡ staying (Left conn ∷ h) (connections h)
    → staying (Left conn ∷ h) (connections h) + unless (b || has_left h 0) + unless (is_filled h) + 1 ≡ s + unless (has_left h 0) + unless (is_filled h)) [
      | true ↦
          (λ first is.
          (let there : unless (has_left h 0) ≡ 1 = ap unless (ap (has_left h) (sym (eqb-true conn 0 first)) ∙ open_.staying) in omega (arith, is, there)))
      | false ↦
          (λ other is.
          (let some : 1 ≤ s = one_there (is_staying h) conn (connections h) open_.entered (ap₂ (λ a b. not a && not b) other open_.staying) in
          omega (arith, is, some)))
    ] refl less

tally_left : (h : List Entry) (conn : ℕ) (t u : Tally) → IsOpen h conn → TallyAgrees h t → TallyAgrees (Left conn ∷ h) u → by_connections u + 1 ≡ by_connections t
tally_left h conn t u open_ old new =
    (let a = tally_is h t old in let b = tally_is (Left conn ∷ h) u new in let less = left_of h conn open_ in omega (arith, a, b, less))

-- where one may leave, there is one
tally_open : (h : List Entry) (conn : ℕ) (t : Tally) → IsOpen h conn → TallyAgrees h t → 1 ≤ by_connections t
tally_open h conn t open_ old = (let a = tally_is h t old in let less = left_of h conn open_ in omega (arith, a, less))

-- a run that isn't filled may be
tally_unfilled : (h : List Entry) (t : Tally) → is_filled h ≡ false → TallyAgrees h t → 1 ≤ by_connections t
tally_unfilled h t fresh old = (let a = tally_is h t old in let less : unless (is_filled h) ≡ 1 = ap unless fresh in omega (arith, a, less))

-- what is kept for workers, as entries follow
workers_same : {c c' : Config} {run run' : ℕ} (h : List Entry) (e : Entry) (t u : Tables) → is_conn e ≡ true → TablesAgree c run h t
    → TablesAgree c' run' (e ∷ h) u → by_workers u.workers ≡ by_workers t.workers
workers_same h e t u conn old new = workers_is (e ∷ h) u.workers new.workers ∙ conns_keep h e conn ∙ sym (workers_is h t.workers old.workers)

pub stay_is : {c : Config} {run : ℕ} (h : List Entry) (t : Tables) → TablesAgree c run h t → stay t ≡ conns_of h + by_history h
stay_is h t is = ap₂ (λ a b. a + b) (tally_is h t.tally is.tally) (workers_is h t.workers is.workers)

-- a call that arrives, and a reply that is collected, leave all else
pub stay_after : {c c' : Config} {run run' : ℕ} (h : List Entry) (e : Entry) (t u : Tables) → keeps_conns e ≡ true → is_conn e ≡ true → TablesAgree c run h t
    → TablesAgree c' run' (e ∷ h) u → stay u ≡ stay t
stay_after h e t u keeps conn old new = ap₂ (λ a b. a + b) (tally_after h e t.tally u.tally keeps old.tally new.tally) (workers_same h e t u conn old new)

pub stay_entered : {c c' : Config} {run run' : ℕ} (h : List Entry) (conn : ℕ) (t u : Tables) → TablesAgree c run h t → TablesAgree c' run' (Entered conn ∷ h) u
    → stay u ≤ stay t + 1
stay_entered h conn t u old new =
    sums _ _ _ _ (tally_entered h conn t.tally u.tally old.tally new.tally) (workers_same h (Entered conn) t u refl old new)
  where
    sums : (a b c d : ℕ) → a ≤ b + 1 → c ≡ d → a + c ≤ b + d + 1
    sums a b c d more same = omega (arith, more, same)

less_by : (a b c d : ℕ) → a + 1 ≡ b → c ≡ d → a + c + 1 ≡ b + d
less_by a b c d less same = omega (arith, less, same)

some_of : (a b : ℕ) → 1 ≤ a → 1 ≤ a + b
some_of a b some = omega (arith, some)

pub stay_filled : {c c' : Config} {run run' : ℕ} (h : List Entry) (conn size : ℕ) (t u : Tables) → is_filled h ≡ false → TablesAgree c run h t
    → TablesAgree c' run' (Filled conn size ∷ h) u → stay u + 1 ≡ stay t
stay_filled h conn size t u fresh old new =
    less_by (by_connections u.tally) (by_connections t.tally) (by_workers u.workers) (by_workers t.workers)
    (tally_filled h conn size t.tally u.tally fresh old.tally new.tally) (workers_same h (Filled conn size) t u refl old new)

pub stay_left : {c c' : Config} {run run' : ℕ} (h : List Entry) (conn : ℕ) (t u : Tables) → IsOpen h conn → TablesAgree c run h t
    → TablesAgree c' run' (Left conn ∷ h) u → stay u + 1 ≡ stay t
stay_left h conn t u open_ old new =
    less_by (by_connections u.tally) (by_connections t.tally) (by_workers u.workers) (by_workers t.workers)
    (tally_left h conn t.tally u.tally open_ old.tally new.tally) (workers_same h (Left conn) t u refl old new)

pub stay_open : {c : Config} {run : ℕ} (h : List Entry) (conn : ℕ) (t : Tables) → IsOpen h conn → TablesAgree c run h t → 1 ≤ stay t
stay_open h conn t open_ old = some_of (by_connections t.tally) (by_workers t.workers) (tally_open h conn t.tally open_ old.tally)

pub stay_unfilled : {c : Config} {run : ℕ} (h : List Entry) (t : Tables) → is_filled h ≡ false → TablesAgree c run h t → 1 ≤ stay t
stay_unfilled h t fresh old = some_of (by_connections t.tally) (by_workers t.workers) (tally_unfilled h t.tally fresh old.tally)

-- a worker's entry begins at most what takes one entry to end
pub stay_turned : {c c' : Config} {run run' : ℕ} (h : List Entry) (e : Entry) (t u : Tables) → is_turn e ≡ true → TablesAgree c run h t
    → TablesAgree c' run' (e ∷ h) u → stay u ≤ stay t + 1
stay_turned h e t u turn old new =
    sums _ _ _ _ _ _ (tally_after h e t.tally u.tally (turns_keep e turn) old.tally new.tally) (workers_is h t.workers old.workers)
    (workers_is (e ∷ h) u.workers new.workers) (turns_add h e turn)
  where
    sums : (a b c d c' d' : ℕ) → a ≡ b → d ≡ d' → c ≡ c' → c' ≤ d' + 1 → a + c ≤ b + d + 1
    sums a b c d c' d' same old new more = omega (arith, same, old, new, more)

-- one that only ends something takes the room that was kept for it
pub stay_ended : {d d' : Config} {r r' : ℕ} (c : Config) (run limit : ℕ) (h : List Entry) (e : Entry) (t u : Tables) → MayFollow c run limit h e
    → is_turn e ≡ true → is_ending e ≡ true → TablesAgree d r h t → TablesAgree d' r' (e ∷ h) u → stay u + 1 ≡ stay t
stay_ended c run limit h e t u may turn ends old new =
    sums _ _ _ _ _ _ (tally_after h e t.tally u.tally (turns_keep e turn) old.tally new.tally) (workers_is h t.workers old.workers)
    (workers_is (e ∷ h) u.workers new.workers) (endings_take c run limit h e may ends)
  where
    sums : (a b c d c' d' : ℕ) → a ≡ b → d ≡ d' → c ≡ c' → c' + 1 ≡ d' → a + c + 1 ≡ b + d
    sums a b c d c' d' same old new less = omega (arith, same, old, new, less)

pub stay_ending : {d : Config} {r : ℕ} (c : Config) (run limit : ℕ) (h : List Entry) (e : Entry) (t : Tables) → MayFollow c run limit h e → is_ending e ≡ true
    → TablesAgree d r h t → 1 ≤ stay t
stay_ending c run limit h e t may ends old =
    sums _ _ _ (by_connections t.tally) (workers_is h t.workers old.workers) (endings_take c run limit h e may ends)
  where
    sums : (w w' v a : ℕ) → w ≡ w' → v + 1 ≡ w' → 1 ≤ a + w
    sums w w' v a same less = omega (arith, same, less)

-- a worker that gives up takes the room that was kept for that
pub stay_abandoned : {c c' : Config} {run run' : ℕ} (h : List Entry) (v : ℕ) (t u : Tables) → v < 16 → is_abandoned h v ≡ false → TablesAgree c run h t
    → TablesAgree c' run' (Abandon v ∷ h) u → stay u + 1 ≡ stay t
stay_abandoned h v t u low going old new =
    sums _ _ _ _ _ _ (tally_after h (Abandon v) t.tally u.tally refl old.tally new.tally) (workers_is h t.workers old.workers)
    (workers_is (Abandon v ∷ h) u.workers new.workers) (abandon_takes h v low going)
  where
    sums : (a b c d c' d' : ℕ) → a ≡ b → d ≡ d' → c ≡ c' → c' + 1 ≡ d' → a + c + 1 ≡ b + d
    sums a b c d c' d' same old new less = omega (arith, same, old, new, less)

pub stay_going : {c : Config} {run : ℕ} (h : List Entry) (v : ℕ) (t : Tables) → v < 16 → is_abandoned h v ≡ false → TablesAgree c run h t → 1 ≤ stay t
stay_going h v t low going old =
    sums _ _ _ (by_connections t.tally) (workers_is h t.workers old.workers) (abandon_takes h v low going)
  where
    sums : (w w' v a : ℕ) → w ≡ w' → v + 1 ≡ w' → 1 ≤ a + w
    sums w w' v a same less = omega (arith, same, less)
