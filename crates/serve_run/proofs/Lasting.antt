-- What is said of a whole history, by where its entries stand.
use Rattle.std.proofs.Common.{◌≡◌, ℕ, ◌≤◌, true, ◌==◌, if◌then◌else◌, List, [], ◌∷◌, ◌++◌, length, reverse, Some, None, refl, sym, ap, ◌∙◌, subst, ⊎_elim, arith}
use Rattle.std.proofs.lemmas.Bool.{cond_both, eq-eqb, ne_eqb}
use Rattle.std.proofs.lemmas.List.{append_assoc, length-append, length-reverse, reverse-append, reverse-reverse}
use mathlib.Core.List.{reverse-cons}
use mathlib.Core.Logic.{dite}
use mathlib.Core.Option.{some, some-ne-none}
use native.Mathlib.Decide.{ℕ_discrete}
use lib.ListN.{get_elem?}
use Rattle.poa_base.specs.declared.Call.{Call}
use Rattle.poa_base.specs.declared.Entry.{Entry}
use Rattle.poa_base.specs.declared.Entry.TheVariants.{Entered, Arrive, Filled, Left, Collect, Admit, Tried, Incarnated, Run, Done, TakeOut, Etherealized, Abandon}
use Rattle.history_standing.specs.Arrivals.{arrivals, call_of, conn_of}
use Rattle.history_standing.specs.Stages.{stage}
use Rattle.poa_history.proofs.SettledKept.{or_second}
use Rattle.poa_history.proofs.StagesFrom.{maker, stage_other}
use Rattle.history_laws.specs.Closing.{HasNoTurn}
use Rattle.poa_history.specs.Legal.{had_shutdown, is_shutdown}
use Rattle.poa_history.specs.Owners.{worker_of}
use Rattle.poa_history.specs.Leaving.{is_shut, is_shut_by}
use Rattle.seat_lock.specs.Histories.{IsPrefix}
use Rattle.seat_lock.proofs.Histories.{prefix_shorter}
use Rattle.seat_lock.proofs.Lists.{at_last, at_longer}
use Rattle.seat_lock.proofs.Totals.{at_below}
use Rattle.session_laws.specs.Hearing.{Heard}
use Rattle.session_laws.specs.Records.{arrived_by, is_late_by}
use Rattle.serve_run.proofs.Places.{earlier_stands, newest_stands, which_stands}

-- the entry behind a beginning
pub next_stands : (short rest : List Entry) (e : Entry) → get_elem? (short ++ e ∷ rest) (length short) ≡ some e
next_stands short rest e =
    subst (λ l. get_elem? l (length short) ≡ some e) (append_assoc short (e ∷ []) rest)
    (at_longer (short ++ e ∷ []) rest (length short) e (at_last short e (length short) refl))

-- what holds of each entry behind a beginning, place by place, holds of the rest in the other order
module _ (P : Entry → Type 0) where
  abbrev pub AllOf : List Entry → Type 0
  AllOf [] = Unit {0}
  AllOf (e ∷ more) = P e × AllOf more

  all_last : (more : List Entry) (e : Entry) → AllOf more → P e → AllOf (more ++ e ∷ [])
  all_last [] e all one = (one, tt)
  all_last (d ∷ more) e all one = (all.0, all_last more e all.1 one)

  pub all_behind : (short rest : List Entry) → ((x : ℕ) (e : Entry) → length short ≤ x → get_elem? (short ++ rest) x ≡ some e → P e) → AllOf (reverse rest)
  all_behind short [] each = tt
  all_behind short (e ∷ rest) each =
      subst AllOf (sym (reverse-cons e rest)) (all_last (reverse rest) e
      (all_behind (short ++ e ∷ []) rest
      (λ x d far at. each x d (let long = length-append short (e ∷ []) in omega arith)
      (subst (λ l. get_elem? l x ≡ some d) (append_assoc short (e ∷ []) rest) at)))
      (each (length short) e (omega arith) (next_stands short rest e)))

pub no_turn_of : (more : List Entry) → AllOf (λ e. worker_of e ≡ None) more → HasNoTurn more
no_turn_of [] all = tt
no_turn_of (e ∷ more) all = (all.0, no_turn_of more all.1)

maker_works : (e : Entry) (w : ℕ) → maker e ≡ Some w → worker_of e ≡ Some w
maker_works (Admit v r x) w makes = makes
maker_works (Tried v a) w makes = makes
maker_works (Incarnated v a) w makes = makes
maker_works (Run v) w makes = makes
maker_works (Done v) w makes = makes
maker_works (TakeOut v n x) w makes = makes
maker_works (Etherealized v x y) w makes = makes
maker_works (Entered k) w makes = makes
maker_works (Arrive k size call) w makes = makes
maker_works (Filled k size) w makes = makes
maker_works (Left k) w makes = makes
maker_works (Collect k a) w makes = makes
maker_works (Abandon v) w makes = absurd (let f : None ≡ Some w = makes in cc)

-- a worker that makes no entry stays where it is
pub stage_stays : (w : ℕ) (more past : List Entry) → AllOf (λ e. worker_of e ≡ Some w → ⊥) more → stage (more ++ past) w ≡ stage past w
stage_stays w [] past all = refl
stage_stays w (e ∷ more) past all = stage_other e (more ++ past) w (λ makes. all.0 (maker_works e w makes)) ∙ stage_stays w more past all.1

-- the journal of more entries, the newest first
pub reversed_more : (short long rest : List Entry) → long ≡ short ++ rest → reverse long ≡ reverse rest ++ reverse short
reversed_more short long rest is = ap reverse is ∙ reverse-append short rest

-- an admitted `shutdown` stays admitted
shut_still : (e : Entry) (past : List Entry) → is_shut past ≡ true → is_shut (e ∷ past) ≡ true
shut_still (Admit w r v) past was = or_second (is_shut_by (call_of past r)) (is_shut past) was
shut_still (Entered k) past was = was
shut_still (Arrive k size call) past was = was
shut_still (Filled k size) past was = was
shut_still (Left k) past was = was
shut_still (Collect k a) past was = was
shut_still (Tried w a) past was = was
shut_still (Incarnated w a) past was = was
shut_still (Run w) past was = was
shut_still (Done w) past was = was
shut_still (TakeOut w n x) past was = was
shut_still (Etherealized w x y) past was = was
shut_still (Abandon w) past was = was

pub shut_since : (more past : List Entry) → is_shut past ≡ true → is_shut (more ++ past) ≡ true
shut_since [] past was = was
shut_since (e ∷ more) past was = shut_still e (more ++ past) (shut_since more past was)

-- a `shutdown` that arrived had arrived
had_still : (e : Entry) (past : List Entry) → had_shutdown past ≡ true → had_shutdown (e ∷ past) ≡ true
had_still (Arrive k size call) past was = or_second (is_shutdown call) (had_shutdown past) was
had_still (Entered k) past was = was
had_still (Filled k size) past was = was
had_still (Left k) past was = was
had_still (Collect k a) past was = was
had_still (Admit w r v) past was = was
had_still (Tried w a) past was = was
had_still (Incarnated w a) past was = was
had_still (Run w) past was = was
had_still (Done w) past was = was
had_still (TakeOut w n x) past was = was
had_still (Etherealized w x y) past was = was
had_still (Abandon w) past was = was

had_since : (more past : List Entry) → had_shutdown past ≡ true → had_shutdown (more ++ past) ≡ true
had_since [] past was = was
had_since (e ∷ more) past was = had_still e (more ++ past) (had_since more past was)

pub had_longer : (short long : List Entry) → IsPrefix short long → had_shutdown (reverse short) ≡ true → had_shutdown (reverse long) ≡ true
had_longer short long p had =
    subst (λ l. had_shutdown l ≡ true) (sym (reversed_more short long p.0 p.1)) (had_since (reverse p.0) (reverse short) had)

-- where a call arrived
pub arrived_at : (h : List Entry) (r c : ℕ) → conn_of h r ≡ Some c → (x : ℕ) × (size : ℕ) × (call : Call)
    × (get_elem? (reverse h) x ≡ some (Arrive c size call))
arrived_at [] r c is = absurd (let f : None ≡ Some c = is in cc)
arrived_at (Arrive k size call ∷ past) r c is =
    dite (ℕ_discrete r (arrivals past))
    (λ (now : r ≡ arrivals past).
    (let own : Some k ≡ Some c = sym (ap (λ b. if b then Some k else conn_of past r) (eq-eqb r (arrivals past) now)) ∙ is in
    let same : k ≡ c = cc in
    (length past, size, call, newest_stands (Arrive k size call) past ∙ ap (λ n. some (Arrive n size call)) same)))
    (λ (before : r ≡ arrivals past → ⊥). later (Arrive k size call) past c
    (arrived_at past r c (sym (ap (λ b. if b then Some k else conn_of past r) (ne_eqb r (arrivals past) before)) ∙ is)))
  where
    later : (e : Entry) (past' : List Entry) (c' : ℕ) → (x : ℕ) × (size' : ℕ) × (call' : Call) × (get_elem? (reverse past') x ≡ some (Arrive c' size' call'))
        → (x : ℕ) × (size' : ℕ) × (call' : Call) × (get_elem? (reverse (e ∷ past')) x ≡ some (Arrive c' size' call'))
    later e past' c' it = (it.0, it.1, it.2, earlier_stands e past' it.0 (Arrive c' it.1 it.2) it.3)
arrived_at (Entered k ∷ past) r c is = (let it = arrived_at past r c is in (it.0, it.1, it.2, earlier_stands (Entered k) past it.0 (Arrive c it.1 it.2) it.3))
arrived_at (Filled k size ∷ past) r c is =
    (let it = arrived_at past r c is in (it.0, it.1, it.2, earlier_stands (Filled k size) past it.0 (Arrive c it.1 it.2) it.3))
arrived_at (Left k ∷ past) r c is = (let it = arrived_at past r c is in (it.0, it.1, it.2, earlier_stands (Left k) past it.0 (Arrive c it.1 it.2) it.3))
arrived_at (Collect k a ∷ past) r c is =
    (let it = arrived_at past r c is in (it.0, it.1, it.2, earlier_stands (Collect k a) past it.0 (Arrive c it.1 it.2) it.3))
arrived_at (Admit w q v ∷ past) r c is =
    (let it = arrived_at past r c is in (it.0, it.1, it.2, earlier_stands (Admit w q v) past it.0 (Arrive c it.1 it.2) it.3))
arrived_at (Tried w a ∷ past) r c is = (let it = arrived_at past r c is in (it.0, it.1, it.2, earlier_stands (Tried w a) past it.0 (Arrive c it.1 it.2) it.3))
arrived_at (Incarnated w a ∷ past) r c is =
    (let it = arrived_at past r c is in (it.0, it.1, it.2, earlier_stands (Incarnated w a) past it.0 (Arrive c it.1 it.2) it.3))
arrived_at (Run w ∷ past) r c is = (let it = arrived_at past r c is in (it.0, it.1, it.2, earlier_stands (Run w) past it.0 (Arrive c it.1 it.2) it.3))
arrived_at (Done w ∷ past) r c is = (let it = arrived_at past r c is in (it.0, it.1, it.2, earlier_stands (Done w) past it.0 (Arrive c it.1 it.2) it.3))
arrived_at (TakeOut w n x ∷ past) r c is =
    (let it = arrived_at past r c is in (it.0, it.1, it.2, earlier_stands (TakeOut w n x) past it.0 (Arrive c it.1 it.2) it.3))
arrived_at (Etherealized w x y ∷ past) r c is =
    (let it = arrived_at past r c is in (it.0, it.1, it.2, earlier_stands (Etherealized w x y) past it.0 (Arrive c it.1 it.2) it.3))
arrived_at (Abandon w ∷ past) r c is = (let it = arrived_at past r c is in (it.0, it.1, it.2, earlier_stands (Abandon w) past it.0 (Arrive c it.1 it.2) it.3))

-- who sent a call has an arrival
not_empty : (l : List Heard) (x : Heard) → l ++ x ∷ [] ≡ [] → ⊥
not_empty [] x is = (let f : x ∷ [] ≡ [] = is in cc)
not_empty (y ∷ l) x is = (let f : y ∷ (l ++ x ∷ []) ≡ [] = is in cc)

has_arrived : (c : ℕ) (e : Entry) (past : List Entry) (size : ℕ) (call : Call) → e ≡ Arrive c size call → arrived_by (e ∷ past) c ≡ [] → ⊥
has_arrived c e past size call is none = not_empty (arrived_by past c) (record { call = call; size = size })
    (sym (ap (λ b. if b then arrived_by past c ++ record { call = call; size = size } ∷ [] else arrived_by past c) (eq-eqb c c refl))
    ∙ (ap (λ d. arrived_by (d ∷ past) c) (sym is) ∙ none))

arrived_more : (c : ℕ) (e : Entry) (past : List Entry) → arrived_by (e ∷ past) c ≡ [] → arrived_by past c ≡ []
arrived_more c (Arrive k size call) past none =
    cond_both (k == c) (arrived_by past c ++ record { call = call; size = size } ∷ []) (arrived_by past c) (λ l. l ≡ [] → arrived_by past c ≡ [])
    (λ _ full. absurd (not_empty (arrived_by past c) (record { call = call; size = size }) full)) (λ _ same. same) none
arrived_more c (Entered k) past none = none
arrived_more c (Filled k size) past none = none
arrived_more c (Left k) past none = none
arrived_more c (Collect k a) past none = none
arrived_more c (Admit w r v) past none = none
arrived_more c (Tried w a) past none = none
arrived_more c (Incarnated w a) past none = none
arrived_more c (Run w) past none = none
arrived_more c (Done w) past none = none
arrived_more c (TakeOut w n x) past none = none
arrived_more c (Etherealized w x y) past none = none
arrived_more c (Abandon w) past none = none

pub none_arrived : (h : List Entry) (c x size : ℕ) (call : Call) → arrived_by h c ≡ [] → get_elem? (reverse h) x ≡ some (Arrive c size call) → ⊥
none_arrived [] c x size call none at = some-ne-none (Arrive c size call) (sym at)
none_arrived (e ∷ past) c x size call none at = ⊎_elim
    (λ (old : get_elem? (reverse past) x ≡ some (Arrive c size call)). none_arrived past c x size call (arrived_more c e past none) old)
    (λ (new : (x ≡ length past) × (e ≡ Arrive c size call)). has_arrived c e past size call new.1 none)
    (which_stands e past x (Arrive c size call) at)

-- a connection that entered behind an admitted `shutdown` is late
late_now : (c : ℕ) (e : Entry) (past : List Entry) → e ≡ Entered c → is_shut past ≡ true → is_late_by (e ∷ past) c ≡ true
late_now c e past is shut = ap (λ d. is_late_by (d ∷ past) c) is ∙ (ap (λ b. if b then is_shut past else is_late_by past c) (eq-eqb c c refl) ∙ shut)

late_still : (c : ℕ) (e : Entry) (past : List Entry) → (e ≡ Entered c → ⊥) → is_late_by past c ≡ true → is_late_by (e ∷ past) c ≡ true
late_still c (Entered k) past other was = ap (λ b. if b then is_shut past else is_late_by past c) (ne_eqb k c (λ same. other (ap Entered same))) ∙ was
late_still c (Arrive k size call) past other was = was
late_still c (Filled k size) past other was = was
late_still c (Left k) past other was = was
late_still c (Collect k a) past other was = was
late_still c (Admit w r v) past other was = was
late_still c (Tried w a) past other was = was
late_still c (Incarnated w a) past other was = was
late_still c (Run w) past other was = was
late_still c (Done w) past other was = was
late_still c (TakeOut w n x) past other was = was
late_still c (Etherealized w x y) past other was = was
late_still c (Abandon w) past other was = was

module _ (stood : List Entry) (shut : is_shut (reverse stood) ≡ true) where
  pub shut_behind : (past : List Entry) → IsPrefix stood (reverse past) → is_shut past ≡ true
  shut_behind past p =
      subst (λ l. is_shut l ≡ true) (sym (sym (reverse-reverse past) ∙ reversed_more stood (reverse past) p.0 p.1))
      (shut_since (reverse p.0) (reverse stood) shut)

  pub late_behind : (h : List Entry) (c x : ℕ) → IsPrefix stood (reverse h) → length stood ≤ x → get_elem? (reverse h) x ≡ some (Entered c)
      → ((y : ℕ) → get_elem? (reverse h) y ≡ some (Entered c) → y ≡ x) → is_late_by h c ≡ true
  late_behind [] c x p far at once = absurd (some-ne-none (Entered c) (sym at))
  late_behind (e ∷ past) c x p far at once = ⊎_elim
      (λ (old : get_elem? (reverse past) x ≡ some (Entered c)).
      (let below = at_below (reverse past) x (Entered c) old in
      let p' : IsPrefix stood (reverse past) = prefix_shorter stood (reverse past) (reverse (e ∷ past)) p (e ∷ [], reverse-cons e past) (omega arith) in
      late_still c e past (λ is. (let here = once (length past) (newest_stands e past ∙ ap some is) in let long = length-reverse past in omega arith))
      (late_behind past c x p' far old (λ y at'. once y (earlier_stands e past y (Entered c) at')))))
      (λ (new : (x ≡ length past) × (e ≡ Entered c)).
      (let long = length-reverse past in
      let p' : IsPrefix stood (reverse past) =
      prefix_shorter stood (reverse past) (reverse (e ∷ past)) p (e ∷ [], reverse-cons e past) (let at_ = new.0 in omega arith) in
      late_now c e past new.1 (shut_behind past p')))
      (which_stands e past x (Entered c) at)
