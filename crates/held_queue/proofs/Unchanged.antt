-- What an entry that frees not all leaves as it is.
use Rattle.std.specs.Prelude.{◌≡◌, ℕ, ◌<◌, Bool, true, false, not, ◌||◌, ◌==◌, nat_le, if◌then◌else◌, List, [], ◌∷◌, filter, map, Option, Some, None, refl}
use Rattle.std.proofs.Common.{sym, ap, ◌∙◌, arith}
use Rattle.std.proofs.lemmas.Bool.{cond_both, true≢false, eqb-true, or_right, and_left, not_from_false}
use Rattle.poa_base.specs.declared.limits.TheConstants.{UNADMITTED}
use Rattle.poa_base.specs.declared.Config.{Config}
use Rattle.poa_base.specs.declared.Key.{Key}
use Rattle.poa_base.specs.declared.ManagerState.{ManagerState}
use Rattle.poa_base.specs.declared.Command.{Command}
use Rattle.poa_base.specs.declared.Verdict.{Verdict}
use Rattle.poa_base.specs.declared.Verdict.TheVariants.{Serve, Preset, Locator, Incarnate, Try, Refuse, Forward, Addressing, Here, Unknown, Answer, Wait}
use Rattle.poa_base.specs.declared.Entry.{Entry}
use Rattle.poa_base.specs.declared.Entry.TheVariants.{Entered, Arrive, Filled, Left, Collect, Admit, Tried, Incarnated, Run, Done, TakeOut, Etherealized, Abandon}
use Rattle.poa_base.specs.declared.Incarnation.{Incarnation}
use Rattle.poa_base.specs.declared.Incarnation.TheVariants.{Fresh, Named, Double, Forward as ForwardTo, Raise}
use Rattle.history_standing.specs.declared.node.Node.{Node}
use Rattle.history_standing.specs.Paths.{is_root}
use Rattle.history_standing.specs.declared.stage.Stage.{Stage}
use Rattle.history_standing.specs.declared.stage.Stage.TheVariants.{Free, Trying, Incarnating, Serving, Ran, Removing}
use Rattle.history_standing.specs.Arrivals.{arrivals, call_of}
use Rattle.history_standing.specs.Stages.{stage, arrival_in}
use Rattle.history_standing.specs.Standings.{Standing}
use Rattle.history_standing.specs.Ends.{is_clear, is_done_with, let_out}
use Rattle.history_standing.specs.Keys.{key_in}
use Rattle.history_standing.specs.Logs.{is_accepted, command_in, command_done, ordered_state, order_for, manager_state}
use Rattle.history_standing.specs.Changes.{standing, changed, with_admitted, with_command, without_flight, with_incarnated, with_etherealized}
use Rattle.history_standing.specs.Situations.{is_crowded, waiting_messages}
use Rattle.poa_history.proofs.Untouched.{nodes_in, made_in}
use Rattle.held_queue.specs.Frees.{nothing, everything, freed_by}

-- where not all is freed, no command is done
pub no_command : (c : Config) (run : ℕ) (past : List Entry) (e : Entry) → (freed_by c run past e).all ≡ false → command_done past e ≡ None
no_command c run past (Admit w r v) few =
    elim (is_accepted v) as (λ b. (if b then everything else nothing).all ≡ false → (if b then command_in (call_of past r) else None) ≡ None)
    [ true ↦ λ all_. absurd (true≢false all_) | false ↦ λ _. refl ] few
no_command c run past (Entered conn) few = refl
no_command c run past (Arrive conn size call) few = refl
no_command c run past (Filled conn size) few = refl
no_command c run past (Left conn) few = refl
no_command c run past (Collect conn a) few = refl
no_command c run past (Tried w a) few = refl
no_command c run past (Incarnated w a) few = refl
no_command c run past (Run w) few = refl
no_command c run past (Done w) few = refl
no_command c run past (TakeOut w n x) few = refl
no_command c run past (Etherealized w x y) few = refl
no_command c run past (Abandon w) few = refl

-- so each manager stays in its state
pub state_same : (c : Config) (past : List Entry) (e : Entry) (m : ℕ) → command_done past e ≡ None → manager_state c (e ∷ past) m ≡ manager_state c past m
state_same c past e m none = ap (λ d. elim (order_for c m d) as (λ _. ManagerState) [ Some order ↦ ordered_state order | None ↦ manager_state c past m ]) none

-- whether too many waited when a call arrived
pub crowded_same : (e : Entry) (past : List Entry) (r : ℕ) → r < arrivals past → is_crowded (e ∷ past) r ≡ is_crowded past r
crowded_same (Arrive conn size call) past r less =
    cond_both (r == arrivals past) (nat_le UNADMITTED (waiting_messages past)) (is_crowded past r) (λ b. b ≡ is_crowded past r)
    (λ same. absurd (let at : r ≡ arrivals past = eqb-true r (arrivals past) same in omega (arith, at, less))) (λ _. refl)
crowded_same (Entered conn) past r less = refl
crowded_same (Filled conn size) past r less = refl
crowded_same (Left conn) past r less = refl
crowded_same (Collect conn a) past r less = refl
crowded_same (Admit w q v) past r less = refl
crowded_same (Tried w a) past r less = refl
crowded_same (Incarnated w a) past r less = refl
crowded_same (Run w) past r less = refl
crowded_same (Done w) past r less = refl
crowded_same (TakeOut w n x) past r less = refl
crowded_same (Etherealized w x y) past r less = refl
crowded_same (Abandon w) past r less = refl

-- the adapters are those that stood, and no id was made
abbrev IsSameTree : Standing → Standing → Type 0
IsSameTree s t = (t.nodes ≡ s.nodes) × (t.made ≡ s.made)

same_admitted : (r : ℕ) (key : Option Key) (v : Verdict) (s : Standing) → IsSameTree s (with_admitted r key v s)
same_admitted r None v s = (refl, refl)
same_admitted r (Some key) (Serve n) s = (refl, refl)
same_admitted r (Some key) (Preset n) s = (refl, refl)
same_admitted r (Some key) (Locator n) s = (refl, refl)
same_admitted r (Some key) (Incarnate n) s = (refl, refl)
same_admitted r (Some key) Try s = (refl, refl)
same_admitted r (Some key) (Refuse x) s = (refl, refl)
same_admitted r (Some key) (Forward x) s = (refl, refl)
same_admitted r (Some key) Addressing s = (refl, refl)
same_admitted r (Some key) Here s = (refl, refl)
same_admitted r (Some key) Unknown s = (refl, refl)
same_admitted r (Some key) (Answer x) s = (refl, refl)
same_admitted r (Some key) Wait s = (refl, refl)

same_landed : (r : Option ℕ) (s : Standing) → IsSameTree s (without_flight r s)
same_landed None s = (refl, refl)
same_landed (Some r) s = (refl, refl)

same_incarnated : (c : Config) (begun : Stage) (answer : Incarnation) (s : Standing) → IsSameTree s (with_incarnated c begun answer s)
same_incarnated c (Incarnating r n) (Fresh m) s = (refl, refl)
same_incarnated c (Incarnating r n) (Named name) s = (refl, refl)
same_incarnated c (Incarnating r n) Double s = (refl, refl)
same_incarnated c (Incarnating r n) (ForwardTo endpoint) s = (refl, refl)
same_incarnated c (Incarnating r n) (Raise exception) s = (refl, refl)
same_incarnated c Free answer s = (refl, refl)
same_incarnated c (Trying r) answer s = (refl, refl)
same_incarnated c (Serving r) answer s = (refl, refl)
same_incarnated c (Ran r) answer s = (refl, refl)
same_incarnated c (Removing n) answer s = (refl, refl)

same_etherealized : (begun : Stage) (s : Standing) → IsSameTree s (with_etherealized begun s)
same_etherealized Free s = (refl, refl)
same_etherealized (Trying r) s = (refl, refl)
same_etherealized (Incarnating r n) s = (refl, refl)
same_etherealized (Serving r) s = (refl, refl)
same_etherealized (Ran r) s = (refl, refl)
same_etherealized (Removing n) s = (refl, refl)

same_changed : (c : Config) (run : ℕ) (past : List Entry) (e : Entry) (s : Standing) → (freed_by c run past e).all ≡ false
    → IsSameTree s (changed c run past e s)
same_changed c run past (Admit w r v) s few =
    let none = no_command c run past (Admit w r v) few in
    let was = same_admitted r (key_in (call_of past r)) v s in
    let admitted_ : Standing = with_admitted r (key_in (call_of past r)) v s in
    (ap (λ d. nodes_in (with_command c run d admitted_)) none ∙ was.0, ap (λ d. made_in (with_command c run d admitted_)) none ∙ was.1)
same_changed c run past (Tried w a) s few = absurd (true≢false few)
same_changed c run past (Incarnated w a) s few = same_incarnated c (stage past w) a s
same_changed c run past (Done w) s few = same_landed (arrival_in (stage past w)) s
same_changed c run past (Etherealized w x y) s few = same_etherealized (stage past w) s
same_changed c run past (Entered conn) s few = (refl, refl)
same_changed c run past (Arrive conn size call) s few = (refl, refl)
same_changed c run past (Filled conn size) s few = (refl, refl)
same_changed c run past (Left conn) s few = (refl, refl)
same_changed c run past (Collect conn a) s few = (refl, refl)
same_changed c run past (Run w) s few = (refl, refl)
same_changed c run past (TakeOut w n x) s few = (refl, refl)
same_changed c run past (Abandon w) s few = (refl, refl)

-- the adapters that stand after the entry are some of those that stood, and each that lives is one of them
pub record IsSmaller (s t : Standing) : Type 0 where
  pub keep : Node → Bool
  pub living : (n : Node) → n.dying ≡ false → keep n ≡ true
  pub nodes : t.nodes ≡ filter keep s.nodes
  pub made : t.made ≡ s.made

pub smaller : (c : Config) (run : ℕ) (past : List Entry) (e : Entry) → (freed_by c run past e).all ≡ false
    → IsSmaller (standing c run past) (standing c run (e ∷ past))
smaller c run past e few =
    let s : Standing = standing c run past in
    let x : Standing = changed c run past e s in
    let y : Standing = record x { activations = map (let_out c x) x.activations } in
    let same = same_changed c run past e s few in
    record {
      keep = λ n. is_root n.path || not (is_done_with c y n);
      living =
          λ n lives. or_right (is_root n.path) (not (is_done_with c y n)) (not_from_false (is_done_with c y n) (and_left n.dying (is_clear c y n.path) lives));
      nodes = ap (λ ns. filter (λ n. is_root n.path || not (is_done_with c y n)) ns) same.0;
      made = same.1;
    }
