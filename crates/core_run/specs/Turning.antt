-- How an entry of a worker takes effect.
use Rattle.std.specs.Prelude.{◌≡◌, ℕ, ◌==◌, Bool, true, false, if◌then◌else◌, List, [], ◌∷◌, Option, Some, None, option_copied, Result, IfOk, OnOk}
use Rattle.poa_base.specs.declared.Call.{Call}
use Rattle.poa_base.specs.declared.Config.{Config}
use Rattle.poa_base.specs.declared.Entry.{Entry}
use Rattle.poa_base.specs.declared.Entry.TheVariants.{Admit, Run}
use Rattle.poa_base.specs.declared.Verdict.{Verdict}
use Rattle.poa_history.specs.States.{Stored, servant_run}
use Rattle.poa_history.specs.Runs.{IsRun}
use Rattle.poa_history.specs.Entries.{stage_at}
use Rattle.held_queue.specs.Frees.{freed_by}
use Rattle.core_outboxes.specs.Decided.{Decides}
use Rattle.core_outboxes.specs.declared.decision.Decision.{Decision}
use Rattle.core_outboxes.specs.Desk.{WaitIs}
use Rattle.core_outboxes.specs.Waits.{ordered_by}
use Rattle.core_state.specs.declared.state.State.{State}
use Rattle.core_state.specs.declared.coming.Coming.{Coming}
use Rattle.core_state.specs.State.{StateAgrees}
use Rattle.poa_history.specs.Entries.{is_turn}
use Rattle.core_outboxes.specs.Comes.{call_at}
use Rattle.core_run.specs.declared.brought.Brought.{Brought}

-- the call that an entry admits or runs
abbrev pub call_in : Entry → Option Call → Option Call
call_in (Admit w r verdict) call = call
call_in (Run w) call = call
call_in e call = None

abbrev pub is_run : Entry → Bool
is_run (Run w) = true
is_run e = false

-- the verdict of the newest Admit of an arrival; while it is being served, it stands admitted by it
abbrev pub last_verdict : List Entry → ℕ → Option Verdict
last_verdict [] r = None
last_verdict (Admit w a verdict ∷ past) r = if a == r then Some verdict else last_verdict past r
last_verdict (e ∷ past) r = last_verdict past r

-- an entry admits that arrival
abbrev pub admits : Entry → ℕ → Bool
admits (Admit w a verdict) r = a == r
admits e r = false

abbrev pub verdict_in : Option Entry → Option Verdict
verdict_in (Some (Admit w r verdict)) = Some verdict
verdict_in e = None

-- an entry of a worker comes behind a history, with what the history says of it
pub record IsAsked (c : Config) (run limit : ℕ) (opened : Stored) (past : List Entry) (k : Coming) (s : State) : Type 0 where
  pub follows : IsRun c run limit (k.entry.now ∷ past)
  pub turn : is_turn k.entry.now ≡ true
  pub begun_is : k.stage ≡ stage_at past k.entry.now
  pub call_is : option_copied k.call ≡ call_at past k.entry.now
  pub servant_is : k.runs ≡ servant_run c run past k.stage
  pub state : StateAgrees c run opened past s

-- what it brings is what the history says
pub record IsBrought (c : Config) (run : ℕ) (opened : Stored) (past : List Entry) (e : Entry) (b : Brought) : Type 0 where
  pub decides : Decides c run opened past e b.decision
  pub waits : WaitIs c run past e b.wait
  pub orders : b.ordered ≡ ordered_by c past e
  pub frees : b.freed ≡ freed_by c run past e

-- the entry comes next in some run
abbrev pub ComesInTurn : Config → ℕ → Coming → State → Type 0
ComesInTurn c run k s = (limit : ℕ) × (opened : Stored) × (past : List Entry) × IsAsked c run limit opened past k s

-- where it succeeds, the state took in the entry that comes next
abbrev pub TurnFollows : {T E : Type 0} → Config → ℕ → Coming → State → Result T E → State → Type 0
TurnFollows c run k old result new =
    (limit : ℕ) (opened : Stored) (past : List Entry) → IsAsked c run limit opened past k old
    → OnOk result (StateAgrees c run opened (k.entry.now ∷ past) new)

-- where it succeeds, it is what the entry that comes next decides
abbrev pub TurnDecides : {E : Type 0} → Config → ℕ → Coming → State → Result (Option Decision) E → Type 0
TurnDecides c run k old result =
    (limit : ℕ) (opened : Stored) (past : List Entry) → IsAsked c run limit opened past k old
    → IfOk result (Decides c run opened past k.entry.now)

-- where it succeeds, it is what the entry that comes next brings
abbrev pub TurnBrings : {E : Type 0} → Config → ℕ → Coming → State → Result Brought E → Type 0
TurnBrings c run k old result =
    (limit : ℕ) (opened : Stored) (past : List Entry) → IsAsked c run limit opened past k old
    → IfOk result (λ b. IsBrought c run opened past k.entry.now b)
