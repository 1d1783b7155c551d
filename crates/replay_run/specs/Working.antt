-- What the turns of workers print.
use Rattle.std.specs.Prelude.{◌≡◌, ◌⊎◌, ℕ, zero, suc, ◌<◌, nat_lt, Bool, true, false, List, [], ◌++◌, Some, None}
use Rattle.poa_base.specs.declared.Entry.{Entry}
use Rattle.history_standing.specs.Stages.{is_abandoned}
use Rattle.poa_history.specs.Turns.{turn}
use Rattle.poa_history.specs.Life.{Life, with_entry}
use Rattle.replay_run.specs.Lines.{entry_line, idle_line}

-- the worker's next entry
pub record Makes (life : Life) (w : ℕ) (e : Entry) : Type 0 where
  pub going : is_abandoned life.history w ≡ false
  pub next : turn life.config life.run life.history w ≡ Some e

-- the worker has nothing to do; one that was abandoned never has
abbrev pub IsIdle : Life → ℕ → Type 0
IsIdle life w = (is_abandoned life.history w ≡ true) ⊎ (turn life.config life.run life.history w ≡ None)

-- one turn: the entry is printed, or that there is none
pub data Turns (w : ℕ) (life : Life) (text : List ℕ) (after : Life) : Type 0 where
  makes : (e : Entry) → Makes life w e → text ≡ entry_line e → after ≡ with_entry e life → Turns w life text after
  idles : IsIdle life w → text ≡ idle_line w → after ≡ life → Turns w life text after

-- turns until there is nothing to do: each entry is printed
pub data Runs (w : ℕ) : Life → List ℕ → Life → Type 0 where
  runs_out : (life : Life) → IsIdle life w → Runs w life [] life
  runs_on : (life : Life) (e : Entry) (text : List ℕ) (last : Life) → Makes life w e → Runs w (with_entry e life) text last
      → Runs w life (entry_line e ++ text) last

-- the number of a worker
abbrev pub is_worker : ℕ → Bool
is_worker w = nat_lt w 16

-- nothing is printed, and nothing changes
abbrev pub Stays : {S : Type 0} → S → List ℕ → S → Type 0
Stays before text after = (text ≡ []) × (after ≡ before)

-- the one or the other
abbrev pub Either : {S : Type 0} → Bool → (S → List ℕ → S → Type 0) → (S → List ℕ → S → Type 0) → S → List ℕ → S → Type 0
Either true P Q = P
Either false P Q = Q

-- a script has no other number of a worker; such a line would do nothing
abbrev pub ByWorker : (ℕ → Life → List ℕ → Life → Type 0) → ℕ → Life → List ℕ → Life → Type 0
ByWorker P w = Either (is_worker w) (P w) Stays

-- one thing and then another, with all that both print
pub record Then {S : Type 0} (P Q : S → List ℕ → S → Type 0) (before : S) (text : List ℕ) (after : S) : Type 0 where
  pub between : S
  pub front : List ℕ
  pub rest : List ℕ
  pub first : P before front between
  pub second : Q between rest after
  pub joined : text ≡ front ++ rest

-- the workers below n run in their order
abbrev pub RunsBelow : ℕ → Life → List ℕ → Life → Type 0
RunsBelow zero = Stays
RunsBelow (suc n) = Then (RunsBelow n) (Runs n)

-- no worker has anything to do
abbrev pub AllIdle : Life → Type 0
AllIdle life = (w : ℕ) → w < 16 → IsIdle life w

-- the workers 0 to 15 run in their order, again and again until all of them are idle
pub data Rests : Life → List ℕ → Life → Type 0 where
  rested : (life : Life) → AllIdle life → Rests life [] life
  settles_on : (life between last : Life) (front rest : List ℕ) → RunsBelow 16 life front between → Rests between rest last
      → Rests life (front ++ rest) last
