-- The core is kept after an entry is noted.
use Rattle.std.proofs.Common.{◌≡◌, ℕ, ◌+◌, ◌≤◌, true, false, if◌then◌else◌, List, ◌∷◌, length, refl, sym, ap, subst, ◌∙◌, arith}
use Rattle.std.specs.Prelude.{option_copied}
use Rattle.poa_base.specs.declared.Entry.{Entry}
use Rattle.poa_base.specs.declared.Entry.TheVariants.{Entered, Arrive, Filled, Left, Collect, Admit, Tried, Incarnated, Run, Done, TakeOut, Etherealized, Abandon}
use Rattle.history_standing.specs.declared.stage.Stage.{Stage}
use Rattle.history_standing.specs.Arrivals.{arrivals}
use Rattle.history_standing.specs.Stages.{stage}
use Rattle.poa_history.specs.States.{servant_run}
use Rattle.poa_history.specs.Runs.{IsRun}
use Rattle.core_standing.specs.Answers.{AnswersAs}
use Rattle.core_standing.specs.Seen.{seen}
use Rattle.poa_history.specs.Entries.{stage_at}
use Rattle.core_arrivals.specs.Placed.{CallsAgree}
use Rattle.core_outboxes.specs.Comes.{call_at}
use Rattle.core_outboxes.specs.declared.filed.Filed.{Filed}
use Rattle.core_outboxes.specs.Desk.{AreLeft}
use Rattle.core_outboxes.specs.Decided.{AreFiled}
use Rattle.core_state.specs.declared.coming.Coming.{Coming}
use Rattle.poa_history.specs.Entries.{is_turn}
use Rattle.core_run.specs.declared.inside.Inside.{Inside}
use Rattle.poa_history.specs.Life.{Life}
use Rattle.core_run.specs.Known.{TablesAgree}
use Rattle.core_run.specs.Agrees.{Agrees, history, opened_in}
use Rattle.core_run.specs.ToCome.{is_ending, stay}
use Rattle.core_run.specs.Turning.{IsAsked}
use Rattle.core_run.specs.Noting.{IsNoted}
use Rattle.core_run.specs.Kept.{IsKept, HasSpace, life, needed}
use Rattle.core_state.proofs.Stated.{answers_state}
use Rattle.core_run.proofs.Space.{stay_turned, stay_ended, turns_arrive_none}

-- the history goes on by the entry
pub longer : (e : Entry) (old new : Inside) → IsNoted e old new → history new ≡ e ∷ history old
longer e old new noted = ap (λ (l : Life). l.history) noted.life_is

-- what is kept agrees with the history then, where no call arrived
pub agrees_then : (e : Entry) (old new : Inside) → IsNoted e old new → arrivals (e ∷ history old) ≡ arrivals (history old) → Agrees (history new) new
agrees_then e old new noted same =
    subst (λ h. Agrees h new) (sym (longer e old new noted))
    (record { runs = noted.runs; state = noted.state; tables = noted.tables; owed = noted.owed same; filed = noted.filed })

-- the journal has the room that it needs
space_then : (k l l' many many' s s' room room' : ℕ) → l' ≡ l + 1 → many' ≡ many → s' + 1 ≤ s + k → room' ≡ room → l + (many + s) + k ≤ room
    → l' + (many' + s') + 0 ≤ room'
space_then k l l' many many' s s' room room' a b c d fits = omega (arith, a, b, c, d, fits)

pub kept_then : (k : ℕ) (e : Entry) (old new : Inside) → IsNoted e old new → arrivals (e ∷ history old) ≡ arrivals (history old)
    → stay new.tables + 1 ≤ stay old.tables + k → HasSpace k old → IsKept new
kept_then k e old new noted same less space =
    record {
      agrees = agrees_then e old new noted same;
      space = space_then k (length old.entries.items) (length new.entries.items) old.desk.due new.desk.due
          (stay old.tables) (stay new.tables) (old.entries.capacity) (new.entries.capacity) noted.len noted.due less noted.capacity space;
    }

pub at_most : (a b k : ℕ) → a ≡ b → 1 ≤ k → a + 1 ≤ b + k
at_most a b k is some = omega (arith, is, some)

pub turn_kept : (e : Entry) (old new : Inside) → IsNoted e old new → is_turn e ≡ true → TablesAgree old.config old.run (history old) old.tables
    → HasSpace (needed e) old → IsKept new
turn_kept e old new noted turn tables =
    elim (is_ending e) as (λ b. is_ending e ≡ b → HasSpace (if b then 0 else 2) old → IsKept new) [
      | true ↦ (λ ends space. kept_then 0 e old new noted (turns_arrive_none (history old) e turn)
          (one_less (stay new.tables) (stay old.tables)
          (stay_ended new.config new.run new.limit (history old) e old.tables new.tables noted.runs.legal.0 turn ends tables noted.tables)) space)
      | false ↦ (λ _ space. kept_then 2 e old new noted (turns_arrive_none (history old) e turn)
          (one_more (stay new.tables) (stay old.tables) (stay_turned (history old) e old.tables new.tables turn tables noted.tables)) space)
    ] refl
  where
    one_less : (a b : ℕ) → a + 1 ≡ b → a + 1 ≤ b + 0
    one_less a b is = omega (arith, is)

    one_more : (a b : ℕ) → a ≤ b + 1 → a + 1 ≤ b + 2
    one_more a b is = omega (arith, is)

-- the history of the run goes on
pub runs_still : (e : Entry) (old new : Inside) → life new ≡ life old → IsRun old.config old.run old.limit (e ∷ history old)
    → IsRun new.config new.run new.limit (e ∷ history new)
runs_still e old new same = subst (λ (l : Life). IsRun l.config l.run l.limit (e ∷ l.history)) (sym same)

pub begun_still : (e : Entry) (begun : Stage) (old new : Inside) → life new ≡ life old → begun ≡ stage_at (history old) e → begun ≡ stage_at (history new) e
begun_still e begun old new same = subst (λ (l : Life). begun ≡ stage_at l.history e) (sym same)

-- what the worker of a turn had begun
turn_stage : (past : List Entry) (e : Entry) → is_turn e ≡ true → (w : ℕ) × (stage_at past e ≡ stage past w)
turn_stage past (Admit w r v) is = (w, refl)
turn_stage past (Tried w a) is = (w, refl)
turn_stage past (Incarnated w a) is = (w, refl)
turn_stage past (Run w) is = (w, refl)
turn_stage past (Done w) is = (w, refl)
turn_stage past (TakeOut w n x) is = (w, refl)
turn_stage past (Etherealized w x y) is = (w, refl)
turn_stage past (Entered conn) is = absurd (let e : false ≡ true = is in cc)
turn_stage past (Arrive conn size call) is = absurd (let e : false ≡ true = is in cc)
turn_stage past (Filled conn size) is = absurd (let e : false ≡ true = is in cc)
turn_stage past (Left conn) is = absurd (let e : false ≡ true = is in cc)
turn_stage past (Collect conn a) is = absurd (let e : false ≡ true = is in cc)
turn_stage past (Abandon w) is = absurd (let e : false ≡ true = is in cc)

-- it comes with what the journal and the tables say of it
pub asked_then : (old mid : Inside) (k : Coming) → Agrees (history mid) mid → life mid ≡ life old
    → IsRun old.config old.run old.limit (k.entry.now ∷ history old)
    → is_turn k.entry.now ≡ true → k.stage ≡ stage_at (history old) k.entry.now
    → (CallsAgree (history mid) mid.tables.calls.places.items → k.stage ≡ stage_at (history mid) k.entry.now
    → option_copied k.call ≡ call_at (history mid) k.entry.now)
    → ((run limit w : ℕ) → IsRun mid.config run limit (history mid) → AnswersAs mid.config run (history mid) (seen mid.state.standing)
    → k.stage ≡ stage (history mid) w
    → k.runs ≡ servant_run mid.config run (history mid) k.stage)
    → IsAsked mid.config mid.run mid.limit (opened_in mid) (history mid) k mid.state
asked_then old mid k agrees life_is follows turn begun_is called served =
    (let begun = begun_still k.entry.now k.stage old mid life_is begun_is in record {
      follows = runs_still k.entry.now old mid life_is follows;
      turn = turn;
      begun_is = begun;
      call_is = called agrees.tables.calls begun;
      servant_is = (let by = turn_stage (history mid) k.entry.now turn in
          served mid.run mid.limit by.0 agrees.runs
          (answers_state mid.config mid.run mid.limit (opened_in mid) (history mid) mid.state agrees.runs agrees.state) (begun ∙ by.1));
      state = agrees.state;
    })

-- a worker's entry collects nothing
pub left_still : (e : Entry) (i : Inside) → is_turn e ≡ true → (fs : List Filed) → AreFiled i.config i.run (opened_in i) (history i) fs
    → AreLeft i.config i.run (opened_in i) (history i) e fs
left_still (Admit w r v) i is fs filed = record { which = filed.which; each = filed.each }
left_still (Tried w a) i is fs filed = record { which = filed.which; each = filed.each }
left_still (Incarnated w a) i is fs filed = record { which = filed.which; each = filed.each }
left_still (Run w) i is fs filed = record { which = filed.which; each = filed.each }
left_still (Done w) i is fs filed = record { which = filed.which; each = filed.each }
left_still (TakeOut w n x) i is fs filed = record { which = filed.which; each = filed.each }
left_still (Etherealized w x y) i is fs filed = record { which = filed.which; each = filed.each }
left_still (Entered conn) i is fs filed = absurd (let e : false ≡ true = is in cc)
left_still (Arrive conn size call) i is fs filed = absurd (let e : false ≡ true = is in cc)
left_still (Filled conn size) i is fs filed = absurd (let e : false ≡ true = is in cc)
left_still (Left conn) i is fs filed = absurd (let e : false ≡ true = is in cc)
left_still (Collect conn a) i is fs filed = absurd (let e : false ≡ true = is in cc)
left_still (Abandon w) i is fs filed = absurd (let e : false ≡ true = is in cc)
