-- What an entry of a worker comes with.
use Rattle.std.proofs.Common.{◌≡◌, ℕ, true, false, List, ◌∷◌, Option, Some, None, option_map, refl, sym, ap, ap₂, subst, ◌∙◌}
use Rattle.std.specs.Prelude.{Result, Ok, Err, OnOk, option_copied}
use Rattle.std.specs.Borrow.{Bor}
use Rattle.poa_base.specs.declared.Config.{Config}
use Rattle.poa_base.specs.declared.Call.{Call}
use Rattle.poa_base.specs.declared.Outcome.{Outcome}
use Rattle.poa_base.specs.declared.Entry.{Entry}
use Rattle.poa_base.specs.declared.Entry.TheVariants.{Entered, Arrive, Filled, Left, Collect, Admit, Tried, Incarnated, Run, Done, TakeOut, Etherealized, Abandon}
use Rattle.history_standing.specs.declared.stage.Stage.{Stage}
use Rattle.history_standing.specs.Arrivals.{call_of}
use Rattle.poa_history.specs.InFlight.{IsManned}
use Rattle.history_standing.specs.Stages.{stage}
use Rattle.poa_history.specs.States.{Stored, acted, call_run, servant_run, state_of}
use Rattle.poa_history.proofs.MannedKept.{all_manned}
use Rattle.poa_history.proofs.TurnTells.{trial_is, incarnation_is, run_is, done_is, takeout_is, removal_is}
use Rattle.poa_history.specs.Runs.{IsRun}
use Rattle.history_laws.proofs.Opened.{given, alone, within}
use Rattle.core_standing.specs.Answers.{AnswersAs}
use Rattle.core_standing.specs.Seen.{seen}
use Rattle.poa_history.specs.Entries.{stage_at}
use Rattle.core_settings.specs.declared.settings.Settings.{Settings}
use Rattle.core_settings.specs.Told.{SettingsAgree as SettingsTell}
use Rattle.core_state.specs.Comes.{outcome_told}
use Rattle.core_state.proofs.RunsHave.{serving_has}
use Rattle.core_outboxes.specs.Comes.{Comes, HasOutcome, call_at}
use Rattle.core_state.specs.declared.coming.Coming.{Coming}
use Rattle.core_state.specs.State.{IsNext, call_spoken, outcome_of}
use Rattle.poa_history.specs.Entries.{is_turn}
use Rattle.core_state.specs.declared.state.State.{State}
use Rattle.core_state.proofs.Stated.{answers_state, earlier}
use Rattle.core_run.specs.Turning.{IsAsked, call_in, is_run}

pub at_ok : {T E : Type 0} {P : Type 0} (r : Result T E) → P → OnOk r P
at_ok (Ok x) is = is
at_ok (Err e) is = tt

-- what the entry admits or runs is the call of which it speaks
pub spoken_is : (c : Config) (run limit : ℕ) (past : List Entry) (e : Entry) → IsRun c run limit (e ∷ past) → is_turn e ≡ true
    → call_in e (call_at past e) ≡ call_spoken past e
spoken_is c run limit past (Admit w r v) is turn = refl
spoken_is c run limit past (Run w) is turn =
    (let at = run_is c run past w is.legal.0 in ap (λ b. call_in (Run w) (elim (arrival_of b) [ Some r ↦ call_of past r | None ↦ None ])) at.1
    ∙ sym (ap (call_run past) at.1))
  where
    arrival_of : Stage → Option ℕ
    arrival_of b = Rattle.history_standing.specs.Stages.arrival_in b
spoken_is c run limit past (Tried w a) is turn = sym (ap (call_run past) (trial_is c run past w a is.legal.0).begun)
spoken_is c run limit past (Incarnated w a) is turn = sym (ap (call_run past) (incarnation_is c run past w a is.legal.0).begun)
spoken_is c run limit past (Done w) is turn = sym (ap (call_run past) (done_is c run past w is.legal.0).1)
spoken_is c run limit past (TakeOut w n x) is turn = sym (ap (call_run past) (takeout_is c run past w n x is.legal.0).free)
spoken_is c run limit past (Etherealized w x y) is turn = sym (ap (call_run past) (removal_is c run past w x y is.legal.0).begun)
spoken_is c run limit past (Entered conn) is turn = absurd (let e : false ≡ true = turn in cc)
spoken_is c run limit past (Arrive conn size call) is turn = absurd (let e : false ≡ true = turn in cc)
spoken_is c run limit past (Filled conn size) is turn = absurd (let e : false ≡ true = turn in cc)
spoken_is c run limit past (Left conn) is turn = absurd (let e : false ≡ true = turn in cc)
spoken_is c run limit past (Collect conn a) is turn = absurd (let e : false ≡ true = turn in cc)
spoken_is c run limit past (Abandon w) is turn = absurd (let e : false ≡ true = turn in cc)

pub manned_before : (c : Config) (run limit : ℕ) (past : List Entry) (e : Entry) → IsRun c run limit (e ∷ past) → IsManned c run past
manned_before c run limit past e is =
    all_manned c run limit past (given c run limit (e ∷ past) is) (alone c run limit (e ∷ past) is) (within c run limit (e ∷ past) is) is.legal.1

no_outcome : (c : Config) (run : ℕ) (opened : Stored) (past : List Entry) (e : Entry) → is_run e ≡ false → HasOutcome c run opened past e None
no_outcome c run opened past (Run w) silent = absurd (let x : true ≡ false = silent in cc)
no_outcome c run opened past (Admit w r v) silent = tt
no_outcome c run opened past (Tried w a) silent = tt
no_outcome c run opened past (Incarnated w a) silent = tt
no_outcome c run opened past (Done w) silent = tt
no_outcome c run opened past (TakeOut w n x) silent = tt
no_outcome c run opened past (Etherealized w x y) silent = tt
no_outcome c run opened past (Entered conn) silent = tt
no_outcome c run opened past (Arrive conn size call) silent = tt
no_outcome c run opened past (Filled conn size) silent = tt
no_outcome c run opened past (Left conn) silent = tt
no_outcome c run opened past (Collect conn a) silent = tt
no_outcome c run opened past (Abandon w) silent = tt

pub not_run : (e : Entry) → ((w : ℕ) → e ≡ Run w → ⊥) → is_run e ≡ false
not_run (Run w) none = absurd (none w refl)
not_run (Admit w r v) none = refl
not_run (Tried w a) none = refl
not_run (Incarnated w a) none = refl
not_run (Done w) none = refl
not_run (TakeOut w n x) none = refl
not_run (Etherealized w x y) none = refl
not_run (Entered conn) none = refl
not_run (Arrive conn size call) none = refl
not_run (Filled conn size) none = refl
not_run (Left conn) none = refl
not_run (Collect conn a) none = refl
not_run (Abandon w) none = refl

told_before : (c : Config) (past : List Entry) (w : ℕ) (settings : Settings) → SettingsTell c (Run w ∷ past) settings → SettingsTell c past settings
told_before c past w settings is = record { managed = is.managed; states = is.states; presets = is.presets; endpoints = is.endpoints }

module _ (c : Config) (run limit : ℕ) (opened : Stored) (past : List Entry) (k : Coming) (s : State) (asked : IsAsked c run limit opened past k s) where
  -- what is kept before it answers as what stands
  pub asked_answers : AnswersAs c run past (seen s.standing)
  asked_answers = answers_state c run limit opened past s (earlier c run limit past k.entry.now asked.follows) asked.state

  -- what the entry changes comes next, with the call that it admits or runs
  pub next_with : (x : Option (Bor Call)) → option_copied x ≡ call_in k.entry.now (option_copied k.call)
      → IsNext c run limit opened past (record k { call = x }) s
  next_with x is =
      record {
        follows = asked.follows;
        turn = asked.turn;
        begun_is = asked.begun_is;
        call_is = is ∙ (ap (call_in k.entry.now) asked.call_is ∙ spoken_is c run limit past k.entry.now asked.follows asked.turn);
        servant_is = asked.servant_is;
        state = asked.state;
      }

  pub next_run : (w : ℕ) → k.entry.now ≡ Run w → IsNext c run limit opened past k s
  next_run w is = next_with k.call (sym (ap (λ x. call_in x (option_copied k.call)) is))

  -- any other entry comes to its decision
  pub told_comes : is_run k.entry.now ≡ false → Comes c run opened past k.entry.now k.stage (option_copied k.call) s.settings None
  told_comes silent =
      record {
        manned = manned_before c run limit past k.entry.now asked.follows;
        at_stage = asked.begun_is;
        call_is = asked.call_is;
        told = asked.state.set;
        ran = no_outcome c run opened past k.entry.now silent;
      }

  -- a Run comes to its decision, with the outcome of the servant that ran
  pub run_comes : (w : ℕ) → k.entry.now ≡ Run w → (settings : Settings) (outcome : Option Outcome) → SettingsTell c (k.entry.now ∷ past) settings
      → outcome ≡ outcome_of c run opened past k
      → Comes c run opened past k.entry.now k.stage (option_copied k.call) settings outcome
  run_comes w is settings outcome set told =
      record {
        manned = manned_before c run limit past k.entry.now asked.follows;
        at_stage = asked.begun_is;
        call_is = asked.call_is;
        told = told_before c past w settings (subst (λ x. SettingsTell c (x ∷ past) settings) is set);
        ran = subst
            (λ x. IsRun c run limit (x ∷ past) → k.stage ≡ stage_at past x → option_copied k.call ≡ call_spoken past x
            → outcome ≡ outcome_told c run opened past x k.runs (option_copied k.call) → HasOutcome c run opened past x outcome) (sym is)
            (λ follows at spoken told. has_outcome follows at spoken told) asked.follows asked.begun_is (next_run w is).call_is told;
      }
    where
      has_outcome : IsRun c run limit (Run w ∷ past) → k.stage ≡ stage past w → option_copied k.call ≡ call_run past (stage past w)
          → outcome ≡ outcome_told c run opened past (Run w) k.runs (option_copied k.call) → HasOutcome c run opened past (Run w) outcome
      has_outcome follows at spoken told =
          (let serves = run_is c run past w follows.legal.0 in
          let has =
          serving_has c run limit past (given c run limit (Run w ∷ past) follows) (alone c run limit (Run w ∷ past) follows)
          (within c run limit (Run w ∷ past) follows) follows.legal.1 w serves.0 serves.1 in
          let same : servant_run c run past (stage past w) ≡ Some has.0 = ap (servant_run c run past) serves.1 ∙ has.1 in
          let mine : k.runs ≡ Some has.0 = asked.servant_is ∙ ap (servant_run c run past) at ∙ same in
          (has.0, same, told ∙ ap₂ (λ r x. option_map (λ t. (acted (state_of c run opened past t) x).1) r) mine spoken))
