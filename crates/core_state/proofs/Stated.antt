-- What an entry of a worker leaves, from what is given of it.
use Rattle.std.proofs.Common.{◌≡◌, ℕ, Bool, true, false, List, ◌∷◌, Option, Some, None, if◌then◌else◌, refl, sym, ap, subst, ◌∙◌}
use Rattle.std.specs.Prelude.{Result, Ok, Err, OnOk, option_copied}
use Rattle.poa_base.specs.declared.Config.{Config}
use Rattle.poa_base.specs.declared.Call.{Call}
use Rattle.poa_base.specs.declared.Verdict.{Verdict}
use Rattle.poa_base.specs.declared.Attempt.{Attempt}
use Rattle.poa_base.specs.declared.Incarnation.{Incarnation}
use Rattle.poa_base.specs.declared.Entry.{Entry}
use Rattle.poa_base.specs.declared.Entry.TheVariants.{Entered, Arrive, Filled, Left, Collect, Admit, Tried, Incarnated, Run, Done, TakeOut, Etherealized, Abandon}
use Rattle.history_standing.specs.declared.stage.Stage.{Stage}
use Rattle.history_standing.specs.Changes.{standing}
use Rattle.history_standing.specs.Logs.{is_accepted, command_in, command_done}
use Rattle.history_standing.specs.Stages.{stage}
use Rattle.history_standing.specs.Standings.{Standing as Stood}
use Rattle.poa_history.specs.States.{Stored, call_run}
use Rattle.poa_history.specs.Runs.{IsRun}
use Rattle.history_laws.proofs.Opened.{given, alone, within}
use Rattle.core_standing.specs.declared.standing.Standing.{Standing}
use Rattle.core_standing.specs.Answers.{AnswersAs}
use Rattle.core_standing.specs.Kept.{KeepsNoneOver, StandsFor, StandingAgrees}
use Rattle.core_standing.specs.Seen.{seen}
use Rattle.poa_history.specs.Entries.{stage_at, call_admitted}
use Rattle.core_state.proofs.Answering.{answers}
use Rattle.core_settings.specs.declared.settings.Settings.{Settings}
use Rattle.core_settings.specs.Told.{SettingsAgree, may_grow}
use Rattle.core_state.specs.Holds.{ServantsAgree}
use Rattle.core_state.specs.Kept.{kept_in}
use Rattle.core_state.specs.Comes.{Comes, worker_of}
use Rattle.core_state.proofs.QuietHolds.{quiet_holds, is_quiet}
use Rattle.core_state.specs.declared.coming.Coming.{Coming}
use Rattle.core_state.specs.declared.state.State.{State}
use Rattle.core_state.specs.State.{StateAgrees, IsNext, call_spoken, serves}
use Rattle.core_state.proofs.Growing.{growing_stands}

pub ok_then : {T E : Type 0} {P Q : Type 0} (r : Result T E) → (P → Q) → OnOk r P → OnOk r Q
ok_then (Ok x) f p = f p
ok_then (Err x) f p = tt

-- no servant acts, comes or leaves
pub quiet_state : (c : Config) (run limit : ℕ) (opened : Stored) (past : List Entry) (e : Entry) (s : State) (stands : Standing) (set : Settings)
    → IsRun c run limit (e ∷ past) → is_quiet e ≡ true
    → ServantsAgree c run opened past (kept_in s.servants) → StandingAgrees c run (e ∷ past) (seen stands) → KeepsNoneOver c (seen stands) → SettingsAgree c (e ∷ past) set
    → StateAgrees c run opened (e ∷ past) (record { standing = stands; settings = set; servants = s.servants })
quiet_state c run limit opened past e s stands set follows quiet held stands_is none_over tells =
    record {
      stands = stands_is;
      none_over = none_over;
      set = tells;
      held = quiet_holds c run limit opened past e (given c run limit (e ∷ past) follows) (within c run limit (e ∷ past) follows) follows.legal quiet
          (kept_in s.servants) held;
    }

-- the command that an Admit does is that of its call
pub done_is : (past : List Entry) (e : Entry) (call : Option Call) (w r : ℕ) (v : Verdict) → e ≡ Admit w r v → call ≡ call_spoken past e
    → (if is_accepted v then command_in call else None) ≡ command_done past e
done_is past e call w r v is spoken =
    subst (λ x. call ≡ call_spoken past x → (if is_accepted v then command_in call else None) ≡ command_done past x) (sym is)
    (λ same. ap (λ y. if is_accepted v then command_in y else None) same) spoken

pub admitted_is : (past : List Entry) (e : Entry) (call : Option Call) (w r : ℕ) (v : Verdict) → e ≡ Admit w r v → call ≡ call_spoken past e
    → call ≡ call_admitted past e
admitted_is past e call w r v is spoken = subst (λ x. call ≡ call_spoken past x → call ≡ call_admitted past x) (sym is) (λ same. same) spoken

pub admits_quietly : (e : Entry) (w r : ℕ) (v : Verdict) → e ≡ Admit w r v → is_quiet e ≡ true
admits_quietly e w r v is = ap is_quiet is

-- an entry that changes nothing that stands leaves what is kept of it
pub kept_still : (c : Config) (run : ℕ) (past : List Entry) (e : Entry) (t : Stood) → standing c run (e ∷ past) ≡ standing c run past → StandingAgrees c run past t
    → StandingAgrees c run (e ∷ past) t
kept_still c run past e t still kept = record { stands = subst (λ s. StandsFor c s t) (sym still) kept.stands; few = kept.few }

pub growing_stays : (c : Config) (run : ℕ) (past : List Entry) (e : Entry) (w r : ℕ) (v : Verdict) → e ≡ Admit w r v → may_grow (command_done past e) ≡ true
    → (t : Stood) → StandingAgrees c run past t → StandingAgrees c run (e ∷ past) t
growing_stays c run past e w r v is grows t =
    kept_still c run past e t
    (subst (λ x. may_grow (command_done past x) ≡ true → standing c run (x ∷ past) ≡ standing c run past) (sym is) (growing_stands c run past w r v) grows)

pub tries_quietly : (e : Entry) (w : ℕ) (a : Attempt) → e ≡ Tried w a → is_quiet e ≡ true
tries_quietly e w a is = ap is_quiet is

pub tries_no_command : (past : List Entry) (e : Entry) (w : ℕ) (a : Attempt) → e ≡ Tried w a → None ≡ command_done past e
tries_no_command past e w a is = ap (command_done past) (sym is)

pub tries_no_call : (past : List Entry) (e : Entry) (w : ℕ) (a : Attempt) → e ≡ Tried w a → None ≡ call_admitted past e
tries_no_call past e w a is = ap (call_admitted past) (sym is)

-- what is so of each entry that serves
by_serving : (P : Entry → Type 0) → ((w : ℕ) (a : Incarnation) → P (Incarnated w a)) → ((w : ℕ) → P (Run w)) → ((w : ℕ) → P (Done w))
    → ((w n : ℕ) (x : Bool) → P (TakeOut w n x)) → ((w : ℕ) (x y : Bool) → P (Etherealized w x y))
    → (e : Entry) → serves e ≡ true → P e
by_serving P incarnated run done takeout etherealized (Incarnated w a) is = incarnated w a
by_serving P incarnated run done takeout etherealized (Run w) is = run w
by_serving P incarnated run done takeout etherealized (Done w) is = done w
by_serving P incarnated run done takeout etherealized (TakeOut w n x) is = takeout w n x
by_serving P incarnated run done takeout etherealized (Etherealized w x y) is = etherealized w x y
by_serving P incarnated run done takeout etherealized (Admit w r v) is = absurd (let e : false ≡ true = is in cc)
by_serving P incarnated run done takeout etherealized (Tried w a) is = absurd (let e : false ≡ true = is in cc)
by_serving P incarnated run done takeout etherealized (Entered conn) is = absurd (let e : false ≡ true = is in cc)
by_serving P incarnated run done takeout etherealized (Arrive conn size call) is = absurd (let e : false ≡ true = is in cc)
by_serving P incarnated run done takeout etherealized (Filled conn size) is = absurd (let e : false ≡ true = is in cc)
by_serving P incarnated run done takeout etherealized (Left conn) is = absurd (let e : false ≡ true = is in cc)
by_serving P incarnated run done takeout etherealized (Collect conn a) is = absurd (let e : false ≡ true = is in cc)
by_serving P incarnated run done takeout etherealized (Abandon w) is = absurd (let e : false ≡ true = is in cc)

-- it does no command and admits no call
pub serves_no_command : (past : List Entry) (e : Entry) → serves e ≡ true → None ≡ command_done past e
serves_no_command past = by_serving (λ e. None ≡ command_done past e) (λ _ _. refl) (λ _. refl) (λ _. refl) (λ _ _ _. refl) (λ _ _ _. refl)

pub serves_no_call : (past : List Entry) (e : Entry) → serves e ≡ true → None ≡ call_admitted past e
serves_no_call past = by_serving (λ e. None ≡ call_admitted past e) (λ _ _. refl) (λ _. refl) (λ _. refl) (λ _ _ _. refl) (λ _ _ _. refl)

-- its call is the one that runs
spoken_runs : (past : List Entry) (e : Entry) → serves e ≡ true → call_spoken past e ≡ call_run past (stage_at past e)
spoken_runs past = by_serving (λ e. call_spoken past e ≡ call_run past (stage_at past e)) (λ _ _. refl) (λ _. refl) (λ _. refl) (λ _ _ _. refl) (λ _ _ _. refl)

pub runs_call : (past : List Entry) (e : Entry) (begun : Stage) (call : Option Call) → serves e ≡ true → begun ≡ stage_at past e → call ≡ call_spoken past e
    → call ≡ call_run past begun
runs_call past e begun call is at spoken = spoken ∙ (spoken_runs past e is ∙ ap (call_run past) (sym at))

begun_there : (past : List Entry) (w : ℕ) (e : Entry) → serves e ≡ true → worker_of e ≡ Some w → stage_at past e ≡ stage past w
begun_there past w = by_serving (λ e. worker_of e ≡ Some w → stage_at past e ≡ stage past w) (λ v _. same v) same same (λ v _ _. same v) (λ v _ _. same v)
  where
    same : (v : ℕ) → Some v ≡ Some w → stage past v ≡ stage past w
    same v by = ap (stage past) (let e : Some v ≡ Some w = by in cc)

pub begun_by_worker : (past : List Entry) (e : Entry) (begun : Stage) (w : ℕ) → serves e ≡ true → begun ≡ stage_at past e → worker_of e ≡ Some w
    → begun ≡ stage past w
begun_by_worker past e begun w is at by = at ∙ begun_there past w e is by

-- what is kept answers as what stands
pub answers_state : (c : Config) (run limit : ℕ) (opened : Stored) (h : List Entry) (s : State) → IsRun c run limit h → StateAgrees c run opened h s
    → AnswersAs c run h (seen s.standing)
answers_state c run limit opened h s runs state =
    answers c run limit h (given c run limit h runs) (alone c run limit h runs) (within c run limit h runs) runs.legal (seen s.standing) state.stands

pub earlier : (c : Config) (run limit : ℕ) (past : List Entry) (e : Entry) → IsRun c run limit (e ∷ past) → IsRun c run limit past
earlier c run limit past e runs = record { accepted = runs.accepted; numbered = runs.numbered; limited = runs.limited; legal = runs.legal.1 }

-- such an entry comes to the servants
abbrev pub comes : (c : Config) (run limit : ℕ) (opened : Stored) (past : List Entry) (k : Coming) (s : State) → IsNext c run limit opened past k s
    → serves k.entry.now ≡ true
    → Comes c k.entry.now k.stage (option_copied k.call) k.runs (seen s.standing) (kept_in s.servants)
comes c run limit opened past k s next kind =
    (let e = k.entry.now in record {
      run = run;
      limit = limit;
      opened = opened;
      past = past;
      given = given c run limit (e ∷ past) next.follows;
      alone = alone c run limit (e ∷ past) next.follows;
      within = within c run limit (e ∷ past) next.follows;
      legal = next.follows.legal;
      stands = answers_state c run limit opened past s (earlier c run limit past e next.follows) next.state;
      at_stage = λ w by. begun_by_worker past e k.stage w kind next.begun_is by;
      call_is = runs_call past e k.stage (option_copied k.call) kind next.begun_is next.call_is;
      servant_is = next.servant_is;
      holds = next.state.held;
    })
