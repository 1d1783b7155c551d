-- An entry that is no turn of a worker changes nothing that stands, and decides nothing by itself.
use Rattle.std.proofs.Common.{◌≡◌, ℕ, true, false, List, ◌∷◌, None, refl}
use Rattle.poa_base.specs.declared.Call.{Call}
use Rattle.poa_base.specs.declared.Config.{Config}
use Rattle.poa_base.specs.declared.Entry.{Entry}
use Rattle.poa_base.specs.declared.Entry.TheVariants.{Entered, Arrive, Filled, Left, Collect, Admit, Tried, Incarnated, Run, Done, TakeOut, Etherealized, Abandon}
use Rattle.history_standing.specs.declared.stage.Stage.TheVariants.{Free}
use Rattle.poa_history.specs.States.{Stored}
use Rattle.poa_history.specs.Legal.{MayFollow}
use Rattle.poa_history.specs.Runs.{IsRun}
use Rattle.history_laws.proofs.Opened.{given, within}
use Rattle.core_standing.specs.Seen.{seen}
use Rattle.held_queue.specs.Frees.{nothing, freed_by}
use Rattle.poa_history.specs.Entries.{stage_at, changes_nothing}
use Rattle.core_standing.proofs.Settled.{nothing_changed}
use Rattle.core_settings.specs.declared.settings.Settings.{Settings}
use Rattle.core_settings.specs.Told.{SettingsAgree}
use Rattle.core_state.specs.Kept.{kept_in}
use Rattle.core_state.proofs.QuietHolds.{quiet_holds, is_quiet}
use Rattle.core_outboxes.specs.declared.filed.Filed.{Filed}
use Rattle.core_outboxes.specs.Decided.{AreFiled, Decides}
use Rattle.core_outboxes.specs.Desk.{AreLeft, WaitIs}
use Rattle.core_outboxes.specs.Waits.{ordered_by}
use Rattle.core_state.specs.declared.state.State.{State}
use Rattle.core_state.specs.State.{StateAgrees}
use Rattle.poa_history.specs.Entries.{is_turn}
use Rattle.core_state.proofs.Stated.{kept_still}
use Rattle.core_run.specs.declared.inside.Inside.{Inside}
use Rattle.core_run.specs.Agrees.{Agrees, history, opened_in}
use Rattle.core_run.specs.Noting.{IsHalfway}
use Rattle.core_run.specs.Kept.{IsQuiet}
use Rattle.core_run.proofs.Filed.{filed_as}

-- what is so of each entry that is no turn
by_still : (P : Entry → Type 0) → ((conn : ℕ) → P (Entered conn)) → ((conn size : ℕ) (call : Call) → P (Arrive conn size call))
    → ((conn size : ℕ) → P (Filled conn size)) → ((conn : ℕ) → P (Left conn)) → ((conn r : ℕ) → P (Collect conn r))
    → ((w : ℕ) → P (Abandon w)) → (e : Entry) → is_turn e ≡ false → P e
by_still P entered arrive filled left collect abandon (Entered conn) is = entered conn
by_still P entered arrive filled left collect abandon (Arrive conn size call) is = arrive conn size call
by_still P entered arrive filled left collect abandon (Filled conn size) is = filled conn size
by_still P entered arrive filled left collect abandon (Left conn) is = left conn
by_still P entered arrive filled left collect abandon (Collect conn r) is = collect conn r
by_still P entered arrive filled left collect abandon (Abandon w) is = abandon w
by_still P entered arrive filled left collect abandon (Admit w r v) is = absurd (let e : true ≡ false = is in cc)
by_still P entered arrive filled left collect abandon (Tried w a) is = absurd (let e : true ≡ false = is in cc)
by_still P entered arrive filled left collect abandon (Incarnated w a) is = absurd (let e : true ≡ false = is in cc)
by_still P entered arrive filled left collect abandon (Run w) is = absurd (let e : true ≡ false = is in cc)
by_still P entered arrive filled left collect abandon (Done w) is = absurd (let e : true ≡ false = is in cc)
by_still P entered arrive filled left collect abandon (TakeOut w n x) is = absurd (let e : true ≡ false = is in cc)
by_still P entered arrive filled left collect abandon (Etherealized w x y) is = absurd (let e : true ≡ false = is in cc)

begins_free : (h : List Entry) (e : Entry) → is_turn e ≡ false → Free ≡ stage_at h e
begins_free h = by_still (λ e. Free ≡ stage_at h e) (λ _. refl) (λ _ _ _. refl) (λ _ _. refl) (λ _. refl) (λ _ _. refl) (λ _. refl)

nothing_by : (e : Entry) → is_turn e ≡ false → changes_nothing e ≡ true
nothing_by = by_still (λ e. changes_nothing e ≡ true) (λ _. refl) (λ _ _ _. refl) (λ _ _. refl) (λ _. refl) (λ _ _. refl) (λ _. refl)

quiet_by : (e : Entry) → is_turn e ≡ false → is_quiet e ≡ true
quiet_by = by_still (λ e. is_quiet e ≡ true) (λ _. refl) (λ _ _ _. refl) (λ _ _. refl) (λ _. refl) (λ _ _. refl) (λ _. refl)

same_set : (c : Config) (h : List Entry) (e : Entry) (s : Settings) → is_turn e ≡ false → SettingsAgree c h s → SettingsAgree c (e ∷ h) s
same_set c h e s is t =
    by_still (λ x. SettingsAgree c (x ∷ h) s) (λ _. record { managed = t.managed; states = t.states; presets = t.presets; endpoints = t.endpoints })
    (λ _ _ _. record { managed = t.managed; states = t.states; presets = t.presets; endpoints = t.endpoints })
    (λ _ _. record { managed = t.managed; states = t.states; presets = t.presets; endpoints = t.endpoints })
    (λ _. record { managed = t.managed; states = t.states; presets = t.presets; endpoints = t.endpoints })
    (λ _ _. record { managed = t.managed; states = t.states; presets = t.presets; endpoints = t.endpoints })
    (λ _. record { managed = t.managed; states = t.states; presets = t.presets; endpoints = t.endpoints }) e is

decides_none : (c : Config) (run : ℕ) (opened : Stored) (h : List Entry) (e : Entry) → is_turn e ≡ false → Decides c run opened h e None
decides_none c run opened h =
    by_still (λ e. Decides c run opened h e None) (λ _. record { target_is = λ r _. refl; reply_is = λ r _ _ _. refl })
    (λ _ _ _. record { target_is = λ r _. refl; reply_is = λ r _ _ _. refl }) (λ _ _. record { target_is = λ r _. refl; reply_is = λ r _ _ _. refl })
    (λ _. record { target_is = λ r _. refl; reply_is = λ r _ _ _. refl }) (λ _ _. record { target_is = λ r _. refl; reply_is = λ r _ _ _. refl })
    (λ _. record { target_is = λ r _. refl; reply_is = λ r _ _ _. refl })

waits_none : (c : Config) (run : ℕ) (h : List Entry) (e : Entry) → is_turn e ≡ false → WaitIs c run h e None
waits_none c run h = by_still (λ e. WaitIs c run h e None) (λ _. tt) (λ _ _ _. tt) (λ _ _. tt) (λ _. tt) (λ _ _. tt) (λ _. tt)

orders_none : (c : Config) (h : List Entry) (e : Entry) → is_turn e ≡ false → None ≡ ordered_by c h e
orders_none c h = by_still (λ e. None ≡ ordered_by c h e) (λ _. refl) (λ _ _ _. refl) (λ _ _. refl) (λ _. refl) (λ _ _. refl) (λ _. refl)

frees_none : (c : Config) (run : ℕ) (h : List Entry) (e : Entry) → is_turn e ≡ false → nothing ≡ freed_by c run h e
frees_none c run h = by_still (λ e. nothing ≡ freed_by c run h e) (λ _. refl) (λ _ _ _. refl) (λ _ _. refl) (λ _. refl) (λ _ _. refl) (λ _. refl)

pub quiet_state : (c : Config) (run limit : ℕ) (opened : Stored) (h : List Entry) (e : Entry) (s : State) → IsRun c run limit (e ∷ h) → is_turn e ≡ false
    → StateAgrees c run opened h s → StateAgrees c run opened (e ∷ h) s
quiet_state c run limit opened h e s follows still state =
    record {
      stands = kept_still c run h e (seen s.standing) (nothing_changed c run h e (nothing_by e still)) state.stands;
      none_over = state.none_over;
      set = same_set c h e s.settings still state.set;
      held = quiet_holds c run limit opened h e (given c run limit (e ∷ h) follows) (within c run limit (e ∷ h) follows) follows.legal (quiet_by e still)
          (kept_in s.servants) state.held;
    }

-- it comes to be noted
pub quiet_halfway : (h : List Entry) (e : Entry) (i : Inside) → IsQuiet h e i
    → IsHalfway h e Free (record { decision = None; wait = None; ordered = None; freed = nothing }) i
quiet_halfway h e i quiet =
    record {
      follows = quiet.follows;
      begun_is = begins_free h e quiet.still;
      state = quiet_state i.config i.run i.limit (opened_in i) h e i.state quiet.follows quiet.still quiet.state;
      brought =
          record {
            decides = decides_none i.config i.run (opened_in i) h e quiet.still;
            waits = waits_none i.config i.run h e quiet.still;
            orders = orders_none i.config h e quiet.still;
            frees = frees_none i.config i.run h e quiet.still;
          };
      tables = quiet.tables;
      owed = quiet.owed;
      left = quiet.left;
    }

-- so it may be noted where it may follow, if it collects nothing
pub quiet_where : (e : Entry) (i : Inside) → Agrees (history i) i → MayFollow i.config i.run i.limit (history i) e → is_turn e ≡ false
    → ((fs : List Filed) → AreFiled i.config i.run (opened_in i) (history i) fs → AreLeft i.config i.run (opened_in i) (history i) e fs)
    → IsQuiet (history i) e i
quiet_where e i agrees may still left =
    (let runs = agrees.runs in record {
      follows = record { accepted = runs.accepted; numbered = runs.numbered; limited = runs.limited; legal = (may, runs.legal) };
      still = still;
      state = agrees.state;
      tables = agrees.tables;
      owed = agrees.owed;
      left = filed_as i.desk left agrees.filed;
    })
