-- A request is admitted to be served.
use Rattle.std.proofs.Common.{◌≡◌, ℕ, false, true, List, ◌∷◌, None, refl, sym, subst}
use Rattle.poa_base.specs.declared.Config.{Config}
use Rattle.poa_base.specs.declared.Entry.{Entry}
use Rattle.poa_base.specs.declared.Entry.TheVariants.{Entered, Arrive, Filled, Left, Collect, Admit, Tried, Incarnated, Run, Done, TakeOut, Etherealized, Abandon}
use Rattle.poa_base.specs.declared.Verdict.TheVariants.{Serve, Preset, Locator, Incarnate, Try, Refuse, Forward, Addressing, Here, Unknown, Answer, Wait}
use Rattle.history_standing.specs.declared.stage.Stage.TheVariants.{Free}
use Rattle.poa_history.specs.Entries.{is_turn, stage_at}
use Rattle.poa_history.specs.Legal.{MayFollow}
use Rattle.poa_history.specs.Replies.{is_final}
use Rattle.poa_history.specs.Runs.{IsRun}
use Rattle.poa_history.specs.States.{Stored}
use Rattle.poa_history.proofs.TurnTells.{admission_is}
use Rattle.history_standing.specs.Trees.{In}
use Rattle.active_map.specs.Tables.{Table}
use Rattle.core_standing.specs.Kept.{KeepsNoneOver, StandingAgrees}
use Rattle.core_standing.specs.Seen.{behind, seen}
use Rattle.core_standing.specs.declared.standing.Standing.{Standing}
use Rattle.core_settings.specs.Told.{SettingsAgree}
use Rattle.core_settings.specs.declared.settings.Settings.{Settings}
use Rattle.core_state.specs.State.{StateAgrees, call_spoken}
use Rattle.core_state.proofs.Stated.{quiet_state}
use Rattle.held_queue.specs.Frees as frees
use Rattle.core_outboxes.specs.Comes.{HasOutcome, call_at}
use Rattle.core_outboxes.specs.Desk.{WaitIs}
use Rattle.core_outboxes.specs.Fixed.{may_decide}
use Rattle.core_outboxes.specs.Waits.{ordered_by}
use Rattle.core_outboxes.proofs.DecidingReply.{never_decides}
use Rattle.core_run.specs.declared.inside.Inside.{Inside}
use Rattle.core_run.specs.Agrees.{Agrees, history, opened_in}
use Rattle.core_run.specs.Kept.{IsKept}
use Rattle.core_run.specs.Noting.{IsHalfway}
use Rattle.core_run.specs.ToCome.{is_ending, needs_journal_alone}
use Rattle.core_run.specs.Service.{begins, nothing}
use Rattle.core_run.specs.Turning.{IsBrought}
use Rattle.core_run.proofs.Filed.{filed_as}
use Rattle.core_run.proofs.Keeping.{left_still}
use Rattle.core_run.proofs.Turned.{manned_before}

-- what is so of each
by_beginning : (P : Entry → Type 0) → ((w r n : ℕ) → P (Admit w r (Serve n))) → ((w r : ℕ) (name : List ℕ) → P (Admit w r (Preset name)))
    → ((w r : ℕ) (name : List ℕ) → P (Admit w r (Locator name))) → (e : Entry) → begins e ≡ true → P e
by_beginning P serve preset locator (Admit w r (Serve n)) is = serve w r n
by_beginning P serve preset locator (Admit w r (Preset name)) is = preset w r name
by_beginning P serve preset locator (Admit w r (Locator name)) is = locator w r name
by_beginning P serve preset locator (Admit w r (Incarnate n)) is = absurd (let e : false ≡ true = is in cc)
by_beginning P serve preset locator (Admit w r Try) is = absurd (let e : false ≡ true = is in cc)
by_beginning P serve preset locator (Admit w r (Refuse x)) is = absurd (let e : false ≡ true = is in cc)
by_beginning P serve preset locator (Admit w r (Forward x)) is = absurd (let e : false ≡ true = is in cc)
by_beginning P serve preset locator (Admit w r Addressing) is = absurd (let e : false ≡ true = is in cc)
by_beginning P serve preset locator (Admit w r Here) is = absurd (let e : false ≡ true = is in cc)
by_beginning P serve preset locator (Admit w r Unknown) is = absurd (let e : false ≡ true = is in cc)
by_beginning P serve preset locator (Admit w r (Answer x)) is = absurd (let e : false ≡ true = is in cc)
by_beginning P serve preset locator (Admit w r Wait) is = absurd (let e : false ≡ true = is in cc)
by_beginning P serve preset locator (Run w) is = absurd (let e : false ≡ true = is in cc)
by_beginning P serve preset locator (Done w) is = absurd (let e : false ≡ true = is in cc)
by_beginning P serve preset locator (Tried w a) is = absurd (let e : false ≡ true = is in cc)
by_beginning P serve preset locator (Incarnated w a) is = absurd (let e : false ≡ true = is in cc)
by_beginning P serve preset locator (TakeOut w n x) is = absurd (let e : false ≡ true = is in cc)
by_beginning P serve preset locator (Etherealized w x y) is = absurd (let e : false ≡ true = is in cc)
by_beginning P serve preset locator (Entered conn) is = absurd (let e : false ≡ true = is in cc)
by_beginning P serve preset locator (Arrive conn size call) is = absurd (let e : false ≡ true = is in cc)
by_beginning P serve preset locator (Filled conn size) is = absurd (let e : false ≡ true = is in cc)
by_beginning P serve preset locator (Left conn) is = absurd (let e : false ≡ true = is in cc)
by_beginning P serve preset locator (Collect conn a) is = absurd (let e : false ≡ true = is in cc)
by_beginning P serve preset locator (Abandon w) is = absurd (let e : false ≡ true = is in cc)

pub beginning_turn : (e : Entry) → begins e ≡ true → is_turn e ≡ true
beginning_turn = by_beginning (λ e. is_turn e ≡ true) (λ _ _ _. refl) (λ _ _ _. refl) (λ _ _ _. refl)

pub beginning_alone : (e : Entry) → begins e ≡ true → needs_journal_alone e ≡ true
beginning_alone = by_beginning (λ e. needs_journal_alone e ≡ true) (λ _ _ _. refl) (λ _ _ _. refl) (λ _ _ _. refl)

pub beginning_more : (e : Entry) → begins e ≡ true → is_ending e ≡ false
beginning_more = by_beginning (λ e. is_ending e ≡ false) (λ _ _ _. refl) (λ _ _ _. refl) (λ _ _ _. refl)

module _ (c : Config) (run limit : ℕ) (past : List Entry) where
  -- its worker had begun nothing
  pub beginning_free : (e : Entry) → begins e ≡ true → MayFollow c run limit past e → Free ≡ stage_at past e
  beginning_free =
      by_beginning (λ e. MayFollow c run limit past e → Free ≡ stage_at past e) (λ w r n at. sym (admission_is c run past w r (Serve n) at).free)
      (λ w r name at. sym (admission_is c run past w r (Preset name) at).free) (λ w r name at. sym (admission_is c run past w r (Locator name) at).free)

  pub beginning_speaks : (e : Entry) → begins e ≡ true → call_at past e ≡ call_spoken past e
  beginning_speaks = by_beginning (λ e. call_at past e ≡ call_spoken past e) (λ _ _ _. refl) (λ _ _ _. refl) (λ _ _ _. refl)

  module _ (opened : Stored) (settings : Settings) (told : SettingsAgree c past settings) where
    -- it brings nothing
    pub beginning_brings : (e : Entry) → begins e ≡ true → IsRun c run limit (e ∷ past) → IsBrought c run opened past e nothing
    beginning_brings e is follows =
        record {
          decides = never_decides c run opened past (stage_at past e) (call_at past e) settings None e (never e is)
              (record { manned = manned_before c run limit past e follows; at_stage = refl; call_is = refl; told = told; ran = silent e is });
          waits = waits e is;
          orders = orders e is;
          frees = free e is;
        }
      where
        never : (e : Entry) → begins e ≡ true → may_decide e ≡ false
        never = by_beginning (λ e. may_decide e ≡ false) (λ _ _ _. refl) (λ _ _ _. refl) (λ _ _ _. refl)

        silent : (e : Entry) → begins e ≡ true → HasOutcome c run opened past e None
        silent = by_beginning (λ e. HasOutcome c run opened past e None) (λ _ _ _. tt) (λ _ _ _. tt) (λ _ _ _. tt)

        waits : (e : Entry) → begins e ≡ true → WaitIs c run past e None
        waits = by_beginning (λ e. WaitIs c run past e None) (λ _ _ _. refl) (λ _ _ _. refl) (λ _ _ _. refl)

        orders : (e : Entry) → begins e ≡ true → None ≡ ordered_by c past e
        orders = by_beginning (λ e. None ≡ ordered_by c past e) (λ _ _ _. refl) (λ _ _ _. refl) (λ _ _ _. refl)

        free : (e : Entry) → begins e ≡ true → frees.nothing ≡ frees.freed_by c run past e
        free = by_beginning (λ e. frees.nothing ≡ frees.freed_by c run past e) (λ _ _ _. refl) (λ _ _ _. refl) (λ _ _ _. refl)

-- a request is admitted to the activation that serves it
module _ (w r n : ℕ) (i : Inside) (agrees : Agrees (history i) i) (follows : IsRun i.config i.run i.limit (Admit w r (Serve n) ∷ history i)) where
  abbrev e : Entry
  e = Admit w r (Serve n)

  serve_state : (t : Standing) → StandingAgrees i.config i.run (e ∷ history i) (seen t) → t.activations ≡ i.state.standing.activations
      → StateAgrees i.config i.run (opened_in i) (e ∷ history i) (record i.state { standing = t })
  serve_state t stands same =
      (let state = agrees.state in
      let set = state.set in
      quiet_state i.config i.run i.limit (opened_in i) (history i) e i.state t i.state.settings follows refl state.held stands
      (λ a there. state.none_over a (subst (λ (map : Table). In a (behind map.forgotten map.kept)) same there))
      (record { managed = set.managed; states = set.states; presets = set.presets; endpoints = set.endpoints }))

  pub serve_halfway : (t : Standing) → StandingAgrees i.config i.run (e ∷ history i) (seen t) → t.activations ≡ i.state.standing.activations
      → IsHalfway (history i) e Free nothing (record i { state = record i.state { standing = t } })
  serve_halfway t stands same =
      record {
        follows = follows;
        begun_is = beginning_free i.config i.run i.limit (history i) e refl follows.legal.0;
        state = serve_state t stands same;
        brought = beginning_brings i.config i.run i.limit (history i) (opened_in i) i.state.settings agrees.state.set e refl follows;
        tables = agrees.tables;
        owed = agrees.owed;
        left = filed_as i.desk (left_still e i refl) agrees.filed;
      }

-- what is kept stays so where the same is seen to stand
pub standing_kept : (i : Inside) (t : Standing) → seen t ≡ seen i.state.standing → IsKept i → IsKept (record i { state = record i.state { standing = t } })
standing_kept i t same kept =
    (let a = kept.agrees in let s = a.state in record {
      agrees = record {
        runs = a.runs;
        state = record {
          stands = subst (StandingAgrees i.config i.run (history i)) (sym same) s.stands;
          none_over = subst (KeepsNoneOver i.config) (sym same) s.none_over;
          set = s.set;
          held = s.held;
        };
        tables = a.tables;
        owed = a.owed;
        filed = a.filed;
      };
      space = kept.space;
    })
