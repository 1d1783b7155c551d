-- What a run keeps answers the table's questions of each call.
use Rattle.std.proofs.Common.{◌≡◌, ℕ, Bool, true, if◌then◌else◌, List, reverse, Option, Some, None, sym, ap, subst, ◌∙◌}
use Rattle.std.proofs.lemmas.List.{reverse-reverse}
use Rattle.poa_base.specs.declared.Call.{Call}
use Rattle.poa_base.specs.declared.Config.{Config}
use Rattle.poa_base.specs.declared.Entry.{Entry}
use Rattle.history_standing.specs.Arrivals.{call_of, is_message}
use Rattle.poa_history.specs.Waiting.{is_waiting}
use Rattle.poa_choose.specs.declared.Facts.{Facts}
use Rattle.poa_choose.specs.declared.MapFact.{MapFact}
use Rattle.history_standing.specs.Changes.{standing}
use Rattle.history_standing.specs.Situations.{facts_of, slot_of}
use Rattle.core_turns.specs.Looks.{looked}
use Rattle.core_turns.specs.declared.Look.{Look}
use Rattle.journal_explain.specs.declared.wait.Wait.{Wait}
use Rattle.journal_explain.specs.Stories.{wait_by, wait_of}
use Rattle.poa_history.specs.Life.{Life, opened}
use Rattle.poa_history.specs.Runs.{IsRun}
use Rattle.core_arrivals.specs.Placed.{CallsAgree}
use Rattle.core_run.specs.Known.{TablesAgree}
use Rattle.core_run.specs.declared.Tables.{Tables}
use Rattle.core_state.proofs.Stated.{answers_state}
use Rattle.core_state.specs.State.{StateAgrees}
use Rattle.core_state.specs.declared.State.{State}
use Rattle.core_standing.specs.Answers.{AnswersAs}
use Rattle.core_standing.specs.Seen.{seen}
use Rattle.core_settings.specs.Told.{SettingsAgree}

-- what stands answers as the history, and what is set is what it says, for the configuration and the run number that are lent
module _ (life : Life) (s : State) (config : Config) (run : ℕ) (config_is : config ≡ life.config) (run_is : run ≡ life.run)
    (is : StateAgrees life.config life.run (opened life) life.history s) where
  pub stands_as : IsRun life.config life.run life.limit life.history → AnswersAs config run life.history (seen s.standing)
  stands_as runs =
      subst (λ (c : Config). AnswersAs c run life.history (seen s.standing)) (sym config_is)
      (subst (λ (n : ℕ). AnswersAs life.config n life.history (seen s.standing)) (sym run_is)
      (answers_state life.config life.run life.limit (opened life) life.history s runs is))

  pub set_as : SettingsAgree config life.history s.settings
  set_as = subst (λ (c : Config). SettingsAgree c life.history s.settings) (sym config_is) is.set

-- where the calls arrived, by the entries
pub called : (life : Life) (entries : List Entry) (t : Tables) → entries ≡ reverse life.history
    → TablesAgree life.config life.run life.history t → CallsAgree (reverse entries) t.calls.places.items
called life entries t are knows =
    subst (λ (h : List Entry). CallsAgree h t.calls.places.items) (sym (ap reverse are ∙ reverse-reverse life.history)) knows.calls

pub call_is : (life : Life) (entries : List Entry) (r : ℕ) (call : Option Call) → entries ≡ reverse life.history
    → call ≡ call_of (reverse entries) r → call ≡ call_of life.history r
call_is life entries r call are is = is ∙ ap (λ (h : List Entry). call_of h r) (ap reverse are ∙ reverse-reverse life.history)

-- what the map has for an id, by what is kept of the activations
pub slot_stands : (life : Life) (s : State) (config : Config) → config ≡ life.config
    → StateAgrees life.config life.run (opened life) life.history s → IsRun life.config life.run life.limit life.history
    → (k : ℕ) (oid : List ℕ) (slot : MapFact) → slot ≡ slot_of config (seen s.standing).activations k oid
    → slot ≡ slot_of life.config (standing life.config life.run life.history).activations k oid
slot_stands life s config config_is is runs k oid slot found =
    found
    ∙ (ap (λ (c : Config). slot_of c (seen s.standing).activations k oid) config_is
    ∙ (answers_state life.config life.run life.limit (opened life) life.history s runs is).slot k oid)

-- what is given of them is what the history says
module _ (life : Life) (r : ℕ) (config : Config) (run : ℕ) (config_is : config ≡ life.config) (run_is : run ≡ life.run) where
  same_facts : facts_of config run life.history r ≡ facts_of life.config life.run life.history r
  same_facts = ap (λ (c : Config). facts_of c run life.history r) config_is ∙ ap (λ (n : ℕ). facts_of life.config n life.history r) run_is

  pub facts_given : (call : Call) (facts : Facts) → call_of life.history r ≡ Some call → is_message (Some call) ≡ true
      → facts ≡ facts_of config run life.history r
      → Some facts ≡ (if is_message (call_of life.history r) then Some (facts_of life.config life.run life.history r) else None)
  facts_given call facts there message is = ap Some (is ∙ same_facts)
      ∙ sym (ap (λ (b : Bool). if b then Some (facts_of life.config life.run life.history r) else None) (ap is_message there ∙ message))

  pub wait_given : (look : Look) (wait : Wait) → is_waiting life.history r ≡ true → look ≡ looked (facts_of config run life.history r) 1
      → wait ≡ wait_by look → Some wait ≡ wait_of life.config life.run life.history r
  wait_given look wait waits is by = ap Some (by ∙ ap wait_by (is ∙ ap (λ (f : Facts). looked f 1) same_facts))
      ∙ sym (ap (λ (b : Bool). if b then Some (wait_by (looked (facts_of life.config life.run life.history r) 1)) else None) waits)
