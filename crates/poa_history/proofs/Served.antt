-- What the Admit of a request to a servant tells of what stands.
use Rattle.std.specs.Prelude.{◌≡◌, ℕ, Bool, true, false, not, ◌&&◌, ◌==◌, List, length, find, Option, Some, None, refl}
use Rattle.std.proofs.Common.{sym, ap, ap₂, ◌∙◌}
use Rattle.std.proofs.lemmas.Bool.{and_parts, true≢false, eqb-true, false_from_ne_true}
use Rattle.poa_base.specs.Policies.{is_single_thread}
use Rattle.poa_base.specs.declared.Config.{Config}
use Rattle.poa_base.specs.declared.Key.{Key}
use Rattle.poa_base.specs.declared.Call.{Call}
use Rattle.poa_base.specs.declared.Call.TheVariants.{Request, Locate, Line}
use Rattle.poa_base.specs.declared.Entry.{Entry}
use Rattle.poa_base.specs.declared.Verdict.{Verdict}
use Rattle.poa_base.specs.declared.Verdict.TheVariants.{Serve, Preset, Locator, Incarnate}
use Rattle.poa_choose.specs.declared.Choice.TheVariants.{Go}
use Rattle.poa_choose.specs.declared.Facts.{Facts}
use Rattle.poa_choose.specs.declared.MapFact.TheVariants.{Active as ActiveAs, Busy, Free}
use Rattle.poa_choose.specs.declared.WalkFact.TheVariants.{Dying as MeetsDying, Missing as MeetsMissing, Found as MeetsAdapter}
use Rattle.poa_choose.specs.Table.{first_row}
use Rattle.history_standing.specs.declared.node.Node.{Node}
use Rattle.history_standing.specs.declared.activation.Activation.{Activation}
use Rattle.history_standing.specs.Templates.{policies_at, has_activator}
use Rattle.history_standing.specs.Arrivals.{call_of, is_locate, target_of}
use Rattle.history_standing.specs.Paths.{same_bytes}
use Rattle.history_standing.specs.Standings.{Standing, is_active, is_of, is_running}
use Rattle.history_standing.specs.Ends.{is_over}
use Rattle.history_standing.specs.declared.found.Found.{Found}
use Rattle.history_standing.specs.declared.found.Found.TheVariants.{Live, Dying, Missing}
use Rattle.history_standing.specs.Walks.{walk, adapter_met}
use Rattle.history_standing.specs.Trees.{In}
use Rattle.history_standing.specs.Keys.{key_in}
use Rattle.history_standing.specs.Changes.{standing}
use Rattle.history_standing.specs.Situations.{walk_fact, slot_of, is_changing, key_fact, key_or_none, is_crowded, facts_met, facts_of}
use Rattle.poa_history.specs.Verdicts.{verdict_on}
use Rattle.poa_history.specs.Sound.{IsSound}
use Rattle.history_standing.proofs.Finding.{find_in}
use Rattle.history_standing.proofs.Leading.{bytes_same}
use Rattle.history_standing.proofs.WalkStands.{Tells, walk_tells}
use Rattle.poa_history.proofs.StepMoves.{chosen_go}
use Rattle.poa_history.proofs.TableRuns.{is_run, RunsBy, serves, presets, locates, incarnates, runs_where}

module _ (c : Config) (run : ℕ) (past : List Entry) (sound : IsSound c run (standing c run past)) (w r : ℕ) (v : Verdict) (key : Key) where
  abbrev s : Standing
  s = standing c run past

  abbrev met : ℕ
  met = adapter_met (walk s.nodes key.path)

  -- by which activation it is served, if by one
  pub data ServedBy : Type 0 where
    active : (a : Activation) → In a s.activations → a.adapter ≡ met → a.oid ≡ key.oid → is_active a ≡ true → Serve a.number ≡ v → ServedBy
    preset : (name : List ℕ) → Preset name ≡ v → ServedBy
    located : (name : List ℕ) → Locator name ≡ v → ServedBy
    incarnated : has_activator c key.path ≡ true → is_changing c s.activations met ≡ false → Incarnate (length s.activations) ≡ v → ServedBy

  pub record IsServed : Type 0 where
    -- the adapter lives
    pub node : Node
    pub stands : In node s.nodes
    pub numbered : node.number ≡ met
    pub placed : node.path ≡ key.path
    pub living : node.dying ≡ false
    -- under SINGLE_THREAD_MODEL no request is in flight in it
    pub alone : is_single_thread (policies_at c key.path).thread ≡ true → is_running s.flights met ≡ false
    pub how : ServedBy

  module _ (runs : is_run v ≡ true) (locate : Bool) (call : Option Call) where
    abbrev facts : Facts
    facts = facts_met c run past s locate (is_crowded past r) (key_fact run (target_of call)) key (walk s.nodes key.path)

    active_by : (n : ℕ) → slot_of c s.activations met key.oid ≡ ActiveAs n → (a : Activation) × In a s.activations × (is_of met key.oid a ≡ true)
        × (is_active a ≡ true) × (a.number ≡ n)
    active_by n slot =
        elim (find (λ a. is_of met key.oid a && is_active a) s.activations) as (λ o. find (λ a. is_of met key.oid a && is_active a) s.activations ≡ o
        → (elim o [
          | Some a ↦ ActiveAs a.number
          | None ↦ elim (find (λ a. is_of met key.oid a && not (is_over c a)) s.activations) [ Some a ↦ Busy a.number | None ↦ Free ]
        ]) ≡ ActiveAs n → (a : Activation) × In a s.activations × (is_of met key.oid a ≡ true) × (is_active a ≡ true) × (a.number ≡ n)) [
          | Some a ↦ λ found same.
              (let there = find_in (λ b. is_of met key.oid b && is_active b) a s.activations found in
              let parts = and_parts (is_of met key.oid a) (is_active a) there.1 in
              (a, there.0, parts.0, parts.1, (let e : ActiveAs a.number ≡ ActiveAs n = same in cc)))
          | None ↦
              λ _ same. absurd
              (elim (find (λ a. is_of met key.oid a && not (is_over c a)) s.activations) as (λ o. (elim o [ Some a ↦ Busy a.number | None ↦ Free ]) ≡ ActiveAs n
              → ⊥)
              [ Some a ↦ λ e. (let f : Busy a.number ≡ ActiveAs n = e in cc) | None ↦ λ e. (let f : Free ≡ ActiveAs n = e in cc) ] same)
        ] refl slot

    how_by : RunsBy facts v → ServedBy
    how_by (serves n slot same) =
        (let (a, there, of_id, is, numbered) = active_by n slot in
        let parts = and_parts (a.adapter == met) (same_bytes a.oid key.oid) of_id in
        active a there (eqb-true a.adapter met parts.0) (bytes_same a.oid key.oid parts.1) is (ap (λ m. Serve m) numbered ∙ same))
    how_by (presets name same) = preset name same
    how_by (locates name same) = located name same
    how_by (incarnates free asks same) = incarnated (ap₂ (λ a b. a && b) (ap₂ (λ a b. a && b) asks.retains asks.manages) asks.ruled) asks.idle same

    by_found : (found : Found) → Tells s.nodes key.path found → walk_fact found ≡ MeetsAdapter → (n : Node) × In n s.nodes × (n.number ≡ adapter_met found)
        × (n.path ≡ key.path) × (n.dying ≡ false)
    by_found (Live k) tells is = tells
    by_found (Dying k) tells is = absurd (let e : MeetsDying ≡ MeetsAdapter = is in cc)
    by_found (Missing k depth) tells is = absurd (let e : MeetsMissing ≡ MeetsAdapter = is in cc)

    by_row : first_row facts w ≡ Go v → IsServed
    by_row row =
        let told = runs_where facts v runs w row in
        let (n, stands, numbered, placed, living) = by_found (walk s.nodes key.path) (walk_tells s.nodes s.count key.path sound.tree) told.found in
        record {
          node = n;
          stands = stands;
          numbered = numbered;
          placed = placed;
          living = living;
          alone = λ single. false_from_ne_true (is_running s.flights met)
              (λ running. true≢false (sym (ap₂ (λ a b. a && b) (ap not told.request) (ap₂ (λ a b. a && b) single running)) ∙ told.alone));
          how = how_by told.how;
        }

  pub served_by : is_run v ≡ true → verdict_on c run past r w (call_of past r) ≡ Some v → key_in (call_of past r) ≡ Some key → IsServed
  served_by runs told has = by_call (call_of past r) refl told has
    where
      by_call : (call : Option Call) → call_of past r ≡ call → verdict_on c run past r w call ≡ Some v → key_in call ≡ Some key → IsServed
      by_call None at told' has' = absurd (let e : None ≡ Some key = has' in cc)
      by_call (Some (Line number command)) at told' has' = absurd (let e : None ≡ Some key = has' in cc)
      by_call (Some (Request head target operation body)) at told' has' =
          by_row runs (is_locate (Some (Request head target operation body))) (Some (Request head target operation body))
          (ap (λ k. first_row
          (facts_met c run past s (is_locate (Some (Request head target operation body))) (is_crowded past r)
          (key_fact run (target_of (Some (Request head target operation body)))) k (walk s.nodes k.path)) w) (sym (ap key_or_none has'))
          ∙ (ap (λ q. first_row
          (facts_met c run past s (is_locate q) (is_crowded past r) (key_fact run (target_of q)) (key_or_none (key_in q))
          (walk s.nodes (key_or_none (key_in q)).path)) w) (sym at) ∙ chosen_go (first_row (facts_of c run past r) w) v told'))
      by_call (Some (Locate head target)) at told' has' =
          by_row runs (is_locate (Some (Locate head target))) (Some (Locate head target))
          (ap (λ k. first_row
          (facts_met c run past s (is_locate (Some (Locate head target))) (is_crowded past r) (key_fact run (target_of (Some (Locate head target)))) k
          (walk s.nodes k.path)) w) (sym (ap key_or_none has'))
          ∙ (ap (λ q. first_row
          (facts_met c run past s (is_locate q) (is_crowded past r) (key_fact run (target_of q)) (key_or_none (key_in q))
          (walk s.nodes (key_or_none (key_in q)).path)) w) (sym at) ∙ chosen_go (first_row (facts_of c run past r) w) v told'))
