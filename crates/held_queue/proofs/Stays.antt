-- What blocks a call blocks it after an entry that doesn't free it.
use Rattle.std.specs.Prelude.{◌≡◌, ℕ, ◌<◌, Bool, true, false, ◌&&◌, ◌||◌, List, ◌∷◌, Option, Some, None, refl}
use Rattle.std.proofs.Common.{inl, inr, sym, subst, ap, ap₂, ◌∙◌}
use Rattle.std.proofs.lemmas.Bool.{or_parts}
use Rattle.poa_base.specs.Policies.{is_retain, is_system_id}
use Rattle.poa_base.specs.declared.Key.{Key}
use Rattle.poa_base.specs.declared.Call.{Call}
use Rattle.poa_base.specs.declared.Config.{Config}
use Rattle.poa_base.specs.declared.Entry.{Entry}
use Rattle.poa_choose.specs.Table.{unmade}
use Rattle.poa_choose.specs.declared.Facts.{Facts}
use Rattle.poa_choose.specs.declared.WalkFact.{WalkFact}
use Rattle.poa_choose.specs.declared.WalkFact.TheVariants.{Dying as MeetsDying, Missing as MeetsMissing, Found as Met}
use Rattle.poa_history.specs.Alone.{IsGivenAlone}
use Rattle.history_standing.specs.Arrivals.{arrivals, call_of, is_locate, target_of}
use Rattle.poa_history.specs.Bounds.{IsWithinLimits}
use Rattle.history_standing.specs.Changes.{standing}
use Rattle.history_standing.specs.Commands.{is_bad_id}
use Rattle.poa_history.specs.InFlight.{IsManned}
use Rattle.history_standing.specs.Keys.{key_in}
use Rattle.poa_history.specs.Legal.{IsLegal}
use Rattle.history_standing.specs.Situations.{is_crowded, key_fact, key_or_none, walk_fact, facts_met, facts_of}
use Rattle.poa_history.specs.Sound.{IsGiven, IsSound}
use Rattle.history_standing.specs.Stages.{is_at}
use Rattle.history_standing.specs.Standings.{Standing}
use Rattle.history_standing.specs.Templates.{manager_at}
use Rattle.history_standing.specs.declared.found.Found.{Found}
use Rattle.history_standing.specs.Walks.{walk, adapter_met, child_met, place_met}
use Rattle.poa_history.proofs.LegalSound.{legal_sound}
use Rattle.poa_history.proofs.MannedKept.{all_manned}
use Rattle.held_queue.specs.Blocks.{MeetsAdapter, LacksChild, TakesTurn, Blocks}
use Rattle.held_queue.specs.Frees.{freed_by, frees}
use Rattle.held_queue.specs.declared.freed.Freed.{Freed}
use Rattle.held_queue.specs.declared.hold.Hold.{Hold}
use Rattle.held_queue.specs.declared.hold.Hold.TheVariants.{Manager, Trial, Turn, Main, Id, Change}
use Rattle.held_queue.proofs.Rewalked.{walk_same, trial_at}
use Rattle.held_queue.proofs.Unchanged.{no_command, state_same, crowded_same, smaller}
use Rattle.held_queue.proofs.Landing.{runs_on, tried_on}
use Rattle.held_queue.proofs.Busy.{busy_stays, inactive_stays, changing_stays}
use Rattle.history_standing.proofs.CallsKept.{call_kept}

-- where a hold isn't freed, not all is freed
few_by : (freed : Freed) (hold : Hold) → frees freed hold ≡ false → freed.all ≡ false
few_by freed (Manager m) none = none
few_by freed (Trial k) none = (or_parts freed.all (is_at k freed.landed) none).0
few_by freed (Turn k) none = (or_parts freed.all (is_at k freed.landed) none).0
few_by freed Main none = none
few_by freed (Id n) none = (or_parts freed.all (is_at n freed.moved) none).0
few_by freed (Change k) none = (or_parts freed.all (is_at k freed.changed) none).0

-- what is blocked doesn't meet an adapter that is being destroyed
met_living : (f : Facts) → MeetsAdapter f → f.walk ≡ MeetsDying → ⊥
met_living f meets dying = (let e : Met ≡ MeetsDying = sym meets.met ∙ dying in cc)

lacks_living : (f : Facts) → LacksChild f → f.walk ≡ MeetsDying → ⊥
lacks_living f lacks dying = (let e : MeetsMissing ≡ MeetsDying = sym lacks.met ∙ dying in cc)

blocked_living : (f : Facts) (hold : Hold) → Blocks f hold → f.walk ≡ MeetsDying → ⊥
blocked_living f (Manager m) (inl meets, holding, numbered) = met_living f meets
blocked_living f (Manager m) (inr lacks, holding, numbered) = lacks_living f lacks
blocked_living f (Trial k) (lacks, active, trial, numbered) = lacks_living f lacks
blocked_living f (Turn k) (takes, running) = met_living f takes.adapter
blocked_living f Main waits = met_living f waits.adapter
blocked_living f (Id n) meets = met_living f meets.adapter
blocked_living f (Change k) waits = met_living f waits.adapter

module _ (c : Config) (run limit : ℕ) (past : List Entry) (e : Entry) (given : IsGiven c run) (alone : IsGivenAlone c run) (within : IsWithinLimits c limit)
    (legal : IsLegal c run limit (e ∷ past)) (r : ℕ) (less : r < arrivals past) where
  abbrev s : Standing
  s = standing c run past

  abbrev t : Standing
  t = standing c run (e ∷ past)

  abbrev call : Option Call
  call = call_of past r

  abbrev key : Key
  key = key_or_none (key_in call)

  abbrev found : Found
  found = walk s.nodes key.path

  -- the facts before the entry
  abbrev was : Facts
  was = facts_met c run past s (is_locate call) (is_crowded past r) (key_fact run (target_of call)) key found

  -- and after it, where the walk meets the same
  abbrev now : Facts
  now = facts_met c run (e ∷ past) t (is_locate call) (is_crowded past r) (key_fact run (target_of call)) key found

  sound : IsSound c run s
  sound = legal_sound c run limit past given within legal.1

  manned : IsManned c run past
  manned = all_manned c run limit past given alone within legal.1

  module _ (few : (freed_by c run past e).all ≡ false) where
    now_is : (walk_fact found ≡ MeetsDying → ⊥) → facts_of c run (e ∷ past) r ≡ now
    now_is living =
        ap₂ (λ o b. facts_met c run (e ∷ past) t (is_locate o) b (key_fact run (target_of o)) (key_or_none (key_in o))
        (walk t.nodes (key_or_none (key_in o)).path)) (call_kept e past r less) (crowded_same e past r less)
        ∙ ap (facts_met c run (e ∷ past) t (is_locate call) (is_crowded past r) (key_fact run (target_of call)) key) same_walk
      where
        same_walk : walk t.nodes key.path ≡ found
        same_walk =
            (let small = smaller c run past e few in ap (λ ns. walk ns key.path) small.nodes ∙ walk_same s.nodes small.keep small.living key.path living)

    state : now.state ≡ was.state
    state = state_same c past e (manager_at c (place_met found key.path)) (no_command c run past e few)

    made : unmade now ≡ unmade was
    made = ap (λ m. is_retain was.policies.retention && (is_system_id was.policies.assignment && is_bad_id c run m key.path key.oid))
        (smaller c run past e few).made

    meets_on : MeetsAdapter was → MeetsAdapter now
    meets_on meets = record { uncrowded = meets.uncrowded; ours = meets.ours; met = meets.met; same = meets.same; own_tag = meets.own_tag }

    lacks_on : LacksChild was → LacksChild now
    lacks_on lacks = record { uncrowded = lacks.uncrowded; ours = lacks.ours; met = lacks.met; lasting = lacks.lasting }

    takes_on : (k : ℕ) → TakesTurn k was → TakesTurn k now
    takes_on k takes =
        record { adapter = meets_on takes.adapter; active = state ∙ takes.active; request = takes.request; single = takes.single; numbered = takes.numbered }

    blocks_on : (hold : Hold) → frees (freed_by c run past e) hold ≡ false → Blocks was hold → Blocks now hold
    blocks_on (Manager m) still (inl meets, holding, numbered) = (inl (meets_on meets), state ∙ holding, numbered)
    blocks_on (Manager m) still (inr lacks, holding, numbered) = (inr (lacks_on lacks), state ∙ holding, numbered)
    blocks_on (Trial k) still (lacks, active, trial, numbered) = (
      lacks_on lacks,
      state ∙ active,
      tried_on c run past manned sound limit e legal.0 few (child_met found key.path) k
          (λ f there q tries same. trial_at c run s sound key.path lacks.met f there q tries same ∙ numbered)
          (or_parts (freed_by c run past e).all (is_at k (freed_by c run past e).landed) still).1 trial,
      numbered,
    )
    blocks_on (Turn k) still (takes, running) = (
      takes_on k takes,
      runs_on c run past manned sound limit e legal.0 few (adapter_met found)
          (ap (λ x. is_at x (freed_by c run past e).landed) takes.numbered
          ∙ (or_parts (freed_by c run past e).all (is_at k (freed_by c run past e).landed) still).1) running,
    )
    blocks_on Main still waits = record { adapter = meets_on waits.adapter; active = state ∙ waits.active; request = waits.request; main = waits.main }
    blocks_on (Id n) still meets = record {
      adapter = meets_on meets.adapter;
      active = state ∙ meets.active;
      retains = meets.retains;
      busy = busy_stays c run limit past e given alone within legal few (adapter_met found) key.oid n
          (or_parts (freed_by c run past e).all (is_at n (freed_by c run past e).moved) still).1 meets.busy;
    }
    blocks_on (Change k) still waits =
        let other : is_at (adapter_met found) (freed_by c run past e).changed ≡ false =
        ap (λ x. is_at x (freed_by c run past e).changed) waits.numbered
        ∙ (or_parts (freed_by c run past e).all (is_at k (freed_by c run past e).changed) still).1 in
        record {
          adapter = meets_on waits.adapter;
          active = state ∙ waits.active;
          request = waits.request;
          retains = waits.retains;
          inactive = inactive_stays c run limit past e given alone within legal few (adapter_met found) key.oid other waits.inactive;
          managed = waits.managed;
          made = made ∙ waits.made;
          ruled = waits.ruled;
          busy = changing_stays c run limit past e given alone within legal few (adapter_met found) other waits.busy;
          numbered = waits.numbered;
        }

    pub turn_stays : (k : ℕ) → TakesTurn k (facts_of c run past r) → TakesTurn k (facts_of c run (e ∷ past) r)
    turn_stays k takes = subst (λ f. TakesTurn k f) (sym (now_is (met_living was takes.adapter))) (takes_on k takes)

  pub still_blocked : (hold : Hold) → frees (freed_by c run past e) hold ≡ false → Blocks (facts_of c run past r) hold
      → Blocks (facts_of c run (e ∷ past) r) hold
  still_blocked hold still blocks =
      let few = few_by (freed_by c run past e) hold still in
      subst (λ f. Blocks f hold) (sym (now_is few (blocked_living was hold blocks))) (blocks_on few hold still blocks)
