-- What stands about a request or a locate: the facts that the table of verdicts asks.
use Rattle.std.specs.Prelude.{ℕ, Bool, true, false, not, ◌&&◌, ◌||◌, ◌==◌, nat_le, if◌then◌else◌, List, [], ◌∷◌, length, find, Option, Some, None, is_some}
use Rattle.std.specs.List.{list_any}
use Rattle.poa_base.specs.declared.limits.TheConstants.{UNADMITTED}
use Rattle.poa_base.specs.declared.Config.{Config}
use Rattle.poa_base.specs.declared.Key.{Key}
use Rattle.poa_base.specs.declared.Entry.{Entry}
use Rattle.poa_base.specs.declared.Entry.TheVariants.{Arrive}
use Rattle.poa_choose.specs.declared.Facts.{Facts}
use Rattle.poa_choose.specs.declared.KeyFact.{KeyFact}
use Rattle.poa_choose.specs.declared.KeyFact.TheVariants.{Absent, Bad, OtherRun, Transient, Persistent}
use Rattle.poa_choose.specs.declared.WalkFact.{WalkFact}
use Rattle.poa_choose.specs.declared.WalkFact.TheVariants.{Dying as MeetsDying, Missing as MeetsMissing, Found as MeetsAdapter}
use Rattle.poa_choose.specs.declared.MapFact.{MapFact}
use Rattle.poa_choose.specs.declared.MapFact.TheVariants.{Active, Busy, Free}
use Rattle.history_standing.specs.declared.activation.Activation.{Activation}
use Rattle.history_standing.specs.Searches.{count_below}
use Rattle.history_standing.specs.Templates.{template_or_root, policies_at, manager_at, rules_at, lasts, is_other_tag}
use Rattle.history_standing.specs.Arrivals.{arrivals, call_of, is_message, is_locate, target_of}
use Rattle.history_standing.specs.Stages.{is_unadmitted}
use Rattle.history_standing.specs.Standings.{Standing, is_begun, is_active, is_of, is_running, is_tried}
use Rattle.history_standing.specs.declared.found.Found.{Found}
use Rattle.history_standing.specs.declared.found.Found.TheVariants.{Live, Dying, Missing}
use Rattle.history_standing.specs.Walks.{walk, adapter_met, child_met, place_met}
use Rattle.history_standing.specs.Ends.{is_finished, is_over}
use Rattle.history_standing.specs.Keys.{key_of, key_in}
use Rattle.history_standing.specs.Logs.{manager_state, preset_of, forward_of}
use Rattle.history_standing.specs.Rules.{located}
use Rattle.history_standing.specs.Commands.{is_bad_id}
use Rattle.history_standing.specs.Changes.{standing}

-- how many requests and locates stand unadmitted
abbrev pub waiting_messages : List Entry → ℕ
waiting_messages past = count_below (λ r. is_unadmitted past r && is_message (call_of past r)) (arrivals past)

-- so many stood unadmitted when it arrived
abbrev pub is_crowded : List Entry → ℕ → Bool
is_crowded [] r = false
is_crowded (Arrive conn size call ∷ past) r = if r == arrivals past then nat_le UNADMITTED (waiting_messages past) else is_crowded past r
is_crowded (e ∷ past) r = is_crowded past r

abbrev pub key_fact : ℕ → Option (List ℕ) → KeyFact
key_fact run None = Absent
key_fact run (Some bytes) =
    elim (key_of bytes) [
      | None ↦ Bad
      | Some key ↦ elim key.stamp [
        | None ↦ Persistent
        | Some stamp ↦ (if stamp.run == run then Transient else OtherRun)
      ]
    ]

abbrev pub walk_fact : Found → WalkFact
walk_fact (Live k) = MeetsAdapter
walk_fact (Dying k) = MeetsDying
walk_fact (Missing k depth) = MeetsMissing

-- the lifespan differs, or the number that a transient key gives
abbrev pub differs : Config → Key → ℕ → Bool
differs c key k =
    elim key.stamp [
      | None ↦ not (lasts (policies_at c key.path))
      | Some stamp ↦ lasts (policies_at c key.path) || not (stamp.number == k)
    ]

-- the key is persistent and has another tag than the template of its path
abbrev pub other_tag : Config → Key → Bool
other_tag c key =
    elim key.stamp [
      | None ↦ is_other_tag (template_or_root c key.path) key.tag
      | Some stamp ↦ false
    ]

-- the activation of the id that is active, or the one that is on its way in or out
abbrev pub slot_of : Config → List Activation → ℕ → List ℕ → MapFact
slot_of c activations k oid =
    elim (find (λ a. is_of k oid a && is_active a) activations) [
      | Some a ↦ Active a.number
      | None ↦ elim (find (λ a. is_of k oid a && not (is_over c a)) activations) [ Some a ↦ Busy a.number | None ↦ Free ]
    ]

-- its incarnation or etherealization hasn't ended
abbrev pub is_unfinished : Config → Activation → Bool
is_unfinished c a = is_begun a || (a.out && not (is_finished c a))

abbrev pub is_changing : Config → List Activation → ℕ → Bool
is_changing c activations k = list_any (λ a. (a.adapter == k) && is_unfinished c a) activations

-- what stands about a key, given what the walk meets
abbrev pub facts_met : Config → ℕ → List Entry → Standing → Bool → Bool → KeyFact → Key → Found → Facts
facts_met c run past s locate crowded fact key found =
    record {
      locate = locate;
      crowded = crowded;
      key = fact;
      walk = walk_fact found;
      adapter = adapter_met found;
      manager = manager_at c (place_met found key.path);
      state = manager_state c past (manager_at c (place_met found key.path));
      trial = is_tried s.flights (child_met found key.path);
      tries = is_some (template_or_root c (place_met found key.path)).children;
      entry = forward_of c past key.path;
      differs = differs c key (adapter_met found);
      other_tag = other_tag c key;
      policies = policies_at c key.path;
      running = is_running s.flights (adapter_met found);
      slot = slot_of c s.activations (adapter_met found) key.oid;
      bad_id = is_bad_id c run s.made key.path key.oid;
      preset = preset_of c past key.path;
      rules = elim (rules_at c key.path) [ [] ↦ false | _ ∷ _ ↦ true ];
      busy = is_changing c s.activations (adapter_met found);
      next = length s.activations;
      located = located c key.path key.oid;
    }

-- where there is no key the table asks for none of what a key would tell
abbrev pub no_key : Key
no_key = record { stamp = None; path = []; oid = []; tag = 0 }

abbrev pub key_or_none : Option Key → Key
key_or_none None = no_key
key_or_none (Some key) = key

-- what stands about an arrival
abbrev pub facts_of : Config → ℕ → List Entry → ℕ → Facts
facts_of c run past r =
    let call = call_of past r in
    let key = key_or_none (key_in call) in
    let s = standing c run past in
    facts_met c run past s (is_locate call) (is_crowded past r) (key_fact run (target_of call)) key (walk s.nodes key.path)
