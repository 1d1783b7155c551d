-- The facts about an arrival are those about its call, by what answers as what stands after the history.
use Rattle.std.proofs.Common.{◌≡◌, ℕ, Bool, List, ap, ap₂, sym, ◌∙◌}
use Rattle.std.specs.Prelude.{Some, length}
use Rattle.poa_base.specs.declared.Config.{Config}
use Rattle.poa_base.specs.declared.Call.{Call}
use Rattle.poa_base.specs.declared.Entry.{Entry}
use Rattle.poa_base.specs.declared.Key.{Key}
use Rattle.poa_choose.specs.declared.Facts.{Facts}
use Rattle.poa_choose.specs.declared.KeyFact.{KeyFact}
use Rattle.history_standing.specs.declared.found.Found.{Found}
use Rattle.history_standing.specs.Walks.{walk, adapter_met}
use Rattle.history_standing.specs.Arrivals.{call_of, is_locate, target_of}
use Rattle.history_standing.specs.Keys.{key_in}
use Rattle.history_standing.specs.Standings.{Standing}
use Rattle.history_standing.specs.Changes.{standing}
use Rattle.history_standing.specs.Situations.{facts_met, facts_of, is_crowded, key_fact, key_or_none}
use Rattle.core_standing.specs.Answers.{AnswersAs}

-- what answers as what stands is met with the same facts
met_same : (c : Config) (run : ℕ) (past : List Entry) (t : Standing) → AnswersAs c run past t
    → (locate crowded : Bool) (fact : KeyFact) (key : Key) (found : Found)
    → facts_met c run past t locate crowded fact key found ≡ facts_met c run past (standing c run past) locate crowded fact key found
met_same c run past t answers locate crowded fact key found =
    ap (λ u. facts_met c run past u locate crowded fact key found) answers.same
    ∙ ap (λ slot. record at { slot = slot; busy = (facts_met c run past on locate crowded fact key found).busy; next = length t.activations })
    (answers.slot (adapter_met found) key.oid)
    ∙ ap₂ (λ busy next. record at { busy = busy; next = next }) (answers.changing (adapter_met found)) answers.begun
  where
    on : Standing
    on = record (standing c run past) { activations = t.activations }

    at : Facts
    at = facts_met c run past (standing c run past) locate crowded fact key found

-- facts about equal things are equal
moved : (c : Config) (run : ℕ) (past : List Entry) (s : Standing) (l l' w w' : Bool) (f f' : KeyFact) (k k' : Key) (m m' : Found) → l ≡ l' → w ≡ w' → f ≡ f'
    → k ≡ k' → m ≡ m' → facts_met c run past s l w f k m ≡ facts_met c run past s l' w' f' k' m'
moved c run past s l l' w w' f f' k k' m m' b d e g h =
    ap (λ x. facts_met c run past s x w f k m) b
    ∙ ap (λ x. facts_met c run past s l' x f k m) d
    ∙ ap (λ x. facts_met c run past s l' w' x k m) e
    ∙ ap (λ x. facts_met c run past s l' w' f' x m) g
    ∙ ap (λ x. facts_met c run past s l' w' f' k' x) h

pub facts_are : (c : Config) (run : ℕ) (past : List Entry) (r : ℕ) (call : Call) (t : Standing) (locate crowded : Bool) (fact : KeyFact) (key : Key)
    (found : Found) → AnswersAs c run past t → call_of past r ≡ Some call → locate ≡ is_locate (Some call) → crowded ≡ is_crowded past r
    → fact ≡ key_fact run (target_of (Some call)) → key ≡ key_or_none (key_in (Some call)) → found ≡ walk t.nodes key.path
    → facts_met c run past t locate crowded fact key found ≡ facts_of c run past r
facts_are c run past r call t locate crowded fact key found answers arrived is_l is_w is_f is_k is_m =
    let key_is : key ≡ key_or_none (key_in (call_of past r)) = is_k ∙ ap (λ o. key_or_none (key_in o)) (sym arrived) in
    met_same c run past t answers locate crowded fact key found
    ∙ moved c run past (standing c run past) locate (is_locate (call_of past r)) crowded (is_crowded past r) fact
    (key_fact run (target_of (call_of past r))) key (key_or_none (key_in (call_of past r))) found
    (walk (standing c run past).nodes (key_or_none (key_in (call_of past r))).path)
    (is_l ∙ ap is_locate (sym arrived))
    is_w
    (is_f ∙ ap (λ o. key_fact run (target_of o)) (sym arrived))
    key_is
    (is_m ∙ ap (λ u. walk u.nodes key.path) answers.same ∙ ap (λ k. walk (standing c run past).nodes k.path) key_is)
