-- The entries of connections take nothing back: what is over stays over, nothing begins, and what is decided stays decided.
use Rattle.std.proofs.Common.{◌≡◌, ℕ, Bool, true, false, List, [], ◌∷◌, ◌++◌, Some, None, refl, sym, ap, ◌∙◌, inl, inr}
use Rattle.std.proofs.lemmas.Bool.{or_cases}
use Rattle.poa_base.specs.declared.Command.TheVariants.{Activate, ActivateId, Reference}
use Rattle.poa_base.specs.declared.Config.{Config}
use Rattle.poa_base.specs.declared.Entry.{Entry}
use Rattle.poa_base.specs.declared.Entry.TheVariants.{Entered, Arrive, Filled, Left, Collect, Admit, Tried, Incarnated, Run, Done, TakeOut, Etherealized, Abandon}
use Rattle.history_standing.specs.Changes.{standing}
use Rattle.history_standing.specs.Ends.{is_finished, is_over}
use Rattle.poa_history.specs.Later.{IsLater}
use Rattle.history_standing.specs.Logs.{command_done}
use Rattle.poa_history.specs.Replies.{decided}
use Rattle.history_standing.specs.Standings.{is_void}
use Rattle.history_standing.specs.declared.activation.Activation.{Activation}
use Rattle.history_standing.specs.declared.activation.Phase.{Phase}
use Rattle.history_standing.specs.declared.activation.Phase.TheVariants.{Begun, Complete, Void}
use Rattle.poa_history.proofs.ActivationsFrom.{activation_from, activating, activating_id, begun, incarnating, referring, stood, BegunBy}
use Rattle.poa_history.proofs.SettledKept.{or_first, or_second}
use Rattle.history_standing.specs.Trees.{In}
use Rattle.history_laws.proofs.Decided.{decided_still}
use Rattle.poa_history.specs.Owners.{worker_of}
use Rattle.history_laws.specs.Closing.{HasNoTurn}

none_done : (past : List Entry) (e : Entry) → worker_of e ≡ None → command_done past e ≡ None
none_done past (Entered conn) none = refl
none_done past (Arrive conn size call) none = refl
none_done past (Filled conn size) none = refl
none_done past (Left conn) none = refl
none_done past (Collect conn a) none = refl
none_done past (Admit w r v) none = absurd (let f : Some w ≡ None = none in cc)
none_done past (Tried w a) none = refl
none_done past (Incarnated w a) none = refl
none_done past (Run w) none = refl
none_done past (Done w) none = refl
none_done past (TakeOut w n x) none = refl
none_done past (Etherealized w x y) none = refl
none_done past (Abandon w) none = refl

void_phase : (a : Activation) → is_void a ≡ true → a.phase ≡ Void
void_phase a = by_phase a.phase
  where
    by_phase : (p : Phase) → (elim p as (λ _. Bool) [ Void ↦ true | Begun ↦ false | Complete s ↦ false ]) ≡ true → p ≡ Void
    by_phase Void is = refl
    by_phase Begun is = absurd (let e : false ≡ true = is in cc)
    by_phase (Complete s) is = absurd (let e : false ≡ true = is in cc)

over_later : (c : Config) (a b : Activation) → IsLater c a b → is_over c a ≡ true → is_over c b ≡ true
over_later c a b later over =
    elim (or_cases (is_void a) (is_finished c a) over) [
      | inl void ↦
          or_first (is_void b) (is_finished c b)
          (ap (λ p. elim p as (λ _. Bool) [ Void ↦ true | Begun ↦ false | Complete s ↦ false ]) (later.void (void_phase a void)))
      | inr finished ↦ or_second (is_void b) (is_finished c b) (later.finished finished)
    ]

module _ (c : Config) (run limit : ℕ) where
  abbrev AreOver : List Entry → Type 0
  AreOver h = (a : Activation) → In a (standing c run h).activations → is_over c a ≡ true

  none_begun : (past : List Entry) (e : Entry) (b : Activation) → worker_of e ≡ None → BegunBy c run past (standing c run past) e b → ⊥
  none_begun past e b none (incarnating w r n key same key_is adapter path oid phase) = (let f : Some w ≡ None = ap worker_of (sym same) ∙ none in cc)
  none_begun past e b none (activating p servant done adapter path oid phase) =
      (let f : Some (Activate p servant) ≡ None = sym done ∙ none_done past e none in cc)
  none_begun past e b none (activating_id p oid servant done adapter path oid_is phase) =
      (let f : Some (ActivateId p oid servant) ≡ None = sym done ∙ none_done past e none in cc)
  none_begun past e b none (referring p servant n k done live servant_is implicit adapter path oid phase) =
      (let f : Some (Reference p servant) ≡ None = sym done ∙ none_done past e none in cc)

  over_after : (past : List Entry) (e : Entry) → worker_of e ≡ None → AreOver past → AreOver (e ∷ past)
  over_after past e none over b there =
      elim (activation_from c run past e b there) [
        | stood a was step ↦ over_later c a b step.later (over a was)
        | begun it ↦ absurd (none_begun past e b none it.how)
      ]

  pub overs_stay : (more h : List Entry) → HasNoTurn more → AreOver h → AreOver (more ++ h)
  overs_stay [] h none over = over
  overs_stay (e ∷ more) h none over = over_after (more ++ h) e none.0 (overs_stay more h none.1 over)

  pub decisions_stay : (more h : List Entry) (r : ℕ) → decided c run h r ≡ true → decided c run (more ++ h) r ≡ true
  decisions_stay [] h r done = done
  decisions_stay (e ∷ more) h r done = decided_still c run limit (more ++ h) e r (decisions_stay more h r done)
