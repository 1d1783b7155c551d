-- What an entry does leaves the servants in the states of the history that goes on with it.
use Rattle.std.specs.Prelude.{◌≡◌, ℕ, Bool, true, false, ◌∷◌, Option, None, option_map, Result, IfOk, refl}
use Rattle.std.proofs.Common.{sym, subst, ap, ◌∙◌}
use Rattle.std.proofs.lemmas.Result.{IfOk-weaker}
use Rattle.poa_base.specs.declared.Config.{Config}
use Rattle.poa_base.specs.declared.Call.{Call}
use Rattle.poa_base.specs.declared.Outcome.{Outcome}
use Rattle.poa_base.specs.declared.Sid.{Sid}
use Rattle.poa_base.specs.declared.Entry.{Entry}
use Rattle.poa_base.specs.declared.Entry.TheVariants.{Entered, Arrive, Filled, Left, Collect, Admit, Tried, Incarnated, Run, Done, TakeOut, Etherealized, Abandon}
use Rattle.poa_base.specs.declared.Incarnation.{Incarnation}
use Rattle.poa_base.specs.declared.Incarnation.TheVariants.{Fresh, Named, Double, Forward, Raise}
use Rattle.history_standing.specs.declared.stage.Stage.{Stage}
use Rattle.history_standing.specs.declared.stage.Stage.TheVariants.{Free, Trying, Incarnating, Serving, Ran, Removing}
use Rattle.history_standing.specs.Changes.{standing}
use Rattle.poa_history.specs.Legal.{IsLegal}
use Rattle.history_standing.specs.Stages.{stage}
use Rattle.history_standing.specs.Standings.{Standing}
use Rattle.poa_history.specs.States.{acted, call_run, servant_run, state_of}
use Rattle.core_state.specs.Comes.{Comes, HoldsThen, TellsThen, outcome_told, worker_of}
use Rattle.core_state.specs.Holds.{ServantsAgree}
use Rattle.core_state.specs.Kept.{Kept}
use Rattle.core_standing.specs.Answers.{works_on}
use Rattle.core_state.specs.Steps.{Brings, IsActed, Incarnates, Etherealizes, HasRoom, removed, removed_of, outcome_in}
use Rattle.core_state.proofs.QuietHolds.{is_quiet, quiet_holds}
use Rattle.core_state.proofs.RunHolds.{run_holds, run_tells}
use Rattle.core_state.proofs.BroughtHolds.{IsOf, is_of_it, brought_holds}
use Rattle.core_state.proofs.StoredHolds.{ended_holds, room_held}

-- an entry that runs, incarnates and etherealizes nothing is quiet
pub quiet_unless : (e : Entry) → ((w : ℕ) (answer : Incarnation) → e ≡ Incarnated w answer → ⊥) → ((w : ℕ) → e ≡ Run w → ⊥)
    → ((w : ℕ) (cleanup remaining : Bool) → e ≡ Etherealized w cleanup remaining → ⊥) → is_quiet e ≡ true
quiet_unless (Entered conn) incarnates runs ends = refl
quiet_unless (Arrive conn size call) incarnates runs ends = refl
quiet_unless (Filled conn size) incarnates runs ends = refl
quiet_unless (Left conn) incarnates runs ends = refl
quiet_unless (Collect conn a) incarnates runs ends = refl
quiet_unless (Admit w r v) incarnates runs ends = refl
quiet_unless (Tried w a) incarnates runs ends = refl
quiet_unless (Incarnated w a) incarnates runs ends = absurd (incarnates w a refl)
quiet_unless (Run w) incarnates runs ends = absurd (runs w refl)
quiet_unless (Done w) incarnates runs ends = refl
quiet_unless (TakeOut w n x) incarnates runs ends = refl
quiet_unless (Etherealized w x y) incarnates runs ends = absurd (ends w x y refl)
quiet_unless (Abandon w) incarnates runs ends = refl

module _ (c : Config) (e : Entry) (begun : Stage) (call : Option Call) (runs : Option Sid) (s : Standing) (old : Kept) where
  pub quiet_then : is_quiet e ≡ true → HoldsThen c e begun call runs s old old
  quiet_then quiet k = quiet_holds c k.run k.limit k.opened k.past e k.given k.within k.legal quiet old k.holds

  runs_are : (w : ℕ) → e ≡ Run w → (k : Comes c e begun call runs s old) → runs ≡ servant_run c k.run k.past (stage k.past w)
  runs_are w is k = k.servant_is ∙ ap (servant_run c k.run k.past) (k.at_stage w (ap worker_of is))

  call_runs : (w : ℕ) → e ≡ Run w → (k : Comes c e begun call runs s old) → call ≡ call_run k.past (stage k.past w)
  call_runs w is k = k.call_is ∙ ap (call_run k.past) (k.at_stage w (ap worker_of is))

  pub run_then : (w : ℕ) → e ≡ Run w → (new : Kept) → IsActed runs call old new → HoldsThen c e begun call runs s old new
  run_then w is new activations k =
      subst (λ x. ServantsAgree c k.run k.opened (x ∷ k.past) new) (sym is)
      (run_holds c k.run k.limit k.opened k.past w k.given k.alone k.within (subst (λ x. IsLegal c k.run k.limit (x ∷ k.past)) is k.legal) old new k.holds
      (subst (λ x. IsActed (servant_run c k.run k.past (stage k.past w)) x old new) (call_runs w is k)
      (subst (λ x. IsActed x call old new) (runs_are w is k) activations)))

  pub run_tells_then : (w : ℕ) → e ≡ Run w → (outcome : Option Outcome) → outcome ≡ outcome_in runs call old → TellsThen c e begun call runs s old outcome
  run_tells_then w is outcome told k =
      told
      ∙ subst (λ r. outcome_in r call old ≡ option_map (λ u. (acted (state_of c k.run k.opened k.past u) call).1) r) (sym (runs_are w is k))
      (run_tells c k.run k.limit k.opened k.past w k.given k.alone k.within (subst (λ x. IsLegal c k.run k.limit (x ∷ k.past)) is k.legal) old k.holds call)
      ∙ ap (λ x. outcome_told c k.run k.opened k.past x runs call) (sym is)

  pub told_then : {E : Type 0} (r : Result (Option Outcome) E) (w : ℕ) → e ≡ Run w → IfOk r (λ outcome. outcome ≡ outcome_in runs call old)
      → IfOk r (λ outcome. TellsThen c e begun call runs s old outcome)
  told_then r w is =
      IfOk-weaker r (λ outcome. outcome ≡ outcome_in runs call old) (λ outcome. TellsThen c e begun call runs s old outcome)
      (λ outcome told. run_tells_then w is outcome told)

  its : (w m : ℕ) (is : e ≡ Incarnated w (Fresh m)) (k : Comes c e begun call runs s old)
      → IsOf c k.run k.limit k.opened k.past w m k.given k.alone k.within (subst (λ x. IsLegal c k.run k.limit (x ∷ k.past)) is k.legal)
  its w m is k = is_of_it c k.run k.limit k.opened k.past w m k.given k.alone k.within (subst (λ x. IsLegal c k.run k.limit (x ∷ k.past)) is k.legal)

  -- the worker brings the servant of the activation that it is at
  brought_of : (w m : ℕ) (is : e ≡ Incarnated w (Fresh m)) (k : Comes c e begun call runs s old) → stage k.past w ≡ Incarnating (its w m is k).arrival m
  brought_of w m is k = (its w m is k).begun_

  pub incarnated_then : (w : ℕ) (answer : Incarnation) → e ≡ Incarnated w answer → (new : Kept) → Incarnates c answer s old new
      → HoldsThen c e begun call runs s old new
  incarnated_then w (Fresh m) is new brings = λ k.
      subst (λ x. ServantsAgree c k.run k.opened (x ∷ k.past) new) (sym is)
      (brought_holds c k.run k.limit k.opened k.past w m k.given k.alone k.within (subst (λ x. IsLegal c k.run k.limit (x ∷ k.past)) is k.legal) old new k.holds
      (subst (λ o. Brings c m o old new) (k.stands.worked w m (ap works_on (brought_of w m is k))) brings))
  incarnated_then w (Named name) is new same = subst (HoldsThen c e begun call runs s old) (sym same) (quiet_then (ap is_quiet is))
  incarnated_then w Double is new same = subst (HoldsThen c e begun call runs s old) (sym same) (quiet_then (ap is_quiet is))
  incarnated_then w (Forward x) is new same = subst (HoldsThen c e begun call runs s old) (sym same) (quiet_then (ap is_quiet is))
  incarnated_then w (Raise x) is new same = subst (HoldsThen c e begun call runs s old) (sym same) (quiet_then (ap is_quiet is))

  removed_at : (w : ℕ) (cleanup remaining : Bool) → e ≡ Etherealized w cleanup remaining → (k : Comes c e begun call runs s old)
      → removed s begun ≡ removed (standing c k.run k.past) (stage k.past w)
  removed_at w cleanup remaining is k = ap (removed s) (k.at_stage w (ap worker_of is)) ∙ removed_same (stage k.past w) refl
    where
      removed_same : (b : Stage) → stage k.past w ≡ b → removed s b ≡ removed (standing c k.run k.past) b
      removed_same (Removing n) at = ap removed_of (k.stands.worked w n (ap works_on at))
      removed_same Free at = refl
      removed_same (Trying r) at = refl
      removed_same (Incarnating r n) at = refl
      removed_same (Serving r) at = refl
      removed_same (Ran r) at = refl

  pub room_then : (w : ℕ) (cleanup remaining : Bool) → e ≡ Etherealized w cleanup remaining → Comes c e begun call runs s old → HasRoom (removed s begun) old
  room_then w cleanup remaining is k =
      subst (λ o. HasRoom o old) (sym (removed_at w cleanup remaining is k))
      (room_held c k.run k.limit k.opened k.past w cleanup remaining k.given k.alone k.within
      (subst (λ x. IsLegal c k.run k.limit (x ∷ k.past)) is k.legal) old k.holds)

  pub ended_then : (w : ℕ) (cleanup remaining : Bool) → e ≡ Etherealized w cleanup remaining → (new : Kept) → Etherealizes (removed s begun) old new
      → HoldsThen c e begun call runs s old new
  ended_then w cleanup remaining is new ends k =
      subst (λ x. ServantsAgree c k.run k.opened (x ∷ k.past) new) (sym is)
      (ended_holds c k.run k.limit k.opened k.past w cleanup remaining k.given k.alone k.within
      (subst (λ x. IsLegal c k.run k.limit (x ∷ k.past)) is k.legal) old new k.holds
      (subst (λ o. Etherealizes o old new) (removed_at w cleanup remaining is k) ends))

  pub quiet_tells : is_quiet e ≡ true → TellsThen c e begun call runs s old None
  quiet_tells quiet k = none_told e quiet
    where
      none_told : (x : Entry) → is_quiet x ≡ true → None ≡ outcome_told c k.run k.opened k.past x runs call
      none_told (Run w) is = absurd (let f : false ≡ true = is in cc)
      none_told (Entered conn) is = refl
      none_told (Arrive conn size call') is = refl
      none_told (Filled conn size) is = refl
      none_told (Left conn) is = refl
      none_told (Collect conn a) is = refl
      none_told (Admit w r v) is = refl
      none_told (Tried w a) is = refl
      none_told (Incarnated w a) is = refl
      none_told (Done w) is = refl
      none_told (TakeOut w n x') is = refl
      none_told (Etherealized w x' y) is = refl
      none_told (Abandon w) is = refl
