-- What a legal entry of a worker tells, kind by kind: the stage that it goes on with, or what it begins.
use Rattle.std.specs.Prelude.{◌≡◌, ℕ, ◌<◌, Bool, true, not, List, Some, None, refl}
use Rattle.std.proofs.Common.{subst, ap, ◌∙◌}
use Rattle.poa_base.specs.declared.Config.{Config}
use Rattle.poa_base.specs.declared.Attempt.{Attempt}
use Rattle.poa_base.specs.declared.Incarnation.{Incarnation}
use Rattle.poa_base.specs.declared.Verdict.{Verdict}
use Rattle.poa_base.specs.declared.Entry.{Entry}
use Rattle.poa_base.specs.declared.Entry.TheVariants.{Admit, Tried, Incarnated, Run, Done, TakeOut, Etherealized}
use Rattle.history_standing.specs.declared.activation.Activation.{Activation}
use Rattle.history_standing.specs.declared.stage.Stage.{Stage}
use Rattle.history_standing.specs.declared.stage.Stage.TheVariants.{Free, Trying, Incarnating, Serving, Ran, Removing}
use Rattle.history_standing.specs.Arrivals.{arrivals, call_of}
use Rattle.history_standing.specs.Stages.{stage, is_unadmitted}
use Rattle.history_standing.specs.Standings.{Standing}
use Rattle.history_standing.specs.Changes.{standing}
use Rattle.history_standing.specs.Rules.{brought}
use Rattle.poa_history.specs.Verdicts.{verdict, verdict_on}
use Rattle.poa_history.specs.Turns.{attempt, going_on, activation_numbered, is_due}
use Rattle.poa_history.specs.Legal.{IsTurn}
use Rattle.history_standing.specs.Trees.{In}
use Rattle.poa_history.proofs.TurnIs.{mapped_by, goes_on, takes, admits, turned}

-- how what was begun goes on
pub data GoesOn (c : Config) (s : Standing) (w : ℕ) (begun : Stage) (e : Entry) : Type 0 where
  tries : (r : ℕ) → begun ≡ Trying r → Tried w (attempt c s r) ≡ e → GoesOn c s w begun e
  incarnates : (r n : ℕ) (a : Activation) → begun ≡ Incarnating r n → activation_numbered s n ≡ Some a → Incarnated w (brought c s a) ≡ e → GoesOn c s w begun e
  runs : (r : ℕ) → begun ≡ Serving r → Run w ≡ e → GoesOn c s w begun e
  ends : (r : ℕ) → begun ≡ Ran r → Done w ≡ e → GoesOn c s w begun e
  removes : (n : ℕ) (a : Activation) → begun ≡ Removing n → activation_numbered s n ≡ Some a → Etherealized w a.cleanup a.remaining ≡ e → GoesOn c s w begun e

going : (c : Config) (s : Standing) (w : ℕ) (begun : Stage) (e : Entry) → going_on c s w begun ≡ Some e → GoesOn c s w begun e
going c s w Free e is = absurd (let f : None ≡ Some e = is in cc)
going c s w (Trying r) e is = tries r refl (let f : Some (Tried w (attempt c s r)) ≡ Some e = is in cc)
going c s w (Incarnating r n) e is =
    (let found = mapped_by (λ a. Incarnated w (brought c s a)) (activation_numbered s n) e is in incarnates r n found.0 refl found.1 found.2)
going c s w (Serving r) e is = runs r refl (let f : Some (Run w) ≡ Some e = is in cc)
going c s w (Ran r) e is = ends r refl (let f : Some (Done w) ≡ Some e = is in cc)
going c s w (Removing n) e is =
    (let found = mapped_by (λ a. Etherealized w a.cleanup a.remaining) (activation_numbered s n) e is in removes n found.0 refl found.1 found.2)

module _ (c : Config) (run : ℕ) (past : List Entry) (w : ℕ) where
  abbrev s : Standing
  s = standing c run past

  -- an arrival is admitted that wasn't, by its verdict
  pub record IsAdmission (r : ℕ) (v : Verdict) : Type 0 where
    pub free : stage past w ≡ Free
    pub arrived : r < arrivals past
    pub unadmitted : is_unadmitted past r ≡ true
    pub told : verdict_on c run past r w (call_of past r) ≡ Some v

  pub record IsTrial (answer : Attempt) : Type 0 where
    pub arrival : ℕ
    pub begun : stage past w ≡ Trying arrival
    pub told : attempt c s arrival ≡ answer

  pub record IsIncarnation (answer : Incarnation) : Type 0 where
    pub arrival : ℕ
    pub number : ℕ
    pub it : Activation
    pub begun : stage past w ≡ Incarnating arrival number
    pub found : activation_numbered s number ≡ Some it
    pub told : brought c s it ≡ answer

  pub record IsTakeOut (n : ℕ) (etherealize : Bool) : Type 0 where
    pub it : Activation
    pub free : stage past w ≡ Free
    pub there : In it s.activations
    pub due : is_due c s it ≡ true
    pub numbered : it.number ≡ n
    pub told : not it.quiet ≡ etherealize

  pub record IsRemoval (cleanup remaining : Bool) : Type 0 where
    pub number : ℕ
    pub it : Activation
    pub begun : stage past w ≡ Removing number
    pub found : activation_numbered s number ≡ Some it
    pub cleanup_is : it.cleanup ≡ cleanup
    pub remaining_is : it.remaining ≡ remaining

  pub admission_is : (r : ℕ) (v : Verdict) → IsTurn c run past w (Admit w r v) → IsAdmission r v
  unfolding verdict
  admission_is r v is =
      elim (turned c run past w (Admit w r v) is.next) [
        | goes_on goes ↦ elim (going c s w (stage past w) (Admit w r v) goes) [
          | tries q at same ↦ absurd (let e : Tried w (attempt c s q) ≡ Admit w r v = same in cc)
          | incarnates q n a at found same ↦ absurd (let e : Incarnated w (brought c s a) ≡ Admit w r v = same in cc)
          | runs q at same ↦ absurd (let e : Run w ≡ Admit w r v = same in cc)
          | ends q at same ↦ absurd (let e : Done w ≡ Admit w r v = same in cc)
          | removes n a at found same ↦ absurd (let e : Etherealized w a.cleanup a.remaining ≡ Admit w r v = same in cc)
        ]
        | takes a free there due same ↦ absurd (let e : TakeOut w a.number (not a.quiet) ≡ Admit w r v = same in cc)
        | admits q u free less unadmitted told same ↦
            (let e : Admit w q u ≡ Admit w r v = same in
            let qr : q ≡ r = cc in let uv : u ≡ v = cc in
            record {
              free = free;
              arrived = subst (λ x. x < arrivals past) qr less;
              unadmitted = subst (λ x. is_unadmitted past x ≡ true) qr unadmitted;
              told = subst (λ x. verdict_on c run past x w (call_of past x) ≡ Some v) qr (told ∙ ap (λ x. Some x) uv);
            })
      ]

  pub trial_is : (answer : Attempt) → IsTurn c run past w (Tried w answer) → IsTrial answer
  trial_is answer is =
      elim (turned c run past w (Tried w answer) is.next) [
        | goes_on goes ↦ elim (going c s w (stage past w) (Tried w answer) goes) [
          | tries q at same ↦ (let e : Tried w (attempt c s q) ≡ Tried w answer = same in record { arrival = q; begun = at; told = cc })
          | incarnates q n a at found same ↦ absurd (let e : Incarnated w (brought c s a) ≡ Tried w answer = same in cc)
          | runs q at same ↦ absurd (let e : Run w ≡ Tried w answer = same in cc)
          | ends q at same ↦ absurd (let e : Done w ≡ Tried w answer = same in cc)
          | removes n a at found same ↦ absurd (let e : Etherealized w a.cleanup a.remaining ≡ Tried w answer = same in cc)
        ]
        | takes a free there due same ↦ absurd (let e : TakeOut w a.number (not a.quiet) ≡ Tried w answer = same in cc)
        | admits q u free less unadmitted told same ↦ absurd (let e : Admit w q u ≡ Tried w answer = same in cc)
      ]

  pub incarnation_is : (answer : Incarnation) → IsTurn c run past w (Incarnated w answer) → IsIncarnation answer
  incarnation_is answer is =
      elim (turned c run past w (Incarnated w answer) is.next) [
        | goes_on goes ↦ elim (going c s w (stage past w) (Incarnated w answer) goes) [
          | tries q at same ↦ absurd (let e : Tried w (attempt c s q) ≡ Incarnated w answer = same in cc)
          | incarnates q n a at found same ↦
              (let e : Incarnated w (brought c s a) ≡ Incarnated w answer = same in
              record { arrival = q; number = n; it = a; begun = at; found = found; told = cc })
          | runs q at same ↦ absurd (let e : Run w ≡ Incarnated w answer = same in cc)
          | ends q at same ↦ absurd (let e : Done w ≡ Incarnated w answer = same in cc)
          | removes n a at found same ↦ absurd (let e : Etherealized w a.cleanup a.remaining ≡ Incarnated w answer = same in cc)
        ]
        | takes a free there due same ↦ absurd (let e : TakeOut w a.number (not a.quiet) ≡ Incarnated w answer = same in cc)
        | admits q u free less unadmitted told same ↦ absurd (let e : Admit w q u ≡ Incarnated w answer = same in cc)
      ]

  pub run_is : IsTurn c run past w (Run w) → (r : ℕ) × (stage past w ≡ Serving r)
  run_is is =
      elim (turned c run past w (Run w) is.next) [
        | goes_on goes ↦ elim (going c s w (stage past w) (Run w) goes) [
          | tries q at same ↦ absurd (let e : Tried w (attempt c s q) ≡ Run w = same in cc)
          | incarnates q n a at found same ↦ absurd (let e : Incarnated w (brought c s a) ≡ Run w = same in cc)
          | runs q at same ↦ (q, at)
          | ends q at same ↦ absurd (let e : Done w ≡ Run w = same in cc)
          | removes n a at found same ↦ absurd (let e : Etherealized w a.cleanup a.remaining ≡ Run w = same in cc)
        ]
        | takes a free there due same ↦ absurd (let e : TakeOut w a.number (not a.quiet) ≡ Run w = same in cc)
        | admits q u free less unadmitted told same ↦ absurd (let e : Admit w q u ≡ Run w = same in cc)
      ]

  pub done_is : IsTurn c run past w (Done w) → (r : ℕ) × (stage past w ≡ Ran r)
  done_is is =
      elim (turned c run past w (Done w) is.next) [
        | goes_on goes ↦ elim (going c s w (stage past w) (Done w) goes) [
          | tries q at same ↦ absurd (let e : Tried w (attempt c s q) ≡ Done w = same in cc)
          | incarnates q n a at found same ↦ absurd (let e : Incarnated w (brought c s a) ≡ Done w = same in cc)
          | runs q at same ↦ absurd (let e : Run w ≡ Done w = same in cc)
          | ends q at same ↦ (q, at)
          | removes n a at found same ↦ absurd (let e : Etherealized w a.cleanup a.remaining ≡ Done w = same in cc)
        ]
        | takes a free there due same ↦ absurd (let e : TakeOut w a.number (not a.quiet) ≡ Done w = same in cc)
        | admits q u free less unadmitted told same ↦ absurd (let e : Admit w q u ≡ Done w = same in cc)
      ]

  pub takeout_is : (n : ℕ) (etherealize : Bool) → IsTurn c run past w (TakeOut w n etherealize) → IsTakeOut n etherealize
  takeout_is n etherealize is =
      elim (turned c run past w (TakeOut w n etherealize) is.next) [
        | goes_on goes ↦ elim (going c s w (stage past w) (TakeOut w n etherealize) goes) [
          | tries q at same ↦ absurd (let e : Tried w (attempt c s q) ≡ TakeOut w n etherealize = same in cc)
          | incarnates q m a at found same ↦ absurd (let e : Incarnated w (brought c s a) ≡ TakeOut w n etherealize = same in cc)
          | runs q at same ↦ absurd (let e : Run w ≡ TakeOut w n etherealize = same in cc)
          | ends q at same ↦ absurd (let e : Done w ≡ TakeOut w n etherealize = same in cc)
          | removes m a at found same ↦ absurd (let e : Etherealized w a.cleanup a.remaining ≡ TakeOut w n etherealize = same in cc)
        ]
        | takes a free there due same ↦
            (let e : TakeOut w a.number (not a.quiet) ≡ TakeOut w n etherealize = same in
            record { it = a; free = free; there = there; due = due; numbered = cc; told = cc })
        | admits q u free less unadmitted told same ↦ absurd (let e : Admit w q u ≡ TakeOut w n etherealize = same in cc)
      ]

  pub removal_is : (cleanup remaining : Bool) → IsTurn c run past w (Etherealized w cleanup remaining) → IsRemoval cleanup remaining
  removal_is cleanup remaining is =
      elim (turned c run past w (Etherealized w cleanup remaining) is.next) [
        | goes_on goes ↦ elim (going c s w (stage past w) (Etherealized w cleanup remaining) goes) [
          | tries q at same ↦ absurd (let e : Tried w (attempt c s q) ≡ Etherealized w cleanup remaining = same in cc)
          | incarnates q n a at found same ↦ absurd (let e : Incarnated w (brought c s a) ≡ Etherealized w cleanup remaining = same in cc)
          | runs q at same ↦ absurd (let e : Run w ≡ Etherealized w cleanup remaining = same in cc)
          | ends q at same ↦ absurd (let e : Done w ≡ Etherealized w cleanup remaining = same in cc)
          | removes n a at found same ↦
              (let e : Etherealized w a.cleanup a.remaining ≡ Etherealized w cleanup remaining = same in
              record { number = n; it = a; begun = at; found = found; cleanup_is = cc; remaining_is = cc })
        ]
        | takes a free there due same ↦ absurd (let e : TakeOut w a.number (not a.quiet) ≡ Etherealized w cleanup remaining = same in cc)
        | admits q u free less unadmitted told same ↦ absurd (let e : Admit w q u ≡ Etherealized w cleanup remaining = same in cc)
      ]
