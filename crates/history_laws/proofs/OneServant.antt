-- The updates of an id are those of one servant.
use Rattle.history_laws.proofs.Incarnations.{incarnated_past, over_told}
use Rattle.history_laws.proofs.KindKept.{restored_same}
use Rattle.history_laws.proofs.Line.{Carries, IsLine, still}
use Rattle.history_laws.proofs.LineEtherealized.{line_etherealized}
use Rattle.history_laws.proofs.LineIncarnated.{line_incarnated}
use Rattle.history_laws.proofs.LineRuns.{line_run}
use Rattle.history_laws.specs.OneLine.{AreIncarnated, BringsFresh, HasLineState, IsOneLine, KeepsLineState, calls_on, replies_on}
use Rattle.poa_base.specs.declared.Config.{Config}
use Rattle.poa_base.specs.declared.Entry.{Entry}
use Rattle.poa_base.specs.declared.Entry.TheVariants.{Abandon, Admit, Arrive, Collect, Done, Entered, Etherealized, Filled, Incarnated, Left, Run, TakeOut, Tried}
use Rattle.poa_base.specs.declared.Incarnation.{Incarnation}
use Rattle.poa_base.specs.declared.Kind.{Kind}
use Rattle.poa_base.specs.declared.Sid.TheVariants.{Fresh as FreshServant}
use Rattle.poa_history.proofs.LegalSound.{legal_sound}
use Rattle.poa_history.specs.Alone.{IsGivenAlone}
use Rattle.poa_history.specs.Bounds.{IsWithinLimits}
use Rattle.history_standing.specs.Changes.{standing}
use Rattle.poa_history.specs.Legal.{IsLegal}
use Rattle.poa_history.specs.Sound.{IsGiven}
use Rattle.history_standing.specs.Standings.{Standing}
use Rattle.poa_history.specs.States.{Stored, restored, state_of, stored}
use Rattle.history_standing.specs.declared.activation.Activation.{Activation}
use Rattle.std.proofs.Common.{◌∙◌, ap, sym}
use Rattle.std.proofs.lemmas.Bool.{true≢false}
use Rattle.std.specs.Prelude.{◌∷◌, ◌≡◌, Bool, List, Some, [], false, refl, true, ℕ}

module _ (c : Config) (run limit : ℕ) (given : IsGiven c run) (alone : IsGivenAlone c run) (within : IsWithinLimits c limit) (opened : Stored) (kind : Kind)
    (p : List (List ℕ)) (oid : List ℕ) (brings_ : BringsFresh c p oid kind) where
  -- an entry that brings, runs and etherealizes nothing
  module _ (past : List Entry) (e : Entry) (legal : IsLegal c run limit (e ∷ past)) (is : IsLine c run opened kind p oid past) where
    abbrev s : Standing
    s = standing c run past

    quiet_entry : ((x : ℕ) (a : Incarnation) → e ≡ Incarnated x a → ⊥) → ((x : ℕ) (y z : Bool) → e ≡ Etherealized x y z → ⊥)
        → ((n : ℕ) → state_of c run opened (e ∷ past) (FreshServant n) ≡ state_of c run opened past (FreshServant n))
        → stored c run opened (e ∷ past) p oid ≡ stored c run opened past p oid → calls_on (e ∷ past) p oid ≡ calls_on past p oid
        → replies_on c run opened (e ∷ past) p oid ≡ replies_on c run opened past p oid
        → IsLine c run opened kind p oid (e ∷ past)
    quiet_entry no_incarnated no_etherealized same_state same_stored same_calls same_replies =
        still c run limit opened kind p oid past e (legal_sound c run limit past given within legal.1) is
        (λ a there on_path on_oid phase b. no_incarnated b.worker b.answer b.same)
        (λ a there on_path on_oid tells. no_etherealized tells.0 tells.1 tells.2 tells.3)
        (λ a carries. same_state a.number) same_stored same_calls same_replies

  line_step : (past : List Entry) (e : Entry) → IsLegal c run limit (e ∷ past) → AreIncarnated c run past p oid → IsLine c run opened kind p oid past
      → IsLine c run opened kind p oid (e ∷ past)
  line_step past (Run w) legal are is = line_run c run limit given alone within opened kind p oid brings_ past w legal are is
  line_step past (Incarnated w a) legal are is = line_incarnated c run limit given alone within opened kind p oid brings_ past w a legal are is
  line_step past (Etherealized w x y) legal are is = line_etherealized c run limit given alone within opened kind p oid brings_ past w x y legal are is
  line_step past (Entered conn) legal are is = quiet_entry past (Entered conn) legal is (λ x a f. cc) (λ x y z f. cc) (λ n. refl) refl refl refl
  line_step past (Arrive conn size call) legal are is =
      quiet_entry past (Arrive conn size call) legal is (λ x a f. cc) (λ x y z f. cc) (λ n. refl) refl refl refl
  line_step past (Filled conn size) legal are is = quiet_entry past (Filled conn size) legal is (λ x a f. cc) (λ x y z f. cc) (λ n. refl) refl refl refl
  line_step past (Left conn) legal are is = quiet_entry past (Left conn) legal is (λ x a f. cc) (λ x y z f. cc) (λ n. refl) refl refl refl
  line_step past (Collect conn a) legal are is = quiet_entry past (Collect conn a) legal is (λ x b f. cc) (λ x y z f. cc) (λ n. refl) refl refl refl
  line_step past (Admit w r v) legal are is = quiet_entry past (Admit w r v) legal is (λ x a f. cc) (λ x y z f. cc) (λ n. refl) refl refl refl
  line_step past (Tried w a) legal are is = quiet_entry past (Tried w a) legal is (λ x b f. cc) (λ x y z f. cc) (λ n. refl) refl refl refl
  line_step past (Done w) legal are is = quiet_entry past (Done w) legal is (λ x a f. cc) (λ x y z f. cc) (λ n. refl) refl refl refl
  line_step past (TakeOut w n x) legal are is = quiet_entry past (TakeOut w n x) legal is (λ y a f. cc) (λ y z a f. cc) (λ m. refl) refl refl refl
  line_step past (Abandon w) legal are is = quiet_entry past (Abandon w) legal is (λ x a f. cc) (λ x y z f. cc) (λ n. refl) refl refl refl

  is_line : (h : List Entry) → IsLegal c run limit h → AreIncarnated c run h p oid → IsLine c run opened kind p oid h
  is_line [] legal are = record {
    carried = λ a carries. absurd (let e : false ≡ true = (are a carries.there carries.on_path carries.on_oid).0 in cc);
    kept = λ _. refl;
    told = λ a there on_path on_oid told. absurd (let e : false ≡ true = (are a there on_path on_oid).0 in cc);
    line = refl;
  }
  is_line (e ∷ past) legal are =
      (let before = incarnated_past c p oid kind brings_ run limit given alone within past e legal are in
      line_step past e legal before (is_line past legal.1 before))

  pub one_line : (h : List Entry) → IsLegal c run limit h → AreIncarnated c run h p oid → IsOneLine c run opened kind h p oid
  one_line h legal are = (is_line h legal are).line

  pub line_carried : (h : List Entry) → IsLegal c run limit h → AreIncarnated c run h p oid → HasLineState c run opened kind h p oid
  line_carried h legal are a there on_path on_oid complete untold =
      (is_line h legal are).carried a (record { there = there; on_path = on_path; on_oid = on_oid; complete = complete; untold = untold })

  pub line_stored : (h : List Entry) → IsLegal c run limit h → AreIncarnated c run h p oid → KeepsLineState c run opened kind h p oid
  line_stored h legal are a there on_path on_oid told over =
      let is = is_line h legal are in
      let x = is.told a there on_path on_oid told in
      let none : (b : Activation) → Carries (standing c run h) p oid b
      → ⊥ = λ b carries. true≢false
      (sym (over_told c p oid kind brings_ run limit given alone within h legal are b carries.there carries.on_path carries.on_oid
      (over b carries.there carries.on_path carries.on_oid)) ∙ carries.untold) in
      x.1 ∙ ap (λ y. Some y) (sym (restored_same kind x.0 x.2) ∙ (ap (restored kind) (sym x.1) ∙ is.kept none))
