-- What the workers have begun, kept entry by entry.
use Rattle.std.specs.Prelude.{◌≡◌, ℕ, ◌<◌, ◌==◌, List, ◌∷◌, length, Some, None, slice_index_or, slice_set, refl}
use Rattle.std.proofs.Common.{inl, inr, sym, subst, ap, ◌∙◌, arith}
use Rattle.std.proofs.lemmas.List.{length-set, get_or-set_other, get_or-set_same}
use Rattle.std.proofs.lemmas.Bool.{cases_Bool, true≢false, eqb-true, eq-eqb}
use Rattle.poa_base.specs.declared.Config.{Config}
use Rattle.poa_base.specs.declared.Entry.{Entry}
use Rattle.poa_base.specs.declared.Entry.TheVariants.{Entered, Arrive, Filled, Left, Collect, Admit, Tried, Incarnated, Run, Done, TakeOut, Etherealized, Abandon}
use Rattle.history_standing.specs.declared.stage.Stage.{Stage}
use Rattle.history_standing.specs.declared.stage.Stage.TheVariants.{Free}
use Rattle.poa_history.specs.Legal.{MayFollow}
use Rattle.history_standing.specs.Stages.{stage}
use Rattle.poa_history.specs.Entries.{stage_at}
use Rattle.poa_history.proofs.StagesFrom.{maker, stage_other}
use Rattle.core_arrivals.specs.Begun.{worker_of, StagesAgree}

maker_is : (e : Entry) → maker e ≡ worker_of e
maker_is (Entered conn) = refl
maker_is (Arrive conn size call) = refl
maker_is (Filled conn size) = refl
maker_is (Left conn) = refl
maker_is (Collect conn a) = refl
maker_is (Admit w q v) = refl
maker_is (Tried w a) = refl
maker_is (Incarnated w a) = refl
maker_is (Run w) = refl
maker_is (Done w) = refl
maker_is (TakeOut w n x) = refl
maker_is (Etherealized w x y) = refl
maker_is (Abandon w) = refl

pub stages_kept : (e : Entry) (past : List Entry) (stages : List Stage) → worker_of e ≡ None → StagesAgree past stages → StagesAgree (e ∷ past) stages
stages_kept e past stages none are =
    record {
      each = are.each;
      are = λ w less. are.are w less ∙ sym (stage_other e past w (λ made. (let f : None ≡ Some w = sym none ∙ (sym (maker_is e) ∙ made) in cc)));
    }

pub stages_set : (e : Entry) (past : List Entry) (stages : List Stage) (v : ℕ) (next : Stage) → worker_of e ≡ Some v → (v < 16 → next ≡ stage (e ∷ past) v)
    → StagesAgree past stages → StagesAgree (e ∷ past) (slice_set stages v next)
stages_set e past stages v next by is are =
    record {
      each = length-set stages v next ∙ are.each;
      are = λ w less. elim (cases_Bool (w == v)) [
        | inl same ↦ (let at : w ≡ v = eqb-true w v same in
            let low : v < 16 = omega (arith, at, less) in
            let long = are.each in
            let within : v < length stages = omega (arith, low, long) in
            subst (λ x. slice_index_or (slice_set stages v next) x Free ≡ stage (e ∷ past) x) (sym at) (get_or-set_same stages v next Free within ∙ is low))
        | inr other ↦ (let apart : w ≡ v → ⊥ = λ at. true≢false (sym (eq-eqb w v at) ∙ other) in
            get_or-set_other stages v w next Free apart
            ∙ (are.are w less ∙ sym (stage_other e past w (λ made. apart (let f : Some v ≡ Some w = sym by ∙ (sym (maker_is e) ∙ made) in cc)))))
      ];
    }

-- the worker of a legal entry is one of them
below_16 : (c : Config) (run limit : ℕ) (past : List Entry) (e : Entry) → MayFollow c run limit past e → (w : ℕ) → worker_of e ≡ Some w → w < 16
below_16 c run limit past (Entered conn) may w by = absurd (let f : None ≡ Some w = by in cc)
below_16 c run limit past (Arrive conn size call) may w by = absurd (let f : None ≡ Some w = by in cc)
below_16 c run limit past (Filled conn size) may w by = absurd (let f : None ≡ Some w = by in cc)
below_16 c run limit past (Left conn) may w by = absurd (let f : None ≡ Some w = by in cc)
below_16 c run limit past (Collect conn a) may w by = absurd (let f : None ≡ Some w = by in cc)
below_16 c run limit past (Admit v q u) may w by = (let f : Some v ≡ Some w = by in subst (λ x. x < 16) (cc) may.worker)
below_16 c run limit past (Tried v a) may w by = (let f : Some v ≡ Some w = by in subst (λ x. x < 16) (cc) may.worker)
below_16 c run limit past (Incarnated v a) may w by = (let f : Some v ≡ Some w = by in subst (λ x. x < 16) (cc) may.worker)
below_16 c run limit past (Run v) may w by = (let f : Some v ≡ Some w = by in subst (λ x. x < 16) (cc) may.worker)
below_16 c run limit past (Done v) may w by = (let f : Some v ≡ Some w = by in subst (λ x. x < 16) (cc) may.worker)
below_16 c run limit past (TakeOut v n x) may w by = (let f : Some v ≡ Some w = by in subst (λ x. x < 16) (cc) may.worker)
below_16 c run limit past (Etherealized v x y) may w by = (let f : Some v ≡ Some w = by in subst (λ x. x < 16) (cc) may.worker)
below_16 c run limit past (Abandon v) may w by = absurd (let f : None ≡ Some w = by in cc)

at_worker : (past : List Entry) (e : Entry) (w : ℕ) → worker_of e ≡ Some w → stage_at past e ≡ stage past w
at_worker past (Entered conn) w by = absurd (let f : None ≡ Some w = by in cc)
at_worker past (Arrive conn size call) w by = absurd (let f : None ≡ Some w = by in cc)
at_worker past (Filled conn size) w by = absurd (let f : None ≡ Some w = by in cc)
at_worker past (Left conn) w by = absurd (let f : None ≡ Some w = by in cc)
at_worker past (Collect conn a) w by = absurd (let f : None ≡ Some w = by in cc)
at_worker past (Admit v q u) w by = (let f : Some v ≡ Some w = by in ap (stage past) (cc))
at_worker past (Tried v a) w by = (let f : Some v ≡ Some w = by in ap (stage past) (cc))
at_worker past (Incarnated v a) w by = (let f : Some v ≡ Some w = by in ap (stage past) (cc))
at_worker past (Run v) w by = (let f : Some v ≡ Some w = by in ap (stage past) (cc))
at_worker past (Done v) w by = (let f : Some v ≡ Some w = by in ap (stage past) (cc))
at_worker past (TakeOut v n x) w by = (let f : Some v ≡ Some w = by in ap (stage past) (cc))
at_worker past (Etherealized v x y) w by = (let f : Some v ≡ Some w = by in ap (stage past) (cc))
at_worker past (Abandon v) w by = absurd (let f : None ≡ Some w = by in cc)

pub at_none : (past : List Entry) (e : Entry) → worker_of e ≡ None → stage_at past e ≡ Free
at_none past (Entered conn) by = refl
at_none past (Arrive conn size call) by = refl
at_none past (Filled conn size) by = refl
at_none past (Left conn) by = refl
at_none past (Collect conn a) by = refl
at_none past (Admit v q u) by = absurd (let f : Some v ≡ None = by in cc)
at_none past (Tried v a) by = absurd (let f : Some v ≡ None = by in cc)
at_none past (Incarnated v a) by = absurd (let f : Some v ≡ None = by in cc)
at_none past (Run v) by = absurd (let f : Some v ≡ None = by in cc)
at_none past (Done v) by = absurd (let f : Some v ≡ None = by in cc)
at_none past (TakeOut v n x) by = absurd (let f : Some v ≡ None = by in cc)
at_none past (Etherealized v x y) by = absurd (let f : Some v ≡ None = by in cc)
at_none past (Abandon v) by = refl

pub worker_stage : (c : Config) (run limit : ℕ) (past : List Entry) (e : Entry) (w : ℕ) → worker_of e ≡ Some w → MayFollow c run limit past e → (w < 16)
    × (stage_at past e ≡ stage past w)
worker_stage c run limit past e w by may = (below_16 c run limit past e may w by, at_worker past e w by)
