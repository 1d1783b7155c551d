-- An entry begins one activation at most, and only an Admit begins any.
use Rattle.std.specs.Prelude.{◌≡◌, ℕ, ◌+◌, ◌≤◌, ◌<◌, true, false, List, [], ◌∷◌, map, length, refl}
use Rattle.std.proofs.Common.{ap, ◌∙◌, arith}
use Rattle.std.proofs.lemmas.List.{length-append, length-map}
use Rattle.poa_base.specs.declared.Config.{Config}
use Rattle.poa_base.specs.declared.Entry.{Entry}
use Rattle.poa_base.specs.declared.Entry.TheVariants.{Entered, Arrive, Filled, Left, Collect, Admit, Tried, Incarnated, Run, Done, TakeOut, Etherealized, Abandon}
use Rattle.poa_base.specs.declared.Incarnation.{Incarnation}
use Rattle.poa_base.specs.declared.Incarnation.TheVariants.{Fresh, Named, Double, Forward, Raise}
use Rattle.history_standing.specs.declared.stage.Stage.{Stage}
use Rattle.history_standing.specs.declared.stage.Stage.TheVariants.{Free, Trying, Incarnating, Serving, Ran, Removing}
use Rattle.history_standing.specs.Changes.{changed, with_incarnated, with_etherealized}
use Rattle.history_standing.specs.Ends.{settled, let_out}
use Rattle.history_standing.specs.Stages.{stage, arrival_in}
use Rattle.history_standing.specs.Standings.{Standing}
use Rattle.poa_history.proofs.LivesKept.{as_many, one_more, changed_shape}
use Rattle.poa_history.proofs.Untouched.{activations_fewer, activations_tried}
use Rattle.poa_history.specs.Entries.{may_begin}

module _ (c : Config) (run : ℕ) (past : List Entry) where
  as_many_incarnated : (s : Standing) (begun : Stage) (a : Incarnation) → length (with_incarnated c begun a s).activations ≡ length s.activations
  as_many_incarnated s (Incarnating r n) (Fresh m) = length-map s.activations _
  as_many_incarnated s (Incarnating r n) (Named name) = length-map s.activations _
  as_many_incarnated s (Incarnating r n) Double = length-map s.activations _
  as_many_incarnated s (Incarnating r n) (Forward x) = length-map s.activations _
  as_many_incarnated s (Incarnating r n) (Raise x) = length-map s.activations _
  as_many_incarnated s Free a = refl
  as_many_incarnated s (Trying r) a = refl
  as_many_incarnated s (Serving r) a = refl
  as_many_incarnated s (Ran r) a = refl
  as_many_incarnated s (Removing n) a = refl

  as_many_told : (s : Standing) (begun : Stage) → length (with_etherealized begun s).activations ≡ length s.activations
  as_many_told s (Removing n) = length-map s.activations _
  as_many_told s Free = refl
  as_many_told s (Trying r) = refl
  as_many_told s (Incarnating r n) = refl
  as_many_told s (Serving r) = refl
  as_many_told s (Ran r) = refl

  begins_none : (s : Standing) (e : Entry) → may_begin e ≡ false → length (changed c run past e s).activations ≡ length s.activations
  begins_none s (Admit w r v) is = absurd (let e : true ≡ false = is in cc)
  begins_none s (Tried w a) is = ap length (activations_tried s (arrival_in (stage past w)) a)
  begins_none s (Incarnated w a) is = as_many_incarnated s (stage past w) a
  begins_none s (Done w) is = ap length (activations_fewer s (arrival_in (stage past w)))
  begins_none s (TakeOut w n x) is = length-map s.activations _
  begins_none s (Etherealized w x y) is = as_many_told s (stage past w)
  begins_none s (Entered conn) is = refl
  begins_none s (Arrive conn size call) is = refl
  begins_none s (Filled conn size) is = refl
  begins_none s (Left conn) is = refl
  begins_none s (Collect conn a) is = refl
  begins_none s (Run w) is = refl
  begins_none s (Abandon w) is = refl

  begins_one : (s : Standing) (e : Entry) → length (changed c run past e s).activations ≤ length s.activations + 1
  begins_one s e =
      elim (changed_shape c run past s e) [
        | as_many same ↦ (omega (arith, same))
        | one_more b number is ↦
            (let long : length (changed c run past e s).activations ≡ length s.activations + 1 = ap length is
            ∙ length-append s.activations (b ∷ []) in omega (arith, long))
      ]

  pub few_changed : (s : Standing) (e : Entry) → length s.activations ≤ 4294967296 → (may_begin e ≡ true → length s.activations < 4294967296)
      → length (changed c run past e s).activations ≤ 4294967296
  few_changed s e few room =
      elim (may_begin e) as (λ b. may_begin e ≡ b → length (changed c run past e s).activations ≤ 4294967296) [
        | true ↦ (λ is. (let low = room is in let one = begins_one s e in omega (arith, low, one)))
        | false ↦ (λ is. (let same = begins_none s e is in omega (arith, few, same)))
      ] refl

  pub few_settled : (s : Standing) → length s.activations ≤ 4294967296 → length (settled c s).activations ≤ 4294967296
  few_settled s few =
      (let same : length (map (let_out c s) s.activations) ≡ length s.activations = length-map s.activations (let_out c s) in omega (arith, few, same))
