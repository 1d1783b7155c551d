use Rattle.std.proofs.Common.{◌≡◌, false, refl}
use Rattle.poa_choose.specs.Laws.{runs, raises}
use Rattle.poa_choose.proofs.Locates.{each_locate}
use Rattle.poa_choose.proofs.laws.locates_run_nothing.Goals as goal

pub returns : goal.returns
returns c = record {
  runs = λ f worker locate. each_locate (λ v. runs v ≡ false) (λ _. refl) (λ _. refl) refl refl refl refl f locate worker;
  raises = λ f worker locate. each_locate (λ v. raises v ≡ false) (λ _. refl) (λ _. refl) refl refl refl refl f locate worker;
}
