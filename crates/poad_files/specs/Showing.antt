-- What `show` of a text prints, and its status.
use Rattle.std.specs.Prelude.{◌≡◌, ℕ, List, ◌++◌, Option, take}
use Rattle.outside.specs.Told.{IfTold}
use Rattle.poa_base.specs.declared.Ior.{Ior}
use Rattle.poad_files.specs.Referring.{Refers, RefersNot}
use Rattle.poad_files.specs.Shown.{Shows}
use Rattle.poad_files.specs.declared.status.Status.{Status}
use Rattle.poad_files.specs.declared.status.Status.TheVariants.{Ok, TextRefused, WriteFault, WantMemory, LocRefused}

-- the text refers, and the sink gained the printed form of its reference so
pub record ShowPrints (text : List ℕ) (held_old held_new : Option (List ℕ)) (Gains : List ℕ → List ℕ → List ℕ → Type 0) : Type 0 where
  pub ior : Ior
  pub refers : Refers text ior
  pub printed : List ℕ
  pub shows : Shows ior printed
  pub gave : IfTold held_old held_new (Gains printed)

-- the sink is as it was
abbrev pub GainsNothing : Option (List ℕ) → Option (List ℕ) → Type 0
GainsNothing held_old held_new = IfTold held_old held_new (λ old new. new ≡ old)

-- `show` prints the reference, or tells why the text is none; a fault of writing leaves a front of the printed form
abbrev pub Tells : Status → List ℕ → Option (List ℕ) → Option (List ℕ) → Type 0
Tells Ok text held_old held_new = ShowPrints text held_old held_new (λ bytes old new. new ≡ old ++ bytes)
Tells (TextRefused fault) text held_old held_new = RefersNot text (TextRefused fault) × GainsNothing held_old held_new
Tells (LocRefused fault) text held_old held_new = RefersNot text (LocRefused fault) × GainsNothing held_old held_new
Tells WriteFault text held_old held_new = ShowPrints text held_old held_new (λ bytes old new. (n : ℕ) × (new ≡ old ++ take n bytes))
Tells WantMemory text held_old held_new = GainsNothing held_old held_new
Tells _ text held_old held_new = ⊥
