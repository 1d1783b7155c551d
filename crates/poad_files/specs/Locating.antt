-- What `loc` of a text prints, and its status.
use Rattle.std.specs.Prelude.{◌≡◌, ℕ, List, ◌++◌, codes, Option, Ok as OkResult, take}
use Rattle.outside.specs.Told.{IfTold}
use Rattle.poa_base.specs.declared.Ior.{Ior}
use Rattle.ior_text.specs.Text.{TextGives}
use Rattle.ior_text.specs.Reference.{HasText}
use Rattle.poad_files.specs.Referring.{WrittenRefused}
use Rattle.poad_files.specs.Showing.{GainsNothing}
use Rattle.poad_files.specs.declared.status.Status.{Status}
use Rattle.poad_files.specs.declared.status.Status.TheVariants.{Ok, TextRefused, WriteFault, WantMemory, NoLoc}

-- the line is the corbaloc text of the reference
pub record IsLocLine (ior : Ior) (line : List ℕ) : Type 0 where
  pub loc : List ℕ
  pub has : HasText ior loc
  pub spelled : line ≡ loc ++ codes "\n"

-- the text is the written form of a reference, whose line the sink gained so
pub record LocPrints (text : List ℕ) (held_old held_new : Option (List ℕ)) (Gains : List ℕ → List ℕ → List ℕ → Type 0) : Type 0 where
  pub ior : Ior
  pub reads : TextGives text (OkResult ior)
  pub line : List ℕ
  pub is_line : IsLocLine ior line
  pub gave : IfTold held_old held_new (Gains line)

-- the text is the written form of a reference that has no corbaloc text
pub record LacksLoc (text : List ℕ) : Type 0 where
  pub ior : Ior
  pub reads : TextGives text (OkResult ior)
  pub none : (loc : List ℕ) → HasText ior loc → ⊥

-- the corbaloc text is printed, or there is none; a fault of writing leaves a front of the line
abbrev pub Locates : Status → List ℕ → Option (List ℕ) → Option (List ℕ) → Type 0
Locates Ok text held_old held_new = LocPrints text held_old held_new (λ bytes old new. new ≡ old ++ bytes)
Locates NoLoc text held_old held_new = LacksLoc text × GainsNothing held_old held_new
Locates (TextRefused fault) text held_old held_new = WrittenRefused text (TextRefused fault) × GainsNothing held_old held_new
Locates WriteFault text held_old held_new = LocPrints text held_old held_new (λ bytes old new. (n : ℕ) × (new ≡ old ++ take n bytes))
Locates WantMemory text held_old held_new = GainsNothing held_old held_new
Locates _ text held_old held_new = ⊥
