-- What an answer says of the answer that a text gives.
use Rattle.std.specs.Prelude.{◌≡◌, Result, Ok, Err, ◌⊎◌}
use Rattle.ior_text.specs.declared.corbaloc_fault.LocFault.{LocFault}
use Rattle.ior_text.specs.declared.corbaloc_fault.LocFault.TheVariants.{WantMemory}

-- it is that answer, or want of memory
abbrev pub Gives : {X : Type 0} → Result X LocFault → Result X LocFault → Type 0
Gives (Ok x) given = given ≡ Ok x
Gives (Err fault) given = (fault ≡ WantMemory) ⊎ (given ≡ Err fault)

-- one step of reading behind another
infixl 10 ◌>>=◌
abbrev pub ◌>>=◌ : {A B : Type 0} → Result A LocFault → (A → Result B LocFault) → Result B LocFault
Ok x >>= f = f x
Err fault >>= f = Err fault
