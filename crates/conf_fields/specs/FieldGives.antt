-- What the answer of a reader says, given what the definition has there.
use Rattle.std.specs.Prelude.{◌≡◌, ⊤, Result, Ok, Err}
use Rattle.conf_fields.specs.declared.fault.ConfFault.{ConfFault}
use Rattle.conf_fields.specs.declared.fault.ConfFault.TheVariants.{NotToml, Field, Policy, Twice, NoSuch, Limit, WantMemory}

-- the fault is the one that the definition has; want of memory says nothing of it
abbrev pub IsFault : {X : Type 0} → ConfFault → Result X ConfFault → Type 0
IsFault WantMemory meant = ⊤
IsFault NotToml meant = meant ≡ Err NotToml
IsFault (Field path) meant = meant ≡ Err (Field path)
IsFault (Policy adapter index) meant = meant ≡ Err (Policy adapter index)
IsFault (Twice path) meant = meant ≡ Err (Twice path)
IsFault (NoSuch path) meant = meant ≡ Err (NoSuch path)
IsFault (Limit what) meant = meant ≡ Err (Limit what)

-- the answer is the definition's, but for want of memory
abbrev pub FieldGives : {X : Type 0} → Result X ConfFault → Result X ConfFault → Type 0
FieldGives (Ok x) meant = meant ≡ Ok x
FieldGives (Err fault) meant = IsFault fault meant

-- the same where the value is seen by `view`
abbrev pub GivesView : {X Y : Type 0} → (X → Y) → Result X ConfFault → Result Y ConfFault → Type 0
GivesView view (Ok x) meant = meant ≡ Ok (view x)
GivesView view (Err fault) meant = IsFault fault meant
