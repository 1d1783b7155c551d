-- A worker makes its next entry, if it has one.
use Rattle.std.specs.Prelude.{◌≡◌, ℕ, Bool, true, false, Some, None}
use Rattle.poa_base.specs.declared.Entry.{Entry}
use Rattle.poa_history.specs.Life.{Life, with_entry}
use Rattle.poa_history.specs.Turns.{turn}

abbrev pub Proceeds : ℕ → Bool → Life → Life → Type 0
Proceeds w true old new = (e : Entry) × (turn old.config old.run old.history w ≡ Some e) × (new ≡ with_entry e old)
Proceeds w false old new = (turn old.config old.run old.history w ≡ None) × (new ≡ old)
