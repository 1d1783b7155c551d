-- What the answer of a reader of words says of the word.
use Rattle.std.specs.Prelude.{◌≡◌, ⊤, Option, Some, None, Result, Ok, Err}
use Rattle.text_words.specs.declared.fault.WordFault.{WordFault}
use Rattle.text_words.specs.declared.fault.WordFault.TheVariants.{OutOfForm, WantMemory}

-- Ok of what the word writes, and OutOfForm exactly where it writes nothing
abbrev pub WordGives : {X : Type 0} → Result X WordFault → Option X → Type 0
WordGives (Ok x) meant = meant ≡ Some x
WordGives (Err OutOfForm) meant = meant ≡ None
WordGives (Err WantMemory) meant = ⊤
