-- An entry with which what was begun only ends takes no memory.
use Rattle.std.proofs.Common.{◌≡◌, ℕ, Bool, true, false, refl}
use Rattle.poa_base.specs.declared.Entry.{Entry}
use Rattle.poa_base.specs.declared.Entry.TheVariants.{Entered, Arrive, Filled, Left, Collect, Admit, Tried, Incarnated, Run, Done, TakeOut, Etherealized, Abandon}
use Rattle.core_outboxes.specs.Waits.{admits}
use Rattle.core_outboxes.specs.Fixed.{may_want}
use Rattle.core_state.specs.State.{only_ends}

-- what is so of each of them
by_end : (P : Entry → Type 0) → ((w : ℕ) → P (Done w)) → ((w n : ℕ) (etherealize : Bool) → P (TakeOut w n etherealize))
    → ((w : ℕ) (cleanup remaining : Bool) → P (Etherealized w cleanup remaining)) → (e : Entry) → only_ends e ≡ true → P e
by_end P done taken removed (Done w) is = done w
by_end P done taken removed (TakeOut w n x) is = taken w n x
by_end P done taken removed (Etherealized w x y) is = removed w x y
by_end P done taken removed (Admit w r v) is = absurd (let e : false ≡ true = is in cc)
by_end P done taken removed (Tried w a) is = absurd (let e : false ≡ true = is in cc)
by_end P done taken removed (Incarnated w a) is = absurd (let e : false ≡ true = is in cc)
by_end P done taken removed (Run w) is = absurd (let e : false ≡ true = is in cc)
by_end P done taken removed (Entered conn) is = absurd (let e : false ≡ true = is in cc)
by_end P done taken removed (Arrive conn size call) is = absurd (let e : false ≡ true = is in cc)
by_end P done taken removed (Filled conn size) is = absurd (let e : false ≡ true = is in cc)
by_end P done taken removed (Left conn) is = absurd (let e : false ≡ true = is in cc)
by_end P done taken removed (Collect conn a) is = absurd (let e : false ≡ true = is in cc)
by_end P done taken removed (Abandon w) is = absurd (let e : false ≡ true = is in cc)

-- it wants none for a reply
pub wants_none : (e : Entry) → only_ends e ≡ true → may_want e ≡ false
wants_none = by_end (λ e. may_want e ≡ false) (λ _. refl) (λ _ _ _. refl) (λ _ _ _. refl)

pub admits_none : (e : Entry) → only_ends e ≡ true → admits e ≡ false
admits_none = by_end (λ e. admits e ≡ false) (λ _. refl) (λ _ _ _. refl) (λ _ _ _. refl)
