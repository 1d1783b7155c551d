-- The texts of the journal and of the store.
use Rattle.std.proofs.Common.{◌≡◌, ℕ, List, reverse, refl, ◌∙◌}
use Rattle.std.specs.Prelude.{Result, Ok, Err, IfOk}
use Rattle.std.specs.declared.alloc.AllocError.{AllocError}
use Rattle.poa_base.specs.Store.{Slots}
use Rattle.poa_base.specs.declared.Entry.{Entry}
use Rattle.poa_journal.specs.Journal.{journal_text, store_text}
use Rattle.poa_history.specs.Life.{Life}
use Rattle.poa_core.specs.Stored.{Stores}
use Rattle.poa_shared.specs.Events.{PrintsJournal, PrintsStore}

pub prints : (r : Result (List ℕ) AllocError) (x : Life) (run : ℕ) (opening : Slots) (entries : List Entry)
    → IfOk r (λ text. text ≡ journal_text (record { run = run; opening = opening; entries = entries })) → run ≡ x.run → opening ≡ x.opening
    → entries ≡ reverse x.history → PrintsJournal r x x
prints (Ok text) x run opening entries is same_run same_opening same_entries =
    (refl, is ∙ (λ i. journal_text (record { run = same_run i; opening = same_opening i; entries = same_entries i })))
prints (Err fault) x run opening entries is same_run same_opening same_entries = refl

pub prints_store : (r : Result (List ℕ) AllocError) (x : Life) (slots : Slots) → IfOk r (λ text. text ≡ store_text slots) → Stores x slots → PrintsStore r x x
prints_store (Ok text) x slots is stores = (refl, (slots, stores, is))
prints_store (Err fault) x slots is stores = refl
