-- What the files hold where both puts are done.
use Rattle.std.proofs.Common.{◌≡◌, ◌⊎◌, ℕ, ◌||◌, true, false, List, Option, Some, None, Result, Ok, Err, refl, sym, ◌∙◌, subst, inl, inr}
use Rattle.std.specs.Prelude.{◌≢◌}
use Rattle.std.proofs.lemmas.Bool.{true≢false}
use Rattle.std.specs.Option.{is_some, option_or}
use Rattle.std.specs.declared.alloc.AllocError.{AllocError}
use Rattle.command_words.specs.Serving.{AreApart, Serve}
use Rattle.outside.specs.Keeping.{Contents, Stores}
use Rattle.outside.specs.Told.{IfTold}
use Rattle.outside.specs.declared.keeping.Put.{Put}
use Rattle.outside.specs.declared.keeping.Put.TheVariants as put
use Rattle.poa_base.specs.Store.{Slots}
use Rattle.poa_history.specs.Life.{Life}
use Rattle.poa_history.specs.declared.full.Full.{Full}
use Rattle.poa_journal.specs.Journal.{store_text}
use Rattle.poad_files.specs.Taking.{HoldsStill}
use Rattle.poad_files.specs.declared.status.Status.{Status}
use Rattle.poad_files.specs.declared.status.Status.TheVariants.{WantMemory}
use Rattle.poad_files.proofs.Told.{told_here, told_so, told_then}
use Rattle.poad_cmd.specs.Ending.{status_of, wants_memory}
use Rattle.poad_cmd.specs.Putting.{both, HoldsJournal, HoldsState, Keeps, PutsJournal, PutsState}
use Rattle.poad_cmd.proofs.Statuses.{no_memory_wanted}
use Rattle.poad_cmd.proofs.Telling.{both_false}
use Rattle.poa_core.specs.Stored.{Stores as StoresOf}
use Rattle.serve_run.specs.declared.outcome.Outcome.{Outcome}

pub both_done : (first second : Result Put AllocError) → both first second ≡ Ok put.Done → (first ≡ Ok put.Done) × (second ≡ Ok put.Done)
both_done (Ok put.Done) (Ok put.Done) is = (refl, refl)
both_done (Ok put.Done) (Ok put.Failed) is = absurd (let e : Ok put.Failed ≡ Ok put.Done = is in cc)
both_done (Ok put.Done) (Err f) is = absurd (let e : Err f ≡ Ok put.Done = is in cc)
both_done (Ok put.Failed) (Ok p) is = absurd (let e : Ok put.Failed ≡ Ok put.Done = is in cc)
both_done (Ok put.Failed) (Err f) is = absurd (let e : Err f ≡ Ok put.Done = is in cc)
both_done (Err f) second is = absurd (let e : Err f ≡ Ok put.Done = is in cc)

pub both_failed : (first second : Result Put AllocError) → both first second ≡ Ok put.Failed → (first ≡ Ok put.Failed) ⊎ (second ≡ Ok put.Failed)
both_failed (Ok put.Done) (Ok put.Done) is = absurd (let e : Ok put.Done ≡ Ok put.Failed = is in cc)
both_failed (Ok put.Done) (Ok put.Failed) is = inr refl
both_failed (Ok put.Done) (Err f) is = absurd (let e : Err f ≡ Ok put.Failed = is in cc)
both_failed (Ok put.Failed) (Ok p) is = inl refl
both_failed (Ok put.Failed) (Err f) is = absurd (let e : Err f ≡ Ok put.Failed = is in cc)
both_failed (Err f) second is = absurd (let e : Err f ≡ Ok put.Failed = is in cc)

pub puts_state : (name : List ℕ) (life : Life) (slots : Slots) (rows content : List ℕ) (came : Put) (a b : Option Contents) → StoresOf life slots
    → rows ≡ store_text slots → content ≡ rows → IfTold a b (Stores came name content) → PutsState (Some name) life (Ok came) a b
puts_state name life slots rows content came a b stores is same told = (content, record { slots = slots; stores = stores; told = same ∙ is }, told)

state_held : (name : Option (List ℕ)) (life : Life) (a b : Option Contents) → PutsState name life (Ok put.Done) a b
    → IfTold a b (λ before now. HoldsState name life now)
state_held None life a b puts =
    subst (λ (now : Option Contents). IfTold a now (λ x y. HoldsState None life y)) (sym puts.1) (told_here a (λ x y. HoldsState None life y) (λ x. tt))
state_held (Some n) life a b puts =
    told_so a b _ (λ x y. HoldsState (Some n) life y) (λ x y stores. (puts.0, puts.1, stores.stored refl)) puts.2

-- the journal is put beside the state, under another name
abbrev Beside : Option (List ℕ) → Option (List ℕ) → Life → Contents → Contents → Type 0
Beside state journal life x y = (HoldsState state life x → HoldsState state life y) × HoldsJournal journal life y

journal_beside : (state journal : Option (List ℕ)) (life : Life) (b c : Option Contents) → AreApart state journal
    → PutsJournal journal life (Ok put.Done) b c → IfTold b c (Beside state journal life)
journal_beside state None life b c apart puts =
    subst (λ (now : Option Contents). IfTold b now (Beside state None life)) (sym puts.1)
    (told_here b (Beside state None life) (λ x. (λ h. h, tt)))
journal_beside None (Some j) life b c apart puts = told_so b c _ (Beside None (Some j) life) (λ x y stores. (λ h. h, stores.stored refl)) puts
journal_beside (Some s) (Some j) life b c apart puts =
    told_so b c _ (Beside (Some s) (Some j) life)
    (λ x y stores. (λ h. (h.0, h.1, stores.others s apart ∙ h.2), stores.stored refl)) puts

pub kept : (serve : Serve) (life : Life) (first second : Result Put AllocError) (a b c : Option Contents) → AreApart serve.state serve.journal
    → PutsState serve.state life first a b → PutsJournal serve.journal life second b c → both first second ≡ Ok put.Done
    → IfTold a c (Keeps serve life)
kept serve life first second a b c apart state journal is =
    let done = both_done first second is in
    told_then a b c _ (Beside serve.state serve.journal life) (Keeps serve life) (λ x y z s j. record { state = j.0 s; journal = j.1 })
    (state_held serve.state life a b (subst (λ (r : Result Put AllocError). PutsState serve.state life r a b) done.0 state))
    (journal_beside serve.state serve.journal life b c apart (subst (λ (r : Result Put AllocError). PutsJournal serve.journal life r b c) done.1 journal))

-- what a run keeps it keeps also over files that held the same before
pub kept_from : (serve : Serve) (life : Life) (a b c : Option Contents) → IfTold a b HoldsStill → IfTold b c (Keeps serve life) → IfTold a c (Keeps serve life)
kept_from serve life a b c still keeps =
    told_then a b c HoldsStill (Keeps serve life) (Keeps serve life) (λ x y z p k. record { state = k.state; journal = k.journal }) still keeps

-- where memory isn't wanting and no put failed both were done
pub put_done : (outcome : Outcome) (came : Result Put AllocError) (full : Option Full) (s : Status) → s ≡ status_of outcome came full → s ≢ WantMemory
    → (came ≡ Ok put.Failed → ⊥) → came ≡ Ok put.Done
put_done outcome (Ok put.Done) full s is other never = refl
put_done outcome (Ok put.Failed) full s is other never = absurd (never refl)
put_done outcome (Err f) full s is other never =
    let none = no_memory_wanted (wants_memory outcome || true) (is_some outcome.short) false outcome.failed (option_or full outcome.refused)
    (λ e. other (is ∙ e)) in
    absurd (true≢false (both_false (wants_memory outcome) true none).1)

pub some_life : (m n : Life) → Some m ≡ Some n → m ≡ n
some_life m n e = cc

pub some_serve : (m n : Serve) → Some m ≡ Some n → m ≡ n
some_serve m n e = cc
