-- What was put into a state file is what is read of it.
use Rattle.std.proofs.Common.{◌≡◌, ℕ, List, Option, None, Some, Ok, inl, inr, sym, ap, ◌∙◌, subst}
use Rattle.std.proofs.lemmas.Option.{same_Some}
use Rattle.command_words.specs.Serving.{Serve}
use Rattle.outside.specs.Keeping.{Contents}
use Rattle.poa_base.specs.Store.{Slots, states, stored as stored_in}
use Rattle.poa_history.specs.Life.{Life, opened}
use Rattle.poa_history.specs.States.{stored}
use Rattle.poa_journal.specs.Whole.{rows_of}
use Rattle.poa_journal.proofs.States.{read_stored}
use Rattle.poad_cmd.specs.Beginning.{IsBegun, OpensWith}
use Rattle.poad_cmd.specs.Putting.{HoldsState, Keeps}
use Rattle.poad_cmd.specs.Reopening.{CanBeWritten, OpensAfter}
use Rattle.poad_files.specs.StateFile.{TakesState}
use Rattle.replay_run.specs.Showing.{IsStoreText}

module _ (name : List ℕ) (first : Life) (can : CanBeWritten first) (text : List ℕ) (is : IsStoreText first text) (slots : Slots) where
  reads_back : (content : List ℕ) → content ≡ text → rows_of content ≡ Ok (states slots) → (path : List (List ℕ)) (oid : List ℕ)
      → stored_in slots path oid ≡ stored first.config first.run (opened first) first.history path oid
  reads_back content same reads path oid =
      read_stored is.slots slots (can is.slots is.stores) (ap rows_of (sym (same ∙ is.told)) ∙ reads) path oid ∙ is.stores path oid

  taken_back : (now : Contents) (after : Option Contents) → now name ≡ Some text → TakesState name (Ok slots) (Some now) after
      → (path : List (List ℕ)) (oid : List ℕ) → stored_in slots path oid ≡ stored first.config first.run (opened first) first.history path oid
  taken_back now None holds (inl taken) = absurd taken.held.held
  taken_back now (Some after) holds (inl taken) =
      reads_back taken.content (same_Some taken.content text (sym taken.held.held ∙ holds)) taken.reads
  taken_back now None holds (inr absent) = absurd absent.1
  taken_back now (Some after) holds (inr absent) = absurd (let e : Some text ≡ None = sym holds ∙ absent.1 in cc)

pub opens_after : (serve next : Serve) (name : List ℕ) (first second : Life) (before now : Contents) (after : Option Contents)
    → serve.state ≡ Some name → next.state ≡ Some name → CanBeWritten first → Keeps serve first before now → IsBegun next second (Some now) after
    → OpensAfter first second
opens_after serve next name first second before now after puts opens can keeps begun path oid =
    let held : HoldsState (Some name) first now = subst (λ (n : Option (List ℕ)). HoldsState n first now) puts keeps.state in
    ap (λ (l : Life). opened l path oid) begun.is
    ∙ taken_back name first can held.0 held.1 begun.slots now after held.2
    (subst (λ (n : Option (List ℕ)). OpensWith n (Ok begun.slots) (Some now) after) opens begun.opens) path oid
