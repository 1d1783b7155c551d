-- An explainer hears one entry more.
use Rattle.std.proofs.Common.{◌≡◌, ℕ, true, false, is_some, length, Option, Some, None, Result, Ok, Err, OnOk, refl, sym, ◌∙◌, subst}
use Rattle.poa_base.specs.declared.Entry.{Entry}
use Rattle.poa_history.specs.Life.{Life, opened, with_entry}
use Rattle.core_outboxes.specs.declared.filed.Filed.{Filed}
use Rattle.journal_audit.specs.declared.Auditor.{Auditor}
use Rattle.journal_audit.specs.declared.Refusal.{Refusal}
use Rattle.journal_audit.specs.Auditing.{Meets, Takes}
use Rattle.journal_audit.specs.Judging.{Follows}
use Rattle.journal_explain.specs.declared.doing.Doing.{Doing}
use Rattle.journal_explain.specs.declared.watch.Watch.{Watch}
use Rattle.journal_explain.specs.Explaining.{HasWatched, SeesWhereLegal}
use Rattle.journal_explain.specs.Objects.{doing_of}
use Rattle.journal_explain.specs.Stories.{collected_by}
use Rattle.journal_explain.specs.Watching.{HasGiven, HasLooked, HasNoted, handed_to}
use Rattle.journal_explain.proofs.Watched.{watched}

-- behind an entry that isn't legal nothing is seen
pub sees_none : (r : Option Refusal) (life : Life) (w : Watch) → is_some r ≡ true → SeesWhereLegal r life w
sees_none (Some r) life w some = tt
sees_none None life w some = absurd (let f : false ≡ true = some in cc)

pub none_left : (r : Option Refusal) → is_some r ≡ false → r ≡ None
none_left None none = refl
none_left (Some r) none = absurd (let f : true ≡ false = none in cc)

-- the watch saw the entry
module _ (e : Entry) (place : ℕ) (past after : Auditor) (old noted given new : Watch) (here : place ≡ length past.run.history)
    (notes : HasNoted past.run e place old noted) (filed : Option Filed)
    (handed : (r : ℕ) → handed_to filed r ≡ collected_by past.run.config past.run.run (opened past.run) past.run.history e r)
    (gives : HasGiven filed place noted given) (doing : Doing) (does : doing ≡ doing_of e)
    (looks : HasLooked after.run place doing given new) where
  saw : (a : Life) → after.run ≡ a → a ≡ with_entry e past.run → Follows past.run e → HasWatched past.run old → HasWatched a new
  saw a is one_more follows before =
      subst (λ (l : Life). HasWatched l new) (sym one_more)
      (watched past.run e place here follows filed handed doing does old noted given new before notes gives
      (subst (λ (l : Life). HasLooked l place doing given new) (is ∙ one_more) looks))

  sees_legal : (r s : Option Refusal) → Meets e past after r s → s ≡ None → SeesWhereLegal r past.run old → SeesWhereLegal s after.run new
  sees_legal (Some r) s met none before = absurd (let f : Some r ≡ None = sym met ∙ none in cc)
  sees_legal None (Some s) met none before = absurd (let f : Some s ≡ None = none in cc)
  sees_legal None None met none before = saw after.run refl met.1 met.0 before

  pub sees : Takes e past after → after.refusal ≡ None → SeesWhereLegal past.refusal past.run old → SeesWhereLegal after.refusal after.run new
  sees takes none before = sees_legal past.refusal after.refusal takes.meets none before

pub on_ok : {T E A B : Type 0} (r : Result T E) → OnOk r A → (A → B) → OnOk r B
on_ok (Ok x) a f = f a
on_ok (Err e) a f = tt
