-- What becomes of an entry, by its kind.
use Rattle.std.proofs.Common.{◌≡◌, true, false, is_some, Option, Some, None, refl, sym, subst}
use Rattle.poa_base.specs.declared.Entry.{Entry}
use Rattle.poa_base.specs.declared.Entry.TheVariants.{Collect}
use Rattle.poa_history.specs.Life.{Life}
use Rattle.core_outboxes.specs.declared.filed.Filed.{Filed}
use Rattle.journal_audit.specs.declared.breach.Breach.{Breach}
use Rattle.journal_audit.specs.declared.judged.Judged.{Judged}
use Rattle.journal_audit.specs.declared.judged.Judged.TheVariants.{Taken}
use Rattle.journal_audit.specs.declared.refusal.Refusal.{Refusal}
use Rattle.journal_audit.specs.Judging.{Gives, GivesBack, IsJudged, Judges, breach_of, is_brief}

gives_brief : (e : Entry) (life : Life) (j : Judged) → is_brief e ≡ true → Gives e life j
gives_brief (Collect conn a) life j brief = absurd (let f : false ≡ true = brief in cc)
gives_brief e life j brief = tt

-- an entry that gives no reply
pub judged_of : (e : Entry) (old new : Life) (b : Option Breach) (j : Judged) → breach_of j ≡ b → Gives e old j → Judges e old b new → IsJudged e old j new
judged_of e old new b j same gives is = (subst (λ (o : Option Breach). Judges e old o new) (sym same) is, gives)

pub judged_brief : (e : Entry) (old new : Life) (b : Option Breach) (j : Judged) → breach_of j ≡ b → is_brief e ≡ true → Judges e old b new
    → IsJudged e old j new
judged_brief e old new b j same brief is = judged_of e old new b j same (gives_brief e old j brief) is

-- what was given is handed out
pub gives_taken : (e : Entry) (life : Life) (given : Option Filed) → Gives e life (Taken given) → GivesBack e life None given
gives_taken (Collect conn a) life (Some f) it = it
gives_taken (Collect conn a) life None it = absurd it
gives_taken e life given it = tt

pub gives_refused : (e : Entry) (life : Life) (o : Option Refusal) → is_some o ≡ true → GivesBack e life o None
gives_refused (Collect conn a) life (Some r) some = refl
gives_refused (Collect conn a) life None some = absurd (let f : false ≡ true = some in cc)
gives_refused e life o some = tt
