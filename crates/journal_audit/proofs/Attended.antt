-- An onlooker attends as an auditor takes one entry more.
use Rattle.std.proofs.Common.{◌≡◌, ℕ, ◌==◌, Bool, true, false, is_some, IfSome, OnOk, Option, Some, None, Result, Ok, Err, refl, sym, subst}
use Rattle.std.proofs.lemmas.Bool.{eqb-true}
use Rattle.poa_base.specs.declared.Entry.{Entry}
use Rattle.poa_base.specs.declared.Entry.TheVariants.{Collect}
use Rattle.poa_history.specs.Life.{Life, with_entry}
use Rattle.core_outboxes.specs.declared.filed.Filed.{Filed}
use Rattle.journal_audit.specs.declared.auditor.Auditor.{Auditor}
use Rattle.journal_audit.specs.declared.onlooker.Onlooker.{Onlooker}
use Rattle.journal_audit.specs.declared.refusal.Refusal.{Refusal}
use Rattle.journal_audit.specs.Auditing.{Meets}
use Rattle.journal_audit.specs.Judging.{GivesBack, GivesBackIt}
use Rattle.journal_audit.specs.Looking.{Gets, IsGivenIn, Looks, LooksWhere, Sees, SeesBy, is_given_to}
use Rattle.journal_audit.proofs.Looked.{reply_is_given}

pub looks_refused : (r : Option Refusal) (life : Life) (o : Onlooker) → is_some r ≡ true → LooksWhere r life o
looks_refused (Some r) life o some = tt
looks_refused None life o some = absurd (let f : false ≡ true = some in cc)

pub looks_legal : (r : Option Refusal) (life : Life) (o : Onlooker) → r ≡ None → LooksWhere r life o → Looks life o
looks_legal None life o none looks = looks
looks_legal (Some r) life o none looks = absurd (let f : Some r ≡ None = none in cc)

-- the entry was taken, or not
pub looks_after : (e : Entry) (old new : Auditor) (p : Onlooker) (before after : Option Refusal) → Meets e old new before after → before ≡ None
    → (after ≡ None → Looks (with_entry e old.run) p) → LooksWhere after new.run p
looks_after e old new p None None met none step = subst (λ (life : Life). Looks life p) (sym met.1) (step refl)
looks_after e old new p None (Some r) met none step = tt
looks_after e old new p (Some r) after met none step = absurd (let f : Some r ≡ None = none in cc)

-- one that gives the connection no reply
pub seen_looks : (e : Entry) (life : Life) (o p : Onlooker) → is_given_to o.link.conn e ≡ false → Sees e o p → Looks life o → Looks (with_entry e life) p
seen_looks e life o p other sees looks = (subst (λ (b : Bool). SeesBy b e o p) other sees) life looks

-- one that does: nothing was changed as it was seen
pub seen_same : (e : Entry) (o p : Onlooker) → is_given_to o.link.conn e ≡ true → Sees e o p → p ≡ o
seen_same e o p own sees = subst (λ (b : Bool). SeesBy b e o p) own sees

-- the reply that it gives, if it is taken, can be written
get_by : (life : Life) (o : Onlooker) (conn a : ℕ) → (conn == o.link.conn) ≡ true → Looks life o → (refusal : Option Refusal) (given : Option Filed)
    → GivesBackIt life conn a refusal given → IfSome given (IsGivenIn o)
get_by life o conn a own looks None (Some f) gives = reply_is_given life o looks conn a f own gives
get_by life o conn a own looks None None gives = tt
get_by life o conn a own looks (Some r) given gives = subst (λ (g : Option Filed). IfSome g (IsGivenIn o)) (sym gives) tt

pub get_ready : (e : Entry) (life : Life) (o : Onlooker) (refusal : Option Refusal) (given : Option Filed) → is_given_to o.link.conn e ≡ true
    → Looks life o → GivesBack e life refusal given → IfSome given (IsGivenIn o)
get_ready (Collect conn a) life o refusal given own looks gives = get_by life o conn a own looks refusal given gives
get_ready e life o refusal given own looks gives = absurd (let f : false ≡ true = own in cc)

-- and was compared with what was written
got_by : (life : Life) (o p : Onlooker) (conn a : ℕ) → (conn == o.link.conn) ≡ true → Looks life o → (given : Option Filed)
    → GivesBackIt life conn a None given → IfSome given (λ (f : Filed). Gets f o p) → Looks (with_entry (Collect conn a) life) p
got_by life o p conn a own looks (Some f) gives gets =
    subst (λ (n : ℕ). Looks (with_entry (Collect n a) life) p) (sym (eqb-true conn o.link.conn own))
    (subst (λ (n : ℕ). Looks (with_entry (Collect o.link.conn n) life) p) gives.named (gets life looks gives.filed))
got_by life o p conn a own looks None gives gets = absurd gives

pub got_looks : (e : Entry) (life : Life) (o p : Onlooker) (refusal : Option Refusal) (given : Option Filed) → is_given_to o.link.conn e ≡ true
    → Looks life o → GivesBack e life refusal given → refusal ≡ None → IfSome given (λ (f : Filed). Gets f o p) → Looks (with_entry e life) p
got_looks (Collect conn a) life o p refusal given own looks gives none gets =
    got_by life o p conn a own looks given (subst (λ (r : Option Refusal). GivesBackIt life conn a r given) none gives) gets
got_looks e life o p refusal given own looks gives none gets = absurd (let f : false ≡ true = own in cc)

pub ok_any : {T E : Type 0} (r : Result T E) (P : Type 0) → P → OnOk r P
ok_any (Ok x) P p = p
ok_any (Err e) P p = tt
