use Rattle.std.proofs.Common.{IfSome, sym, ◌∙◌, subst}
use Rattle.core_outboxes.specs.declared.filed.Filed.{Filed}
use Rattle.journal_audit.specs.Looking.{IsGivenIn}
use Rattle.journal_audit.specs.declared.onlooker.Onlooker.{Onlooker}
use Rattle.journal_audit.proofs.Attended.{get_ready, looks_legal, seen_same}
use Rattle.journal_audit.proofs.Stepping.{none_of}
use Rattle.journal_audit.proofs.onlooker.Onlooker.attend.Goals as goal

pub get-requires : goal.get-requires
get-requires c =
    let o = c.args.self.now in
    let old = c.args.auditor.now in
    let none = none_of old.refusal (sym c.is_some.ensures ∙ c.if-is_some.false) in
    let own = sym c.is_given-is_given.ensures ∙ c.if-is_given.true in
    let same = seen_same c.args.entry o c.see.new.self own c.in_ok-see.ensures.sees in
    subst (λ (p : Onlooker). IfSome c.in_ok-given.given (λ (f : Filed). IsGivenIn p f)) (sym same)
    (get_ready c.args.entry old.run o c.follow.new.self.refusal c.in_ok-given.given own (looks_legal old.refusal old.run o none c.requires.looks)
    c.in_ok-given.ensures.gives)
