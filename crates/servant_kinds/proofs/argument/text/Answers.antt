use Rattle.std.proofs.Common.{◌≡◌, ◌⊎◌, subst, sym, ◌∙◌, ap, Some}
use Rattle.cdr_core.specs.declared.CdrFault.TheVariants.{WantMemory}
use Rattle.cdr_core.specs.Kind.{Text}
use Rattle.cdr_core.specs.Field.{text}
use Rattle.cdr_core.specs.Cursor.{Cursor, Reads}
use Rattle.cdr_core.specs.Refusal.{Refuses}
use Rattle.servant_kinds.proofs.Strings.{text_is, gap-4, refused_text}
use Rattle.servant_kinds.proofs.argument.text.Goals as goal

pub returns-in-Ok : goal.returns-in-Ok
returns-in-Ok c =
    let reads = subst (λ (x : Cursor). Reads (text c.in-Ok.bytes.items) x c.text.new.self) c.front.ensures c.in-Ok.ensures.ok in
    ap Some c.from_vec.ensures ∙ sym (text_is c.args.body.now _ _ _ (gap-4 c.args.body.now.base) reads)

pub returns-in-Err : goal.returns-in-Err
returns-in-Err c =
    let refused = subst (λ (x : Cursor). (c.in-Err.fault ≡ WantMemory) ⊎ Refuses Text x c.in-Err.fault) c.front.ensures c.in-Err.ensures.refused in
    refused_text c.args.body.now _ _ _ (gap-4 c.args.body.now.base) refused c.unreadable.ensures.none c.unreadable.ensures.other
