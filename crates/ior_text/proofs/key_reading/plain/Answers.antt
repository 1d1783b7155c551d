use Rattle.std.proofs.Common.{sym, ◌∙◌}
use Rattle.ior_text.proofs.KeyStrings.{begins_plain}
use Rattle.ior_text.proofs.key_reading.plain.Goals as goal

pub returns-then-stands_for_itself : goal.returns-then-stands_for_itself
returns-then-stands_for_itself c =
    begins_plain c.args.byte c.args.behind.now c.requires (sym c.stands_for_itself.ensures ∙ c.if-stands_for_itself.true)
