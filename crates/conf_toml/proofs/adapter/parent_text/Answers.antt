use Rattle.std.proofs.Common.{Some, None, lit<, sym, arith}
use Rattle.std.proofs.lemmas.Grind.{common_steps}
use Rattle.std.proofs.lemmas.Str.Pattern.{rfind_char}
use Rattle.conf_toml.proofs.Parents.{parent_at, no_parent}
use Rattle.conf_toml.proofs.adapter.parent_text.Goals as goal

pub returns-in-Some : goal.returns-in-Some
returns-in-Some c =
    let found = rfind_char 47 c.args.text.now (Some c.in-Some.end) c.in-Some.ensures.cases (lit< tt) in
    let same = parent_at c.args.text.now c.in-Some.end found.0 found.1 found.2 in
    rw (c.range.ensures.value, same) (grind (arith, common_steps))

pub returns-in-None : goal.returns-in-None
returns-in-None c = sym (no_parent c.args.text.now (rfind_char 47 c.args.text.now None c.in-None.ensures.cases (lit< tt)))
