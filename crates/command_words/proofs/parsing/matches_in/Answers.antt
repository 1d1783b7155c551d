use Rattle.std.proofs.Common.{rules}
use Rattle.clap.proofs.WalkLemmas.{both}
use Rattle.command_words.proofs.parsing.matches_in.Goals as goal

pub returns-in-Ok-clause-ok : goal.returns-in-Ok-clause-ok
returns-in-Ok-clause-ok c simple = (search rules, c.in-Ok.ensures.kinds simple, (c.in-Ok.ensures.matches (both _ _ simple).0).0)
