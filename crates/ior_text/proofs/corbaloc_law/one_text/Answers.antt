use Rattle.ior_text.proofs.Locations.{one_text}
use Rattle.ior_text.proofs.corbaloc_law.one_text.Goals as goal

pub returns : goal.returns
returns c = one_text
