use Rattle.std.proofs.Common.{subst, sym, Ok, List, ℕ}
use Rattle.ior_text.specs.Text.{TextGives}
use Rattle.ior_text.proofs.OneText.{only_this}
use Rattle.ior_text.proofs.ReadingBack.{text_back}
use Rattle.ior_text.proofs.reading.read_ior.Goals as goal

pub returns-clause-only : goal.returns-clause-only
returns-clause-only c = only_this _ _ c.read_text.ensures.ior c.read_text.ensures.fault

pub returns-clause-back : goal.returns-clause-back
returns-clause-back c = λ ior fits is.
    only_this _ _ c.read_text.ensures.ior c.read_text.ensures.fault (Ok ior) (subst (λ (t : List ℕ). TextGives t (Ok ior)) (sym is) (text_back ior fits))
