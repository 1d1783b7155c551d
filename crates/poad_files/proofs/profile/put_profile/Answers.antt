use Rattle.std.proofs.Common.{subst, List, ℕ}
use Rattle.std.proofs.lemmas.Result.{on_ok_weaker}
use Rattle.poad_files.specs.KeyLine.{KeyShown}
use Rattle.poad_files.specs.Shown.{Adds}
use Rattle.poad_files.proofs.Adding.{body_added}
use Rattle.poad_files.proofs.profile.put_profile.Goals as goal

pub returns-in_ok-put_body-in-Some : goal.returns-in_ok-put_body-in-Some
returns-in_ok-put_body-in-Some c =
    on_ok_weaker c.put_key.result
    (λ adds. body_added c.args.index c.args.profile.now c.in-Some.body _ _ _ (rw c.in-Some.is at c.in_ok-body.ensures) c.in_ok-put_body-in-Some.ensures
    (subst (λ (key : List ℕ). Adds (KeyShown key) c.put_body.new.out.items c.put_key.new.out.items) c.as_slice.ensures adds)) c.put_key.ensures
