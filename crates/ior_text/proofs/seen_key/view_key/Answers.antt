-- The key of the body that was read is the profile's, and without a body there is none.
use Rattle.std.proofs.Common.{◌≡◌, sym, arith}
use Rattle.ior_text.specs.declared.profile.TheConstants.{TAG_INTERNET_IOP}
use Rattle.ior_text.proofs.Bodies.{unread}
use Rattle.ior_text.proofs.Keys.{none_told}
use Rattle.ior_text.specs.Seen.{seen_profile}
use Rattle.ior_text.proofs.Fields.{told}
use Rattle.ior_text.proofs.Lying.{key_lies}
use Rattle.ior_text.proofs.seen_key.view_key.Goals as goal

pub returns-in-Ok-clause-lent : goal.returns-in-Ok-clause-lent
returns-in-Ok-clause-lent c =
    let tag : c.args.profile.now.tag ≡ TAG_INTERNET_IOP = omega arith in
    key_lies (seen_profile c.args.profile.now) c.in-Ok.key.now
    (told (seen_profile c.args.profile.now) _ _ tag (sym c.in_ok-view.ensures) c.in-Ok.ensures.ok)

pub returns-in-Err-clause-key : goal.returns-in-Err-clause-key
returns-in-Err-clause-key c =
    none_told (seen_profile c.args.profile.now)
    (unread (seen_profile c.args.profile.now) _ (sym c.in_ok-view.ensures) c.in-Err.ensures.bad)
