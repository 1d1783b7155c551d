use Rattle.std.proofs.Common.{inr, sym, ◌∙◌, ap}
use Rattle.std.specs.Option.{option_copied}
use Rattle.ior_text.specs.Address.{address_of}
use Rattle.ior_text.proofs.Listing.{found_wrong, found_all, found_more}
use Rattle.ior_text.proofs.corbaloc_reading.read_addresses.Goals as goal

pub returns-in_default : goal.returns-in_default
returns-in_default c =
    inr (found_wrong _ _ _ _ c.loop-addresses.invariant
    (ap address_of (sym c.cut.ensures.before) ∙ sym c.in_ok-address.ensures ∙ c.in_default.is))

pub returns-in_default-back : goal.returns-in_default-back
returns-in_default-back c =
    rw c.in_ok-push.ensures.ok
    (found_all _ _ _ _ _ c.loop-addresses.invariant
    (ap address_of (sym c.cut.ensures.before) ∙ sym c.in_ok-address.ensures ∙ c.in-Some.is)
    (sym c.cut.ensures.behind ∙ ap option_copied c.in_default-back.is))

pub loop-addresses-preserved : goal.loop-addresses-preserved
loop-addresses-preserved c =
    rw c.in_ok-push.ensures.ok
    (found_more _ _ _ _ _ _ c.loop-addresses.invariant
    (ap address_of (sym c.cut.ensures.before) ∙ sym c.in_ok-address.ensures ∙ c.in-Some.is)
    (sym c.cut.ensures.behind ∙ ap option_copied c.in-Some-back.is))
