-- By the disposition.
use Rattle.std.proofs.Common.{ℕ, sym, subst, refl, arith}
use Rattle.giop_msg.specs.Target.{by_key}
use Rattle.giop_msg.specs.Reading.{NoAddress}
use Rattle.ior_text.proofs.Refused.{on_err}
use Rattle.giop_msg.proofs.Targets.{no_key, other_disposition}
use Rattle.giop_msg.proofs.target.view_address.Goals as goal

pub returns-in_err-octets-in-0-clause-bad : goal.returns-in_err-octets-in-0-clause-bad
returns-in_err-octets-in-0-clause-bad c =
    on_err _ (subst (λ (n : ℕ). NoAddress n c.args.view.now) (sym c.in-0.is) (no_key _ _ c.in_err-octets-in-0.ensures.refused))

pub returns-in_err-by_profile-in-1-clause-bad :
    goal.returns-in_err-by_profile-in-1-clause-bad
returns-in_err-by_profile-in-1-clause-bad c =
    on_err _ (subst (λ (n : ℕ). NoAddress n c.args.view.now) (sym c.in-1.is) c.in_err-by_profile-in-1.ensures.bad)

pub returns-in_err-by_reference-in-2-clause-bad :
    goal.returns-in_err-by_reference-in-2-clause-bad
returns-in_err-by_reference-in-2-clause-bad c =
    on_err _ (subst (λ (n : ℕ). NoAddress n c.args.view.now) (sym c.in-2.is) c.in_err-by_reference-in-2.ensures.bad)

pub returns-in_ok-octets-in-0-clause-ok : goal.returns-in_ok-octets-in-0-clause-ok
returns-in_ok-octets-in-0-clause-ok c = record {
  object = by_key c.in_ok-octets-in-0.field-0.now;
  is = sym c.in-0.is;
  read = c.in_ok-octets-in-0.ensures.ok;
  gives = refl;
}

pub returns-in_default-clause-bad : goal.returns-in_default-clause-bad
returns-in_default-clause-bad c = other_disposition c.args.disposition c.args.view.now (omega arith)
