-- A refused field is where reading stops.
use Rattle.std.proofs.Common.{inl, inr}
use Rattle.cdr_core.specs.Kind.{ULong, Octets}
use Rattle.ior_text.proofs.Stopping.{breaks_where_refused}
use Rattle.ior_text.proofs.Refused.{on_err}
use Rattle.ior_text.proofs.seen_profile.view_profile.Goals as goal

pub returns-in_err-tag-clause-bad : goal.returns-in_err-tag-clause-bad
returns-in_err-tag-clause-bad c =
    on_err _ (inl (breaks_where_refused ULong _ _ _ c.in_err-tag.ensures.err c.in_err-tag.ensures.refused))

pub returns-in_err-data-clause-bad : goal.returns-in_err-data-clause-bad
returns-in_err-data-clause-bad c =
    on_err _ (inr (record {
      number = c.in_ok-tag.tag;
      tagged = c.ulong.new.self;
      tag = c.in_ok-tag.ensures.ok;
      breaks = breaks_where_refused Octets _ _ _ c.in_err-data.ensures.err c.in_err-data.ensures.refused;
    }))
