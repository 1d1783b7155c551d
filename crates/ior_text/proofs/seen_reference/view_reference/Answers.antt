-- A refused field is where reading stops.
use Rattle.std.proofs.Common.{inl, inr}
use Rattle.cdr_core.specs.Kind.{Text, ULong}
use Rattle.ior_text.proofs.Stopping.{breaks_where_refused}
use Rattle.ior_text.proofs.Refused.{on_err}
use Rattle.ior_text.proofs.Lists.{reference_seen}
use Rattle.ior_text.proofs.seen_reference.view_reference.Goals as goal

pub returns-in_err-text-clause-bad : goal.returns-in_err-text-clause-bad
returns-in_err-text-clause-bad c =
    on_err _ (inl (breaks_where_refused Text _ _ _ c.in_err-text.ensures.err c.in_err-text.ensures.refused))

pub returns-in_err-count-clause-bad : goal.returns-in_err-count-clause-bad
returns-in_err-count-clause-bad c =
    on_err _ (inr (inl (record {
      name = c.in_ok-text.field-0.now;
      named = c.text.new.self;
      type_id = c.in_ok-text.ensures.ok;
      breaks = breaks_where_refused ULong _ _ _ c.in_err-count.ensures.err c.in_err-count.ensures.refused;
    })))

pub returns-in_err-found-clause-bad : goal.returns-in_err-found-clause-bad
returns-in_err-found-clause-bad c =
    on_err _ (inr (inr (record {
      name = c.in_ok-text.field-0.now;
      total = c.in_ok-count.count;
      named = c.text.new.self;
      counted = c.ulong.new.self;
      type_id = c.in_ok-text.ensures.ok;
      count = c.in_ok-count.ensures.ok;
      breaks = c.in_err-found.ensures.bad;
    })))

pub returns-clause-ok : goal.returns-clause-ok
returns-clause-ok c = reference_seen _ _ _ _ _ _ _ _ c.in_ok-text.ensures.ok c.in_ok-count.ensures.ok c.in_ok-found.ensures.ok
