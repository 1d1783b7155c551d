use Rattle.std.proofs.Common.{refl, sym, ◌∙◌}
use Rattle.poa_base.specs.declared.Entry.TheVariants.{Arrive}
use Rattle.core_run.proofs.Quieted.{quiet_where}
use Rattle.core_run.proofs.ArrivedThen.{kept_asked, kept_unasked, has_row, has_none}
use Rattle.core_run.proofs.arriving.place.Goals as goal

pub quiet-requires-clause-quiet : goal.quiet-requires-clause-quiet
quiet-requires-clause-quiet c =
    quiet_where (Arrive c.args.conn c.args.size c.args.call) c.args.inside.now c.requires.ready.agrees c.requires.may refl
    (λ fs filed. record { which = filed.which; each = filed.each })

pub returns-in-Some-clause-kept : goal.returns-in-Some-clause-kept
returns-in-Some-clause-kept c =
    (let is = sym c.row_of-row.ensures ∙ c.in-Some.is in
    kept_asked c.args.conn c.args.size c.args.call c.args.inside.now c.quiet.new.inside c.requires.ready c.quiet.ensures c.in-Some.row c.owe.new.self is
    (has_row c.args.inside.now.tables.tally.arrivals c.args.conn c.args.call c.in-Some.row is) c.owe.ensures.owing c.owe.ensures.files c.owe.ensures.due)

pub returns-in_default-clause-kept : goal.returns-in_default-clause-kept
returns-in_default-clause-kept c =
    kept_unasked c.args.conn c.args.size c.args.call c.args.inside.now c.quiet.new.inside c.requires.ready c.quiet.ensures
    (has_none c.args.inside.now.tables.tally.arrivals c.args.conn c.args.call (sym c.row_of-row.ensures ∙ c.in_default.is))
