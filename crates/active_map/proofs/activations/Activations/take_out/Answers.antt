use Rattle.std.proofs.Common.{true, ap, subst, sym, ◌∙◌}
use Rattle.history_standing.specs.Changes.{is_elsewhere}
use Rattle.active_map.specs.Tables.{Table, Covers}
use Rattle.active_map.proofs.Covering.{covers_struck, gone_out}
use Rattle.active_map.proofs.MadeKeeps.{same_change}
use Rattle.active_map.proofs.RowsKept.{tabled}
use Rattle.active_map.proofs.activations.Activations.take_out.Goals as goal

pub invariant_of-self : goal.invariant_of-self
invariant_of-self c =
    (let t = c.self.inside in
    let values = ap (λ (u : Table). u.kept) (c.self.view_is ∙ c.change.ensures) in
    record {
      table = c.self.invariant.table;
      indexed = c.self.invariant.indexed;
      covered =
          subst (Covers c.strike.new.leaving.keys) (sym values)
          (covers_struck t.leaving.keys c.strike.new.leaving.keys c.args.number
          (λ a. record a { out = true; remaining = c.remains-remaining.result }) c.args.self.now.kept gone_out c.strike.ensures.others
          (subst (Covers t.leaving.keys) values c.self.invariant.covered));
      noted = c.self.invariant.noted;
    })

pub returns : goal.returns
returns c =
    c.self.view_is ∙ c.change.ensures
    ∙ ap (tabled c.args.self.now.forgotten)
    (same_change c.args.number (λ a. record a { out = true; remaining = c.remains-remaining.result })
    (λ a. record a { out = true; remaining = is_elsewhere c.args.self.now.kept a }) c.args.self.now.kept
    (λ a there hit. ap (λ r. record a { out = true; remaining = r }) (c.remains-remaining.ensures a there hit)))
