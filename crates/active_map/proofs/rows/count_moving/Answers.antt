use Rattle.std.proofs.Common.{rules, tests}
use Rattle.std.specs.BTreeMap.{values}
use Rattle.std.proofs.lemmas.Iterator.Consumers.{YieldsList-at, YieldsList-from_rest, YieldsList-from_filter, count_from_yields_List}
use Rattle.active_map.specs.Tables.{is_moving}
use Rattle.active_map.proofs.rows.count_moving.Goals as goal

pub returns : goal.returns
returns c =
    count_from_yields_List c.filter.result _ c.count.ensures.ran
    (YieldsList-from_filter _ is_moving (YieldsList-at c.filter.ensures.source (YieldsList-from_rest (values c.args.rows.now) c.values.ensures.rest))
    c.filter.ensures.closure (λ x b q k. search (rules, tests)))
