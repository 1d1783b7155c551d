use Rattle.std.proofs.Common.{rules}
use Rattle.std.specs.BTreeMap.{get}
use Rattle.std.specs.Option.{is_some}
use Rattle.std.specs.Ordering.{nat_cmp}
use Rattle.std.proofs.lemmas.Fn.{filter_same}
use Rattle.active_map.proofs.leaving.strike_forgotten.Goals as goal

pub returns : goal.returns
returns c = filter_same _ (λ n. is_some (get nat_cmp c.args.rows.now n)) _ (λ x b f' k. search rules) _ _ c.retain.ensures.filtered
