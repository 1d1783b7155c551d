use Rattle.std.proofs.Common.{rules}
use Rattle.std.proofs.lemmas.Map.Made.{map_same_pairs}
use Rattle.active_map.specs.Endings.{ended}
use Rattle.active_map.proofs.rows.end_all.Goals as goal

pub returns : goal.returns
returns c = map_same_pairs _ (ended c.args.ending) _ (λ k v b w f' t. search rules) _ _ c.retain.ensures.filtered
