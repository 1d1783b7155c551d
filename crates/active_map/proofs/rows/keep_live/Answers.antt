use Rattle.std.proofs.Common.{rules}
use Rattle.std.proofs.lemmas.Map.Made.{filter_same_pairs}
use Rattle.active_map.specs.Live.{is_live}
use Rattle.active_map.proofs.rows.keep_live.Goals as goal

pub returns-clause-live : goal.returns-clause-live
returns-clause-live c = filter_same_pairs _ (λ e. is_live c.args.config.now e.1) _ (λ k v b w f' t. search rules) _ _ c.retain.ensures.filtered
