use Rattle.history_standing.specs.Ends.{let_out}
use Rattle.std.proofs.Common.{rules}
use Rattle.std.proofs.lemmas.Map.Made.{map_same_pairs}
use Rattle.active_map.proofs.rows.let_all_out.Goals as goal

pub returns : goal.returns
returns c = λ s flown.
    map_same_pairs _ (let_out c.args.config.now s) _ (λ k v b w f' t. search (rules, flown)) _ _ c.retain.ensures.filtered
