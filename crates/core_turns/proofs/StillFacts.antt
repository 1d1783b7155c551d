-- Where no activation is on its way in or out, none is unfinished.
use Rattle.std.specs.Prelude.{◌≡◌, false, not, ◌&&◌}
use Rattle.std.proofs.lemmas.Bool.{and_left, or_from}
use Rattle.poa_base.specs.declared.Config.{Config}
use Rattle.history_standing.specs.declared.activation.Activation.{Activation}
use Rattle.history_standing.specs.Ends.{is_finished}
use Rattle.history_standing.specs.Situations.{is_unfinished}
use Rattle.history_standing.specs.Standings.{is_begun}
use Rattle.active_map.specs.Tables.{is_moving}
use Rattle.active_map.proofs.Moving.{still_begun, still_in}

module _ (c : Config) (a : Activation) (still : is_moving a ≡ false) where
  pub still_finished : is_unfinished c a ≡ false
  still_finished = or_from (is_begun a) (a.out && not (is_finished c a)) (still_begun a still) (and_left a.out (not (is_finished c a)) (still_in a still))
