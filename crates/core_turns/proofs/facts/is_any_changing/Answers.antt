use Rattle.std.proofs.Common.{◌==◌, ◌&&◌, sym, ◌∙◌}
use Rattle.std.proofs.lemmas.Bool.{and_right, not-true}
use Rattle.history_standing.specs.Situations.{is_unfinished}
use Rattle.active_map.proofs.Moving.{any_still}
use Rattle.core_turns.proofs.StillFacts.{still_finished}
use Rattle.core_turns.proofs.facts.is_any_changing.Goals as goal

pub returns-then-is_still : goal.returns-then-is_still
returns-then-is_still c =
    (let config = c.args.config.now in
    sym (any_still (λ a. (a.adapter == c.args.adapter) && is_unfinished config a)
    (λ a still. and_right (a.adapter == c.args.adapter) (is_unfinished config a) (still_finished config a still)) c.args.activations.now.kept
    (not-true _ (sym c.is_still.ensures ∙ c.if-is_still.true))))
