use Rattle.std.proofs.Common.{◌∙◌, not, ◌&&◌, ap, sym, refl}
use Rattle.std.specs.List.{list_any}
use Rattle.history_standing.specs.Ends.{is_over}
use Rattle.history_standing.specs.Standings.{is_of}
use Rattle.core_standing.specs.Seen.{forgotten}
use Rattle.core_standing.proofs.Behind.{any_behind, second_fails}
use Rattle.core_turns.proofs.commands.has_kept.Goals as goal

pub returns : goal.returns
returns c =
    (let s = c.args.standing.now in
    c.is_any_kept.ensures
    ∙ ap (λ id. list_any (λ a. is_of c.args.adapter id a && not (is_over c.args.config.now a)) c.args.standing.now.activations.kept) c.as_slice.ensures.value
    ∙ sym (any_behind (λ a. is_of c.args.adapter c.args.oid.now a && not (is_over c.args.config.now a))
    (second_fails (is_of c.args.adapter c.args.oid.now forgotten) _ refl) s.activations.forgotten s.activations.kept))
