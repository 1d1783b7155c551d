use Rattle.std.proofs.Common.{◌≡◌, ◌∙◌, List, ℕ, rules, subst}
use Rattle.replay_run.specs.Playing.{IsOpening}
use Rattle.replay_run.specs.Quiet.{world_of}
use Rattle.poad_load.specs.Played.{Tells}
use Rattle.poad_load.proofs.Parts.{is_loaded}
use Rattle.poad_load.proofs.loading.loaded.Goals as goal

pub returns : goal.returns
returns c =
    let p = c.in_ok-play.play in
    let lent : c.deref.result.now ≡ c.in_ok-names.names.items = search rules in
    let read : c.deref-2.result.now ≡ c.end.new.messages.items = search rules in
    is_loaded c.args.config c.args.calls c.args.start p c.enter.new.play c.play_draws.new.play c.end.new.play _ c.end.new.messages.items c.core.result.now
    c.in_ok-text.text.items
    (subst (λ (ns : List (List ℕ)). IsOpening c.args.config 4000000 ns (world_of p)) (lent ∙ c.in_ok-names.ensures) c.in_ok-play.ensures.opens)
    c.in_ok-enter.ensures c.in_ok-play_draws.ensures c.in_ok-end.ensures (search rules) c.core.ensures
    (subst (λ (m : List ℕ). Tells c.args.calls c.core.result.now m c.in_ok-text.text.items) read c.in_ok-text.ensures.tells)
    c.load_lines.ensures.legal c.load_lines.ensures.lifetime
