use Rattle.std.proofs.Common.{ℕ, subst}
use Rattle.replay_script.specs.declared.Step.{Step}
use Rattle.replay_run.specs.Playing.{Plays}
use Rattle.replay_run.specs.Quiet.{Quietly, world_of}
use Rattle.poad_load.specs.Loading.{TakesTurns}
use Rattle.poad_load.specs.Played.{Played}
use Rattle.poad_load.specs.Schedule.{call_step, turns, worker}
use Rattle.poad_load.proofs.Parts.{first_played}
use Rattle.poad_load.proofs.playing.play_draw.Goals as goal

pub returns : goal.returns
returns c =
    let d = c.args.draw.bits in
    let a = c.args.play.now in
    let b = c.play.new.self in
    let z = c.take_turns.new.play in
    first_played (Plays (call_step c.args.id d)) (TakesTurns (turns d) (worker d)) a b z
    (subst (λ (s : Step). Quietly (Plays s) (world_of a) (world_of b)) c.in_ok-step.ensures c.in_ok-play.ensures.plays) c.in_ok-play.ensures.givens
    (subst (λ (w : ℕ). Played (TakesTurns (turns d) w) b z) c.worker.ensures
    (subst (λ (k : ℕ). Played (TakesTurns k c.worker.result) b z) c.turns.ensures c.in_ok-take_turns.ensures))
