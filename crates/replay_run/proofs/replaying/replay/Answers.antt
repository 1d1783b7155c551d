use Rattle.std.proofs.Common.{◌≡◌, List, ℕ, rules, subst}
use Rattle.replay_script.specs.declared.ScriptStep.{ScriptStep}
use Rattle.replay_run.specs.declared.channel.Channel.{Channel}
use Rattle.replay_run.specs.Working.{Rests, Then}
use Rattle.replay_run.specs.Playing.{AreFresh, CollectsEach, PlaysAll}
use Rattle.replay_run.specs.Keeping.{Shows}
use Rattle.replay_run.specs.Effects.{Works}
use Rattle.replay_run.proofs.Whole.{keeps_first, is_played}
use Rattle.replay_run.proofs.replaying.replay.Goals as goal

pub play_all-requires : goal.play_all-requires
play_all-requires c =
    keeps_first c.args.config c.args.limit c.in_ok-player.player _ c.in_ok-channels.channels.items c.in_ok-player.ensures c.in_ok-channels.ensures

pub returns : goal.returns
returns c =
    let p = c.in_ok-player.player in
    let q = c.play_all.new.player in
    let r = c.finish.new.player in
    let xs = c.in_ok-channels.channels.items in
    let ys = c.play_all.new.channels.items in
    let fresh = subst (λ (names : List (List ℕ)). AreFresh names xs) c.as_slice.ensures c.in_ok-channels.ensures in
    let shows = subst (λ (steps : List ScriptStep). Shows (PlaysAll steps) p q xs ys) c.as_slice-2.ensures c.in_ok-play_all.ensures.shows in
    let lent : c.deref.result.now ≡ ys = search rules in
    let works = subst (λ (cs : List Channel). Works (Then Rests (CollectsEach cs)) q r) lent c.in_ok-finish.ensures in
    is_played c.args.config c.args.limit c.args.script.now c.result_of.result p q r xs ys c.in_ok-player.ensures fresh c.in_ok-play_all.ensures.keeps shows
    works
    c.result_of.ensures.printed c.result_of.ensures.held c.result_of.ensures.full c.collecting_changes_no_turn.ensures c.result_of.ensures.runs
    c.result_of.ensures.legal c.result_of.ensures.lifetime c.result_of.ensures.undone c.result_of.ensures.updates
