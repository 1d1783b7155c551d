use Rattle.poad_cmd.proofs.Played.{plays_both}
use Rattle.poad_cmd.proofs.playing.play_files.Goals as goal

pub returns-in-Ok-take_script-clause-plays : goal.returns-in-Ok-take_script-clause-plays
returns-in-Ok-take_script-clause-plays g c = plays_both c.args.file.now c.args.script.now c.in-Ok.config c.in-Ok-take_script.script _ _ _ _ _
    c.in-Ok.ensures.taken c.take_config.ensures.contents c.take_script.ensures.contents c.in-Ok-take_script.ensures.taken c.play.result c.play.ensures.plays
