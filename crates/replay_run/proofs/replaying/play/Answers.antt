use Rattle.std.proofs.Common.{ℕ, List, ap, ◌∙◌}
use Rattle.giop_msg.specs.Ask.{request_bytes}
use Rattle.replay_run.specs.Asking.{ask_for}
use Rattle.replay_run.specs.Working.{Turns, Runs, ByWorker}
use Rattle.replay_run.proofs.Same.{still_worker_turns, still_worker_runs}
use Rattle.replay_run.proofs.Seats.{keeps_still}
use Rattle.session_laws.proofs.Answers.{on_ok}
use Rattle.replay_run.proofs.Whole.{life_shows, step_shows, ask_shows, keeps_printed}
use Rattle.replay_run.proofs.replaying.play.Goals as goal

pub returns-in_ok-bytes-in-Ask-clause-shows : goal.returns-in_ok-bytes-in-Ask-clause-shows
returns-in_ok-bytes-in-Ask-clause-shows c = on_ok c.take_line.result _ _
    (λ p. step_shows c.args.step.now _ c.args.player.now c.take_line.new.player c.args.channels.now.items c.take_line.new.channels.items c.in-Ask.is
    (ask_shows _ _ _ _ _ c.as_slice.result.now _ c.args.player.now c.take_line.new.player c.args.channels.now.items c.take_line.new.channels.items
    (c.as_slice.ensures
    ∙ (c.in_ok-bytes-in-Ask.ensures
    ∙ ap (λ (key : List ℕ). request_bytes (ask_for c.in-Ask.id key c.in-Ask.operation c.in-Ask.argument)) c.in_ok-key-in-Ask.ensures)) p))
    c.take_line.ensures.shows

pub returns-in-Step-clause-shows : goal.returns-in-Step-clause-shows
returns-in-Step-clause-shows c = on_ok c.step.result _ _
    (λ p. step_shows c.args.step.now _ c.args.player.now c.step.new.self c.args.channels.now.items c.args.channels.now.items c.in-Step.is
    (life_shows (ByWorker Turns c.in-Step.worker) c.args.player.now c.step.new.self c.args.channels.now.items p))
    c.step.ensures

pub returns-in-Step-clause-keeps : goal.returns-in-Step-clause-keeps
returns-in-Step-clause-keeps c = on_ok c.step.result _ _
    (λ p. keeps_still c.args.player.now c.step.new.self c.args.channels.now.items c.requires
    (still_worker_turns c.in-Step.worker c.args.player.now.core p.text c.step.new.self.core p.does) p.filled)
    c.step.ensures

pub returns-in-Run-clause-shows : goal.returns-in-Run-clause-shows
returns-in-Run-clause-shows c = on_ok c.run.result _ _
    (λ p. step_shows c.args.step.now _ c.args.player.now c.run.new.self c.args.channels.now.items c.args.channels.now.items c.in-Run.is
    (life_shows (ByWorker Runs c.in-Run.worker) c.args.player.now c.run.new.self c.args.channels.now.items p))
    c.run.ensures

pub returns-in-Run-clause-keeps : goal.returns-in-Run-clause-keeps
returns-in-Run-clause-keeps c = on_ok c.run.result _ _
    (λ p. keeps_still c.args.player.now c.run.new.self c.args.channels.now.items c.requires
    (still_worker_runs c.in-Run.worker c.args.player.now.core p.text c.run.new.self.core p.does) p.filled)
    c.run.ensures

pub returns-in-Store-clause-keeps : goal.returns-in-Store-clause-keeps
returns-in-Store-clause-keeps c =
    on_ok c.show_store.result _ _ (λ p. keeps_printed _ c.args.player.now c.show_store.new.self c.args.channels.now.items c.requires p) c.show_store.ensures

pub returns-in-Journal-clause-keeps : goal.returns-in-Journal-clause-keeps
returns-in-Journal-clause-keeps c =
    on_ok c.show_journal.result _ _ (λ p. keeps_printed _ c.args.player.now c.show_journal.new.self c.args.channels.now.items c.requires p)
    c.show_journal.ensures
