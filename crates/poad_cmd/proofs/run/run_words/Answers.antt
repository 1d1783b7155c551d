-- The words are a command, which is done, or none.
use Rattle.std.proofs.Common.{refl, sym, ◌∙◌, subst}
use Rattle.command_words.specs.Words.{Meant, answer, audit, explain, load, names, show, check, iors, migrate, loc, replay, command_in, seen}
use Rattle.poad_cmd.specs.Commands.{Does}
use Rattle.poad_cmd.specs.Complete.{Fits}
use Rattle.poad_cmd.proofs.Commanded.{as_meant, not_none, some_is}
use Rattle.poad_cmd.proofs.Completed.{completes}
use Rattle.poad_answer.specs.declared.names_end.NamesEnd.TheVariants.{WantMemory}
use Rattle.poad_answer.proofs.Named.{named_none}
use Rattle.poad_cmd.proofs.run.run_words.Goals as goal

pub returns-in-Ok-clause-bad_words : goal.returns-in-Ok-clause-bad_words
returns-in-Ok-clause-bad_words g c bad = absurd (c.run_command.ensures.is_command bad)

pub returns-in-Ok-clause-no_command : goal.returns-in-Ok-clause-no_command
returns-in-Ok-clause-no_command g c none = absurd (not_none (seen c.in-Ok.command) (command_in c.args.words.now) c.in-Ok.ensures.ok none)

pub returns-in-Ok-clause-untouched : goal.returns-in-Ok-clause-untouched
returns-in-Ok-clause-untouched g c none = absurd (not_none (seen c.in-Ok.command) (command_in c.args.words.now) c.in-Ok.ensures.ok none)

pub returns-in-Ok-clause-answers : goal.returns-in-Ok-clause-answers
returns-in-Ok-clause-answers g c name meant = as_meant
    (λ (m : Meant). Does m c.run_command.result (g.F.Files.contents c.args.host.now.files) (g.F.Files.contents c.run_command.new.host.files)
    (g.S.Source.left c.args.host.now.source) (g.S.Source.left c.run_command.new.host.source)
    (g.K.Sink.held c.args.host.now.sink) (g.K.Sink.held c.run_command.new.host.sink) c.args.host.now.source c.run_command.new.host.source c.args.host.now.files
    c.run_command.new.host.files)
    (seen c.in-Ok.command) (answer name) (command_in c.args.words.now) c.in-Ok.ensures.ok meant c.run_command.ensures.does

pub returns-in-Ok-clause-plays : goal.returns-in-Ok-clause-plays
returns-in-Ok-clause-plays g c file script meant = as_meant
    (λ (m : Meant). Does m c.run_command.result (g.F.Files.contents c.args.host.now.files) (g.F.Files.contents c.run_command.new.host.files)
    (g.S.Source.left c.args.host.now.source) (g.S.Source.left c.run_command.new.host.source)
    (g.K.Sink.held c.args.host.now.sink) (g.K.Sink.held c.run_command.new.host.sink) c.args.host.now.source c.run_command.new.host.source c.args.host.now.files
    c.run_command.new.host.files)
    (seen c.in-Ok.command) (replay file script) (command_in c.args.words.now) c.in-Ok.ensures.ok meant c.run_command.ensures.does

pub returns-in-Ok-clause-loads : goal.returns-in-Ok-clause-loads
returns-in-Ok-clause-loads g c n start meant = as_meant
    (λ (m : Meant). Does m c.run_command.result (g.F.Files.contents c.args.host.now.files) (g.F.Files.contents c.run_command.new.host.files)
    (g.S.Source.left c.args.host.now.source) (g.S.Source.left c.run_command.new.host.source)
    (g.K.Sink.held c.args.host.now.sink) (g.K.Sink.held c.run_command.new.host.sink) c.args.host.now.source c.run_command.new.host.source c.args.host.now.files
    c.run_command.new.host.files)
    (seen c.in-Ok.command) (load n start) (command_in c.args.words.now) c.in-Ok.ensures.ok meant c.run_command.ensures.does

pub returns-in-Ok-clause-shows : goal.returns-in-Ok-clause-shows
returns-in-Ok-clause-shows g c text meant = as_meant
    (λ (m : Meant). Does m c.run_command.result (g.F.Files.contents c.args.host.now.files) (g.F.Files.contents c.run_command.new.host.files)
    (g.S.Source.left c.args.host.now.source) (g.S.Source.left c.run_command.new.host.source)
    (g.K.Sink.held c.args.host.now.sink) (g.K.Sink.held c.run_command.new.host.sink) c.args.host.now.source c.run_command.new.host.source c.args.host.now.files
    c.run_command.new.host.files)
    (seen c.in-Ok.command) (show text) (command_in c.args.words.now) c.in-Ok.ensures.ok meant c.run_command.ensures.does

pub returns-in-Ok-clause-locates : goal.returns-in-Ok-clause-locates
returns-in-Ok-clause-locates g c text meant = as_meant
    (λ (m : Meant). Does m c.run_command.result (g.F.Files.contents c.args.host.now.files) (g.F.Files.contents c.run_command.new.host.files)
    (g.S.Source.left c.args.host.now.source) (g.S.Source.left c.run_command.new.host.source)
    (g.K.Sink.held c.args.host.now.sink) (g.K.Sink.held c.run_command.new.host.sink) c.args.host.now.source c.run_command.new.host.source c.args.host.now.files
    c.run_command.new.host.files)
    (seen c.in-Ok.command) (loc text) (command_in c.args.words.now) c.in-Ok.ensures.ok meant c.run_command.ensures.does

pub returns-in-Ok-clause-checks : goal.returns-in-Ok-clause-checks
returns-in-Ok-clause-checks g c name meant = as_meant
    (λ (m : Meant). Does m c.run_command.result (g.F.Files.contents c.args.host.now.files) (g.F.Files.contents c.run_command.new.host.files)
    (g.S.Source.left c.args.host.now.source) (g.S.Source.left c.run_command.new.host.source)
    (g.K.Sink.held c.args.host.now.sink) (g.K.Sink.held c.run_command.new.host.sink) c.args.host.now.source c.run_command.new.host.source c.args.host.now.files
    c.run_command.new.host.files)
    (seen c.in-Ok.command) (check name) (command_in c.args.words.now) c.in-Ok.ensures.ok meant c.run_command.ensures.does

pub returns-in-Ok-clause-iors : goal.returns-in-Ok-clause-iors
returns-in-Ok-clause-iors g c name meant = as_meant
    (λ (m : Meant). Does m c.run_command.result (g.F.Files.contents c.args.host.now.files) (g.F.Files.contents c.run_command.new.host.files)
    (g.S.Source.left c.args.host.now.source) (g.S.Source.left c.run_command.new.host.source)
    (g.K.Sink.held c.args.host.now.sink) (g.K.Sink.held c.run_command.new.host.sink) c.args.host.now.source c.run_command.new.host.source c.args.host.now.files
    c.run_command.new.host.files)
    (seen c.in-Ok.command) (iors name) (command_in c.args.words.now) c.in-Ok.ensures.ok meant c.run_command.ensures.does

pub returns-in-Ok-clause-migrates : goal.returns-in-Ok-clause-migrates
returns-in-Ok-clause-migrates g c name text meant = as_meant
    (λ (m : Meant). Does m c.run_command.result (g.F.Files.contents c.args.host.now.files) (g.F.Files.contents c.run_command.new.host.files)
    (g.S.Source.left c.args.host.now.source) (g.S.Source.left c.run_command.new.host.source)
    (g.K.Sink.held c.args.host.now.sink) (g.K.Sink.held c.run_command.new.host.sink) c.args.host.now.source c.run_command.new.host.source c.args.host.now.files
    c.run_command.new.host.files)
    (seen c.in-Ok.command) (migrate name text) (command_in c.args.words.now) c.in-Ok.ensures.ok meant c.run_command.ensures.does

pub returns-in-Ok-clause-audits : goal.returns-in-Ok-clause-audits
returns-in-Ok-clause-audits g c asked meant = as_meant
    (λ (m : Meant). Does m c.run_command.result (g.F.Files.contents c.args.host.now.files) (g.F.Files.contents c.run_command.new.host.files)
    (g.S.Source.left c.args.host.now.source) (g.S.Source.left c.run_command.new.host.source)
    (g.K.Sink.held c.args.host.now.sink) (g.K.Sink.held c.run_command.new.host.sink) c.args.host.now.source c.run_command.new.host.source c.args.host.now.files
    c.run_command.new.host.files)
    (seen c.in-Ok.command) (audit asked) (command_in c.args.words.now) c.in-Ok.ensures.ok meant c.run_command.ensures.does

pub returns-in-Ok-clause-explains : goal.returns-in-Ok-clause-explains
returns-in-Ok-clause-explains g c asked meant = as_meant
    (λ (m : Meant). Does m c.run_command.result (g.F.Files.contents c.args.host.now.files) (g.F.Files.contents c.run_command.new.host.files)
    (g.S.Source.left c.args.host.now.source) (g.S.Source.left c.run_command.new.host.source)
    (g.K.Sink.held c.args.host.now.sink) (g.K.Sink.held c.run_command.new.host.sink) c.args.host.now.source c.run_command.new.host.source c.args.host.now.files
    c.run_command.new.host.files)
    (seen c.in-Ok.command) (explain asked) (command_in c.args.words.now) c.in-Ok.ensures.ok meant c.run_command.ensures.does

pub returns-in-Err-WantMemory-clause-names : goal.returns-in-Err-WantMemory-clause-names
returns-in-Err-WantMemory-clause-names g c meant = ((WantMemory, refl, named_none _ _), refl)

pub returns-in-Ok-clause-names : goal.returns-in-Ok-clause-names
returns-in-Ok-clause-names g c meant = as_meant
    (λ (m : Meant). Does m c.run_command.result (g.F.Files.contents c.args.host.now.files) (g.F.Files.contents c.run_command.new.host.files)
    (g.S.Source.left c.args.host.now.source) (g.S.Source.left c.run_command.new.host.source)
    (g.K.Sink.held c.args.host.now.sink) (g.K.Sink.held c.run_command.new.host.sink) c.args.host.now.source c.run_command.new.host.source c.args.host.now.files
    c.run_command.new.host.files)
    (seen c.in-Ok.command) names (command_in c.args.words.now) c.in-Ok.ensures.ok meant c.run_command.ensures.does

pub returns-in-Ok-clause-complete : goal.returns-in-Ok-clause-complete
returns-in-Ok-clause-complete g c meant is calm fits =
    completes (seen c.in-Ok.command) c.run_command.result (g.F.Files.contents c.args.host.now.files) (g.F.Files.contents c.run_command.new.host.files)
    (g.S.Source.left c.args.host.now.source) (g.S.Source.left c.run_command.new.host.source)
    (g.K.Sink.held c.args.host.now.sink) (g.K.Sink.held c.run_command.new.host.sink) c.args.host.now.source c.run_command.new.host.source c.args.host.now.files
    c.run_command.new.host.files _ _ _ _ _ _ c.run_command.ensures.does c.run_command.ensures.read_fault c.run_command.ensures.write_fault
    c.run_command.ensures.file_fault calm
    (subst (λ (m : Meant). Fits m (g.F.Files.contents c.args.host.now.files) (g.S.Source.left c.args.host.now.source))
    (some_is meant (seen c.in-Ok.command) (sym is ∙ c.in-Ok.ensures.ok)) fits)
