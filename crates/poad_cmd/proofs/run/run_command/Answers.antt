-- Each command does what it is to do, and ends with none of the statuses of the others.
use Rattle.std.proofs.Common.{ℕ, List, refl, sym, subst}
use Rattle.command_words.specs.declared.command.Command.{Command}
use Rattle.command_words.specs.Words.{seen}
use Rattle.journal_explain.specs.declared.Selection.{Selection}
use Rattle.poad_audit.specs.Explaining.{ExplainsFiles}
use Rattle.poad_files.specs.Migrating.{MigratesFile}
use Rattle.poad_cmd.specs.Commands.{Does}
use Rattle.poad_cmd.proofs.run.run_command.Goals as goal

pub returns-in-Answer-clause-does : goal.returns-in-Answer-clause-does
returns-in-Answer-clause-does g c =
    subst (λ (k : Command). Does (seen k) c.answer_by.result (g.F.Files.contents c.args.host.now.files) (g.F.Files.contents c.answer_by.new.files)
    (g.S.Source.left c.args.host.now.source) (g.S.Source.left c.answer_by.new.source)
    (g.K.Sink.held c.args.host.now.sink) (g.K.Sink.held c.answer_by.new.sink) c.args.host.now.source c.answer_by.new.source c.args.host.now.files
    c.answer_by.new.files)
    (sym c.in-Answer.is) c.answer_by.ensures.answers

pub returns-in-Replay-clause-does : goal.returns-in-Replay-clause-does
returns-in-Replay-clause-does g c =
    subst (λ (k : Command). Does (seen k) c.play_files.result (g.F.Files.contents c.args.host.now.files) (g.F.Files.contents c.play_files.new.files)
    (g.S.Source.left c.args.host.now.source) (g.S.Source.left c.args.host.now.source)
    (g.K.Sink.held c.args.host.now.sink) (g.K.Sink.held c.play_files.new.sink) c.args.host.now.source c.args.host.now.source c.args.host.now.files
    c.play_files.new.files)
    (sym c.in-Replay.is) (c.play_files.ensures.plays, refl)

pub returns-in-Check-clause-does : goal.returns-in-Check-clause-does
returns-in-Check-clause-does g c =
    subst (λ (k : Command). Does (seen k) c.print_file.result (g.F.Files.contents c.args.host.now.files) (g.F.Files.contents c.print_file.new.files)
    (g.S.Source.left c.args.host.now.source) (g.S.Source.left c.args.host.now.source)
    (g.K.Sink.held c.args.host.now.sink) (g.K.Sink.held c.print_file.new.sink) c.args.host.now.source c.args.host.now.source c.args.host.now.files
    c.print_file.new.files)
    (sym c.in-Check.is) (c.print_file.ensures.filed, refl)

pub returns-in-Iors-clause-does : goal.returns-in-Iors-clause-does
returns-in-Iors-clause-does g c =
    subst (λ (k : Command). Does (seen k) c.print_file-in-Iors.result (g.F.Files.contents c.args.host.now.files)
    (g.F.Files.contents c.print_file-in-Iors.new.files) (g.S.Source.left c.args.host.now.source) (g.S.Source.left c.args.host.now.source)
    (g.K.Sink.held c.args.host.now.sink) (g.K.Sink.held c.print_file-in-Iors.new.sink) c.args.host.now.source c.args.host.now.source c.args.host.now.files
    c.print_file-in-Iors.new.files)
    (sym c.in-Iors.is) (c.print_file-in-Iors.ensures.filed, refl)

pub returns-in-Migrate-clause-does : goal.returns-in-Migrate-clause-does
returns-in-Migrate-clause-does g c =
    subst (λ (k : Command). Does (seen k) c.migrate_file.result (g.F.Files.contents c.args.host.now.files)
    (g.F.Files.contents c.migrate_file.new.files) (g.S.Source.left c.args.host.now.source) (g.S.Source.left c.args.host.now.source)
    (g.K.Sink.held c.args.host.now.sink) (g.K.Sink.held c.migrate_file.new.sink) c.args.host.now.source c.args.host.now.source c.args.host.now.files
    c.migrate_file.new.files)
    (sym c.in-Migrate.is) (
      subst
          (λ (text : List ℕ). MigratesFile c.in-Migrate.config.now text c.migrate_file.result (g.F.Files.contents c.args.host.now.files)
          (g.F.Files.contents c.migrate_file.new.files) (g.K.Sink.held c.args.host.now.sink) (g.K.Sink.held c.migrate_file.new.sink))
          c.as_bytes-in-Migrate.ensures.value c.migrate_file.ensures.migrates,
      refl,
    )

pub returns-in-Audit-clause-does : goal.returns-in-Audit-clause-does
returns-in-Audit-clause-does g c =
    subst (λ (k : Command). Does (seen k) c.audit_files.result (g.F.Files.contents c.args.host.now.files)
    (g.F.Files.contents c.audit_files.new.files) (g.S.Source.left c.args.host.now.source) (g.S.Source.left c.args.host.now.source)
    (g.K.Sink.held c.args.host.now.sink) (g.K.Sink.held c.audit_files.new.sink) c.args.host.now.source c.args.host.now.source c.args.host.now.files
    c.audit_files.new.files)
    (sym c.in-Audit.is) (c.audit_files.ensures.audits, refl)

pub returns-in-Explain-clause-does : goal.returns-in-Explain-clause-does
returns-in-Explain-clause-does g c =
    subst (λ (k : Command). Does (seen k) c.explain_files.result (g.F.Files.contents c.args.host.now.files)
    (g.F.Files.contents c.explain_files.new.files) (g.S.Source.left c.args.host.now.source) (g.S.Source.left c.args.host.now.source)
    (g.K.Sink.held c.args.host.now.sink) (g.K.Sink.held c.explain_files.new.sink) c.args.host.now.source c.args.host.now.source c.args.host.now.files
    c.explain_files.new.files)
    (sym c.in-Explain.is) (
      subst
          (λ (a : Selection). ExplainsFiles c.in-Explain.asked.config.now c.in-Explain.asked.journal.now c.in-Explain.asked.limit a c.explain_files.result
          (g.F.Files.contents c.args.host.now.files) (g.F.Files.contents c.explain_files.new.files)
          (g.K.Sink.held c.args.host.now.sink) (g.K.Sink.held c.explain_files.new.sink))
          c.sought-calls.ensures c.explain_files.ensures.explains,
      refl,
    )

pub returns-in-Names-clause-does : goal.returns-in-Names-clause-does
returns-in-Names-clause-does g c =
    subst (λ (k : Command). Does (seen k) c.serve_names.result (g.F.Files.contents c.args.host.now.files)
    (g.F.Files.contents c.args.host.now.files) (g.S.Source.left c.args.host.now.source) (g.S.Source.left c.serve_names.new.source)
    (g.K.Sink.held c.args.host.now.sink) (g.K.Sink.held c.serve_names.new.sink) c.args.host.now.source c.serve_names.new.source c.args.host.now.files
    c.args.host.now.files)
    (sym c.in-Names.is) (c.serve_names.ensures.runs, refl)
