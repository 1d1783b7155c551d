use Rattle.std.proofs.Common.{subst}
use Rattle.std.specs.Prelude.{IfSome}
use Rattle.command_words.specs.Serving.{seen_serve}
use Rattle.outside.specs.Told.{IfTold}
use Rattle.poad_cmd.specs.Putting.{Keeps}
use Rattle.poad_cmd.proofs.Kept.{put_done, some_life}
use Rattle.poad_cmd.proofs.Telling.{no_thread, tells}
use Rattle.poa_history.specs.Life.{Life, givens_of}
use Rattle.serve_run.specs.Running.{IsServedRun}
use Rattle.serve_run.specs.Threads.{CountsThreads}
use Rattle.poad_cmd.proofs.serve.serve_by.Goals as goal

pub returns-clause-serves : goal.returns-clause-serves
returns-clause-serves g c =
    let ran =
    subst (λ r. IfSome r
    (λ run. IsServedRun {A = g.row.A.Denot} {L = g.row.A-Link.Denot}
    (givens_of c.args.beginning.core) g.A.Link.Link.shown g.A.Acceptor.standing g.A.Acceptor.faults g.A.Acceptor.ends c.args.beginning.words.workers c.args.doors
    c.serve_core-doors.result.doors run.outcome run.core))
    c.in-Some.is c.serve_core-doors.ensures.served in
    record {
      outcome = c.in-Some.field-0.outcome;
      ran = ran;
      put = c.put_files-put.result;
      puts = c.put_files-put.ensures.puts;
      filled = c.filled.result;
      filled_is = c.filled.ensures;
      status_is = c.status_of.ensures;
      tells = tells (givens_of c.args.beginning.core) g.A.Link.Link.shown g.A.Acceptor.standing g.A.Acceptor.faults g.A.Acceptor.ends c.args.beginning.words.workers c.args.doors
          c.serve_core-doors.result.doors c.in-Some.field-0.outcome c.in-Some.field-0.core ran
          c.put_files-put.result c.filled.result c.filled.ensures c.status_of.result c.status_of.ensures;
    }

pub returns-clause-no_thread : goal.returns-clause-no_thread
returns-clause-no_thread g c =
    let ran =
    subst (λ r. IfSome r
    (λ run. IsServedRun {A = g.row.A.Denot} {L = g.row.A-Link.Denot}
    (givens_of c.args.beginning.core) g.A.Link.Link.shown g.A.Acceptor.standing g.A.Acceptor.faults g.A.Acceptor.ends c.args.beginning.words.workers c.args.doors
    c.serve_core-doors.result.doors run.outcome run.core))
    c.in-Some.is c.serve_core-doors.ensures.served in
    let counts =
    subst (λ r. IfSome r (λ run. CountsThreads c.args.crew.now.faults c.serve_core-doors.new.crew.faults run.outcome.short)) c.in-Some.is
    c.serve_core-doors.ensures.threads in
    λ is. counts.rose
    (no_thread (givens_of c.args.beginning.core) g.A.Link.Link.shown g.A.Acceptor.standing g.A.Acceptor.faults g.A.Acceptor.ends c.args.beginning.words.workers c.args.doors
    c.serve_core-doors.result.doors c.in-Some.field-0.outcome c.in-Some.field-0.core ran
    c.put_files-put.result c.filled.result c.filled.ensures c.status_of.result c.status_of.ensures is)

pub returns-clause-kept : goal.returns-clause-kept
returns-clause-kept g c life is other steady =
    subst (λ (l : Life). IfTold (g.F.Files.contents c.args.files.now) (g.F.Files.contents c.put_files-put.new.files)
    (Keeps (seen_serve c.args.beginning.words) l))
    (some_life c.in-Some.field-0.core life is)
    (c.put_files-put.ensures.kept (put_done c.in-Some.field-0.outcome c.put_files-put.result c.filled.result c.status_of.result c.status_of.ensures other
    (λ failed. steady (c.put_files-put.ensures.failed.rose failed))))
