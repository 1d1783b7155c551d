use Rattle.std.proofs.Common.{◌≡◌, ◌⊎◌, ℕ, Err, ap, sym, ◌∙◌, subst}
use Rattle.command_words.specs.Serving.{Serve, seen_serve, serve_in}
use Rattle.outside.specs.Cause.{Rose}
use Rattle.outside.specs.Told.{IfTold}
use Rattle.poa_history.specs.Life.{givens_of}
use Rattle.poad_cmd.specs.Putting.{Keeps}
use Rattle.poad_cmd.specs.Sending.{FitsRun}
use Rattle.poad_cmd.proofs.Kept.{kept_from, some_serve}
use Rattle.poad_cmd.proofs.Roomy.{serves_fine, serves_sent, unbegun_fine}
use Rattle.poad_cmd.proofs.Telling.{run_ends}
use Rattle.poad_files.specs.declared.status.Status.{Status}
use Rattle.poad_files.specs.declared.status.Status.TheVariants.{Ok as Fine, WantMemory}
use Rattle.poad_cmd.proofs.serve.run_serve.Goals as goal

pub returns-in-Ok-clause-ends : goal.returns-in-Ok-clause-ends
returns-in-Ok-clause-ends g c =
    run_ends g.A.Link.Link.shown g.A.Acceptor.standing g.A.Acceptor.faults g.A.Acceptor.ends (serve_in c.args.words.now)
    (seen_serve c.in-Ok.beginning.words) c.in-Ok.beginning.core c.serve_by.result.status c.args.doors c.serve_by.result.doors
    (g.F.Files.contents c.args.host.now.files) (g.F.Files.contents c.begin.new.files) (g.F.Files.contents c.serve_by.new.files)
    c.in-Ok.ensures.begins.0 c.in-Ok.ensures.begins.1 c.begin.ensures.contents c.serve_by.result.core c.serve_by.ensures.serves

pub returns-in-Ok-clause-kept : goal.returns-in-Ok-clause-kept
returns-in-Ok-clause-kept g c serve life asked is other steady =
    subst (λ (s : Serve). IfTold (g.F.Files.contents c.args.host.now.files) (g.F.Files.contents c.serve_by.new.files) (Keeps s life))
    (some_serve (seen_serve c.in-Ok.beginning.words) serve (sym c.in-Ok.ensures.begins.0 ∙ asked))
    (kept_from (seen_serve c.in-Ok.beginning.words) life _ _ _ c.begin.ensures.contents
    (c.serve_by.ensures.kept life is other
    (λ rose. steady (subst (λ (n : ℕ). Rose n (g.F.Files.put_faults c.serve_by.new.files)) c.begin.ensures.puts rose))))

pub returns-in-Ok-clause-roomy : goal.returns-in-Ok-clause-roomy
returns-in-Ok-clause-roomy g c serve asked steady calm can roomy =
    serves_fine {A = g.row.A.Denot} {L = g.row.A-Link.Denot} g.A.Link.Link.shown g.A.Acceptor.standing g.A.Acceptor.faults g.A.Acceptor.ends
    (seen_serve c.in-Ok.beginning.words) c.in-Ok.beginning.core c.serve_by.result.status c.args.doors c.serve_by.result.doors
    (g.F.Files.contents c.begin.new.files) (g.F.Files.contents c.serve_by.new.files)
    (λ is. steady.crew (c.serve_by.ensures.no_thread is)) calm c.serve_by.result.core c.serve_by.ensures.serves
    (λ is some. steady.puts (subst (λ (n : ℕ). Rose n (g.F.Files.put_faults c.serve_by.new.files)) c.begin.ensures.puts (c.serve_by.ensures.put.rose (is, some))))
    roomy

pub returns-in-Ok-clause-complete : goal.returns-in-Ok-clause-complete
returns-in-Ok-clause-complete g c serve sent asked steady calm can are fits =
    let limit : serve.limit ≡ (givens_of c.in-Ok.beginning.core).limit =
    sym (ap (λ l. l.limit) c.in-Ok.ensures.begins.1.is
    ∙ ap (λ s. s.limit) (some_serve (seen_serve c.in-Ok.beginning.words) serve (sym c.in-Ok.ensures.begins.0 ∙ asked))) in
    serves_sent {A = g.row.A.Denot} {L = g.row.A-Link.Denot} g.A.Link.Link.shown g.A.Acceptor.standing g.A.Acceptor.faults g.A.Acceptor.ends
    (seen_serve c.in-Ok.beginning.words) c.in-Ok.beginning.core c.serve_by.result.status c.args.doors c.serve_by.result.doors
    (g.F.Files.contents c.begin.new.files) (g.F.Files.contents c.serve_by.new.files)
    (λ is. steady.crew (c.serve_by.ensures.no_thread is)) calm c.serve_by.result.core c.serve_by.ensures.serves
    (λ is some. steady.puts (subst (λ (n : ℕ). Rose n (g.F.Files.put_faults c.serve_by.new.files)) c.begin.ensures.puts (c.serve_by.ensures.put.rose (is, some))))
    sent are (subst (λ (n : ℕ). FitsRun n sent) limit fits)

pub returns-in-Err-clause-complete : goal.returns-in-Err-clause-complete
returns-in-Err-clause-complete g c serve sent asked steady calm can are fits =
    subst (λ (s : Status). (s ≡ Fine) ⊎ (s ≡ WantMemory)) (sym (ap (λ r. r.status) c.refused.ensures))
    (unbegun_fine (serve_in c.args.words.now) serve c.in-Err.status (g.F.Files.contents c.args.host.now.files) (g.F.Files.contents c.begin.new.files)
    asked can c.in-Err.ensures.begins (λ is. steady.takes (c.begin.ensures.take_fault.rose (c.in-Err.is ∙ ap Err is))))

pub returns-in-Err-clause-roomy : goal.returns-in-Err-clause-roomy
returns-in-Err-clause-roomy g c serve asked steady calm can roomy =
    subst (λ (s : Status). (s ≡ Fine) ⊎ (s ≡ WantMemory)) (sym (ap (λ r. r.status) c.refused.ensures))
    (unbegun_fine (serve_in c.args.words.now) serve c.in-Err.status (g.F.Files.contents c.args.host.now.files) (g.F.Files.contents c.begin.new.files)
    asked can c.in-Err.ensures.begins (λ is. steady.takes (c.begin.ensures.take_fault.rose (c.in-Err.is ∙ ap Err is))))
