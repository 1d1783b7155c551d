-- What is looked at of a call behind an entry: that its activation ended, and then what it waits for.
use Rattle.std.proofs.Common.{◌≡◌, ℕ, List, ◌++◌, Option, None, Result, Ok, Err, OnOk, sym, ◌∙◌, ap, subst, append_assoc}
use Rattle.poa_history.specs.Life.{Life}
use Rattle.journal_explain.specs.declared.call_name.CallName.{CallName}
use Rattle.journal_explain.specs.declared.event.Event.{Event}
use Rattle.journal_explain.specs.declared.origin.Origin.{Origin}
use Rattle.journal_explain.specs.declared.step.Step.{Step}
use Rattle.journal_explain.specs.declared.tenure.Tenure.{Tenure}
use Rattle.journal_explain.specs.declared.trail.Trail.{Trail}
use Rattle.journal_explain.specs.declared.wait.Wait.{Wait}
use Rattle.journal_explain.specs.Origins.{holder}
use Rattle.journal_explain.specs.Serving.{ended_where, serves}
use Rattle.journal_explain.specs.Stories.{IsNews, step_at, wait_of}
use Rattle.journal_explain.specs.Watching.{Looks, told_in}

module _ (life : Life) (place : ℕ) (rows : List Origin) (old mid new : Trail) (ends : Option Event) (wait : Option Wait) (tenure : Option Tenure)
    (ends_is : ends ≡ ended_where old.server old.active (serves life.config life.run life.history old.server))
    (put : mid.steps.items ≡ old.steps.items ++ step_at place ends None) (name : mid.name ≡ old.name) (call : mid.call ≡ old.call)
    (adapter : mid.adapter ≡ old.adapter) (waited : mid.wait ≡ old.wait) (server : mid.server ≡ old.server)
    (wait_is : wait ≡ wait_of life.config life.run life.history mid.name.arrival) (tenure_is : tenure ≡ told_in life rows (holder wait))
    (name_after : new.name ≡ mid.name) (call_after : new.call ≡ mid.call) (adapter_after : new.adapter ≡ mid.adapter)
    (server_after : new.server ≡ mid.server) where
  looks : ((news : List Step) × IsNews place mid.wait wait tenure news × (new.steps.items ≡ mid.steps.items ++ news)) → new.wait ≡ wait
      → Looks life place rows old new
  looks told is = record {
    name = name_after ∙ name;
    call = call_after ∙ call;
    adapter = adapter_after ∙ adapter;
    wait = is ∙ (wait_is ∙ ap (λ (n : CallName). wait_of life.config life.run life.history n.arrival) name);
    news = told.0;
    is_news =
        subst (λ (w : Option Wait). IsNews place old.wait w (told_in life rows (holder w)) told.0) (sym is)
        (subst (λ (t : Option Tenure). IsNews place old.wait wait t told.0) tenure_is
        (subst (λ (w : Option Wait). IsNews place w wait tenure told.0) waited told.1));
    server = server_after ∙ server;
    steps =
        told.2
        ∙ (ap (λ (s : List Step). s ++ told.0) put
        ∙ (append_assoc old.steps.items (step_at place ends None) told.0
        ∙ ap (λ (o : Option Event). old.steps.items ++ (step_at place o None ++ told.0)) ends_is));
  }

  pub looked : {T E : Type 0} (r : Result T E)
      → OnOk r ((news : List Step) × IsNews place mid.wait wait tenure news × (new.steps.items ≡ mid.steps.items ++ news))
      → OnOk r (new.wait ≡ wait) → OnOk r (Looks life place rows old new)
  looked (Ok x) told is = looks told is
  looked (Err e) told is = tt
