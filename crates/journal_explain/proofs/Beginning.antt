-- A call that is asked for arrives.
use Rattle.std.proofs.Common.{◌≡◌, ℕ, Bool, true, List, [], ◌∷◌, ◌++◌, Option, Some, None, sym, ◌∙◌, ap, subst, arith}
use Rattle.poa_base.specs.declared.Call.{Call}
use Rattle.poa_base.specs.declared.Entry.{Entry}
use Rattle.poa_base.specs.declared.Entry.TheVariants.{Arrive}
use Rattle.history_standing.specs.Arrivals.{arrivals}
use Rattle.history_standing.specs.Keys.{key_in}
use Rattle.poa_history.specs.Legal.{IsLegal}
use Rattle.poa_history.specs.Life.{Life}
use Rattle.journal_explain.specs.declared.selection.Selection.{Selection}
use Rattle.journal_explain.specs.declared.call_name.CallName.{CallName}
use Rattle.journal_explain.specs.declared.trail.Trail.{Trail}
use Rattle.journal_explain.specs.declared.adapter.Adapter.{Adapter}
use Rattle.journal_explain.specs.Adapters.{adapter_at}
use Rattle.journal_explain.specs.Naming.{asks, name_of}
use Rattle.journal_explain.specs.Serving.{server_in}
use Rattle.journal_explain.specs.Watching.{Begins, BeginsIf, BeginsOne}
use Rattle.journal_explain.proofs.Begun.{unserved}

module _ (past : Life) (name : CallName) (call : Call) (old new : List Trail) where
  abbrev stood : Option Adapter
  stood = adapter_at past.config past.run past.history (key_in (Some call))

  abbrev server : Option ℕ
  server = server_in past.history (arrivals past.history)

  -- its trail is new
  pub begun_one : (t : Trail) → t.name ≡ name → t.call ≡ call → t.adapter ≡ stood → t.steps.items ≡ [] → t.wait ≡ None
      → IsLegal past.config past.run past.limit past.history → t.server ≡ None → new ≡ old ++ t ∷ []
      → BeginsOne name call stood server old new
  begun_one t own came at none free legal idle behind = record {
    trail = t;
    named = own;
    came = came;
    adapter = at;
    steps = none;
    wait = free;
    served = idle ∙ sym (unserved past.config past.run past.limit past.history (arrivals past.history) legal (omega arith));
    behind = behind;
  }

  pub begins_one : (which : Selection) (place : ℕ) (e : Entry) (conn size : ℕ) → e ≡ Arrive conn size call
      → name ≡ name_of (arrivals past.history) conn call → asks which name place ≡ true → BeginsOne name call stood server old new
      → Begins which past place e old new
  begins_one which place e conn size is named asked one =
      let its : CallName = name_of (arrivals past.history) conn call in
      subst (λ (k : Entry). Begins which past place k old new) (sym is)
      (subst (λ (b : Bool). BeginsIf b its call stood server old new)
      (sym (sym (ap (λ (n : CallName). asks which n place) named) ∙ asked))
      (subst (λ (n : CallName). BeginsOne n call stood server old new) named one))
