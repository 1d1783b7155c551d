-- An entry comes to the desk when it is noted.
use Rattle.std.proofs.Common.{◌≡◌, ℕ, List, [], ◌∷◌, ◌++◌, reverse, ap, ◌∙◌}
use Rattle.std.proofs.lemmas.List.{reverse-append}
use Rattle.poa_base.specs.declared.Config.{Config}
use Rattle.poa_base.specs.Store.{Slots}
use Rattle.poa_base.specs.declared.Entry.{Entry}
use Rattle.history_standing.specs.declared.stage.Stage.{Stage}
use Rattle.core_standing.specs.Seen.{seen}
use Rattle.core_outboxes.specs.Desk.{Comes}
use Rattle.core_state.proofs.Stated.{answers_state}
use Rattle.core_run.specs.declared.inside.Inside.{Inside}
use Rattle.core_run.specs.declared.brought.Brought.{Brought}
use Rattle.poa_history.specs.Life.{Life, with_entry}
use Rattle.core_run.specs.Agrees.{opened_in}
use Rattle.core_run.specs.Noting.{IsHalfway}
use Rattle.core_run.proofs.Turned.{manned_before}

abbrev pub desk_comes : (h : List Entry) (e : Entry) (begun : Stage) (b : Brought) (i : Inside) → IsHalfway h e begun b i
    → Comes i.config e (seen i.state.standing) b.decision b.wait b.ordered i.desk.owing.items
desk_comes h e begun b i half =
    record {
      run = i.run;
      limit = i.limit;
      opened = opened_in i;
      past = h;
      manned = manned_before i.config i.run i.limit h e half.follows;
      legal = half.follows.legal;
      stands = answers_state i.config i.run i.limit (opened_in i) (e ∷ h) i.state half.follows half.state;
      decides = half.brought.decides;
      waits = half.brought.waits;
      orders = half.brought.orders;
      owed = half.owed;
    }

-- the entry behind the journal is the first of the history
pub life_longer : (c : Config) (run limit : ℕ) (opening : Slots) (e : Entry) (old new : List Entry) → new ≡ old ++ e ∷ []
    → (let after : Life = record { config = c; run = run; limit = limit; opening = opening; history = reverse new } in after) ≡ with_entry e
    (record { config = c; run = run; limit = limit; opening = opening; history = reverse old })
life_longer c run limit opening e old new is =
    ap (λ h. record { config = c; run = run; limit = limit; opening = opening; history = h }) (ap reverse is ∙ reverse-append old (e ∷ []))
