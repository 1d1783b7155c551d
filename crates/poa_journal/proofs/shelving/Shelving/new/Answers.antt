-- Nothing is stored, and nothing waits.
use Rattle.std.proofs.Common.{sym, ap, ◌++◌, ◌∙◌, Some, None, subst, append-nil}
use Rattle.text_words.specs.Token.{spell}
use Rattle.text_words.specs.Token as token
use Rattle.poa_base.specs.Store.{Slots, states}
use Rattle.poa_journal.specs.Shelving.{Ascends, StoresAll, rows_at}
use Rattle.poa_journal.proofs.Stored.{states_empty, stores_none}
use Rattle.poa_journal.proofs.shelving.Shelving.new.Goals as goal

pub returns-clause-none : goal.returns-clause-none
returns-clause-none c =
    ap (λ items. states c.new.result ++ rows_at c.root.result items) c.new-2.ensures.items ∙ append-nil (states c.new.result)
    ∙ ap states c.new.ensures ∙ states_empty

pub returns-clause-shelving : goal.returns-clause-shelving
returns-clause-shelving c = record {
  stored = subst (λ (store : Slots). StoresAll (states store) store) (sym c.new.ensures) stores_none;
  rises = subst (Ascends None) (sym (returns-clause-none c)) tt;
  known = ap Some (sym c.root.ensures);
  spells = ap (λ path. spell (token.path path)) (sym c.root.ensures);
}

pub returns-clause-begun : goal.returns-clause-begun
returns-clause-begun c = λ none. returns-clause-none c
