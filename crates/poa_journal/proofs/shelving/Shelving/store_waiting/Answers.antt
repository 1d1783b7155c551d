-- All that waited is stored.
use Rattle.std.proofs.Common.{sym, ap, ◌++◌, ◌∙◌, None, map, subst, append-nil}
use Rattle.poa_base.specs.Store.{states}
use Rattle.poa_journal.specs.Shelving.{Ascends, rows_at, slot}
use Rattle.poa_journal.proofs.Stored.{states_all}
use Rattle.poa_journal.proofs.shelving.Shelving.store_waiting.Goals as goal

pub returns-clause-rows : goal.returns-clause-rows
returns-clause-rows c =
    ap (λ items. states c.store_all.new.store ++ rows_at c.args.self.now.path items) c.in_ok-store_all.ensures.none_waits
    ∙ append-nil (states c.store_all.new.store) ∙ states_all _ _ c.in_ok-store_all.ensures.all

pub returns-clause-shelving : goal.returns-clause-shelving
returns-clause-shelving c = record {
  stored = c.in_ok-store_all.ensures.all ∙ ap (map slot) (sym (states_all _ _ c.in_ok-store_all.ensures.all));
  rises = subst (Ascends None) (sym (returns-clause-rows c)) c.requires.rises;
  known = c.requires.known;
  spells = c.requires.spells;
}
