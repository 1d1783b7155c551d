-- The last that waits is stored in front of those behind it.
use Rattle.std.proofs.Common.{◌≡◌, ℕ, List, [], ◌∷◌, ◌++◌, None, ap, sym, subst, ◌∙◌, append_assoc}
use Rattle.poa_base.specs.declared.State.{State}
use Rattle.poa_base.specs.Store.{Slots, states}
use Rattle.poa_journal.specs.Shelving.{Ascends, StoresAll, rows_at}
use Rattle.poa_journal.proofs.Stored.{stored_before}
use Rattle.poa_journal.proofs.shelving.store_all.Goals as goal

pub loop-oid-preserved : goal.loop-oid-preserved
loop-oid-preserved c =
    let done : List (List ℕ × State) = c.loop-oid.invariant.0 in
    let front = states c.args.store.now in
    let rest = c.pop.new.self.items in
    let whole : rest ++ (c.in-Some.oid, c.in-Some.state) ∷ done ≡ c.args.waiting.now.items =
    sym (append_assoc rest ((c.in-Some.oid, c.in-Some.state) ∷ []) done) ∙ ap (λ items. items ++ done) (sym c.in-Some.ensures.items)
    ∙ c.loop-oid.invariant.1 in (
      (c.in-Some.oid, c.in-Some.state) ∷ done,
      whole,
      subst (λ (store : Slots). StoresAll (front ++ rows_at c.args.path.now ((c.in-Some.oid, c.in-Some.state) ∷ done)) store) (sym c.in_ok-put.ensures.ok)
          (stored_before c.loop-oid.store front c.args.path.now rest done c.in-Some.oid c.in-Some.state c.loop-oid.invariant.2
          (subst (λ (items : List (List ℕ × State)). Ascends None (front ++ rows_at c.args.path.now items)) (sym whole) c.requires.rises)),
    )
