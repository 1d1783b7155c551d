use Rattle.std.proofs.Common.{◌≡◌, ◌∷◌, [], ◌++◌, arith, length, sym, ap, ◌∙◌}
use Rattle.journal_entries.specs.Chunked.{values}
use Rattle.journal_entries.proofs.Chunking.{length_values, values_grown}
use Rattle.journal_entries.proofs.chunks.Chunks.push.Goals as goal

pub turn_over-requires-clause-empty : goal.turn_over-requires-clause-empty
turn_over-requires-clause-empty g c = λ filled.
    (let i = c.self.inside in
    let long = length_values i.full.items i.last.items c.self.invariant.full_ones in
    let seen = ap (λ p. length p.0) c.self.view_is in
    let takes = ap (λ p. p.1) c.self.view_is in
    let room = c.requires in
    let full = i.full.ok.0 in
    let last = i.last.ok.0 in
    omega (arith, filled, long, seen, takes, room, full, last))

pub returns-clause-items : goal.returns-clause-items
returns-clause-items g c =
    ap (values c.turn_over.new.full.items) c.push_reserved.ensures.items
    ∙ (values_grown c.turn_over.new.full.items c.turn_over.new.last.items c.args.value
    ∙ ap (λ xs. xs ++ c.args.value ∷ []) (c.turn_over.ensures.values ∙ ap (λ p. p.0) c.self.view_is))
