use Rattle.std.proofs.Common.{arith, length, sym, ap}
use Rattle.journal_entries.proofs.Chunking.{length_values}
use Rattle.journal_entries.proofs.chunks.Chunks.room.Goals as goal

pub returns : goal.returns
returns g c =
    (let i = c.self.inside in
    let long = length_values i.full.items i.last.items c.self.invariant.full_ones in
    let within = c.self.invariant.within in
    let seen = ap (λ p. length p.0) c.self.view_is in
    let takes = ap (λ p. p.1) c.self.view_is in
    let one = c.len.ensures in
    let two = c.len-2.ensures in
    let full = i.full.ok.0 in
    let last = i.last.ok.0 in
    omega (arith, long, within, seen, takes, one, two, full, last))
