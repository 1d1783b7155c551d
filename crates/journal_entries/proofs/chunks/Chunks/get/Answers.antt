use Rattle.std.proofs.Common.{◌≡◌, ◌<◌, ◌≤◌, ◌+◌, ◌-◌, ◌*◌, ◌/◌, ◌%◌, Some, None, arith, length, sym, ap, ap₂, ◌∙◌, option_copied}
use Rattle.std.specs.List.{slice_get}
use Rattle.journal_entries.specs.Chunked.{values}
use Rattle.journal_entries.proofs.Chunking.{get_in_full, get_in_last, past_all}
use Rattle.journal_entries.proofs.chunks.Chunks.get.Goals as goal

pub returns-in-Some : goal.returns-in-Some
returns-in-Some g c =
    (let i = c.self.inside in
    let full = ap (λ xs. slice_get xs (c.args.place / 4096)) (sym c.deref.ensures.value) ∙ (sym c.at.ensures ∙ ap option_copied c.in-Some.is) in
    let place : c.args.place / 4096 * 4096 + c.args.place % 4096 ≡ c.args.place = omega arith in
    c.at-in-Some.ensures ∙ (ap (λ xs. slice_get xs (c.args.place % 4096)) c.deref-in-Some.ensures.value
    ∙ (sym (get_in_full i.full.items i.last.items (c.args.place / 4096) (c.args.place % 4096) c.in-Some.chunk.now c.self.invariant.full_ones (omega arith) full)
    ∙ (ap (slice_get (values i.full.items i.last.items)) place ∙ ap (λ p. slice_get p.0 c.args.place) c.self.view_is))))

pub returns-in-None : goal.returns-in-None
returns-in-None g c =
    (let i = c.self.inside in
    let long = c.len.ensures ∙ i.full.ok.0 in
    let past =
    past_all i.full.items (c.args.place / 4096)
    (ap (λ xs. slice_get xs (c.args.place / 4096)) (sym c.deref.ensures.value) ∙ (sym c.at.ensures ∙ ap option_copied c.in-None.is)) in
    let rest = c.args.place - c.len.result * 4096 in
    let place : length i.full.items * 4096 + rest ≡ c.args.place = omega (arith, long, past) in
    c.at-in-None.ensures ∙ (ap (λ xs. slice_get xs rest) c.deref-in-None.ensures.value
    ∙ (sym (get_in_last i.full.items i.last.items rest c.self.invariant.full_ones)
    ∙ (ap (slice_get (values i.full.items i.last.items)) place ∙ ap (λ p. slice_get p.0 c.args.place) c.self.view_is))))
