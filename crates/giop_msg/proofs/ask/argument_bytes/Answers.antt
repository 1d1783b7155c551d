-- The padding and then the argument.
use Rattle.std.proofs.Common.{ℕ, ◌≤◌, ◌+◌, List, ap, ap₂, ◌++◌, ◌∙◌, add-zero}
use Rattle.std.proofs.lemmas.List.{take-replicate}
use Rattle.cdr_core.specs.Spelling.{gap, written}
use Rattle.cdr_core.specs.Draft.{Draft, with_field}
use Rattle.giop_answer.specs.Reply.{datum_field}
use Rattle.giop_msg.proofs.Units.{gap_few}
use Rattle.giop_msg.proofs.ask.argument_bytes.Goals as goal

pub returns : goal.returns
returns c =
    let padding : ℕ = gap c.args.unit c.args.place in
    let few : padding ≤ 8 = gap_few c.args.unit c.args.place c.requires.unit in
    rw c.in-Some.is
    (c.in_ok-extend_from_slice.ensures.items
    ∙ ap₂ (λ (front back : List ℕ). front ++ back) (c.in_ok-bytes.ensures.items ∙ take-replicate padding 8 0 few)
    (c.deref.ensures.value
    ∙ (c.into_bytes.ensures
    ∙ (ap (λ (d : Draft). d.bytes) (c.in_ok-put_datum.ensures.ok ∙ ap (with_field (datum_field c.in-Some.datum)) c.new-writer.ensures)
    ∙ ap (λ (n : ℕ). written c.args.little n (datum_field c.in-Some.datum)) (add-zero (c.args.place + padding))))))
