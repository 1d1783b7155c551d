-- One row more was read.
use Rattle.std.proofs.Common.{◌≡◌, ◌∙◌, List, ◌∷◌, ◌+◌, sym, ap, map, subst}
use Rattle.poa_base.specs.declared.State.{State}
use Rattle.poa_base.specs.Store.{Place}
use Rattle.text_words.specs.Cuts.{words_of}
use Rattle.text_words.specs.Token.{keyword, path, identity}
use Rattle.text_words.proofs.Lines.{line_spelled}
use Rattle.poa_journal.specs.declared.value_words.Mark.TheVariants as mark
use Rattle.poa_journal.specs.ValueWords.{mark_word}
use Rattle.poa_journal.specs.Row.{state_tokens, row_words_of}
use Rattle.poa_journal.specs.Shelving.{rows_in}
use Rattle.poa_journal.proofs.Fronts.{RowsRead, rows_step}
use Rattle.poa_journal.proofs.rows.read_rows.Goals as goal

pub loop-next-preserved : goal.loop-next-preserved
loop-next-preserved c =
    let cut : words_of c.in-Some.next.now ≡ map (λ w. w.now) c.as_slice.result.now =
    sym c.in_ok-words.ensures ∙ ap (map (λ w. w.now)) (sym c.as_slice.ensures.value) in
    let taken = c.in_ok-take.ensures.taken in (
      c.in_ok-take.ensures.shelving,
      c.in_ok-take.ensures.begun,
      subst (λ (rows : List (Place × State)). RowsRead c.args.first c.args.text.now rows (c.loop-next.line + 1) c.in-Some.after.now) (sym taken.is)
          (rows_step c.args.first c.args.text.now (rows_in c.loop-next.rows) c.loop-next.line c.loop-next.rest.now c.loop-next.invariant.2
          c.in-Some.next.now c.in-Some.after.now c.in-Some.ensures.lines (map (λ w. w.now) c.in-Some-row_words.more.now) taken.row
          c.in-Some.ensures.shorter (ap row_words_of cut ∙ sym c.in-Some-row_words.ensures.value) taken.reads
          (line_spelled c.in-Some.next.now (keyword (mark_word mark.Store))
          (path taken.row.0.0 ∷ identity taken.row.0.1 ∷ state_tokens taken.row.1) (cut ∙ c.in-Some-row_words.ensures.text ∙ taken.spells))),
    )
