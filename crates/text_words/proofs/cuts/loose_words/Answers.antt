use Rattle.std.proofs.Common.{◌∙◌, ap, map, filter}
use Rattle.std.proofs.lemmas.Result.{IfOk-weaker}
use Rattle.text_words.proofs.Cutting.{map-filter_now}
use Rattle.text_words.specs.Cuts.{is_filled}
use Rattle.text_words.proofs.cuts.loose_words.Goals as goal

pub returns : goal.returns
returns c =
    IfOk-weaker c.filled.result _ _
    (λ v h. ap (map (λ x. x.now)) h ∙ ap (λ xs. map (λ x. x.now) (filter (λ x. is_filled x.now) xs)) c.as_slice.ensures.value
    ∙ map-filter_now is_filled c.in_ok-all.all.items ∙ ap (filter is_filled) c.in_ok-all.ensures)
    c.filled.ensures
