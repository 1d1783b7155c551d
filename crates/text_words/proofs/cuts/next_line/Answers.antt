use Rattle.std.proofs.Common.{◌≡◌, ◌++◌, ◌∷◌, [], rules, ap, ◌∙◌}
use Rattle.std.proofs.lemmas.Option.{MatchOption-at_some, MatchOption-at_none}
use Rattle.text_words.proofs.Cutting.{cut-front, cut-rest}
use Rattle.text_words.specs.Cuts.{lines_of}
use Rattle.text_words.proofs.cuts.next_line.Goals as goal

pub returns-clause-lines : goal.returns-clause-lines
returns-clause-lines c =
    let parted : c.args.text.now ≡ c.split_front.result.0.now ++ 10 ∷ c.in-Some.rest.now =
    MatchOption-at_some _ _ c.in-Some.rest c.in-Some.is c.split_front.ensures.parts in
    ap lines_of parted ∙ cut-front 10 [] c.split_front.result.0.now c.in-Some.rest.now c.split_front.ensures.clear

pub returns-in_default-clause-lines : goal.returns-in_default-clause-lines
returns-in_default-clause-lines c =
    let alone : c.args.text.now ≡ c.split_front.result.0.now = MatchOption-at_none _ _ c.in_default.is c.split_front.ensures.parts in
    ap lines_of alone ∙ cut-rest 10 c.split_front.result.0.now c.split_front.ensures.clear (rw (← alone) (search rules))
