use Rattle.std.proofs.Common.{◌≡◌, ◌∷◌, [], ◌++◌, arith, length, sym, ap, ap₂, subst, ◌∙◌}
use Rattle.std.specs.List.{AllByRecursion}
use Rattle.std.specs.Option.{option_to_list}
use Rattle.std.proofs.lemmas.List.{nil_from_length}
use Rattle.journal_entries.specs.Chunked.{IsEmpty, values}
use Rattle.journal_entries.proofs.Chunking.{all_end, values_turned}
use Rattle.journal_entries.proofs.chunks.turn_over.Goals as goal

pub returns-in-Some-clause-values : goal.returns-in-Some-clause-values
returns-in-Some-clause-values g c =
    (let empty =
    all_end IsEmpty _ _
    (subst (AllByRecursion IsEmpty) (c.pop.ensures.items ∙ ap (λ o. c.pop.new.self.items ++ option_to_list o) c.in-Some.is) c.requires.chunked.empty_ones) in
    let none = nil_from_length c.in-Some.empty.items (sym c.in-Some.empty.ok.0 ∙ empty.empty) in
    ap₂ values (c.push_reserved.ensures.items ∙ ap (λ v. c.args.full.now.items ++ v ∷ []) c.replace.ensures.value)
    (ap (λ v. v.items) c.replace.ensures.after ∙ none)
    ∙ values_turned c.args.full.now.items c.args.last.now)

pub returns-in-Some-clause-room : goal.returns-in-Some-clause-room
returns-in-Some-clause-room g c =
    (let empty =
    all_end IsEmpty _ _
    (subst (AllByRecursion IsEmpty) (c.pop.ensures.items ∙ ap (λ o. c.pop.new.self.items ++ option_to_list o) c.in-Some.is) c.requires.chunked.empty_ones) in
    let is = ap (λ v. v.len) c.replace.ensures.after ∙ empty.empty in omega (arith, is))
