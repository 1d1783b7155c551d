use Rattle.std.proofs.Common.{◌==◌, not, filter, ap, rules, sym, subst}
use Rattle.std.proofs.lemmas.Fn.{filter_same}
use Rattle.history_standing.specs.Trees.{In}
use Rattle.history_standing.proofs.Members.{kept_in}
use Rattle.active_map.proofs.passing.Passing.strike.Goals as goal

pub returns-clause-others : goal.returns-clause-others
returns-clause-others c = λ n there other.
    (let left = filter_same _ (λ m. not (m == c.args.number)) _ (λ x b f' k. search rules) _ _ c.retain.ensures.filtered in
    subst (In n) (sym left) (kept_in (λ m. not (m == c.args.number)) n c.args.self.now.numbers.items there (ap not other)))
