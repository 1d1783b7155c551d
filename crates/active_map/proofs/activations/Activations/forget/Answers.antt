use Rattle.std.proofs.Common.{◌≡◌, ◌+◌, ◌∙◌, not, filter, length, refl, sym, ap, arith}
use Rattle.std.proofs.lemmas.List.Filters.{length-filter_both}
use Rattle.history_standing.specs.Ends.{is_over}
use Rattle.active_map.specs.Live.{is_live, live}
use Rattle.active_map.proofs.OneByOne.{none_over_live}
use Rattle.active_map.proofs.activations.Activations.forget.Goals as goal

pub returns-then-not-has_none_over-clause-forgotten : goal.returns-then-not-has_none_over-clause-forgotten
returns-then-not-has_none_over-clause-forgotten c =
    (let cfg = c.args.config.now in
    let mid = c.forget_few.new.self in
    let old = c.args.self.now in
    let all = c.forget_all.ensures.forgotten in
    let begun = c.forget_few.ensures.begun in
    let same = ap length c.forget_few.ensures.live in
    let one = length-filter_both (is_over cfg) (is_live cfg) (λ _. refl) mid.kept in
    let two = length-filter_both (is_over cfg) (is_live cfg) (λ _. refl) old.kept in
    omega (arith, all, begun, same, one, two))

pub returns-then-not-has_none_over-clause-kept : goal.returns-then-not-has_none_over-clause-kept
returns-then-not-has_none_over-clause-kept c = c.forget_all.ensures.kept ∙ c.forget_few.ensures.live

pub returns-else-not-has_none_over-clause-forgotten : goal.returns-else-not-has_none_over-clause-forgotten
returns-else-not-has_none_over-clause-forgotten c =
    (let cfg = c.args.config.now in
    let mid = c.forget_few.new.self in
    let old = c.args.self.now in
    let begun = c.forget_few.ensures.begun in
    let same = ap length c.forget_few.ensures.live in
    let whole = ap length (none_over_live (is_over cfg) mid.kept (c.has_none_over.ensures c.if-not-has_none_over.false)) in
    let two = length-filter_both (is_over cfg) (is_live cfg) (λ _. refl) old.kept in
    omega (arith, begun, same, whole, two))

pub returns-else-not-has_none_over-clause-kept : goal.returns-else-not-has_none_over-clause-kept
returns-else-not-has_none_over-clause-kept c =
    sym (none_over_live (is_over c.args.config.now) c.forget_few.new.self.kept (c.has_none_over.ensures c.if-not-has_none_over.false))
    ∙ c.forget_few.ensures.live
