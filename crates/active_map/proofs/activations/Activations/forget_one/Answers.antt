use Rattle.std.proofs.Common.{◌≡◌, ◌+◌, ◌&&◌, ◌==◌, ◌∙◌, not, filter, length, refl, sym, ap, arith}
use Rattle.std.proofs.lemmas.List.Filters.{length-filter_both}
use Rattle.history_standing.specs.Ends.{is_over}
use Rattle.active_map.specs.Live.{live}
use Rattle.active_map.proofs.OneByOne.{live_without}
use Rattle.active_map.proofs.activations.Activations.forget_one.Goals as goal

pub returns-in-Some-clause-live : goal.returns-in-Some-clause-live
returns-in-Some-clause-live c =
    ap (live c.args.config.now) c.forget_at.ensures.kept ∙ live_without c.args.config.now c.in-Some.number.now c.args.self.now.kept

pub returns-in-Some-clause-begun : goal.returns-in-Some-clause-begun
returns-in-Some-clause-begun c =
    (let over = is_over c.args.config.now in
    let gone = c.forget_at.ensures.forgotten in
    let left = ap length c.forget_at.ensures.kept in
    let both = length-filter_both (λ a. (a.number == c.in-Some.number.now) && over a) (λ a. not ((a.number == c.in-Some.number.now) && over a)) (λ _. refl)
    c.args.self.now.kept in
    omega (arith, gone, left, both))
