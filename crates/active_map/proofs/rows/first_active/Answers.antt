use Rattle.std.proofs.Common.{◌≡◌, ◌+◌, drop, find, Some, None, get_or, sym, ap, ◌∙◌, arith}
use Rattle.std.specs.Prelude.{if◌then◌else◌, option_and_then}
use Rattle.std.specs.BTreeMap.{get}
use Rattle.std.specs.List.{filter_map}
use Rattle.std.specs.Option.{option_copied}
use Rattle.std.specs.Ordering.{nat_cmp}
use Rattle.std.proofs.lemmas.Grind.{common_steps}
use Rattle.std.proofs.lemmas.List.{at_drop_more}
use Rattle.history_standing.specs.Standings.{is_active}
use Rattle.active_map.proofs.Ided.{first_hit, first_miss}
use Rattle.active_map.proofs.rows.first_active.Goals as goal

pub returns-in-Some : goal.returns-in-Some
returns-in-Some c =
    (let xs = c.args.numbers.now in
    let i = c.loop-number.number-index in
    let look = get nat_cmp c.args.rows.now in
    let found : option_copied c.active_at.result ≡ option_and_then (λ a. if (is_active) a then Some a else None) (look (get_or xs i 0)) =
    grind (arith, common_steps, c.active_at.ensures) in
    sym (first_hit (is_active) look (get_or xs i 0) (drop (i + 1) xs) c.in-Some.activation.now (sym found ∙ ap option_copied c.in-Some.is))
    ∙ sym (at_drop_more (λ ns. find (is_active) (filter_map look ns)) xs i 0 c.loop-number-test.true)
    ∙ c.loop-number.invariant)

pub loop-number-preserved : goal.loop-number-preserved
loop-number-preserved c =
    (let xs = c.args.numbers.now in
    let i = c.loop-number.number-index in
    let look = get nat_cmp c.args.rows.now in
    let found : option_copied c.active_at.result ≡ option_and_then (λ a. if (is_active) a then Some a else None) (look (get_or xs i 0)) =
    grind (arith, common_steps, c.active_at.ensures) in
    sym (first_miss (is_active) look (get_or xs i 0) (drop (i + 1) xs) (sym found ∙ ap option_copied c.in_default.is))
    ∙ sym (at_drop_more (λ ns. find (is_active) (filter_map look ns)) xs i 0 c.loop-number-test.true)
    ∙ c.loop-number.invariant)
