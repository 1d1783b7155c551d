use Rattle.std.proofs.Common.{rules, ◌≡◌, ◌+◌, ◌-◌, Some, length, ap, ◌∙◌, sym}
use Rattle.std.specs.Map.{set_value}
use Rattle.std.proofs.lemmas.Map.Steps.{set_value_same}
use Rattle.std.proofs.lemmas.Result.{err_from_is_err_and}
use Rattle.giop_frame.specs.Open.{at_id, find_open, joined, open_bytes, taken_bytes}
use Rattle.giop_frame.proofs.Sums.{open_bytes-join, taken_bytes-join}
use Rattle.giop_frame.proofs.open_messages.OpenMessages.join.Goals as goal

unchanged : (c : goal.After-from_residual) → (c.get_mut.follows.lender c.join.new.self).entries ≡ c.self.inside.by_id.entries
unchanged c =
    let found : find_open c.args.id c.self.inside.by_id.entries ≡ Some c.in-Some.opened.now = search rules in
    let kept : Some c.in-Some.opened.now ≡ Some c.join.new.self = ap Some (sym (c.in_err-join.ensures.refused)) in
    (c.get_mut.follows.holds c.join.new.self).0 ∙ set_value_same (at_id c.args.id) c.self.inside.by_id.entries c.join.new.self (found ∙ kept)

pub invariant_of-self-in_err-join : goal.invariant_of-self-in_err-join
invariant_of-self-in_err-join c =
    (c.self.invariant.0 ∙ ap open_bytes (sym (unchanged c)), c.self.invariant.1 ∙ ap taken_bytes (sym (unchanged c)))

pub returns-in_err-join-clause-refused : goal.returns-in_err-join-clause-refused
returns-in_err-join-clause-refused c =
    let p = err_from_is_err_and c.from_residual.result c.from_residual.ensures.1 in rw p.1 (unchanged c ∙ c.self.view_is)

pub invariant_of-self-2 : goal.invariant_of-self-2
invariant_of-self-2 c =
    let found : find_open c.args.id c.self.inside.by_id.entries ≡ Some c.in-Some.opened.now = search rules in
    let is : (c.get_mut.follows.lender c.join.new.self).entries ≡ set_value (at_id c.args.id) c.self.inside.by_id.entries
    (joined c.in-Some.opened.now c.args.part.now) =
    (c.get_mut.follows.holds c.join.new.self).0 ∙ ap (set_value (at_id c.args.id) c.self.inside.by_id.entries) c.in_ok-join.ensures.ok in (
      ap (λ n. n + (length c.args.part.now - 16)) c.self.invariant.0 ∙ sym (ap open_bytes is ∙ open_bytes-join _ c.args.id _ _ found c.requires.id),
      ap (λ n. n + length c.args.part.now) c.self.invariant.1 ∙ sym (ap taken_bytes is ∙ taken_bytes-join _ c.args.id _ c.args.part.now found),
    )
