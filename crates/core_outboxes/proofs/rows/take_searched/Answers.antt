use Rattle.std.proofs.Common.{◌≡◌, ◌+◌, ◌<◌, ◌∙◌, OnSome, Some, ap, arith, get_or, length, option_to_list, refl, rules, subst, sym}
use Rattle.std.specs.List.{remove}
use Rattle.std.specs.List.Sorted.{IsBinarySearchResult}
use Rattle.std.specs.Ordering.{nat_cmp}
use Rattle.std.specs.VecDeque.{deque_len}
use Rattle.std.proofs.lemmas.List.Sorted.{answers_always}
use Rattle.core_outboxes.proofs.Filing.{some_of}
use Rattle.core_outboxes.proofs.Rising.{found, missing}
use Rattle.core_outboxes.proofs.rows.take_searched.Goals as goal

pub returns-in_default : goal.returns-in_default
returns-in_default c =
    let os = c.args.owing.now.items in
    let by_key = c.binary_search_by_key.ensures.position (λ o. o.arrival) (answers_always _ _ _ (λ f a r g called. search rules)) in
    let none = missing c.args.arrival os c.in_default.field-0 c.requires
    (subst (IsBinarySearchResult (λ o. nat_cmp o.arrival c.args.arrival) os) c.in_default.is by_key) in
    record { row = sym none.0; kept = sym none.1; fewer = omega arith; places = refl }

pub returns : goal.returns
returns c =
    let os = c.args.owing.now.items in
    let by_key = c.binary_search_by_key.ensures.position (λ o. o.arrival) (answers_always _ _ _ (λ f a r g called. search rules)) in
    let at = subst (IsBinarySearchResult (λ o. nat_cmp o.arrival c.args.arrival) os) c.in-Ok.is by_key in
    let within : c.in-Ok.place < length os = subst (λ n. c.in-Ok.place < n) c.args.owing.now.ok.0 c.in-Ok.ensures.bound in
    let d = some_of os within in
    let one = found c.args.arrival os c.in-Ok.place d c.requires within at in
    let is : c.remove.result ≡ Some (get_or os c.in-Ok.place d) = c.remove.ensures.succeeds d c.in-Ok.ensures.bound in
    let less = subst (λ o. OnSome o (deque_len c.remove.new.self + 1 ≡ deque_len c.args.owing.now)) is c.remove.ensures.len in
    record {
      row = ap option_to_list is ∙ sym one.0;
      kept = subst (λ o. OnSome o (c.remove.new.self.items ≡ remove os c.in-Ok.place)) is c.remove.ensures.items ∙ sym one.1;
      fewer = omega (arith, less);
      places = c.remove.ensures.capacity;
    }
