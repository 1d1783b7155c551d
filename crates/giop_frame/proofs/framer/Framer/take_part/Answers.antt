use Rattle.std.proofs.Common.{◌≡◌, ℕ, ◌+◌, ◌≤◌, List, Option, length, take, drop, ap, subst, ◌∙◌, sym, arith, length-drop}
use Rattle.std.proofs.lemmas.List.{length-take-le}
use Rattle.std.specs.Option.{option_to_list}
use Rattle.giop_frame.specs.declared.rules.Look.TheVariants.{Whole}
use Rattle.giop_frame.specs.Open.{Opens, open_bytes, taken_bytes}
use Rattle.giop_frame.specs.Stream.{Reading, open_after, completed}
use Rattle.giop_frame.specs.Framing.{Framing}
use Rattle.giop_frame.specs.Framer.{TakesPart}
use Rattle.giop_frame.proofs.Looking.{IsWhole, look_from_whole, whole_front}
use Rattle.giop_frame.proofs.Taking.{whole_in_front}
use Rattle.giop_frame.proofs.Bounds.{bounds_kept}
use Rattle.giop_frame.proofs.framer.Framer.take_part.Goals as goal

pub slice_bounds-part-end : goal.slice_bounds-part-end
slice_bounds-part-end c =
    let w = subst (λ (t : List ℕ). IsWhole c.self.inside.limit c.self.inside.pending t c.args.length) (sym c.as_slice.ensures)
    (whole_in_front _ _ c.args.length c.self.view_is c.requires.whole) in
    sym (length-take-le c.args.length c.as_slice.result.now w.whole)

pub read_part-requires-clause-good : goal.read_part-requires-clause-good
read_part-requires-clause-good c =
    let n = c.args.length in
    let text = c.as_slice.result.now in
    let w = subst (λ (t : List ℕ). IsWhole c.self.inside.limit c.self.inside.pending t n) (sym c.as_slice.ensures)
    (whole_in_front _ _ c.args.length c.self.view_is c.requires.whole) in (
      c.self.inside.limit,
      look_from_whole c.self.inside.limit c.self.inside.pending (take n text) n (whole_front c.self.inside.limit c.self.inside.pending text n w)
          ∙ ap Whole (sym (length-take-le n text w.whole)),
    )

pub skip-requires : goal.skip-requires
skip-requires c = (whole_in_front _ _ c.args.length c.self.view_is c.requires.whole).whole

pub overflow_add-self : goal.overflow_add-self
overflow_add-self c = let w = (whole_in_front _ _ c.args.length c.self.view_is c.requires.whole).whole in omega (arith, w, c.self.invariant.2)

pub invariant_of-self-2 : goal.invariant_of-self-2
invariant_of-self-2 c =
    let n = c.args.length in
    let text = c.self.inside.unread in
    let w = whole_in_front _ _ c.args.length c.self.view_is c.requires.whole in
    let r : Reading = record { place = c.self.inside.place; pending = c.self.inside.pending } in
    let long : length (take n text) ≡ n = length-take-le n text w.whole in
    let front =
    subst (λ (k : ℕ). IsWhole c.self.inside.limit c.self.inside.pending (take n text) k) (sym long)
    (whole_front c.self.inside.limit c.self.inside.pending text n w) in
    let kept = bounds_kept c.self.inside.limit r (take n text) front c.self.invariant.0 in
    let left : c.read_part.new.pending ≡ open_after r (take n text) =
    c.in_ok-message.ensures.left ∙ ap (λ (t : List ℕ). open_after r (take n t)) c.as_slice.ensures in (
      subst (λ (o : Opens). open_bytes o ≤ 16777216) (sym left) kept.bytes,
      omega (arith, ap taken_bytes left, kept.taken, long, c.self.invariant.1),
      omega (arith, ap length c.skip.ensures, length-drop n text, w.whole, c.self.invariant.2),
      c.first_of-self-inside.ensures.known c.self.invariant.3,
    )

pub returns-clause-taken : goal.returns-clause-taken
returns-clause-taken c =
    let n = c.args.length in
    let text = c.self.inside.unread in
    let r : Reading = record { place = c.self.inside.place; pending = c.self.inside.pending } in
    let long : length (take n text) ≡ n = length-take-le n text (whole_in_front _ _ c.args.length c.self.view_is c.requires.whole).whole in
    let left : c.read_part.new.pending ≡ open_after r (take n text) =
    c.in_ok-message.ensures.left ∙ ap (λ (t : List ℕ). open_after r (take n t)) c.as_slice.ensures in
    let make : ℕ → Opens → List ℕ → Option ℕ → Framing =
    λ p o u first. record { limit = c.self.inside.limit; reading = record { place = p; pending = o }; unread = u; closed = c.self.inside.closed; first = first } in
    subst (λ (f : Framing). TakesPart f n (option_to_list c.in_ok-message.message) (make (c.self.inside.place + n) c.read_part.new.pending c.skip.new.self c.first_of-self-inside.result))
    c.self.view_is
    (record {
      completes = c.in_ok-message.ensures.message ∙ ap (λ (t : List ℕ). completed r (take n t)) c.as_slice.ensures;
      goes_on = ap (λ (k : ℕ). make (c.self.inside.place + k) c.read_part.new.pending c.skip.new.self c.first_of-self-inside.result) (sym long)
          ∙ (ap (λ (o : Opens). make (c.self.inside.place + length (take n text)) o c.skip.new.self c.first_of-self-inside.result) left
          ∙ (ap (λ (u : List ℕ). make (c.self.inside.place + length (take n text)) (open_after r (take n text)) u c.first_of-self-inside.result) c.skip.ensures
          ∙ ap (λ (m : Option ℕ). make (c.self.inside.place + length (take n text)) (open_after r (take n text)) (drop n text) m) c.first_of-self-inside.ensures.value));
    })
