-- The messages that a good part completes are no longer than the limit allows.
use Rattle.std.proofs.Common.{◌≡◌, ℕ, ◌+◌, ◌-◌, ◌≤◌, Option, Some, None, option_map, List, [], ◌∷◌, length, take, drop, ap, subst, ◌∙◌, sym, arith, length-append, length-drop}
use Rattle.std.proofs.lemmas.Bool.{cond_both}
use Rattle.std.proofs.lemmas.Bool.Decides.{nat_tests}
use Rattle.std.proofs.lemmas.List.{length-take-le}
use Rattle.std.specs.Option.{option_to_list}
use Rattle.giop_frame.specs.declared.header.Header.{Header}
use Rattle.giop_frame.specs.declared.rules.Look.TheVariants.{Whole}
use Rattle.giop_frame.specs.Part.{header_of, id_of, continues}
use Rattle.giop_frame.specs.Open.{Open, Opens, find_open}
use Rattle.giop_frame.specs.Rules.{look_at, foreign_fault, size_fault, fragment_fault}
use Rattle.giop_frame.specs.Stream.{Framed, Reading, closed_by, completed}
use Rattle.giop_frame.specs.Framing.{Framing}
use Rattle.giop_frame.specs.Framer.{TakesPart}
use Rattle.giop_frame.proofs.Looking.{IsWhole, whole_from_look, whole_front, second_none}
use Rattle.giop_frame.proofs.Bounds.{fragment_good}

size_within : (limit : ℕ) (pending : Opens) (h : Header) → size_fault limit pending h ≡ None → h.size ≤ limit
size_within limit pending h e = grind (arith, nat_tests)

joined_within : (limit : ℕ) (pending : Opens) (h : Header) (o : Open) → fragment_fault limit pending h (Some o) ≡ None
    → length o.bytes - 12 + (h.size - 4) ≤ limit
joined_within limit pending h o e = grind (arith, nat_tests)

closed_length : (o : Open) (part : List ℕ) → length (closed_by o part).bytes ≡ length o.bytes + (length part - 16)
closed_length o part = length-append o.bytes (drop 16 part) ∙ ap (λ n. length o.bytes + n) (length-drop 16 part)

module _ (limit : ℕ) (m : Framed) where
  abbrev Within : List Framed → Type 0
  Within messages = messages ≡ m ∷ [] → length m.bytes ≤ 12 + limit

  only : (x : Framed) → length x.bytes ≤ 12 + limit → Within (x ∷ [])
  only x within is = (let e : x ∷ [] ≡ m ∷ [] = is in let same : x ≡ m = cc in subst (λ y. length y.bytes ≤ 12 + limit) same within)

  nothing : Within []
  nothing is = absurd (let e : [] ≡ m ∷ [] = is in cc)

  closed_within : (pending : Opens) (part : List ℕ) (found : Option Open) → 12 + (header_of part).size ≡ length part
      → fragment_fault limit pending (header_of part) found ≡ None → Within (option_to_list (option_map (λ o. closed_by o part) found))
  closed_within pending part None size good = nothing
  closed_within pending part (Some o) size good =
      only (closed_by o part) (omega (arith, closed_length o part, size, joined_within limit pending (header_of part) o good))

  pub completed_within : (r : Reading) (part : List ℕ) → IsWhole limit r.pending part (length part) → Within (completed r part)
  completed_within r part w =
      let h = header_of part in
      let sound : size_fault limit r.pending h ≡ None = second_none (foreign_fault part) (size_fault limit r.pending h) w.sound in
      cond_both h.more _ _ Within (λ _. nothing)
      (λ _. cond_both (continues h) _ _ Within
      (λ more. closed_within r.pending part (find_open (id_of part) r.pending) w.size (fragment_good limit r.pending part w.placed more))
      (λ _. only (record { at = r.place; bytes = part }) (omega (arith, w.size, size_within limit r.pending h sound))))

-- a part that was read completes no longer message
pub taken_within : (f g : Framing) (n : ℕ) (m : Framed) → look_at f.limit f.reading.pending f.unread ≡ Whole n → TakesPart f n (m ∷ []) g
    → length m.bytes ≤ 12 + f.limit
taken_within f g n m seen t =
    let w = whole_from_look f.limit f.reading.pending f.unread n seen in
    let part = take n f.unread in
    let front : IsWhole f.limit f.reading.pending part (length part) =
    subst (λ (k : ℕ). IsWhole f.limit f.reading.pending part k) (sym (length-take-le n f.unread w.whole))
    (whole_front f.limit f.reading.pending f.unread n w) in
    completed_within f.limit m f.reading part front (sym t.completes)
