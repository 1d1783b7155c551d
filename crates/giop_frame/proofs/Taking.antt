-- A framer whose unread bytes begin with a whole part.
use Rattle.std.proofs.Common.{◌≡◌, ℕ, subst, sym}
use Rattle.giop_frame.specs.declared.rules.Look.{Look}
use Rattle.giop_frame.specs.declared.rules.Look.TheVariants.{Whole}
use Rattle.giop_frame.specs.Rules.{look_at}
use Rattle.giop_frame.specs.Framing.{Framing}
use Rattle.giop_frame.proofs.Looking.{IsWhole, whole_from_look}

pub whole_in_front : (f g : Framing) (n : ℕ) → f ≡ g → look_at g.limit g.reading.pending g.unread ≡ Whole n → IsWhole f.limit f.reading.pending f.unread n
whole_in_front f g n same seen =
    whole_from_look f.limit f.reading.pending f.unread n
    (subst (λ (k : Framing). look_at k.limit k.reading.pending k.unread ≡ Whole n) (sym same) seen)

pub seen_in_front : (f g : Framing) (seen : Look) → f ≡ g → look_at f.limit f.reading.pending f.unread ≡ seen
    → look_at g.limit g.reading.pending g.unread ≡ seen
seen_in_front f g seen same here = subst (λ (k : Framing). look_at k.limit k.reading.pending k.unread ≡ seen) same here
