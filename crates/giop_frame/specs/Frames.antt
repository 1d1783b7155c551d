-- The stream of a text that is at hand.
use Rattle.std.specs.Prelude.{ℕ, List, flat_map}
use Rattle.std.specs.Borrow.{Bor}
use Rattle.giop_frame.specs.declared.next.Next.{Next}
use Rattle.giop_frame.specs.declared.next.Next.TheVariants as answer
use Rattle.giop_frame.specs.Stream.{Framed, Stream, left_over, bad_place}

-- the text that pieces make
abbrev pub joined_pieces : List (Bor (List ℕ)) → List ℕ
joined_pieces pieces = flat_map (λ p. p.now) pieces

-- these messages and then this answer are the stream of the text
abbrev pub Closes : ℕ → List ℕ → List Framed → Next → Type 0
Closes limit text messages (answer.Message m) = ⊥
Closes limit text messages (answer.NeedMore have) = Stream limit text messages (left_over have)
Closes limit text messages (answer.Bad at why) = Stream limit text messages (bad_place at why)
