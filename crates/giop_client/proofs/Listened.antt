-- How far the answer of a server was heard.
use Rattle.std.proofs.Common.{◌≡◌, ℕ, ◌+◌, ◌-◌, ◌<◌, ◌≤◌, List, [], ◌++◌, length, take, Option, Some, None, refl, sym, ap, ◌∙◌, subst, arith, length-append, ◌⊎◌, inl, inr}
use Rattle.std.proofs.lemmas.List.{length-take-le}
use Rattle.outside.specs.Cause.{Rose, HasCause}
use Rattle.outside.specs.Link.{Shown, Moves, IsDry}
use Rattle.outside.proofs.Moving.{moves_none, moves_in, moves_still}
use Rattle.giop_frame.specs.Stream.{Framed, left_over, Stream}
use Rattle.giop_frame.specs.Framing.{Framing}
use Rattle.giop_frame.specs.Framer.{HasGiven}
use Rattle.giop_client.specs.declared.hop.Hop.{Hop}
use Rattle.giop_client.specs.declared.hop.Hop.TheVariants as hop
use Rattle.giop_client.specs.declared.call_end.CallEnd.TheVariants as end
use Rattle.poa_base.specs.declared.limits.TheConstants.{MESSAGE_LIMIT}
use Rattle.giop_client.specs.declared.listening.TheConstants.{MOST_QUIETS}
use Rattle.giop_client.specs.declared.step.Step.{Step}
use Rattle.giop_client.specs.declared.step.Step.TheVariants.{On, End}
use Rattle.giop_client.specs.Hop.{IsHop}
use Rattle.giop_client.specs.Ending.{Brings, step_of}
use Rattle.giop_client.specs.Talking.{Hears, Listens}

-- so many bytes were read, and they say nothing yet
pub record Heard (id : ℕ) (a b : Shown) (framer : Framing) (heard : ℕ) : Type 0 where
  pub text : List ℕ
  pub counted : length text ≡ heard
  pub moved : Moves a b text []
  pub given : HasGiven MESSAGE_LIMIT text [] framer
  pub silent : IsHop id text None

-- no bytes are no message, and say nothing
no_bytes : Stream MESSAGE_LIMIT [] [] (left_over 0)
no_bytes = record { parts = []; left = []; cut = refl; good = tt; given = refl; ends = (refl, refl) }

nothing_said : (id : ℕ) → IsHop id [] None
nothing_said id = record { messages = []; end = left_over 0; stream = no_bytes; says = refl }

-- nothing was read yet
pub heard_none : (id : ℕ) (a : Shown) (framer : Framing) → HasGiven MESSAGE_LIMIT [] [] framer → Heard id a a framer 0
heard_none id a framer given = record {
  text = [];
  counted = refl;
  moved = moves_none a;
  given = given;
  silent = nothing_said id;
}

-- what a piece says behind the text before it
abbrev pub SaysBehind : ℕ → ℕ → Framing → List ℕ → Option Hop → Framing → Type 0
SaysBehind id now f piece said g =
    (text : List ℕ) → HasGiven MESSAGE_LIMIT text [] f → length (text ++ piece) ≡ now → Hears id (text ++ piece) said g

pub piece_length : (count : ℕ) (buf piece : List ℕ) → piece ≡ take count buf → count ≤ length buf → length piece ≡ count
piece_length count buf piece front within = ap (λ (l : List ℕ). length l) front ∙ length-take-le count buf within

counted_behind : (heard now count : ℕ) (text buf piece : List ℕ) → length text ≡ heard → piece ≡ take count buf → count ≤ length buf
    → now ≡ heard + count → length (text ++ piece) ≡ now
counted_behind heard now count text buf piece counted front within sum =
    omega (arith, length-append text piece, counted, piece_length count buf piece front within, sum)

moved_on : (a b z : Shown) (text buf piece : List ℕ) (count : ℕ) → Moves a b text [] → piece ≡ take count buf → Moves b z (take count buf) []
    → Moves a z (text ++ piece) []
moved_on a b z text buf piece count moved front more =
    moves_in a b z text [] piece moved (subst (λ (l : List ℕ). Moves b z l []) (sym front) more)

-- a piece came, and nothing is said yet
pub heard_more : (id : ℕ) (a b z : Shown) (f g : Framing) (heard now count : ℕ) (buf piece : List ℕ) → Heard id a b f heard → piece ≡ take count buf
    → count ≤ length buf → now ≡ heard + count → Moves b z (take count buf) [] → SaysBehind id now f piece None g → Heard id a z g now
heard_more id a b z f g heard now count buf piece has front within sum more says =
    let counted = counted_behind heard now count has.text buf piece has.counted front within sum in
    let hears = says has.text has.given counted in
    record {
      text = has.text ++ piece;
      counted = counted;
      moved = moved_on a b z has.text buf piece count has.moved front more;
      given = hears.given;
      silent = hears.hop;
    }

-- nothing came
pub heard_still : (id : ℕ) (a b z : Shown) (f : Framing) (heard : ℕ) → Heard id a b f heard → Moves b z [] [] → Heard id a z f heard
heard_still id a b z f heard has still = record {
  text = has.text;
  counted = has.counted;
  moved = moves_still a b z has.text [] has.moved still;
  given = has.given;
  silent = has.silent;
}

-- what was said brings its step
brings_said : (Said : Option Hop → Type 0) (Dry : Type 0) (said : Hop) → Said (Some said) → Brings Said Dry (step_of said)
brings_said Said Dry (hop.Result body) is = is
brings_said Said Dry (hop.User id) is = is
brings_said Said Dry (hop.System id minor done) is = is
brings_said Said Dry (hop.Forward ior) is = is
brings_said Said Dry hop.Closed is = inl is
brings_said Said Dry hop.BadReply is = is

pub listens_said : (id : ℕ) (a b z : Shown) (f g : Framing) (heard now count : ℕ) (buf piece : List ℕ) (said : Hop) (step : Step)
    → Heard id a b f heard → piece ≡ take count buf → count ≤ length buf → now ≡ heard + count → Moves b z (take count buf) []
    → SaysBehind id now f piece (Some said) g → step ≡ step_of said → Listens id a z step
listens_said id a b z f g heard now count buf piece said step has front within sum more says is =
    let counted = counted_behind heard now count has.text buf piece has.counted front within sum in
    let hears = says has.text has.given counted in
    record {
      gave = has.text ++ piece;
      moved = moved_on a b z has.text buf piece count has.moved front more;
      brings = subst (Brings (IsHop id (has.text ++ piece)) (IsDry z)) (sym is)
          (brings_said (IsHop id (has.text ++ piece)) (IsDry z) said hears.hop);
    }

-- no memory was left for a piece
pub listens_without : (id : ℕ) (a b z : Shown) (f : Framing) (heard : ℕ) (piece : List ℕ) → Heard id a b f heard → Moves b z piece []
    → Listens id a z (End end.WantMemory)
listens_without id a b z f heard piece has moved = record {
  gave = has.text ++ piece;
  moved = moves_in a b z has.text [] piece has.moved moved;
  brings = tt;
}

-- the link came to its end, or a read failed
pub listens_end : (id : ℕ) (a b z : Shown) (f : Framing) (heard : ℕ) → Heard id a b f heard → Moves b z [] [] → IsDry z → Listens id a z (End end.Closed)
listens_end id a b z f heard has still dry = record {
  gave = has.text;
  moved = moves_still a b z has.text [] has.moved still;
  brings = inr (has.silent, dry);
}

pub listens_fault : (id : ℕ) (a b z : Shown) (f : Framing) (heard : ℕ) → Heard id a b f heard → Moves b z [] [] → Listens id a z (End end.ReadFault)
listens_fault id a b z f heard has still = record {
  gave = has.text;
  moved = moves_still a b z has.text [] has.moved still;
  brings = has.silent;
}

-- too many reads found nothing
pub listens_quiet : (id : ℕ) (a b : Shown) (f : Framing) (heard quiets : ℕ) → Heard id a b f heard → quiets ≡ MOST_QUIETS
    → Listens id a b (End (end.NoAnswer quiets))
listens_quiet id a b f heard quiets has many = record { gave = has.text; moved = has.moved; brings = (has.silent, many) }

-- a count that rose is above 0
pub risen : (before now : ℕ) → Rose before now → 0 < now
risen before now (inl more) = omega (arith, more)
risen before now (inr full) = omega (arith, full)
