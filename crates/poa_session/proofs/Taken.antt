-- A piece of a link's input is taken in.
use Rattle.std.proofs.Common.{◌≡◌, ℕ, ◌+◌, ◌^◌, ◌≤◌, ◌<◌, List, [], ◌++◌, length, true, false, append-nil, refl, sym, subst, arith}
use Rattle.std.specs.Prelude.{Some, None}
use Rattle.poa_base.specs.declared.SessionEnd.{SessionEnd}
use Rattle.poa_base.specs.declared.SessionEnd.TheVariants.{Ended, Shut, ReadFault, WriteFault, Malformed, Truncated, InputLimit, Limit, Abandoned, WantMemory}
use Rattle.outside.specs.Link.{Shown, Moves, IsDry}
use Rattle.outside.proofs.Moving.{moves_none}
use Rattle.session_laws.specs.Hearing.{Heard, Stop}
use Rattle.session_laws.specs.declared.Peer.{Peer}
use Rattle.session_laws.specs.HearingPieces.{Intake, KnowsFirst, OfIntake}
use Rattle.poa_session.specs.Taking.{EndsAt, Takes}

module _ (i j : Intake) (have : ℕ) (a b : Shown) where
  few_nothing : i.taken ≤ 2 ^ 40 → i.taken + 0 ≤ 2 ^ 40
  few_nothing few = omega (arith, few)

  pub takes_piece : (piece : List ℕ) → Moves a b piece [] → i.taken + length piece ≤ 2 ^ 40 → j.taken ≡ i.taken + length piece
      → ((next : List ℕ) (more : List Heard) (stop : Stop) → OfIntake j next more stop → OfIntake i (piece ++ next) more stop)
      → ((peer : Peer) (text : List ℕ) → KnowsFirst peer i.ear text → KnowsFirst peer j.ear (text ++ piece)) → Takes i j have a b None
  takes_piece piece moved few taken fed first = record { piece = piece; first = first; moved = moved; few = λ _. few; taken = (taken, fed) }

  pub takes_lost : (piece : List ℕ) → Moves a b piece [] → i.taken + length piece ≤ 2 ^ 40 → Takes i j have a b (Some WantMemory)
  takes_lost piece moved few = record { piece = piece; first = λ settles. absurd (let e : false ≡ true = settles in cc); moved = moved; few = λ _. few; taken = tt }

  -- the ear knows the same
  same_first : j ≡ i → (peer : Peer) (text : List ℕ) → KnowsFirst peer i.ear text → KnowsFirst peer j.ear (text ++ [])
  same_first same peer text knows =
      subst (λ (k : Intake). KnowsFirst peer k.ear (text ++ [])) (sym same) (subst (KnowsFirst peer i.ear) (sym (append-nil text)) knows)

  pub takes_failed : Moves a b [] [] → i.taken < 2 ^ 40 → Takes i j have a b (Some ReadFault)
  takes_failed moved fewer = record { piece = []; first = λ settles. absurd (let e : false ≡ true = settles in cc); moved = moved; few = few_nothing; taken = (refl, fewer) }

  pub takes_end : (end : SessionEnd) → j ≡ i → Moves a b [] [] → IsDry b → i.taken < 2 ^ 40 → EndsAt have end → Takes i j have a b (Some end)
  takes_end Ended same moved dry fewer ends = record { piece = []; first = λ _. same_first same; moved = moved; few = few_nothing; taken = (refl, fewer, ends, dry) }
  takes_end (Truncated bytes) same moved dry fewer ends = record {
    piece = [];
    first = λ _. same_first same;
    moved = moved;
    few = few_nothing;
    taken = (refl, fewer, ends.0, ends.1, dry);
  }
  takes_end Shut same moved dry fewer ends = absurd ends
  takes_end ReadFault same moved dry fewer ends = absurd ends
  takes_end WriteFault same moved dry fewer ends = absurd ends
  takes_end (Malformed at) same moved dry fewer ends = absurd ends
  takes_end (InputLimit taken) same moved dry fewer ends = absurd ends
  takes_end (Limit many bytes) same moved dry fewer ends = absurd ends
  takes_end (Abandoned worker) same moved dry fewer ends = absurd ends
  takes_end WantMemory same moved dry fewer ends = absurd ends

-- nothing was there
pub takes_nothing : (i : Intake) (have : ℕ) (a b : Shown) → Moves a b [] [] → Takes i i have a b None
takes_nothing i have a b moved = record {
  piece = [];
  first = same_first i i have a b refl;
  moved = moved;
  few = λ few. omega (arith, few);
  taken = (omega arith, λ next more stop heard. heard);
}

-- the session has read all that it reads
pub takes_limit : (i : Intake) (have taken : ℕ) (a : Shown) → taken ≡ i.taken → taken ≡ 2 ^ 40 → Takes i i have a a (Some (InputLimit taken))
takes_limit i have taken a is full = record {
  piece = [];
  first = λ settles. absurd (let e : false ≡ true = settles in cc);
  moved = moves_none a;
  few = λ few. omega (arith, few);
  taken = (refl, is, full);
}
