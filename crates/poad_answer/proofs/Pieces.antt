-- What a piece of input brings, and what is handed on.
use Rattle.std.proofs.Common.{◌≡◌, Bool, ℕ, ◌+◌, List, [], ◌++◌, length, take, drop, Option, true, false, refl, sym, ap, ◌∙◌, subst, append_assoc, append-nil}
use Rattle.std.proofs.Math.Seq.{take-append-add}
use Rattle.std.proofs.lemmas.List.{take-append-drop, take_at}
use Rattle.outside.specs.Told.{IfTold}
use Rattle.session_laws.specs.declared.peer.Peer.{Peer}
use Rattle.session_laws.specs.declared.peer.Peer.TheVariants.{Client}
use Rattle.session_laws.specs.Hearing.{Heard, Stop as HeardStop}
use Rattle.session_laws.specs.Sessions.{Begins}
use Rattle.session_laws.specs.HearingPieces.{Intake, KnowsFirst, OfIntake}
use Rattle.session_laws.proofs.Expected.{expects_fed, expects_front}
use Rattle.session_laws.proofs.GoingOn.{intake_goes_on}
use Rattle.poad_files.specs.Delivery.{Hands}
use Rattle.poad_files.proofs.Told.{told_then, told_so}
use Rattle.poad_answer.specs.declared.end.End.{End}
use Rattle.poad_answer.specs.declared.stop.Stop.{Stop}
use Rattle.poad_answer.specs.declared.stop.Stop.TheVariants.{Waits, Closed, NoMemory}
use Rattle.poad_answer.specs.Meaning.{Meaning}
use Rattle.poad_answer.specs.Closing.{Closes, EndsSo, closes}
use Rattle.poad_answer.specs.Source.{is_written}
use Rattle.poad_answer.specs.Stop.{ClosesIn, last_words}
use Rattle.poad_answer.specs.Piece.{Keeps, KeepsPiece, Server, ServesUpTo, TakesPiece, server}

-- a delivery, and a second one
pub hands_then : (a b : Option (List ℕ)) (c : Option (List ℕ)) (first last : List ℕ) (d : Bool) → IfTold a b (Hands true first) → IfTold b c (Hands d last)
    → IfTold a c (Hands d (first ++ last))
hands_then a b c first last true p q = told_then a b c _ _ _ (λ x y z e f. f ∙ (ap (λ (front : List ℕ). front ++ last) e ∙ append_assoc x first last)) p q
hands_then a b c first last false p q =
    told_then a b c _ _ _
    (λ x y z e f. (
      length first + f.0,
      f.1 ∙ (ap (λ (front : List ℕ). front ++ take f.0 last) e
          ∙ (append_assoc x first (take f.0 last) ∙ ap (λ (bytes : List ℕ). x ++ bytes) (sym (take-append-add first last f.0)))),
    )) p q

-- a delivery that failed, of bytes that others were to follow
pub hands_part : (a b : Option (List ℕ)) (first last : List ℕ) → IfTold a b (Hands false first) → IfTold a b (Hands false (first ++ last))
hands_part a b first last p = told_so a b _ _ (λ x y e. (
  length (take e.0 first),
  e.1 ∙ ap (λ (bytes : List ℕ). x ++ bytes) (sym (
      ap (λ (all : List ℕ). take (length (take e.0 first)) (all ++ last)) (sym (take-append-drop e.0 first))
      ∙ (ap (take (length (take e.0 first))) (append_assoc (take e.0 first) (drop e.0 first) last)
      ∙ take_at (take e.0 first) (drop e.0 first ++ last) _ refl))),
)) p

-- all the bytes are a front of them
take_all : (bytes : List ℕ) → bytes ≡ take (length bytes) bytes
take_all bytes = sym (ap (take (length bytes)) (sym (append-nil bytes)) ∙ take_at bytes [] _ refl)

-- what was gained, where it ends here
pub hands_all : (d : Bool) (bytes before now : List ℕ) → now ≡ before ++ bytes → Hands d bytes before now
hands_all true bytes before now e = e
hands_all false bytes before now e = (length bytes, e ∙ ap (λ (all : List ℕ). before ++ all) (take_all bytes))

module _ {A : Type 0} (m : Meaning A) (a : A) (i j : Intake) (replies piece : List ℕ) where
  -- no memory was left for the piece
  pub piece_refused : m.fits a → TakesPiece m NoMemory piece (server a i replies) (server a j replies)
  piece_refused fits = record {
    calls = [];
    replies = [];
    last = a;
    served = (refl, refl);
    fits = fits;
    waiting = sym (append-nil replies);
    stops = λ text before e. subst (Begins Client (text ++ piece)) (sym (append-nil before))
        (expects_front Client (OfIntake i) text before e piece (intake_goes_on i piece));
    kept = tt;
    first = λ never. absurd (never refl);
  }

  -- the piece was fed
  module _ (fed : (next : List ℕ) (more : List Heard) (stop : HeardStop) → OfIntake j next more stop → OfIntake i (piece ++ next) more stop)
      (first : (peer : Peer) (text : List ℕ) → KnowsFirst peer i.ear text → KnowsFirst peer j.ear (text ++ piece))
      (taken : j.taken ≡ i.taken + length piece) where
    keeps_piece : (why : Stop) (calls : List Heard) (last : A) (new : Server A) → new.input.taken ≡ j.taken → Keeps why calls last (server a j replies) new
        → KeepsPiece why piece calls last (server a i replies) new
    keeps_piece (Waits have) calls last new same kept = (
      kept.0,
      (λ text before e. kept.1 (text ++ piece) before (expects_fed Client (OfIntake i) (OfIntake j) text before e piece fed)),
      same ∙ taken,
    )
    keeps_piece Closed calls last new same kept = kept
    keeps_piece _ calls last new same kept = tt

    pub piece_served : (why : Stop) (new : Server A) → ServesUpTo m why (server a j replies) new → TakesPiece m why piece (server a i replies) new
    piece_served why new u = record {
      calls = u.calls;
      replies = u.replies;
      last = u.last;
      served = u.served;
      fits = u.fits;
      waiting = u.waiting;
      stops = λ text before e. u.stops (text ++ piece) before (expects_fed Client (OfIntake i) (OfIntake j) text before e piece fed);
      kept = keeps_piece why u.calls u.last new u.taken u.kept;
      first = λ some text knows. u.first (text ++ piece) (first Client text knows);
    }

-- all was written, and it ends so
pub closed_so : (end : End) (why : Stop) (i : Intake) (replies : List ℕ) (h k : Option (List ℕ)) (minor : ℕ)
    → ((text : List ℕ) → KnowsFirst Client i.ear text → ClosesIn why text minor) → IfTold h k (Hands true (replies ++ last_words minor why)) → EndsSo end why
    → Closes end why i replies h k
closed_so end why i replies h k minor first gave ends =
    closes minor first (told_so h k _ _ (λ x y e. hands_all (is_written end) (replies ++ last_words minor why) x y e) gave) ends
