-- A source that is served, piece by piece.
use Rattle.std.proofs.Common.{◌≡◌, ℕ, ◌+◌, ◌<◌, ◌≤◌, ◌^◌, List, [], ◌∷◌, ◌++◌, length, take, Option, Bool, true, false, refl, sym, ap, ◌∙◌, subst, append_assoc, append-nil, length-append, inl, inr, arith}
use Rattle.std.proofs.lemmas.List.{take-take, take-append-le}
use Rattle.outside.specs.Told.{IfTold}
use Rattle.giop_frame.specs.Stream.{left_over}
use Rattle.poa_base.specs.declared.Call.{Call}
use Rattle.session_laws.specs.declared.peer.Peer.TheVariants.{Client}
use Rattle.session_laws.specs.Hearing.{Heard, HearsMessages, over}
use Rattle.session_laws.specs.Expecting.{Expects}
use Rattle.session_laws.specs.HearingPieces.{Intake, KnowsFirst, OfIntake}
use Rattle.session_laws.specs.Sessions.{Begins}
use Rattle.session_laws.proofs.Expected.{hears_begins}
use Rattle.poad_answer.specs.declared.end.End.{End}
use Rattle.poad_answer.specs.declared.end.End.TheVariants.{Read, Malformed, Full, Truncated, ReadFault, InputLimit, WriteFault, WantMemory}
use Rattle.poad_answer.specs.declared.stop.Stop.{Stop}
use Rattle.poad_answer.specs.declared.stop.Stop.TheVariants as stop
use Rattle.poad_files.specs.Delivery.{Hands}
use Rattle.poad_answer.specs.Meaning.{Meaning}
use Rattle.poad_answer.specs.Calls.{Serves}
use Rattle.poad_answer.specs.Stop.{ClosesIn, StopsAt, has_closing, last_words}
use Rattle.poad_answer.specs.Source.{IsBelowLimit, IsDrained, IsLeft, ServesSource, SourceEnds, is_written}
use Rattle.poad_answer.specs.Piece.{KeepsPiece, Server, TakesPiece, server}
use Rattle.poad_answer.specs.Closing.{Closes, EndsAt, EndsSo, closes, unknown}
use Rattle.poad_files.proofs.Told.{told_then, told_here, told_so, told_last}
use Rattle.poad_answer.proofs.Pieces.{hands_all, hands_part, hands_then}
use Rattle.poad_answer.proofs.Serves.{serves_then}

-- between two pieces: all calls of what was taken are served, and all their replies are written
pub record Runs {A : Type 0} (m : Meaning A) (start : A) (left_old left_new held_old held_new : Option (List ℕ)) (taken have : ℕ) (s : Server A) : Type 0 where
  pub got : List ℕ
  pub took : IfTold left_old left_new (λ old new. old ≡ got ++ new)
  pub calls : List Heard
  pub replies : List ℕ
  pub served : Serves m.gives start calls replies s.answerer
  pub fits : m.fits s.answerer
  pub expects : Expects Client (OfIntake s.input) got calls
  pub first : KnowsFirst Client s.input.ear got
  pub waits : HearsMessages got calls (over have)
  pub gave : IfTold held_old held_new (λ old new. new ≡ old ++ replies)
  pub count : taken ≡ length got
  pub fed : s.input.taken ≡ taken
  pub delivered : s.replies ≡ []

-- nothing is heard of nothing
nothing_waits : HearsMessages [] [] (over 0)
nothing_waits = record {
  messages = [];
  end = left_over 0;
  stream = record { parts = []; left = []; cut = refl; good = tt; given = refl; ends = (refl, refl) };
  heard = (refl, refl);
}

pub begins_none : Begins Client [] []
begins_none = hears_begins Client [] [] (over 0) nothing_waits

pub run_starts : {A : Type 0} (m : Meaning A) (left held : Option (List ℕ)) (a : A) (i : Intake) (rs : List ℕ) → m.fits a
    → Expects Client (OfIntake i) [] [] → KnowsFirst Client i.ear [] → i.taken ≡ 0 → rs ≡ []
    → Runs m a left left held held 0 0 (server a i rs)
run_starts m left held a i rs fits expects first fed delivered = record {
  got = [];
  took = told_here left _ (λ x. refl);
  calls = [];
  replies = [];
  served = (refl, refl);
  fits = fits;
  expects = expects;
  first = first;
  waits = nothing_waits;
  gave = told_here held _ (λ x. sym (append-nil x));
  count = refl;
  fed = fed;
  delivered = delivered;
}

-- a read that took nothing
pub run_still : {A : Type 0} (m : Meaning A) (start : A) (l k n h j : Option (List ℕ)) (taken have : ℕ) (s : Server A) → Runs m start l k h j taken have s
    → IfTold k n (λ old new. new ≡ old) → Runs m start l n h j taken have s
run_still m start l k n h j taken have s r same = record {
  got = r.got;
  took = told_then l k n _ _ _ (λ x y z p q. p ∙ ap (λ (back : List ℕ). r.got ++ back) (sym q)) r.took same;
  calls = r.calls;
  replies = r.replies;
  served = r.served;
  fits = r.fits;
  expects = r.expects;
  first = r.first;
  waits = r.waits;
  gave = r.gave;
  count = r.count;
  fed = r.fed;
  delivered = r.delivered;
}

-- what serving stopped at was begun
stops_begun : (Refuses : Call → ℕ → ℕ → ℕ → Type 0) (why : Stop) (text : List ℕ) (heard : List Heard) → StopsAt Refuses why text heard
    → Begins Client text heard
stops_begun Refuses (stop.Waits have) text heard at = hears_begins Client text heard _ at
stops_begun Refuses stop.Closed text heard at = hears_begins Client text heard _ at
stops_begun Refuses (stop.Refused place) text heard at = hears_begins Client text heard _ at
stops_begun Refuses (stop.Full calls bytes) text heard at =
    (let one : Heard = record { call = at.next.call; size = at.size } in record {
      more = one ∷ at.next.begins.more;
      stop = at.next.begins.stop;
      hears = subst (λ hs. HearsMessages text hs at.next.begins.stop) (append_assoc heard (one ∷ []) at.next.begins.more) at.next.begins.hears;
    })
stops_begun Refuses stop.NoMemory text heard at = at

ends_on : (end : End) (why : Stop) (got : List ℕ) (left : Option (List ℕ)) → EndsSo end why → SourceEnds end why got left
ends_on Read why got left ends = inl ends
ends_on (Malformed at) why got left ends = ends
ends_on (Full calls bytes) why got left ends = ends
ends_on WriteFault why got left ends = tt
ends_on WantMemory why got left ends = tt
ends_on _ why got left ends = absurd ends

-- closing reads nothing
pub never_read : (end : End) (why : Stop) (i : Intake) (replies : List ℕ) (h k : Option (List ℕ)) → Closes end why i replies h k → end ≡ ReadFault → ⊥
never_read end why i replies h k (closes minor first gave ends) is = subst (λ (e : End). EndsSo e why) is ends
never_read end why i replies h k (unknown want held) is = let e : WantMemory ≡ ReadFault = sym want ∙ is in cc

-- a piece was taken behind what was served
module _ {A : Type 0} (m : Meaning A) (start : A) (l k n h j : Option (List ℕ)) (taken have : ℕ) (old : Server A) (r : Runs m start l k h j taken have old)
    (piece : List ℕ) (took : IfTold k n (λ before after. before ≡ piece ++ after)) (new : Server A) where
  took_more : IfTold l n (λ before after. before ≡ (r.got ++ piece) ++ after)
  took_more = told_then l k n _ _ _ (λ x y z p q. p ∙ (ap (λ (back : List ℕ). r.got ++ back) q ∙ sym (append_assoc r.got piece z))) r.took took

  module _ (why : Stop) (t : TakesPiece m why piece old new) where
    served_more : Serves m.gives start (r.calls ++ t.calls) (r.replies ++ t.replies) t.last
    served_more = serves_then m.gives start old.answerer t.last r.calls t.calls r.replies t.replies r.served t.served

    stops_more : StopsAt (m.refuses t.last) why (r.got ++ piece) (r.calls ++ t.calls)
    stops_more = t.stops r.got r.calls r.expects

    waiting_are : new.replies ≡ t.replies
    waiting_are = t.waiting ∙ ap (λ (front : List ℕ). front ++ t.replies) r.delivered

    first_more : has_closing why ≡ true → KnowsFirst Client new.input.ear (r.got ++ piece)
    first_more closing = t.first (λ is. let e : false ≡ true = sym (ap has_closing is) ∙ closing in cc) r.got r.first

    left_so : (end : End) → EndsSo end why → IsLeft end t.last new.answerer
    left_so Read ends = subst (λ (w : Stop). KeepsPiece w piece t.calls t.last old new) ends t.kept
    left_so _ ends = tt

    -- this was written of the replies, and of what stands behind them
    gave_more : (i : Option (List ℕ)) (d : Bool) (words : List ℕ) → IfTold j i (Hands d (new.replies ++ words))
        → IfTold h i (Hands d ((r.replies ++ t.replies) ++ words))
    gave_more i d words gave =
        subst (λ (bytes : List ℕ). IfTold h i (Hands d bytes)) (sym (append_assoc r.replies t.replies words))
        (hands_then h j i r.replies (t.replies ++ words) d r.gave
        (subst (λ (bytes : List ℕ). IfTold j i (Hands d (bytes ++ words))) waiting_are gave))

    -- it ended so
    ended_so : (end : End) (i : Option (List ℕ)) (w : Stop) (minor : ℕ) → StopsAt (m.refuses t.last) w (r.got ++ piece) (r.calls ++ t.calls)
        → ClosesIn w (r.got ++ piece) minor → IfTold h i (Hands (is_written end) ((r.replies ++ t.replies) ++ last_words minor w))
        → SourceEnds end w (r.got ++ piece) n → IsLeft end t.last new.answerer → ServesSource m end start new.answerer l n h i
    ended_so end i w minor stops closing gave ends kept = record {
      got = r.got ++ piece;
      took = took_more;
      calls = r.calls ++ t.calls;
      replies = r.replies ++ t.replies;
      last = t.last;
      served = served_more;
      fits = t.fits;
      why = w;
      stops = stops;
      minor = minor;
      closes = closing;
      gave = gave;
      ends = ends;
      kept = kept;
    }

    -- no memory was left to know in which version it is closed
    pub run_unknown : ServesSource m WantMemory start new.answerer l n h j
    run_unknown =
        ended_so WantMemory j stop.NoMemory 0 (stops_begun (m.refuses t.last) why (r.got ++ piece) (r.calls ++ t.calls) stops_more)
        (λ closing. absurd (let e : false ≡ true = closing in cc))
        (subst (λ (bytes : List ℕ). IfTold h j (Hands false bytes)) (sym (append_assoc r.replies t.replies []))
        (hands_part h j r.replies (t.replies ++ []) (told_so h j _ _ (λ x y e. hands_all false r.replies x y e) r.gave)))
        tt tt

    -- the piece ended it
    pub run_ends : (end : End) (i : Option (List ℕ)) → Closes end why new.input new.replies j i → ServesSource m end start new.answerer l n h i
    run_ends end i (closes minor first gave ends) =
        ended_so end i why minor stops_more (λ closing. first (r.got ++ piece) (first_more closing) closing)
        (gave_more i (is_written end) (last_words minor why) gave)
        (ends_on end why (r.got ++ piece) n ends)
        (left_so end ends)
    run_ends end i (unknown is held) =
        subst (λ (e : End). ServesSource m e start new.answerer l n h i) (sym is)
        (subst (λ (o : Option (List ℕ)). ServesSource m WantMemory start new.answerer l n h o) (sym held) run_unknown)

  module _ (more : ℕ) (t : TakesPiece m (stop.Waits more) piece old new) where
    -- a write failed
    pub run_unwritten : (i : Option (List ℕ)) → IfTold j i (Hands false new.replies) → ServesSource m WriteFault start new.answerer l n h i
    run_unwritten i gave =
        ended_so (stop.Waits more) t WriteFault i (stop.Waits more) 0 (stops_more (stop.Waits more) t)
        (λ closing. absurd (let e : false ≡ true = closing in cc))
        (gave_more (stop.Waits more) t i false [] (hands_part j i new.replies [] gave))
        tt tt

    -- it goes on
    pub run_goes_on : (count : ℕ) (i : Option (List ℕ)) (rs : List ℕ) → length piece ≡ count → IfTold j i (Hands true new.replies) → rs ≡ []
        → Runs m start l n h i (taken + count) more (server new.answerer new.input rs)
    run_goes_on count i rs long gave none = record {
      got = r.got ++ piece;
      took = took_more;
      calls = r.calls ++ t.calls;
      replies = r.replies ++ t.replies;
      served = subst (Serves m.gives start (r.calls ++ t.calls) (r.replies ++ t.replies)) (sym t.kept.0) (served_more (stop.Waits more) t);
      fits = subst m.fits (sym t.kept.0) t.fits;
      expects = t.kept.1 r.got r.calls r.expects;
      first = t.first (λ is. let e : stop.Waits more ≡ stop.NoMemory = is in cc) r.got r.first;
      waits = stops_more (stop.Waits more) t;
      gave = hands_then h j i r.replies t.replies true r.gave
          (subst (λ (bytes : List ℕ). IfTold j i (Hands true bytes)) (waiting_are (stop.Waits more) t) gave);
      count = let e : length (r.got ++ piece) ≡ length r.got + length piece = length-append r.got piece in let f : taken ≡ length r.got = r.count in
          omega arith;
      fed = t.kept.2 ∙ (ap (λ (x : ℕ). x + length piece) r.fed ∙ ap (λ (x : ℕ). taken + x) long);
      delivered = none;
    }

left_here : {A : Type 0} (end : End) (a : A) → IsLeft end a a
left_here Read a = refl
left_here _ a = tt

below_limit : (taken : ℕ) (got : List ℕ) → taken ≡ length got → taken < 2 ^ 32 → IsBelowLimit got
below_limit taken got count more = omega (arith, count, more)

-- it ends between two pieces
module _ {A : Type 0} (m : Meaning A) (start : A) (l k h j : Option (List ℕ)) (taken have : ℕ) (s : Server A) (r : Runs m start l k h j taken have s) where
  run_stops : (end : End) → is_written end ≡ true → SourceEnds end (stop.Waits have) r.got k → ServesSource m end start s.answerer l k h j
  run_stops end written ends = record {
    got = r.got;
    took = r.took;
    calls = r.calls;
    replies = r.replies;
    last = s.answerer;
    served = r.served;
    fits = r.fits;
    why = stop.Waits have;
    stops = r.waits;
    minor = 0;
    closes = λ closing. absurd (let e : false ≡ true = closing in cc);
    gave = subst (λ (d : Bool). IfTold h j (Hands d (r.replies ++ []))) (sym written)
        (told_so h j _ _ (λ x y e. e ∙ ap (λ (bytes : List ℕ). x ++ bytes) (sym (append-nil r.replies))) r.gave);
    ends = ends;
    kept = left_here end s.answerer;
  }

  -- at a read that failed
  pub run_fails : taken < 2 ^ 32 → ServesSource m ReadFault start s.answerer l k h j
  run_fails more = run_stops ReadFault refl ((have, refl), below_limit taken r.got r.count more)

  -- at its limit
  pub run_limited : taken ≡ 2 ^ 32 → ServesSource m (InputLimit taken) start s.answerer l k h j
  run_limited full = run_stops (InputLimit taken) refl ((have, refl), r.count, full)

  -- at the end of its source
  pub run_finished : (end : End) → IsDrained k → taken < 2 ^ 32 → EndsAt end have → ServesSource m end start s.answerer l k h j
  run_finished Read none more at =
      run_stops Read refl (inr (ap (λ (n : ℕ). stop.Waits n) at, none, below_limit taken r.got r.count more))
  run_finished (Truncated some) none more at =
      run_stops (Truncated some) refl (ap (λ (n : ℕ). stop.Waits n) (sym at.0), at.1, none, below_limit taken r.got r.count more)
  run_finished _ none more at = absurd at

-- nothing was read or written for want of memory
pub run_refused : {A : Type 0} (m : Meaning A) (start : A) (l h : Option (List ℕ)) → m.fits start → ServesSource m WantMemory start start l l h h
run_refused m start l h fits = record {
  got = [];
  took = told_here l _ (λ x. refl);
  calls = [];
  replies = [];
  last = start;
  served = (refl, refl);
  fits = fits;
  why = stop.NoMemory;
  stops = begins_none;
  minor = 0;
  closes = λ closing. absurd (let e : false ≡ true = closing in cc);
  gave = told_here h _ (λ x. (0, sym (append-nil x)));
  ends = tt;
  kept = tt;
}

-- a piece that is written in another way
pub piece_same : {A : Type 0} (m : Meaning A) (why : Stop) (piece other : List ℕ) (old new : Server A) → piece ≡ other → TakesPiece m why piece old new
    → TakesPiece m why other old new
piece_same m why piece other old new same t = subst (λ (bytes : List ℕ). TakesPiece m why bytes old new) same t

-- the end of a source takes nothing, and leaves nothing
pub end_still : (m n : Option (List ℕ)) → IfTold m n (λ old new. (old ≡ []) × (new ≡ [])) → IfTold m n (λ old new. new ≡ old)
end_still m n end = told_so m n (λ old new. (old ≡ []) × (new ≡ [])) (λ old new. new ≡ old) (λ x y h. h.1 ∙ sym h.0) end

pub end_left : (m n : Option (List ℕ)) → IfTold m n (λ old new. (old ≡ []) × (new ≡ [])) → IsDrained n
end_left m n end = told_last m n (λ old new. (old ≡ []) × (new ≡ [])) (λ new. new ≡ []) (λ x y h. h.1) end

-- the piece that was read into the front of a buffer
pub cut_piece : (count len : ℕ) (whole front back : List ℕ) → whole ≡ take len (front ++ back) → count ≤ len → count ≤ length front
    → take count whole ≡ take count front
cut_piece count len whole front back is fits within = ap (take count) is ∙ (take-take count len (front ++ back) fits ∙ take-append-le count front back within)
