-- The calls that arrive, compared with those that are heard.
use Rattle.std.proofs.Common.{◌≡◌, ℕ, ◌==◌, Bool, true, false, IsTrue, ◌↔◌, List, [], ◌∷◌, ◌++◌, ◌⊎◌, inl, inr, refl, sym, ap, ◌∙◌, subst, append_assoc, append-nil}
use Rattle.std.proofs.lemmas.Bool.{eqb-true, eq-eqb}
use Rattle.poa_base.specs.declared.Call.{Call}
use Rattle.poa_base.specs.declared.SessionEnd.TheVariants.{Ended}
use Rattle.session_laws.specs.Expecting.{Hearing}
use Rattle.session_laws.specs.Hearing.{Heard, Stop, bad, closed, over}
use Rattle.session_laws.specs.HearingPieces.{AsTold, OfEar, StillHears}
use Rattle.session_laws.specs.Sessions.{Hears, Input}
use Rattle.session_laws.specs.declared.ear.Ear.{Ear}
use Rattle.session_laws.specs.declared.peer.Peer.{Peer}
use Rattle.session_laws.specs.declared.told.Told.{Told}
use Rattle.session_laws.specs.declared.told.Told.TheVariants as told
use Rattle.session_laws.proofs.GoingOn.{ear_goes_on}
use Rattle.session_laws.proofs.OneHearing.{heard_once, never_more, never_other}
use Rattle.session_laws.proofs.Said.{said_both}
use Rattle.journal_audit.specs.Listening.{Behind, Begins, HearsCall, HearsRest, IsOver, Listening, Listens, MayBegin, NeverBegins, Says, ends_well}

-- what an ear tells behind what asks nothing
pub told_behind : (t : Told) (P Q R : Hearing) → StillHears P Q → AsTold t Q R → AsTold t P R
told_behind (told.Call call size) P Q R still is =
    let heard : Heard = record { call = call; size = size } in
    (λ next more stop w. still next (heard ∷ more) stop (is.0 next more stop w), is.1, is.2)
told_behind told.Nothing P Q R still is = λ next more stop w. still next more stop (is next more stop w)
told_behind (told.More have) P Q R still is = (λ next more stop w. still next more stop (is.0 next more stop w), is.1)
told_behind told.Closed P Q R still is = λ next. still next [] closed (is next)
told_behind (told.Bad at) P Q R still is = λ next. still next [] (bad at) (is next)

-- what it tells with so much not fed yet
pub says_fed : (t : Told) (old new : Ear) (rest : List ℕ) → (t ≡ told.Nothing → ⊥) → ((have : ℕ) → t ≡ told.More have → ⊥)
    → AsTold t (OfEar old) (OfEar new) → Says t (OfEar old rest) (OfEar new rest)
says_fed (told.Call call size) old new rest asks more is = (is.0 rest, is.2)
says_fed told.Nothing old new rest asks more is = absurd (asks refl)
says_fed (told.More have) old new rest asks more is = absurd (more have refl)
says_fed told.Closed old new rest asks more is = is rest
says_fed (told.Bad at) old new rest asks more is = is rest

-- with nothing left to feed
pub says_last : (have : ℕ) (old new : Ear) (rest : List ℕ) → rest ≡ [] → AsTold (told.More have) (OfEar old) (OfEar new)
    → Says (told.More have) (OfEar old rest) (OfEar new rest)
says_last have old new rest none is = subst (λ (text : List ℕ). OfEar old text [] (over have)) (sym none) (is.0 [] [] (over have) is.1)

-- what is told of what is heard later
pub says_before : (t : Told) (P Q R : Behind) → ((more : List Heard) (stop : Stop) → Q more stop → P more stop) → Says t Q R → Says t P R
says_before (told.Call call size) P Q R still is =
    let heard : Heard = record { call = call; size = size } in
    (λ more stop w. still (heard ∷ more) stop (is.0 more stop w), is.1)
says_before told.Nothing P Q R still is = absurd is
says_before (told.More have) P Q R still is = still [] (over have) is
says_before told.Closed P Q R still is = still [] closed is
says_before (told.Bad at) P Q R still is = still [] (bad at) is

-- of an input that begins with these calls
module _ (peer : Peer) (input : List ℕ) (calls : List Heard) (P : Behind) (begins : Begins peer input calls P) where
  stops : (stop : Stop) → P [] stop → Hears peer input calls stop
  stops stop is = subst (λ cs. Hears peer input cs stop) (append-nil calls) (begins.heard [] stop is)

  -- where another thing is heard, the next call isn't
  module _ (heard : Heard) where
    further : (more : List Heard) (stop : Stop) → Hears peer input ((calls ++ heard ∷ []) ++ more) stop → Hears peer input (calls ++ heard ∷ more) stop
    further more stop = subst (λ cs. Hears peer input cs stop) (append_assoc calls (heard ∷ []) more)

    never_stopped : (stop : Stop) → P [] stop → NeverBegins peer input (calls ++ heard ∷ [])
    never_stopped stop is more other w = never_more peer input calls more heard stop other (stops stop is) (further more other w)

    never_called : (b : Heard) (some : List Heard) (stop : Stop) → P (b ∷ some) stop → (b ≡ heard → ⊥) → NeverBegins peer input (calls ++ heard ∷ [])
    never_called b some stop is apart more other w =
        apart (never_other peer input calls some more b heard stop other (begins.heard (b ∷ some) stop is) (further more other w))

  module _ (Q : Behind) (on : (more : List Heard) × (stop : Stop) × Q more stop) where
    begins_more : (call : Call) (size : ℕ) → Says (told.Call call size) P Q → Begins peer input (calls ++ record { call = call; size = size } ∷ []) Q
    begins_more call size is =
        let heard : Heard = record { call = call; size = size } in
        record {
          said = said_both calls (heard ∷ []) begins.said (is.1, tt);
          heard = λ more stop w. subst (λ cs. Hears peer input cs stop) (sym (append_assoc calls (heard ∷ []) more))
              (begins.heard (heard ∷ more) stop (is.0 more stop w));
        }

    -- another thing is told
    never_so : (t : Told) (call : Call) (size : ℕ) → Says t P Q → (t ≡ told.Call call size → ⊥)
        → NeverBegins peer input (calls ++ record { call = call; size = size } ∷ [])
    never_so (told.Call other length) call size is apart =
        let heard : Heard = record { call = call; size = size } in
        let b : Heard = record { call = other; size = length } in
        never_called heard b on.0 on.1 (is.0 on.0 on.1 on.2)
        (λ same. apart (ap (λ (h : Heard). told.Call h.call h.size) same))
    never_so told.Nothing call size is apart = absurd is
    never_so (told.More have) call size is apart = never_stopped (record { call = call; size = size }) (over have) is
    never_so told.Closed call size is apart = never_stopped (record { call = call; size = size }) closed is
    never_so (told.Bad at) call size is apart = never_stopped (record { call = call; size = size }) (bad at) is

    arrives : (t : Told) (call : Call) (size : ℕ) (b : Bool) → Says t P Q → IsTrue b ↔ (t ≡ told.Call call size)
        → MayBegin peer input (calls ++ record { call = call; size = size } ∷ []) Q b
    arrives t call size true is decides = begins_more call size (subst (λ (x : Told). Says x P Q) (decides.0 refl) is)
    arrives t call size false is decides =
        never_so t call size is (λ same. let no : IsTrue false = decides.1 same in let e : false ≡ true = no in cc)

    -- a call is left, or the input doesn't end well
    never_over : (t : Told) → Says t P Q → (t ≡ told.Closed → ⊥) → ((have : ℕ) → t ≡ told.More have → ⊥) → (stop : Stop)
        → (stop ≡ closed) ⊎ (stop ≡ over 0) → Hears peer input calls stop → ⊥
    never_over (told.Call call size) is closes more stop ends w =
        let heard : Heard = record { call = call; size = size } in
        never_more peer input calls on.0 heard stop on.1 w (begins.heard (heard ∷ on.0) on.1 (is.0 on.0 on.1 on.2))
    never_over told.Nothing is closes more stop ends w = absurd is
    never_over (told.More have) is closes more stop ends w = absurd (more have refl)
    never_over told.Closed is closes more stop ends w = absurd (closes refl)
    never_over (told.Bad at) is closes more stop ends w =
        let same : stop ≡ bad at = (heard_once peer input calls calls stop (bad at) w (stops (bad at) is)).1 in
        elim ends [
          | inl it ↦ (let e : closed ≡ bad at = sym it ∙ same in cc)
          | inr it ↦ (let e : over 0 ≡ bad at = sym it ∙ same in cc)
        ]

    pub not_over : (t : Told) → Says t P Q → (t ≡ told.Closed → ⊥) → ((have : ℕ) → t ≡ told.More have → ⊥) → Input peer input calls Ended → ⊥
    not_over t is closes more (inl w) = never_over t is closes more closed (inl refl) w
    not_over t is closes more (inr w) = never_over t is closes more (over 0) (inr refl) w

  pub is_closed : P [] closed → Input peer input calls Ended
  is_closed is = inl (stops closed is)

  -- nothing is left over
  pub is_over : (have : ℕ) → P [] (over have) → IsTrue (have == 0) ↔ Input peer input calls Ended
  is_over have is = (ends, none_left)
    where
      ends : (have == 0) ≡ true → Input peer input calls Ended
      ends none = inr (stops (over 0) (subst (λ (n : ℕ). P [] (over n)) (eqb-true have 0 none) is))

      none_left : Input peer input calls Ended → (have == 0) ≡ true
      none_left (inl w) =
          (let same : closed ≡ over have = (heard_once peer input calls calls closed (over have) w (stops (over have) is)).1 in cc)
      none_left (inr w) =
          (let same : over 0 ≡ over have = (heard_once peer input calls calls (over 0) (over have) w (stops (over have) is)).1 in
          let zero_is : 0 ≡ have = cc in eq-eqb have 0 (sym zero_is))

-- of one that doesn't
module _ (peer : Peer) (input : List ℕ) (calls : List Heard) (never : NeverBegins peer input calls) where
  pub never_longer : (heard : Heard) → NeverBegins peer input (calls ++ heard ∷ [])
  never_longer heard more stop w = never (heard ∷ more) stop (subst (λ cs. Hears peer input cs stop) (append_assoc calls (heard ∷ []) more) w)

  stopped : (stop : Stop) → Hears peer input calls stop → ⊥
  stopped stop w = never [] stop (subst (λ cs. Hears peer input cs stop) (sym (append-nil calls)) w)

  pub never_ends : Input peer input calls Ended → ⊥
  never_ends (inl w) = stopped closed w
  never_ends (inr w) = stopped (over 0) w

-- one more call arrives, and this is heard
pub heard_call : (old new : Listening) (t : Told) (call : Call) (size : ℕ) (b : Bool) → old.fits ≡ true → Says t (HearsRest old) (HearsRest new)
    → IsTrue b ↔ (t ≡ told.Call call size) → HearsCall call size old (record { ear = new.ear; rest = new.rest; fits = b })
heard_call old new t call size b fits says decides peer input calls listens =
    let begins = subst (λ (x : Bool). MayBegin peer input calls (HearsRest old) x) fits listens in
    let on = ear_goes_on new.ear new.rest in
    arrives peer input calls (HearsRest old) begins (HearsRest new) (on.calls, on.stop, on.heard) t call size b says decides

-- one more after one that wasn't heard
pub unheard_call : (old : Listening) (call : Call) (size : ℕ) → old.fits ≡ false → HearsCall call size old old
unheard_call old call size lost peer input calls listens =
    let never = subst (λ (x : Bool). MayBegin peer input calls (HearsRest old) x) lost listens in
    subst (λ (x : Bool). MayBegin peer input (calls ++ record { call = call; size = size } ∷ []) (HearsRest old) x) (sym lost)
    (never_longer peer input calls never (record { call = call; size = size }))

-- whether the input ends here
pub over_lost : (old : Listening) → old.fits ≡ false → IsOver false old
over_lost old lost peer input calls listens =
    let never = subst (λ (x : Bool). MayBegin peer input calls (HearsRest old) x) lost listens in (
      (λ so. absurd (let e : false ≡ true = so in cc)),
      (λ ends. absurd (never_ends peer input calls never ends)),
    )

module _ (old new : Listening) (fits : old.fits ≡ true) where
  begins_in : (peer : Peer) (input : List ℕ) (calls : List Heard) → Listens peer input calls old → Begins peer input calls (HearsRest old)
  begins_in peer input calls listens = subst (λ (x : Bool). MayBegin peer input calls (HearsRest old) x) fits listens

  over_not : (t : Told) → Says t (HearsRest old) (HearsRest new) → (t ≡ told.Closed → ⊥) → ((have : ℕ) → t ≡ told.More have → ⊥) → IsOver false old
  over_not t says closes more peer input calls listens =
      let on = ear_goes_on new.ear new.rest in (
        (λ so. absurd (let e : false ≡ true = so in cc)),
        (λ ends. absurd (not_over peer input calls (HearsRest old) (begins_in peer input calls listens) (HearsRest new) (on.calls, on.stop, on.heard) t says
            closes more ends)),
      )

  over_closed : Says told.Closed (HearsRest old) (HearsRest new) → IsOver true old
  over_closed says peer input calls listens =
      ((λ _. is_closed peer input calls (HearsRest old) (begins_in peer input calls listens) says), (λ _. refl))

  over_at : (have : ℕ) → Says (told.More have) (HearsRest old) (HearsRest new) → IsOver (have == 0) old
  over_at have says peer input calls listens = is_over peer input calls (HearsRest old) (begins_in peer input calls listens) have says

  pub over_told : (t : Told) → Says t (HearsRest old) (HearsRest new) → IsOver (ends_well t) old
  over_told told.Closed says = over_closed says
  over_told (told.More have) says = over_at have says
  over_told (told.Call call size) says =
      over_not (told.Call call size) says (λ same. let e : told.Call call size ≡ told.Closed = same in cc)
      (λ have same. let e : told.Call call size ≡ told.More have = same in cc)
  over_told told.Nothing says = absurd says
  over_told (told.Bad at) says =
      over_not (told.Bad at) says (λ same. let e : told.Bad at ≡ told.Closed = same in cc)
      (λ have same. let e : told.Bad at ≡ told.More have = same in cc)
