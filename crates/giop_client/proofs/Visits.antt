-- A link that was opened, talked to and closed.
use Rattle.std.proofs.Common.{◌≡◌, ℕ, ◌+◌, ◌-◌, ◌<◌, ◌≤◌, Bool, true, false, List, [], ◌∷◌, ◌++◌, map, Option, Some, None, refl, sym, ap, ◌∙◌, subst, arith, append-nil, ◌⊎◌, inl, inr}
use Rattle.std.specs.Prelude.{IfSome}
use Rattle.poa_base.specs.declared.Datum.{Datum}
use Rattle.poa_base.specs.declared.Endpoint.{Endpoint}
use Rattle.poa_base.specs.declared.Ior.{Ior}
use Rattle.outside.specs.Told.{IfTold}
use Rattle.outside.specs.Link.{Shown, Moves, Writes, IsDry}
use Rattle.outside.specs.Connecting.{Dialed, Hung, Calls, Opens, HangsUp}
use Rattle.outside.proofs.Moving.{moves_both, told_both}
use Rattle.giop_msg.specs.Ask.{request_bytes}
use Rattle.giop_client.specs.declared.call_end.CallEnd.{CallEnd}
use Rattle.giop_client.specs.declared.call_end.CallEnd.TheVariants as end
use Rattle.giop_client.specs.declared.hop.Hop.{Hop}
use Rattle.giop_client.specs.declared.step.Step.{Step}
use Rattle.giop_client.specs.declared.step.Step.TheVariants.{On, End}
use Rattle.giop_client.specs.declared.target.Target.{Target}
use Rattle.giop_client.specs.Journey.{EndsUnasked}
use Rattle.giop_client.specs.Ending.{EndsBy, Brings}
use Rattle.giop_client.specs.Hop.{IsHop}
use Rattle.giop_client.specs.Request.{ask_of}
use Rattle.giop_client.specs.Target.{IsTarget}
use Rattle.giop_client.specs.Visit.{Visit, Makes, Begins, dialed, hung}
use Rattle.giop_client.specs.Talking.{Listens, Comes, Talks, Uses, Visited, StopsUnasked, IsAsked, Asks}

-- the whole request was written, and then the answer was heard
whole : (bytes front rest : List ℕ) → bytes ≡ front ++ rest → rest ≡ [] → front ≡ bytes
whole bytes front rest cut none = sym (append-nil front) ∙ ap (λ (l : List ℕ). front ++ l) (sym none) ∙ sym cut

pub talks_whole : (request : List ℕ) (id : ℕ) (a b z : Shown) (step : Step) → Writes request a b true → Listens id b z step → Talks request id a z step
talks_whole request id a b z step writes listens = record {
  gave = listens.gave;
  took = writes.done;
  moved = subst (λ (l : List ℕ). Moves a z listens.gave l) (append-nil writes.done)
      (moves_both a b z [] writes.done listens.gave [] writes.moved listens.moved);
  came = inl (whole request writes.done writes.rest writes.front (writes.all refl), listens.brings);
}

-- a write failed
pub talks_broken : (request : List ℕ) (id : ℕ) (a b : Shown) → Writes request a b false → Talks request id a b (End end.WriteFault)
talks_broken request id a b writes = record {
  gave = [];
  took = writes.done;
  moved = writes.moved;
  came = inr (record { back = writes.rest; cut = writes.front }, refl, refl);
}

-- where less is known of what was left, an end stands for as much
ends_dry : (Said : Option Hop → Type 0) (Dry Wet : Type 0) (ended : CallEnd) → (Dry → Wet) → EndsBy Said Dry ended → EndsBy Said Wet ended
ends_dry Said Dry Wet (end.Result body) so ends = ends
ends_dry Said Dry Wet (end.User id) so ends = ends
ends_dry Said Dry Wet (end.System id minor done) so ends = ends
ends_dry Said Dry Wet end.BadReply so ends = ends
ends_dry Said Dry Wet end.Closed so (inl closed) = inl closed
ends_dry Said Dry Wet end.Closed so (inr nothing) = inr (nothing.0, so nothing.1)
ends_dry Said Dry Wet (end.NoAnswer quiets) so ends = ends
ends_dry Said Dry Wet end.ReadFault so ends = ends
ends_dry Said Dry Wet end.WantMemory so ends = ends
ends_dry Said Dry Wet end.WriteFault so ends = ends
ends_dry Said Dry Wet end.ConnectFault so ends = ends
ends_dry Said Dry Wet end.NoProfile so ends = ends
ends_dry Said Dry Wet (end.TooManyHops hops) so ends = ends

brings_dry : (Said : Option Hop → Type 0) (Dry Wet : Type 0) (step : Step) → (Dry → Wet) → Brings Said Dry step → Brings Said Wet step
brings_dry Said Dry Wet (On next) so brings = brings
brings_dry Said Dry Wet (End ended) so brings = ends_dry Said Dry Wet ended so brings

comes_dry : (request : List ℕ) (id : ℕ) (took gave : List ℕ) (Dry Wet : Type 0) (step : Step) → (Dry → Wet) → Comes request id took gave Dry step
    → Comes request id took gave Wet step
comes_dry request id took gave Dry Wet step so (inl came) = inl (came.0, brings_dry (IsHop id gave) Dry Wet step so came.1)
comes_dry request id took gave Dry Wet step so (inr broken) = inr broken

-- what is told at the end of what was told at the beginning
record Tells (x y : Option (List ℕ)) (old : List ℕ) (P : List ℕ → List ℕ → Type 0) : Type 0 where
  pub now : List ℕ
  pub is : y ≡ Some now
  pub so : P old now

told_some : (x y : Option (List ℕ)) (old : List ℕ) (P : List ℕ → List ℕ → Type 0) → x ≡ Some old → IfTold x y P → Tells x y old P
told_some x None old P is told = absurd (subst (λ (o : Option (List ℕ)). IfTold o None P) is told)
told_some x (Some now) old P is told =
    record { now = now; is = refl; so = subst (λ (o : Option (List ℕ)). IfTold o (Some now) P) is told }

if_some : (y : Option (List ℕ)) (now : List ℕ) (P : List ℕ → Type 0) → y ≡ Some now → IfSome y P → P now
if_some y now P is holds = subst (λ (o : Option (List ℕ)). IfSome o P) is holds

-- one link that was opened and closed again
opened_once : (old mid new : Calls) (endpoint : Endpoint) (text gave rest : List ℕ) (took : List ℕ) (used : Shown) → text ≡ gave ++ rest
    → used.left ≡ Some rest → used.held ≡ Some took
    → mid ≡ record old { opened = old.opened ++ record { endpoint = endpoint; text = text } ∷ []; out = old.out + 1 } → HangsUp used mid new
    → Makes (record { endpoint = endpoint; gave = gave; rest = rest; took = took } ∷ []) old new
opened_once old mid new endpoint text gave rest took used cut left held is_open is_closed =
    let opened : mid.opened ≡ old.opened ++ record { endpoint = endpoint; text = text } ∷ [] = ap (λ (c : Calls). c.opened) is_open in
    let closed : mid.closed ≡ old.closed = ap (λ (c : Calls). c.closed) is_open in
    let out : mid.out ≡ old.out + 1 = ap (λ (c : Calls). c.out) is_open in
    let out_now : new.out ≡ mid.out - 1 = ap (λ (c : Calls). c.out) is_closed in
    record {
      opened = ap (λ (c : Calls). c.opened) is_closed ∙ opened
          ∙ ap (λ (t : List ℕ). old.opened ++ record { endpoint = endpoint; text = t } ∷ []) cut;
      closed = ap (λ (c : Calls). c.closed) is_closed
          ∙ ap (λ (l : List Hung). l ++ record { left = used.left; took = used.held } ∷ []) closed
          ∙ ap (λ (o : Option (List ℕ)). old.closed ++ record { left = o; took = used.held } ∷ []) left
          ∙ ap (λ (o : Option (List ℕ)). old.closed ++ record { left = Some rest; took = o } ∷ []) held;
      out = omega (arith, out, out_now);
    }

pub uses_of : (endpoint : Endpoint) (request : List ℕ) (id : ℕ) (step : Step) (fresh used : Shown) (old mid new : Calls) → Opens endpoint fresh old mid
    → Talks request id fresh used step → HangsUp used mid new → Uses endpoint request id step old new
uses_of endpoint request id step fresh used old mid new opens talks hangs =
    let left = told_some fresh.left used.left opens.text (λ before after. before ≡ talks.gave ++ after) opens.left talks.moved.read in
    let held = told_some fresh.held used.held [] (λ before after. after ≡ before ++ talks.took) opens.took talks.moved.written in
    let took : used.held ≡ Some talks.took = held.is ∙ ap (λ (l : List ℕ). Some l) held.so in
    record {
      visit = record { endpoint = endpoint; gave = talks.gave; rest = left.now; took = talks.took };
      made = opened_once old mid new endpoint opens.text talks.gave left.now talks.took used left.so left.is took opens.is_open hangs;
      endpoint_is = refl;
      came = comes_dry request id talks.took talks.gave (IsDry used) (left.now ≡ []) step
          (λ dry. if_some used.left left.now (λ rest. rest ≡ []) left.is dry) talks.came;
    }

-- a link is open where one was opened
pub is_out : (endpoint : Endpoint) (fresh : Shown) (old mid : Calls) → Opens endpoint fresh old mid → 0 < mid.out
is_out endpoint fresh old mid opens = let out : mid.out ≡ old.out + 1 = ap (λ (c : Calls). c.out) opens.is_open in omega (arith, out)

-- what came of a dial is what came of asking the reference with that target
pub asks_of : (operation : List ℕ) (argument : Option Datum) (number : ℕ) (reference : Ior) (target : Target) (step : Step) (old new : Calls)
    → IsTarget reference (Some target) → Visited target.endpoint (request_bytes (ask_of target operation argument number)) number step old new
    → Asks operation argument number reference step old new
asks_of operation argument number reference target step old new is (inl uses) = inl (record { target = target; is_target = is; uses = uses })
asks_of operation argument number reference target step old new is (inr failed) =
    inr (failed.0, subst (StopsUnasked reference) (sym failed.1) (inr (inr ((target, is), refl))))

-- the same, where the connector may tell nothing
told_map : (x y : Option Calls) (P Q : Calls → Calls → Type 0) → ((a b : Calls) → P a b → Q a b) → IfTold x y P → IfTold x y Q
told_map None None P Q so told = tt
told_map None (Some b) P Q so told = absurd told
told_map (Some a) None P Q so told = absurd told
told_map (Some a) (Some b) P Q so told = so a b told

pub told_failed : (endpoint : Endpoint) (request : List ℕ) (id : ℕ) (x y : Option Calls) → IfTold x y (λ old new. new ≡ old)
    → IfTold x y (Visited endpoint request id (End end.ConnectFault))
told_failed endpoint request id x y same =
    told_map x y (λ old new. new ≡ old) (Visited endpoint request id (End end.ConnectFault)) (λ a b is. inr (is, refl)) same

pub told_visited : (endpoint : Endpoint) (request : List ℕ) (id : ℕ) (step : Step) (fresh used : Shown) (x y z : Option Calls)
    → IfTold x y (Opens endpoint fresh) → Talks request id fresh used step → IfTold y z (HangsUp used)
    → IfTold x z (Visited endpoint request id step)
told_visited endpoint request id step fresh used x y z opened talks closed =
    told_both (Opens endpoint fresh) (HangsUp used) (Visited endpoint request id step) x y z
    (λ a b c opens hangs. inl (uses_of endpoint request id step fresh used a b c opens talks hangs))
    opened closed

pub told_out : (endpoint : Endpoint) (fresh : Shown) (x y : Option Calls) → IfTold x y (Opens endpoint fresh) → IfSome y (λ calls. 0 < calls.out)
told_out endpoint fresh None None told = tt
told_out endpoint fresh None (Some b) told = absurd told
told_out endpoint fresh (Some a) None told = tt
told_out endpoint fresh (Some a) (Some b) told = is_out endpoint fresh a b told

-- what is told of a reference: that it was asked, or that it was not
pub told_asked : (operation : List ℕ) (argument : Option Datum) (number : ℕ) (reference : Ior) (target : Target) (request : List ℕ) (step : Step)
    (x y : Option Calls) → IsTarget reference (Some target) → request ≡ request_bytes (ask_of target operation argument number)
    → IfTold x y (Visited target.endpoint request number step) → IfTold x y (Asks operation argument number reference step)
told_asked operation argument number reference target request step x y is bytes visited =
    told_map x y (Visited target.endpoint request number step) (Asks operation argument number reference step)
    (λ a b v. asks_of operation argument number reference target step a b is
    (subst (λ (l : List ℕ). Visited target.endpoint l number step a b) bytes v))
    visited

pub told_unasked : (operation : List ℕ) (argument : Option Datum) (number : ℕ) (reference : Ior) (ended : CallEnd) (x : Option Calls)
    → EndsUnasked reference ended → IfTold x x (Asks operation argument number reference (End ended))
told_unasked operation argument number reference ended None ends = tt
told_unasked operation argument number reference ended (Some calls) ends = inr (refl, ends)
