-- How far a call has come: what completes the rest of its journey completes the whole.
use Rattle.std.proofs.Common.{◌≡◌, ℕ, ◌+◌, ◌≤◌, List, [], ◌∷◌, ◌++◌, map, Option, Some, None, refl, sym, ap, ◌∙◌, subst, arith, append-nil, append_assoc, ◌⊎◌, inl, inr}
use Rattle.std.proofs.lemmas.List.{map-append}
use Rattle.poa_base.specs.declared.Datum.{Datum}
use Rattle.poa_base.specs.declared.Ior.{Ior}
use Rattle.outside.specs.Told.{IfTold}
use Rattle.outside.specs.Connecting.{Dialed, Hung, Calls}
use Rattle.outside.proofs.Moving.{told_both}
use Rattle.giop_msg.specs.Ask.{request_bytes}
use Rattle.giop_client.specs.declared.call_end.CallEnd.{CallEnd}
use Rattle.giop_client.specs.declared.call_end.CallEnd.TheVariants as end
use Rattle.giop_client.specs.declared.followed.Followed.{Followed}
use Rattle.giop_client.specs.declared.hop.Hop.{Hop}
use Rattle.giop_client.specs.declared.hop.Hop.TheVariants as hop
use Rattle.giop_client.specs.declared.step.Step.{Step}
use Rattle.giop_client.specs.declared.step.Step.TheVariants.{On, End}
use Rattle.giop_client.specs.declared.target.Target.{Target}
use Rattle.giop_client.specs.Ending.{EndsBy}
use Rattle.giop_client.specs.Hop.{IsHop}
use Rattle.giop_client.specs.Request.{ask_of}
use Rattle.giop_client.specs.Target.{IsTarget}
use Rattle.giop_client.specs.Visit.{Visit, Makes, dialed, hung}
use Rattle.giop_client.specs.Journey.{EndsUnasked, GoesOn, EndsWhole, EndsBroken, EndsHere, Leg, Journey, Follows}
use Rattle.giop_client.specs.Talking.{Comes, Uses, IsAsked, Asks}

-- what is asked, and how many forwards are followed
pub record Wanted : Type 0 where
  pub operation : List ℕ
  pub argument : Option Datum
  pub hops : ℕ

-- the links so far, from the first reference up to the next one, which has this number
pub record SoFar (wanted : Wanted) (first : Ior) (number : ℕ) (next : Ior) (old now : Calls) : Type 0 where
  pub visits : List Visit
  pub made : Makes visits old now
  pub completes : (more : List Visit) (answer : Followed)
      → Journey wanted.operation wanted.argument wanted.hops number next more answer
      → Journey wanted.operation wanted.argument wanted.hops 1 first (visits ++ more) answer

makes_none : (old new : Calls) → new ≡ old → Makes [] old new
makes_none old new same = record {
  opened = ap (λ (c : Calls). c.opened) same ∙ sym (append-nil old.opened);
  closed = ap (λ (c : Calls). c.closed) same ∙ sym (append-nil old.closed);
  out = ap (λ (c : Calls). c.out) same;
}

makes_more : (vs ws : List Visit) (a b c : Calls) → Makes vs a b → Makes ws b c → Makes (vs ++ ws) a c
makes_more vs ws a b c first then_more = record {
  opened = then_more.opened ∙ ap (λ (l : List Dialed). l ++ map dialed ws) first.opened ∙ append_assoc a.opened (map dialed vs) (map dialed ws)
      ∙ ap (λ (l : List Dialed). a.opened ++ l) (sym (map-append dialed vs ws));
  closed = then_more.closed ∙ ap (λ (l : List Hung). l ++ map hung ws) first.closed ∙ append_assoc a.closed (map hung vs) (map hung ws)
      ∙ ap (λ (l : List Hung). a.closed ++ l) (sym (map-append hung vs ws));
  out = then_more.out ∙ first.out;
}

-- nothing was asked yet
pub far_none : (wanted : Wanted) (first : Ior) (old : Calls) → SoFar wanted first 1 first old old
far_none wanted first old = record { visits = []; made = makes_none old old refl; completes = λ more answer journey. journey }

-- a forward came: the links, and what is behind them
came_on : (request : List ℕ) (id : ℕ) (visit : Visit) (next : Ior) (Further : Ior → Type 0)
    → Comes request id visit.took visit.gave (visit.rest ≡ []) (On next) → Further next → GoesOn request id visit Further
came_on request id visit next Further (inl came) further = record { next = next; took = came.0; said = came.1; further = further }
came_on request id visit next Further (inr broken) further = absurd (let e : On next ≡ End end.WriteFault = broken.2 in cc e)

pub far_on : (wanted : Wanted) (first : Ior) (number : ℕ) (reference next : Ior) (old now new : Calls) → number ≤ wanted.hops + 1
    → SoFar wanted first number reference old now → IsAsked wanted.operation wanted.argument number reference (On next) now new
    → SoFar wanted first (number + 1) next old new
far_on wanted first number reference next old now new within far asked =
    let visit = asked.uses.visit in
    record {
      visits = far.visits ++ visit ∷ [];
      made = makes_more far.visits (visit ∷ []) old now new far.made asked.uses.made;
      completes = λ more answer journey.
          subst (λ (vs : List Visit). Journey wanted.operation wanted.argument wanted.hops 1 first vs answer)
          (sym (append_assoc far.visits (visit ∷ []) more))
          (far.completes (visit ∷ more) answer (
            within,
            record {
              target = asked.target;
              is_target = asked.is_target;
              endpoint = asked.uses.endpoint_is;
              came = inl (came_on (request_bytes (ask_of asked.target wanted.operation wanted.argument number)) number visit next
                  (λ further. Journey wanted.operation wanted.argument wanted.hops (number + 1) further more answer) asked.uses.came journey);
            },
          ));
    }

-- the call ended with a link
came_end : (request : List ℕ) (id : ℕ) (visit : Visit) (ended : CallEnd)
    → Comes request id visit.took visit.gave (visit.rest ≡ []) (End ended) → EndsHere request id visit ended
came_end request id visit ended (inl came) = inl (record { took = came.0; ends = came.1 })
came_end request id visit ended (inr broken) =
    inr (record { took = broken.0; gave = broken.1; is = let e : End ended ≡ End end.WriteFault = broken.2 in cc e })

last_leg : (wanted : Wanted) (number : ℕ) (reference : Ior) (answer : Followed) (ended : CallEnd) (now new : Calls) → number ≤ wanted.hops + 1
    → answer.hops + 1 ≡ number → answer.end ≡ ended → (asked : IsAsked wanted.operation wanted.argument number reference (End ended) now new)
    → Journey wanted.operation wanted.argument wanted.hops number reference (asked.uses.visit ∷ []) answer
last_leg wanted number reference answer ended now new within counted is asked = (
  within,
  record {
    target = asked.target;
    is_target = asked.is_target;
    endpoint = asked.uses.endpoint_is;
    came = inr (
      refl,
      counted,
      subst (λ (e : CallEnd). EndsHere (request_bytes (ask_of asked.target wanted.operation wanted.argument number)) number asked.uses.visit e) (sym is)
          (came_end (request_bytes (ask_of asked.target wanted.operation wanted.argument number)) number asked.uses.visit ended asked.uses.came),
    );
  },
)

pub far_end : (wanted : Wanted) (first : Ior) (number : ℕ) (reference : Ior) (answer : Followed) (ended : CallEnd) (old now new : Calls)
    → number ≤ wanted.hops + 1 → answer.hops + 1 ≡ number → answer.end ≡ ended → SoFar wanted first number reference old now
    → Asks wanted.operation wanted.argument number reference (End ended) now new
    → Follows wanted.operation wanted.argument wanted.hops first answer old new
far_end wanted first number reference answer ended old now new within counted is far (inl asked) = record {
  visits = far.visits ++ asked.uses.visit ∷ [];
  made = makes_more far.visits (asked.uses.visit ∷ []) old now new far.made asked.uses.made;
  journey = far.completes (asked.uses.visit ∷ []) answer (last_leg wanted number reference answer ended now new within counted is asked);
}
far_end wanted first number reference answer ended old now new within counted is far (inr unasked) = record {
  visits = far.visits ++ [];
  made = makes_more far.visits [] old now new far.made (makes_none now new unasked.0);
  journey = far.completes [] answer
      (inr (within, counted, subst (λ (e : CallEnd). EndsUnasked reference e) (sym is) unasked.1));
}

-- one forward too many came
pub far_over : (wanted : Wanted) (first : Ior) (number : ℕ) (next : Ior) (answer : Followed) (old now : Calls) → number ≡ wanted.hops + 2
    → answer ≡ record { hops = wanted.hops; end = end.TooManyHops wanted.hops } → SoFar wanted first number next old now
    → Follows wanted.operation wanted.argument wanted.hops first answer old now
far_over wanted first number next answer old now over is far = record {
  visits = far.visits ++ [];
  made = makes_more far.visits [] old now now far.made (makes_none now now refl);
  journey = far.completes [] answer (inl (over, is));
}

-- the same, where the connector may tell nothing
pub told_none : (wanted : Wanted) (first : Ior) (x : Option Calls) → IfTold x x (SoFar wanted first 1 first)
told_none wanted first None = tt
told_none wanted first (Some calls) = far_none wanted first calls

asks_on : (wanted : Wanted) (first : Ior) (number : ℕ) (reference next : Ior) (old now new : Calls) → number ≤ wanted.hops + 1
    → SoFar wanted first number reference old now → Asks wanted.operation wanted.argument number reference (On next) now new
    → SoFar wanted first (number + 1) next old new
asks_on wanted first number reference next old now new within far (inl asked) =
    far_on wanted first number reference next old now new within far asked
asks_on wanted first number reference next old now new within far (inr unasked) = absurd unasked.1

pub told_on : (wanted : Wanted) (first : Ior) (number after : ℕ) (reference next : Ior) (x y z : Option Calls) → number ≤ wanted.hops + 1
    → after ≡ number + 1 → IfTold x y (SoFar wanted first number reference)
    → IfTold y z (Asks wanted.operation wanted.argument number reference (On next)) → IfTold x z (SoFar wanted first after next)
told_on wanted first number after reference next x y z within is far asks =
    told_both (SoFar wanted first number reference) (Asks wanted.operation wanted.argument number reference (On next)) (SoFar wanted first after next) x y z
    (λ a b c p q. subst (λ (n : ℕ). SoFar wanted first n next a c) (sym is) (asks_on wanted first number reference next a b c within p q))
    far asks

pub told_end : (wanted : Wanted) (first : Ior) (number : ℕ) (reference : Ior) (answer : Followed) (ended : CallEnd) (x y z : Option Calls)
    → number ≤ wanted.hops + 1 → answer.hops + 1 ≡ number → answer.end ≡ ended → IfTold x y (SoFar wanted first number reference)
    → IfTold y z (Asks wanted.operation wanted.argument number reference (End ended))
    → IfTold x z (Follows wanted.operation wanted.argument wanted.hops first answer)
told_end wanted first number reference answer ended x y z within counted is far asks =
    told_both (SoFar wanted first number reference) (Asks wanted.operation wanted.argument number reference (End ended))
    (Follows wanted.operation wanted.argument wanted.hops first answer) x y z
    (λ a b c p q. far_end wanted first number reference answer ended a b c within counted is p q)
    far asks

pub told_over : (wanted : Wanted) (first : Ior) (number : ℕ) (next : Ior) (answer : Followed) (x y : Option Calls) → number ≡ wanted.hops + 2
    → answer ≡ record { hops = wanted.hops; end = end.TooManyHops wanted.hops } → IfTold x y (SoFar wanted first number next)
    → IfTold x y (Follows wanted.operation wanted.argument wanted.hops first answer)
told_over wanted first number next answer None None over is far = tt
told_over wanted first number next answer None (Some b) over is far = absurd far
told_over wanted first number next answer (Some a) None over is far = absurd far
told_over wanted first number next answer (Some a) (Some b) over is far = far_over wanted first number next answer a b over is far
