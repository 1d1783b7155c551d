-- A source that naming contexts served, as what `names` did.
use Rattle.std.proofs.Common.{◌≡◌, ◌≢◌, ℕ, List, [], ◌∷◌, Option, true, false, refl, sym, ap, subst, append-nil}
use Rattle.poa_base.specs.declared.Call.{Call}
use Rattle.poa_base.specs.declared.Call.TheVariants.{Request, Locate, Line}
use Rattle.naming_context.specs.declared.contexts.Contexts.{Contexts}
use Rattle.naming_context.specs.Kept.{standing_of}
use Rattle.naming_context.specs.Serving.{IsHeaded, ServesCall}
use Rattle.naming_context.specs.Standing.{Standing, nothing_bound}
use Rattle.session_laws.specs.Calls.{IsHeaded as IsHeadedCall}
use Rattle.session_laws.specs.Hearing.{Heard}
use Rattle.poad_answer.specs.declared.end.End.{End}
use Rattle.poad_answer.specs.declared.end.End.TheVariants.{Full}
use Rattle.poad_answer.specs.declared.names_end.NamesEnd.{NamesEnd}
use Rattle.poad_answer.specs.declared.names_end.NamesEnd.TheVariants.{WantMemory}
use Rattle.poad_answer.specs.declared.stop.Stop.{Stop}
use Rattle.poad_answer.specs.declared.stop.Stop.TheVariants as stop
use Rattle.poad_answer.specs.Meaning.{GivesBehind}
use Rattle.poad_answer.specs.Calls.{Serves}
use Rattle.poad_answer.specs.NamesRun.{RunNames, end_of}
use Rattle.poad_answer.specs.NamesServing.{GivesStanding, RefusesNone, by_contexts}
use Rattle.poad_answer.specs.Source.{ServesSource}
use Rattle.poad_answer.specs.Stop.{IsRefused, StopsAt}
use Rattle.poad_files.proofs.Told.{told_here}
use Rattle.poad_answer.proofs.Noting.{Noted, serves_noted}
use Rattle.poad_answer.proofs.Running.{begins_none}

-- a call of a message
pub named_headed : (call : Call) → IsHeadedCall call → IsHeaded call
named_headed (Request head target operation body) headed = headed
named_headed (Locate head target) headed = headed
named_headed (Line number command) headed = absurd headed

-- a call was served
pub call_gives : (call : Call) (size : ℕ) (old new : Contexts) (before after : List ℕ) → ServesCall call (standing_of old) (standing_of new) before after
    → GivesBehind (by_contexts.gives old call size) new before after
call_gives call size old new before after served =
    record { reply = served.bytes; gives = (served.change, (served.gives, served.stands)); behind = served.waits }

-- what calls give, by what stands alone
serves_standing : (calls : List Heard) (a : Contexts) (replies : List ℕ) (b : Contexts) → Serves by_contexts.gives a calls replies b
    → Serves GivesStanding (standing_of a) calls replies (standing_of b)
serves_standing [] a replies b served = (served.0, ap standing_of served.1)
serves_standing (h ∷ calls) a replies b served = (
  served.0,
  (
    standing_of served.1.0,
    (served.1.1.0, (served.1.1.1.0, serves_standing calls served.1.0 served.1.1.0 b served.1.1.1.1, served.1.1.1.2)),
  ),
)

-- no call is refused
pub never_full : (end : End) (old new : Contexts) (l n h k : Option (List ℕ)) → ServesSource by_contexts end old new l n h k → (calls bytes : ℕ)
    → end ≢ Full calls bytes
never_full end old new l n h k s calls bytes is =
    let full : ServesSource by_contexts (Full calls bytes) old new l n h k = subst (λ (e : End). ServesSource by_contexts e old new l n h k) is s in
    let refused : IsRefused RefusesNone full.got full.calls calls bytes =
    subst (λ (why : Stop). StopsAt RefusesNone why full.got full.calls) full.ends full.stops in
    refused.refused

pub named : (ending : NamesEnd) (end : End) (old new : Contexts) (l n h k : Option (List ℕ)) → standing_of old ≡ nothing_bound → end_of ending ≡ end
    → ServesSource by_contexts end old new l n h k → RunNames ending l n h k
named ending end old new l n h k first is serves =
    let s : ServesSource by_contexts (end_of ending) old new l n h k = subst (λ (e : End). ServesSource by_contexts e old new l n h k) (sym is) serves in
    let noted : Noted [] s.calls s.replies (standing_of s.last) =
    serves_noted s.calls [] s.replies (standing_of s.last)
    (subst (λ (t : Standing). Serves GivesStanding t s.calls s.replies (standing_of s.last)) first
    (serves_standing s.calls old s.replies s.last s.served)) in
    record {
      got = s.got;
      took = s.took;
      calls = s.calls;
      replies = s.replies;
      changes = noted.all;
      served = noted.served;
      why = s.why;
      stops = s.stops;
      minor = s.minor;
      closes = s.closes;
      gave = s.gave;
      ends = s.ends;
    }

-- nothing was read or written, since memory was wanting
pub named_none : (l h : Option (List ℕ)) → RunNames WantMemory l l h h
named_none l h = record {
  got = [];
  took = told_here l _ (λ x. refl);
  calls = [];
  replies = [];
  changes = [];
  served = (refl, refl);
  why = stop.NoMemory;
  stops = begins_none;
  minor = 0;
  closes = λ closing. absurd (let e : false ≡ true = closing in cc);
  gave = told_here h _ (λ x. (0, sym (append-nil x)));
  ends = tt;
}
