-- A source that a run of a configuration served, and the status of it.
use Rattle.std.proofs.Common.{◌≡◌, ℕ, List, [], ◌∷◌, Option, true, false, sym, ◌∙◌, subst, refl, append-nil}
use Rattle.poa_base.specs.declared.Config.{Config}
use Rattle.history_laws.specs.Lasting.{KeepsUpdates, LeavesNothing}
use Rattle.poa_core.specs.Answers.{unadmitted}
use Rattle.poa_history.specs.Legal.{IsLegal}
use Rattle.poa_history.specs.Life.{Life, opened}
use Rattle.poa_history.specs.Lifetime.{HasLifetime}
use Rattle.session_laws.specs.Hearing.{Heard}
use Rattle.poad_files.specs.Delivery.{Hands}
use Rattle.poad_files.specs.declared.status.Status.{Status}
use Rattle.poad_files.specs.declared.status.Status.TheVariants.{Ok, Malformed, Truncated, Held, Limit, ReadFault, InputLimit, WriteFault, WantMemory}
use Rattle.poad_answer.specs.declared.end.End.{End}
use Rattle.poad_answer.specs.declared.end.End.TheVariants as end
use Rattle.poad_answer.specs.declared.stop.Stop.{Stop}
use Rattle.poad_answer.specs.declared.stop.Stop.TheVariants as stop
use Rattle.poad_answer.specs.Calls.{Serves}
use Rattle.poad_answer.specs.Serving.{GivesCall, IsLegalRun, by_core}
use Rattle.poad_answer.specs.Source.{IsLeft, ServesSource, SourceEnds, is_written}
use Rattle.poad_answer.specs.Run.{Gains, IsKeptBy, RunAnswers, RunEnds, TellsEnd, TellsHeld, life_at_answer}
use Rattle.poad_files.proofs.Told.{told_here, told_so}
use Rattle.replay_run.specs.Opening.{life_at_first}
use Rattle.replay_run.proofs.Same.{Givens, givens_life, givens_then}
use Rattle.replay_run.proofs.Given.{legal_for, lifetime_for, undone_for, updates_for}
use Rattle.poad_answer.proofs.Running.{begins_none}
use Rattle.poad_answer.proofs.Worked.{call_givens}

-- the givens of the run stay
serves_givens : (calls : List Heard) (a : Life) (replies : List ℕ) (b : Life) → Serves GivesCall a calls replies b → Givens a b
serves_givens [] a replies b s = subst (λ (l : Life). Givens a l) (sym s.1) (givens_life a)
serves_givens (h ∷ calls) a replies b s =
    givens_then a s.1.0 b (call_givens a h.call h.size s.0 s.1.0 s.1.1.1.0) (serves_givens calls s.1.0 s.1.1.0 b s.1.1.1.1)

kept_so : (c : Config) (life : Life) → Givens (life_at_answer c) life → IsLegalRun life → IsLegal c c.run 4000000 life.history
    × HasLifetime c c.run life.history × LeavesNothing c c.run life.history × KeepsUpdates c c.run (opened (life_at_first c 4000000)) life.history
kept_so c life g legal =
    let first : Givens (life_at_first c 4000000) life = record { config = g.config; run = g.run; limit = g.limit; opening = g.opening; going = g.going } in (
      legal_for c 4000000 life first legal.legal,
      lifetime_for c 4000000 life first legal.lifetime,
      undone_for c 4000000 life first legal.undone,
      updates_for c 4000000 life first legal.updates,
    )

kept_by : (status : Status) (c : Config) (life : Life) → Givens (life_at_answer c) life → IsLegalRun life → IsKeptBy status c life
kept_by WantMemory c life g legal = tt
kept_by _ c life g legal = kept_so c life g legal

-- what was gained, by the status of the end
gains_so : (e : End) (status : Status) (held : ℕ) (bytes before now : List ℕ) → TellsEnd e status held → Hands (is_written e) bytes before now
    → Gains status bytes before now
gains_so end.Read Ok held bytes before now told h = h
gains_so end.Read (Held count) held bytes before now told h = h
gains_so end.Read _ held bytes before now told h = absurd told
gains_so end.ReadFault status held bytes before now told h = subst (λ (s : Status). Gains s bytes before now) (sym told) h
gains_so end.WriteFault status held bytes before now told h = subst (λ (s : Status). Gains s bytes before now) (sym told) h
gains_so (end.Malformed at) status held bytes before now told h = subst (λ (s : Status). Gains s bytes before now) (sym told) h
gains_so (end.Full calls limit) status held bytes before now told h = subst (λ (s : Status). Gains s bytes before now) (sym told) h
gains_so (end.Truncated have) status held bytes before now told h = subst (λ (s : Status). Gains s bytes before now) (sym told) h
gains_so (end.InputLimit taken) status held bytes before now told h = subst (λ (s : Status). Gains s bytes before now) (sym told) h
gains_so end.WantMemory status held bytes before now told h = subst (λ (s : Status). Gains s bytes before now) (sym told) h

-- where it was read whole, as many calls are unadmitted as the last call left so
module _ (why : Stop) (last new : Life) (got : List ℕ) (left : Option (List ℕ)) where
  ends_held : (status : Status) → TellsHeld status (unadmitted new.history) → new ≡ last → SourceEnds end.Read why got left
      → RunEnds status why (unadmitted last.history) got left
  ends_held Ok told same ends = (ends, subst (λ (l : Life). TellsHeld Ok (unadmitted l.history)) same told)
  ends_held (Held count) told same ends =
      (let held : TellsHeld (Held count) (unadmitted last.history) = subst (λ (l : Life). TellsHeld (Held count) (unadmitted l.history)) same told in
      (ends, held.0, held.1))
  ends_held _ told same ends = absurd told

  ends_so : (e : End) (status : Status) → TellsEnd e status (unadmitted new.history) → IsLeft e last new → SourceEnds e why got left
      → RunEnds status why (unadmitted last.history) got left
  ends_so end.Read status told same ends = ends_held status told same ends
  ends_so end.ReadFault status told same ends = subst (λ (s : Status). RunEnds s why (unadmitted last.history) got left) (sym told) ends
  ends_so end.WriteFault status told same ends = subst (λ (s : Status). RunEnds s why (unadmitted last.history) got left) (sym told) ends
  ends_so (end.Malformed at) status told same ends = subst (λ (s : Status). RunEnds s why (unadmitted last.history) got left) (sym told) ends
  ends_so (end.Full calls bytes) status told same ends = subst (λ (s : Status). RunEnds s why (unadmitted last.history) got left) (sym told) ends
  ends_so (end.Truncated have) status told same ends = subst (λ (s : Status). RunEnds s why (unadmitted last.history) got left) (sym told) ends
  ends_so (end.InputLimit taken) status told same ends = subst (λ (s : Status). RunEnds s why (unadmitted last.history) got left) (sym told) ends
  ends_so end.WantMemory status told same ends = subst (λ (s : Status). RunEnds s why (unadmitted last.history) got left) (sym told) ends

pub answered : (c : Config) (status : Status) (e : End) (start new : Life) (l m h k : Option (List ℕ)) → start ≡ life_at_answer c
    → TellsEnd e status (unadmitted new.history) → ServesSource by_core e start new l m h k → RunAnswers c status l m h k
answered c status e start new l m h k first told s =
    let served : Serves GivesCall (life_at_answer c) s.calls s.replies s.last =
    subst (λ (life : Life). Serves GivesCall life s.calls s.replies s.last) first s.served in
    record {
      got = s.got;
      took = s.took;
      calls = s.calls;
      replies = s.replies;
      life = s.last;
      served = served;
      why = s.why;
      stops = s.stops;
      minor = s.minor;
      closes = s.closes;
      gave = told_so h k _ _ (λ x y p. gains_so e status (unadmitted new.history) _ x y told p) s.gave;
      ends = ends_so s.why s.last new s.got m e status told s.kept s.ends;
      kept = kept_by status c s.last (serves_givens s.calls (life_at_answer c) s.replies s.last served) s.fits.legal;
    }

-- nothing was read or written, since memory was wanting for the run
pub answered_none : (c : Config) (l h : Option (List ℕ)) → RunAnswers c WantMemory l l h h
answered_none c l h = record {
  got = [];
  took = told_here l _ (λ x. refl);
  calls = [];
  replies = [];
  life = life_at_answer c;
  served = (refl, refl);
  why = stop.NoMemory;
  stops = begins_none;
  minor = 0;
  closes = λ closing. absurd (let e : false ≡ true = closing in cc);
  gave = told_here h _ (λ x. (0, sym (append-nil x)));
  ends = tt;
  kept = tt;
}

-- the status of a fault is that of its end alone
pub read_fault_so : (e : End) (status : Status) (held : ℕ) → TellsEnd e status held → status ≡ ReadFault → e ≡ end.ReadFault
read_fault_so end.Read status held told is = absurd (subst (λ (s : Status). TellsHeld s held) is told)
read_fault_so end.ReadFault status held told is = refl
read_fault_so end.WriteFault status held told is = absurd (let f : WriteFault ≡ ReadFault = sym told ∙ is in cc)
read_fault_so (end.Malformed at) status held told is = absurd (let f : Malformed at ≡ ReadFault = sym told ∙ is in cc)
read_fault_so (end.Full calls bytes) status held told is = absurd (let f : Limit calls bytes ≡ ReadFault = sym told ∙ is in cc)
read_fault_so (end.Truncated have) status held told is = absurd (let f : Truncated have ≡ ReadFault = sym told ∙ is in cc)
read_fault_so (end.InputLimit taken) status held told is = absurd (let f : InputLimit taken ≡ ReadFault = sym told ∙ is in cc)
read_fault_so end.WantMemory status held told is = absurd (let f : WantMemory ≡ ReadFault = sym told ∙ is in cc)

pub write_fault_so : (e : End) (status : Status) (held : ℕ) → TellsEnd e status held → status ≡ WriteFault → e ≡ end.WriteFault
write_fault_so end.Read status held told is = absurd (subst (λ (s : Status). TellsHeld s held) is told)
write_fault_so end.ReadFault status held told is = absurd (let f : ReadFault ≡ WriteFault = sym told ∙ is in cc)
write_fault_so end.WriteFault status held told is = refl
write_fault_so (end.Malformed at) status held told is = absurd (let f : Malformed at ≡ WriteFault = sym told ∙ is in cc)
write_fault_so (end.Full calls bytes) status held told is = absurd (let f : Limit calls bytes ≡ WriteFault = sym told ∙ is in cc)
write_fault_so (end.Truncated have) status held told is = absurd (let f : Truncated have ≡ WriteFault = sym told ∙ is in cc)
write_fault_so (end.InputLimit taken) status held told is = absurd (let f : InputLimit taken ≡ WriteFault = sym told ∙ is in cc)
write_fault_so end.WantMemory status held told is = absurd (let f : WantMemory ≡ WriteFault = sym told ∙ is in cc)
