-- A run of `answer` over a whole input, where nothing outside fails, ends well.
use Rattle.std.proofs.Common.{◌≡◌, ◌⊎◌, ℕ, suc, ◌+◌, ◌<◌, ◌≤◌, ◌^◌, List, [], ◌∷◌, ◌++◌, length, Option, None, Some, inl, inr, refl, sym, ap, ◌∙◌, subst, append_assoc, length-append, arith}
use Rattle.std.proofs.lemmas.Bool.{true≢false}
use Rattle.history_standing.specs.Arrivals.{arrived_bytes, arrivals}
use Rattle.poa_base.specs.declared.Config.{Config}
use Rattle.poa_core.specs.Answers.{unadmitted}
use Rattle.poad_answer.specs.Run.{RunAnswers, life_at_answer}
use Rattle.poad_answer.specs.Calls.{Serves}
use Rattle.poad_answer.specs.Serving.{GivesCall, RefusesCall}
use Rattle.poad_answer.specs.Source.{IsRead}
use Rattle.poad_answer.specs.Stop.{IsRefused, StopsAt}
use Rattle.poad_answer.specs.Whole.{HearsWhole}
use Rattle.poad_answer.proofs.Longer.{closed_longer}
use Rattle.poad_answer.proofs.Whole.{got_all, never_malformed, never_truncated, short_of_limit, whole_calls}
use Rattle.poad_cmd.specs.Complete.{IsWholeInput, bytes_in}
use Rattle.poad_cmd.proofs.Heard.{bytes_both, served_arrived, taken}
use Rattle.poad_cmd.proofs.LongerHearing.{begins_in}
use Rattle.poad_cmd.proofs.LongerLines.{GoesOn}
use Rattle.poad_files.specs.declared.status.Status.{Status}
use Rattle.poad_files.specs.declared.status.Status.TheVariants.{FileFault, Held, InputLimit, Limit, Malformed, Ok, ReadFault, Truncated, WantMemory, WriteFault}
use Rattle.session_laws.specs.declared.peer.Peer.TheVariants.{Client}
use Rattle.session_laws.specs.Hearing.{Heard, HearsMessages, closed, over}
use Rattle.session_laws.specs.Sessions.{Begins}

-- a status that comes well, or by a fault that is counted
abbrev pub IsWell : Status → Type 0
IsWell Ok = Unit {0}
IsWell WantMemory = Unit {0}
IsWell ReadFault = Unit {0}
IsWell WriteFault = Unit {0}
IsWell FileFault = Unit {0}
IsWell _ = ⊥

-- the first calls of a text are the first ones of all of it
first_of : (got rest : List ℕ) (front calls : List Heard) → Begins Client got front → HearsWhole (got ++ rest) calls → GoesOn front calls
first_of got rest front calls begins (inl hears) = begins_in Client got rest front calls closed begins hears
first_of got rest front calls begins (inr hears) = begins_in Client got rest front calls (over 0) begins hears

module _ (c : Config) (text : List ℕ) (whole : IsWholeInput c text) (rest : List ℕ) (h k : Option (List ℕ)) where
  module _ (s : Status) (run : RunAnswers c s (Some text) (Some rest) h k) where
    -- a call behind those that were served has room
    never_refused : (calls bytes : ℕ) → IsRefused (RefusesCall run.life) run.got run.calls calls bytes → ⊥
    never_refused calls bytes refused =
        let one : Heard = record { call = refused.next.call; size = refused.size } in
        let on : GoesOn (run.calls ++ one ∷ []) whole.calls =
        first_of run.got rest (run.calls ++ one ∷ []) whole.calls refused.next.begins
        (subst (λ (t : List ℕ). HearsWhole t whole.calls) run.took whole.whole) in
        let all : whole.calls ≡ run.calls ++ one ∷ on.0 = on.1 ∙ append_assoc run.calls (one ∷ []) on.0 in
        let counts = served_arrived run.calls (life_at_answer c) run.replies run.life run.served in
        let many : length whole.calls ≡ length run.calls + suc (length on.0) = ap length all ∙ length-append run.calls (one ∷ on.0) in
        let sized : bytes_in whole.calls ≡ bytes_in run.calls + (refused.size + bytes_in on.0) = ap bytes_in all ∙ bytes_both run.calls (one ∷ on.0) in
        let few : arrivals run.life.history ≡ 0 + length run.calls = counts.few in
        let small : arrived_bytes run.life.history ≡ 0 + bytes_in run.calls = counts.small in
        let limit : run.life.limit ≡ 4000000 = counts.limit in
        let most : length whole.calls ≤ 4000000 = whole.few in
        let least : bytes_in whole.calls ≤ 2 ^ 30 = whole.small in
        true≢false
        (sym (taken run.life refused.size refused.next.call counts.filled (omega (arith, many, few, limit, most)) (omega (arith, sized, small, least)))
        ∙ refused.refused.untaken)

    -- where it was read to its end all calls were served
    all_served : IsRead run.why run.got (Some rest) → run.calls ≡ whole.calls
    all_served (inl at_closing) =
        (let hears : HearsMessages run.got run.calls closed = subst (λ w. StopsAt (RefusesCall run.life) w run.got run.calls) at_closing run.stops in
        whole_calls text whole.calls run.calls closed
        (subst (λ (t : List ℕ). HearsMessages t run.calls closed) (sym run.took) (closed_longer run.got rest run.calls hears)) whole.whole)
    all_served (inr at_end) =
        (let hears : HearsMessages run.got run.calls (over 0) = subst (λ w. StopsAt (RefusesCall run.life) w run.got run.calls) at_end.0 run.stops in
        whole_calls text whole.calls run.calls (over 0)
        (subst (λ (t : List ℕ). HearsMessages t run.calls (over 0)) (got_all text run.got rest run.took at_end.1) hears) whole.whole)

    never_held : (count : ℕ) → IsRead run.why run.got (Some rest) → count ≡ unadmitted run.life.history → 0 < unadmitted run.life.history → ⊥
    never_held count read same some =
        let none : unadmitted run.life.history ≡ 0 =
        whole.admitted run.replies run.life
        (subst (λ (cs : List Heard). Serves GivesCall (life_at_answer c) cs run.replies run.life) (all_served read) run.served) in
        omega (arith, none, some)

  ends_well : (s : Status) → RunAnswers c s (Some text) (Some rest) h k → IsWell s
  ends_well Ok run = tt
  ends_well WantMemory run = tt
  ends_well ReadFault run = tt
  ends_well WriteFault run = tt
  ends_well (Held count) run = never_held (Held count) run count run.ends.0 run.ends.1 run.ends.2
  ends_well (Truncated have) run =
      never_truncated text run.got rest run.took whole.calls run.calls whole.whole have
      (subst (λ w. StopsAt (RefusesCall run.life) w run.got run.calls) run.ends.0 run.stops) run.ends.2 run.ends.1
  ends_well (Malformed at) run =
      never_malformed text run.got rest run.took whole.calls run.calls whole.whole at
      (subst (λ w. StopsAt (RefusesCall run.life) w run.got run.calls) run.ends run.stops)
  ends_well (Limit calls bytes) run =
      never_refused (Limit calls bytes) run calls bytes (subst (λ w. StopsAt (RefusesCall run.life) w run.got run.calls) run.ends run.stops)
  ends_well (InputLimit n) run = short_of_limit text run.got rest run.took n whole.short run.ends.1 run.ends.2
  ends_well _ run = absurd run.ends

pub run_well : (c : Config) (s : Status) (text : List ℕ) (left h k : Option (List ℕ)) → IsWholeInput c text → RunAnswers c s (Some text) left h k → IsWell s
run_well c s text None h k whole run = absurd run.took
run_well c s text (Some rest) h k whole run = ends_well c text whole rest h k s run
