-- A run over a whole input, where nothing outside fails, ends well.
use Rattle.std.proofs.Common.{◌≡◌, ◌⊎◌, ℕ, ◌+◌, ◌<◌, ◌^◌, List, [], ◌++◌, length, Option, None, Some, inl, inr, refl, sym, ap, ◌∙◌, subst, append-nil, length-append, arith}
use Rattle.std.specs.Option.{IsSomeAnd}
use Rattle.session_laws.specs.declared.peer.Peer.TheVariants.{Client}
use Rattle.session_laws.specs.Hearing.{Heard, HearsMessages, Stop, bad, closed, over}
use Rattle.session_laws.proofs.OneHearing.{heard_once}
use Rattle.poad_answer.specs.declared.names_end.NamesEnd.{NamesEnd}
use Rattle.poad_answer.specs.declared.names_end.NamesEnd.TheVariants.{Ended, InputLimit, Malformed, ReadFault, Truncated, WantMemory, WriteFault}
use Rattle.poad_answer.specs.NamesRun.{RunNames}
use Rattle.poad_answer.specs.NamesServing.{RefusesNone}
use Rattle.poad_answer.specs.Stop.{StopsAt}
use Rattle.poad_answer.specs.Whole.{HearsWhole, IsWholeInput}
use Rattle.poad_answer.proofs.Longer.{bad_longer}

-- of a whole text nothing else is heard
module _ (text : List ℕ) (calls others : List Heard) (stop : Stop) (hears : HearsMessages text others stop) where
  whole_stop : HearsWhole text calls → (stop ≡ closed) ⊎ (stop ≡ over 0)
  whole_stop (inl whole) = inl (heard_once Client text others calls stop closed hears whole).1
  whole_stop (inr whole) = inr (heard_once Client text others calls stop (over 0) hears whole).1

  pub whole_calls : HearsWhole text calls → others ≡ calls
  whole_calls (inl whole) = (heard_once Client text others calls stop closed hears whole).0
  whole_calls (inr whole) = (heard_once Client text others calls stop (over 0) hears whole).0

over_same : (m n : ℕ) → over m ≡ over n → m ≡ n
over_same m n e = cc

-- nothing is bad in it
pub whole_never_bad : (text : List ℕ) (calls others : List Heard) (at : ℕ) → HearsWhole text calls → HearsMessages text others (bad at) → ⊥
whole_never_bad text calls others at whole hears =
    elim (whole_stop text calls others (bad at) hears whole) [
      | inl is ↦ (let e : bad at ≡ closed = is in cc)
      | inr is ↦ (let e : bad at ≡ over 0 = is in cc)
    ]

-- nothing is left over
pub whole_never_over : (text : List ℕ) (calls others : List Heard) (have : ℕ) → HearsWhole text calls → HearsMessages text others (over have) → 0 < have → ⊥
whole_never_over text calls others have whole hears some =
    elim (whole_stop text calls others (over have) hears whole) [
      | inl is ↦ (let e : over have ≡ closed = is in cc)
      | inr is ↦ (let e : have ≡ 0 = over_same have 0 is in omega (arith, e, some))
    ]

-- what was taken of a source, of which this is left
module _ (text got rest : List ℕ) (took : text ≡ got ++ rest) where
  pub got_all : rest ≡ [] → got ≡ text
  got_all none = sym (took ∙ (ap (λ (back : List ℕ). got ++ back) none ∙ append-nil got))

  pub short_of_limit : (n : ℕ) → length text < 2 ^ 32 → n ≡ length got → n ≡ 2 ^ 32 → ⊥
  short_of_limit n short count full =
      let all : length text ≡ length got + length rest = ap length took ∙ length-append got rest in omega (arith, all, short, count, full)

  module _ (calls others : List Heard) (whole : HearsWhole text calls) where
    pub never_malformed : (at : ℕ) → HearsMessages got others (bad at) → ⊥
    never_malformed at hears =
        whole_never_bad text calls others at whole
        (subst (λ (t : List ℕ). HearsMessages t others (bad at)) (sym took) (bad_longer got rest others at hears))

    pub never_truncated : (have : ℕ) → HearsMessages got others (over have) → rest ≡ [] → 0 < have → ⊥
    never_truncated have hears none some =
        whole_never_over text calls others have whole (subst (λ (t : List ℕ). HearsMessages t others (over have)) (got_all none) hears) some

-- a run that ended well, or by a fault that is counted
abbrev pub IsWell : NamesEnd → Type 0
IsWell Ended = Unit {0}
IsWell WantMemory = Unit {0}
IsWell ReadFault = Unit {0}
IsWell WriteFault = Unit {0}
IsWell _ = ⊥

module _ (text : List ℕ) (input : IsWholeInput text) (rest : List ℕ) (h k : Option (List ℕ)) where
  ends_well : (e : NamesEnd) → RunNames e (Some text) (Some rest) h k → IsWell e
  ends_well Ended run = tt
  ends_well WantMemory run = tt
  ends_well ReadFault run = tt
  ends_well WriteFault run = tt
  ends_well (Truncated have) run =
      never_truncated text run.got rest run.took input.calls run.calls input.whole have
      (subst (λ w. StopsAt RefusesNone w run.got run.calls) run.ends.0 run.stops) run.ends.2 run.ends.1
  ends_well (Malformed at) run =
      never_malformed text run.got rest run.took input.calls run.calls input.whole at
      (subst (λ w. StopsAt RefusesNone w run.got run.calls) run.ends run.stops)
  ends_well (InputLimit n) run = short_of_limit text run.got rest run.took n input.short run.ends.1 run.ends.2

pub names_well : (e : NamesEnd) (left_old left_new h k : Option (List ℕ)) → IsSomeAnd left_old IsWholeInput → RunNames e left_old left_new h k → IsWell e
names_well e None left_new h k whole run = absurd whole
names_well e (Some text) None h k whole run = absurd run.took
names_well e (Some text) (Some rest) h k whole run = ends_well text whole rest h k e run

-- where no fault was counted
pub calm_well : (e : NamesEnd) → IsWell e → (e ≡ ReadFault → ⊥) → (e ≡ WriteFault → ⊥) → (e ≡ Ended) ⊎ (e ≡ WantMemory)
calm_well Ended well read write = inl refl
calm_well WantMemory well read write = inr refl
calm_well ReadFault well read write = absurd (read refl)
calm_well WriteFault well read write = absurd (write refl)
calm_well _ well read write = absurd well
