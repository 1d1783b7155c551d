-- An auditor is given one entry more.
use Rattle.std.proofs.Common.{◌≡◌, ℕ, true, false, is_some, List, [], ◌∷◌, ◌++◌, length, reverse, Option, Some, None, option_map, refl, sym, ◌∙◌, ap, subst, append_assoc}
use Rattle.std.proofs.lemmas.List.{reverse-append, reverse-reverse}
use Rattle.poa_base.specs.declared.Entry.{Entry}
use Rattle.poa_history.specs.declared.Givens.{Givens}
use Rattle.poa_history.specs.Life.{Life, givens_of}
use Rattle.journal_audit.specs.declared.auditor.Auditor.{Auditor}
use Rattle.journal_audit.specs.declared.breach.Breach.{Breach}
use Rattle.journal_audit.specs.declared.refusal.Refusal.{Refusal}
use Rattle.journal_audit.specs.Judging.{Judges, placed}
use Rattle.journal_audit.specs.Auditing.{IsRefused, Finds, HasTaken, Meets, Takes}

judged_meets : (e : Entry) (old new : Auditor) (b : Option Breach) → Judges e old.run b new.run
    → Meets e old new None (option_map (placed (length old.run.history)) b)
judged_meets e old new None j = j
judged_meets e old new (Some b) j = (j.0.refused, refl, j.0.broken, j.0.allowed)

judged_given : (e : Entry) (old new : Life) (b : Option Breach) → Judges e old b new → givens_of new ≡ givens_of old
judged_given e old new None j = ap givens_of j.1
judged_given e old new (Some b) j = j.1

-- an entry was judged
pub takes_judged : (e : Entry) (old new : Auditor) (b : Option Breach) (place : ℕ) → old.refusal ≡ None → place ≡ length old.run.history
    → new.limit ≡ old.limit → Judges e old.run b new.run → new.refusal ≡ option_map (placed place) b → Takes e old new
takes_judged e old new b place none here limited j told = record {
  given = judged_given e old.run new.run b j;
  limited = limited;
  meets =
      subst (λ (before : Option Refusal). Meets e old new before new.refusal) (sym none)
      (subst (λ (after : Option Refusal). Meets e old new None after)
      (ap (λ (k : ℕ). option_map (placed k) b) (sym here) ∙ sym told) (judged_meets e old new b j));
}

-- an entry before it was refused
pub takes_none : (e : Entry) (old : Auditor) (r : Refusal) → old.refusal ≡ Some r → Takes e old old
takes_none e old r is = record {
  given = refl;
  limited = refl;
  meets = subst (λ (before : Option Refusal). Meets e old old before before) (sym is) refl;
}

pub takes_past : (e : Entry) (old : Auditor) (o : Option Refusal) → old.refusal ≡ o → is_some o ≡ true → Takes e old old
takes_past e old (Some r) is told = takes_none e old r is
takes_past e old None is told = absurd (let f : false ≡ true = told in cc)

pub none_of : (o : Option Refusal) → is_some o ≡ false → o ≡ None
none_of None told = refl
none_of (Some r) told = absurd (let f : true ≡ false = told in cc)

more_behind : (g : Givens) (entries : List Entry) (e : Entry) (r : Refusal) → IsRefused g.config g.run g.limit entries r
    → IsRefused g.config g.run g.limit (entries ++ e ∷ []) r
more_behind g entries e r it = record {
  first = record {
    past = it.first.past;
    bad = it.first.bad;
    behind = it.first.behind ++ e ∷ [];
    parts = ap (λ es. es ++ e ∷ []) it.first.parts ∙ append_assoc (reverse it.first.past) (it.first.bad ∷ it.first.behind) (e ∷ []);
    stands = it.first.stands;
    legal = it.first.legal;
    refused = it.first.refused;
    broken = it.first.broken;
  };
  allowed = it.allowed;
}

turned : (entries : List Entry) (e : Entry) → reverse (entries ++ e ∷ []) ≡ e ∷ reverse entries
turned entries e = reverse-append entries (e ∷ [])

found_then : (entries : List Entry) (e : Entry) (old new : Auditor) (before after : Option Refusal) → givens_of new.run ≡ givens_of old.run
    → Finds entries old.run before → Meets e old new before after → Finds (entries ++ e ∷ []) new.run after
found_then entries e old new (Some r) after same found told =
    subst (λ (o : Option Refusal). Finds (entries ++ e ∷ []) new.run o) (sym told)
    (subst (λ (g : Givens). IsRefused g.config g.run g.limit (entries ++ e ∷ []) r) (sym same) (more_behind (givens_of old.run) entries e r found))
found_then entries e old new None None same found met =
    subst (λ (l : Life). Finds (entries ++ e ∷ []) l None) (sym met.1)
    (ap (λ h. e ∷ h) found.0 ∙ sym (turned entries e), (met.0, found.1))
found_then entries e old new None (Some r) same found met =
    subst (λ (g : Givens). IsRefused g.config g.run g.limit (entries ++ e ∷ []) r) (sym same) (record {
      first = record {
        past = old.run.history;
        bad = e;
        behind = [];
        parts = ap (λ es. es ++ e ∷ []) (sym (ap reverse found.0 ∙ reverse-reverse entries));
        stands = met.1;
        legal = found.1;
        refused = met.0;
        broken = met.2;
      };
      allowed = met.3;
    })

pub taken_then : (entries : List Entry) (e : Entry) (old new : Auditor) → HasTaken entries old → Takes e old new → HasTaken (entries ++ e ∷ []) new
taken_then entries e old new had takes = record {
  limited = takes.limited ∙ (had.limited ∙ ap (λ (g : Givens). g.limit) (sym takes.given));
  found = found_then entries e old new old.refusal new.refusal takes.given had.found takes.meets;
}
