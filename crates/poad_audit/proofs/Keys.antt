-- The line of a key is a function of its octets.
use Rattle.std.proofs.Common.{◌≡◌, ℕ, List, ◌++◌, Option, Some, None, Result, Ok, Err, OnOk, inl, inr, refl, sym, ◌∙◌, ap}
use Rattle.poa_base.specs.declared.Key.{Key}
use Rattle.history_standing.specs.Keys.{key_of}
use Rattle.poa_history.proofs.KeysSpelled.{key_spelled, spelling_found}
use Rattle.poad_files.specs.KeyLine.{KeyShown, ShowsNoKey}
use Rattle.poad_files.specs.Shown.{Adds}
use Rattle.poad_audit.specs.Calls.{key_by, key_text}

unspelled : (octets line : List ℕ) → ShowsNoKey octets line → (o : Option Key) → key_of octets ≡ o → line ≡ key_by o octets
unspelled octets line shows None is = shows.is_line
unspelled octets line shows (Some key) is = absurd (let spells = key_spelled octets key is in shows.none key spells.0 spells.1)

key_shown : (octets line : List ℕ) → KeyShown octets line → line ≡ key_text octets
key_shown octets line (inl shows) =
    shows.is_line
    ∙ ap (λ (o : Option Key). key_by o octets) (sym (ap key_of (sym shows.spelled) ∙ spelling_found shows.key shows.is_key))
key_shown octets line (inr shows) = unspelled octets line shows (key_of octets) refl

pub key_put : {T E : Type 0} (r : Result T E) (octets old new : List ℕ) → OnOk r (Adds (KeyShown octets) old new)
    → OnOk r (new ≡ old ++ key_text octets)
key_put (Ok x) octets old new adds = adds.added ∙ ap (λ (line : List ℕ). old ++ line) (key_shown octets adds.text adds.is_text)
key_put (Err e) octets old new adds = tt
