-- The key that a target spells is the one that is seen in it.
use Rattle.std.proofs.Common.{◌≡◌, ◌≢◌, ℕ, List, Some, None, Result, Ok, Err, refl, sym, subst}
use Rattle.std.specs.Prelude.{IfOk, IfErr}
use Rattle.std.specs.Result.{result_ok}
use Rattle.poa_base.specs.declared.Key.{Key}
use Rattle.object_key.specs.Spelling.{key_spelling, IsKey}
use Rattle.history_standing.specs.Keys.{key_of}
use Rattle.poa_history.proofs.KeysSpelled.{key_spelled, spelling_found}

-- the spelling of a key is the key's
key_is_read : (k : Key) (bytes : List ℕ) → IsKey k → key_spelling k ≡ bytes → key_of bytes ≡ Some k
key_is_read k bytes fits spelled = subst (λ b. key_of b ≡ Some k) spelled (spelling_found k fits)

-- where no key's spelling stands, none is found
no_key_is_read : (bytes : List ℕ) → ((k : Key) → IsKey k → key_spelling k ≢ bytes) → key_of bytes ≡ None
no_key_is_read bytes none =
    elim (key_of bytes) as (λ found. key_of bytes ≡ found → found ≡ None) [
      | Some k ↦ (λ is. absurd (let its = key_spelled bytes k is in none k its.0 its.1))
      | None ↦ (λ is. refl)
    ] refl

-- what is seen is the key that the bytes spell, if there is one
pub key_is_seen : {E : Type 0} (view : Result Key E) (bytes : List ℕ) → IfOk view (λ key. IsKey key × (key_spelling key ≡ bytes))
    → IfErr view (λ _. (key : Key) → IsKey key → key_spelling key ≢ bytes) → result_ok view ≡ key_of bytes
key_is_seen (Ok key) bytes spelled bad = sym (key_is_read key bytes spelled.0 spelled.1)
key_is_seen (Err fault) bytes spelled bad = sym (no_key_is_read bytes bad)
