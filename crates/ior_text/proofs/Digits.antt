-- Where a bad digit stands.
use Rattle.std.proofs.Common.{◌≡◌, ℕ, ◌+◌, ◌<◌, List, length, Err, ◌⊎◌, inl, inr, arith}
use Rattle.hex.specs.Hex.{decode_of}
use Rattle.hex.specs.declared.error.FromHexError.{FromHexError}
use Rattle.hex.specs.declared.error.FromHexError.TheVariants.{InvalidHexCharacter, OutOfMemory}
use Rattle.hex.proofs.HexLemmas.{decode_of-err}

-- a bad digit is one of the digits
pub bad_below : (digits : List ℕ) (fault : FromHexError) (c i : ℕ) → ((fault ≡ OutOfMemory) ⊎ (decode_of digits ≡ Err fault)) → fault ≡ InvalidHexCharacter c i
    → i < length digits
bad_below digits fault c i (inl memory) is = cc (memory, is)
bad_below digits fault c i (inr refused) is =
    elim (decode_of-err digits fault refused) [
      | inl odd ↦ cc (odd.1, is)
      | inr bad ↦
          let same : i ≡ 0 + bad.0 = cc (bad.1, is) in
          omega (arith, same, bad.2)
    ]
