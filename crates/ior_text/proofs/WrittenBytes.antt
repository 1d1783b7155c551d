-- What is written of a reference are bytes, where its strings and its data are.
use Rattle.std.proofs.Common.{ℕ, zero, suc, ◌+◌, Bool, true, false, List, [], ◌∷◌, ◌++◌, length, replicate, arith, rules}
use Rattle.std.specs.List.{AllByRecursion}
use Rattle.std.specs.Int.{w32}
use Rattle.hex.specs.Hex.{IsBytes}
use Rattle.cdr_core.specs.Field.{ulong, text, octets}
use Rattle.cdr_core.specs.Spelling.{gap, number_bytes, written}
use Rattle.cdr_core.specs.Draft.{Draft}
use Rattle.poa_base.specs.declared.Profile.{Profile}
use Rattle.ior_text.specs.Written.{with_profile, with_profiles, IsProfile}

pub IsBytes-append : (a b : List ℕ) → IsBytes a → IsBytes b → IsBytes (a ++ b)
IsBytes-append [] b p q i = q i
IsBytes-append (x ∷ xs) b p q zero = p 0
IsBytes-append (x ∷ xs) b p q (suc i) = IsBytes-append xs b (λ k. p (suc k)) q i

pub IsBytes-zeros : (n : ℕ) → IsBytes (replicate n 0)
IsBytes-zeros zero i = omega arith
IsBytes-zeros (suc n) zero = omega arith
IsBytes-zeros (suc n) (suc i) = IsBytes-zeros n i

pub IsBytes-number : (little : Bool) (n : ℕ) → IsBytes (number_bytes little w32 n)
IsBytes-number true n = search rules
IsBytes-number false n = search rules

pub IsBytes-ulong : (little : Bool) (place n : ℕ) → IsBytes (written little place (ulong n))
IsBytes-ulong little place n = IsBytes-append (replicate (gap 4 place) 0) _ (IsBytes-zeros (gap 4 place)) (IsBytes-number little n)

pub IsBytes-octets : (little : Bool) (place : ℕ) (bytes : List ℕ) → IsBytes bytes → IsBytes (written little place (octets bytes))
IsBytes-octets little place bytes p =
    IsBytes-append (replicate (gap 4 place) 0) _ (IsBytes-zeros (gap 4 place)) (IsBytes-append _ bytes (IsBytes-number little (length bytes)) p)

pub IsBytes-text : (little : Bool) (place : ℕ) (bytes : List ℕ) → IsBytes bytes → IsBytes (written little place (text bytes))
IsBytes-text little place bytes p =
    IsBytes-append (replicate (gap 4 place) 0) _ (IsBytes-zeros (gap 4 place))
    (IsBytes-append (number_bytes little w32 (length bytes + 1) ++ bytes) (0 ∷ []) (IsBytes-append _ bytes (IsBytes-number little (length bytes + 1)) p)
    (IsBytes-zeros 1))

pub IsBytes-profiles : (ps : List Profile) (d : Draft) → AllByRecursion IsProfile ps → IsBytes d.bytes → IsBytes (with_profiles ps d).bytes
IsBytes-profiles [] d all p = p
IsBytes-profiles (q ∷ qs) d all p =
    IsBytes-profiles qs (with_profile q d) all.1
    (IsBytes-append _ _ (IsBytes-append d.bytes _ p (IsBytes-ulong d.little _ q.tag)) (IsBytes-octets d.little _ q.bytes all.0.bytes))
