-- Names that are written or read one after the other.
use Rattle.std.proofs.Common.{◌≡◌, ℕ, zero, suc, ◌+◌, ◌-◌, ◌≤◌, ◌<◌, List, [], ◌∷◌, ◌++◌, length, take, drop, get_or, refl, sym, ◌∙◌, ap, ap₂, arith, append_assoc, append-nil, length-append, subst}
use Rattle.std.specs.Prelude.{All}
use Rattle.std.proofs.Math.Seq.{take-append_seam, drop-append_seam}
use Rattle.std.proofs.lemmas.List.{take_more, append_cancel_left, take-append-drop, length-take}
use Rattle.std.proofs.lemmas.List.Elements.{All-more, All-head, All-tail, All-append, All-cons, All-nil}
use Rattle.std.proofs.lemmas.Grind.{flat_map-append}
use Rattle.poa_base.specs.Limits.{IsName}
use Rattle.object_key.specs.Spelling.{name_bytes}
use Rattle.object_key.specs.Lent.{SpellsNames}
use Rattle.object_key.specs.Reading.{KeyReads, ReadsNone, AreNames, names_bytes, names_of}
use Rattle.object_key.proofs.OneReading.{one_name}

-- the bytes of names and of one more
pub names_bytes-push : (names : List (List ℕ)) (name : List ℕ) → names_bytes (names ++ name ∷ []) ≡ names_bytes names ++ name_bytes name
names_bytes-push names name = flat_map-append name_bytes names (name ∷ []) ∙ ap (λ bytes. names_bytes names ++ bytes) (append-nil (name_bytes name))

-- the bytes of the first names, and of one more
pub names_bytes-more : (names : List (List ℕ)) (i : ℕ) (name : List ℕ) → i < length names → name ≡ get_or names i name
    → names_bytes (take (i + 1) names) ≡ names_bytes (take i names) ++ name_bytes name
names_bytes-more names i name below is =
    ap names_bytes (take_more names i name below) ∙ names_bytes-push (take i names) (get_or names i name)
    ∙ ap (λ n. names_bytes (take i names) ++ name_bytes n) (sym is)

-- one more name is written behind the first ones
pub written_more : (before out new : List ℕ) (count : ℕ) (names : List (List ℕ)) (i : ℕ) (name : List ℕ) → i < length names → name ≡ get_or names i name
    → out ≡ before ++ (count ∷ names_bytes (take i names)) → new ≡ out ++ name_bytes name → new ≡ before ++ (count ∷ names_bytes (take (i + 1) names))
written_more before out new count names i name below is so_far written =
    written ∙ ap (λ o. o ++ name_bytes name) so_far ∙ append_assoc before (count ∷ names_bytes (take i names)) (name_bytes name)
    ∙ ap (λ bytes. before ++ (count ∷ bytes)) (sym (names_bytes-more names i name below is))

-- one more name is within its limits
pub names_more : (names : List (List ℕ)) (i : ℕ) (name : List ℕ) → i < length names → name ≡ get_or names i name → All IsName (take i names) → IsName name
    → All IsName (take (i + 1) names)
names_more names i name below is so_far one = All-more IsName names i name below so_far (subst IsName is one)

-- where the first names are read and no further name stands behind them, no more names than these are read
pub no_names : (found names : List (List ℕ)) (i count : ℕ) (text behind rest : List ℕ) → i < count → KeyReads names_bytes (AreNames i) found text behind
    → ReadsNone name_bytes IsName behind → KeyReads names_bytes (AreNames count) names text rest → ⊥
no_names found [] i count text behind rest fewer so_far none all = absurd (omega (arith, all.fits.0))
no_names [] (name ∷ names) i count text behind rest fewer so_far none all =
    none name (names_bytes names ++ rest) (record {
      begins = sym so_far.begins ∙ all.begins ∙ append_assoc (name_bytes name) (names_bytes names) rest;
      fits = All-head IsName name names all.fits.1;
    })
no_names (one ∷ found) (name ∷ names) i count text behind rest fewer so_far none all =
    let here = one_name one name (names_bytes found ++ behind) (names_bytes names ++ rest)
    (sym (append_assoc (name_bytes one) (names_bytes found) behind) ∙ sym so_far.begins ∙ all.begins
    ∙ append_assoc (name_bytes name) (names_bytes names) rest) in
    no_names found names (length found) (length names) (names_bytes found ++ behind) behind rest (omega (arith, so_far.fits.0, all.fits.0))
    (record { begins = refl; fits = (refl, All-tail IsName one found so_far.fits.1) }) none
    (record { begins = here.1; fits = (refl, All-tail IsName name names all.fits.1) })

-- the names at the front of their own bytes
pub names_of-bytes : (names : List (List ℕ)) (rest : List ℕ) → names_of (length names) (names_bytes names ++ rest) ≡ names
names_of-bytes [] rest = refl
names_of-bytes (name ∷ names) rest =
    let behind : (name ++ names_bytes names) ++ rest ≡ name ++ (names_bytes names ++ rest) = append_assoc name (names_bytes names) rest in
    ap₂ (λ n ns. n ∷ ns)
    (ap (λ b. take (length name) b) behind ∙ take-append_seam name (names_bytes names ++ rest))
    (ap (λ b. names_of (length names) (drop (length name) b)) behind ∙ ap (λ b. names_of (length names) b) (drop-append_seam name (names_bytes names ++ rest))
    ∙ names_of-bytes names rest)

-- one more name is passed behind the first ones
pub one_more : (text behind rest name : List ℕ) (i : ℕ) → KeyReads names_bytes (AreNames i) (names_of i text) text behind
    → KeyReads name_bytes IsName name behind rest → KeyReads names_bytes (AreNames (i + 1)) (names_of (i + 1) text) text rest
one_more text behind rest name i so_far one =
    let found : List (List ℕ) = names_of i text in
    let more : List (List ℕ) = found ++ name ∷ [] in
    let begins : text ≡ names_bytes more ++ rest =
    so_far.begins ∙ ap (λ b. names_bytes found ++ b) one.begins ∙ sym (append_assoc (names_bytes found) (name_bytes name) rest)
    ∙ ap (λ b. b ++ rest) (sym (names_bytes-push found name)) in
    let len : length more ≡ i + 1 = length-append found (name ∷ []) ∙ ap (λ n. n + 1) so_far.fits.0 in
    let is : names_of (i + 1) text ≡ more = ap (λ b. names_of (i + 1) b) begins ∙ ap (λ n. names_of n (names_bytes more ++ rest)) (sym len)
    ∙ names_of-bytes more rest in
    subst (λ ns. KeyReads names_bytes (AreNames (i + 1)) ns text rest) (sym is)
    (record { begins = begins; fits = (len, All-append IsName found (name ∷ []) so_far.fits.1 (All-cons IsName name [] one.fits (All-nil IsName))) })

-- the bytes of the names that were passed spell these names
pub passed_names : (text names rest : List ℕ) (count : ℕ) → KeyReads names_bytes (AreNames count) (names_of count text) text rest
    → names ≡ names_bytes (names_of count text) → names_of count names ≡ names_of count text
passed_names text names rest count read is =
    let found : List (List ℕ) = names_of count text in
    ap (λ b. names_of count b) (is ∙ sym (append-nil (names_bytes found))) ∙ ap (λ n. names_of n (names_bytes found ++ [])) (sym read.fits.0)
    ∙ names_of-bytes found []

-- what the bytes of names say, where there are some: the first name, and the bytes of so many others
pub record FirstName (count rest : ℕ) (bytes : List ℕ) : Type 0 where
  pub counts : 1 ≤ count
  pub within : get_or bytes 0 0 ≤ length (drop 1 bytes)
  pub is : names_of count bytes ≡ take (get_or bytes 0 0) (drop 1 bytes) ∷ names_of rest (drop (get_or bytes 0 0) (drop 1 bytes))
  pub others : SpellsNames rest (drop (get_or bytes 0 0) (drop 1 bytes))

first_of : (count len : ℕ) (behind : List ℕ) → SpellsNames (suc count) (len ∷ behind) → FirstName (suc count) count (len ∷ behind)
first_of count len behind spells =
    let name : List ℕ = take len behind in
    let names : List (List ℕ) = names_of count (drop len behind) in
    let whole : name_bytes name ++ names_bytes names ≡ len ∷ behind = spells.whole in
    let size : length name ≡ len = cc in
    let text : name ++ names_bytes names ≡ behind = cc in
    record {
      counts = omega arith;
      within = omega (arith, size, length-take len behind);
      is = refl;
      others = record {
        names = (omega (arith, spells.names.0), All-tail IsName name names spells.names.1);
        whole = append_cancel_left name (names_bytes names) (drop len behind) (text ∙ sym (take-append-drop len behind));
      };
    }

pub first_name : (count : ℕ) (bytes : List ℕ) → 1 ≤ length bytes → SpellsNames count bytes → FirstName count (count - 1) bytes
first_name count [] some spells = absurd (omega arith)
first_name zero (len ∷ behind) some spells = absurd (let none : [] ≡ len ∷ behind = spells.whole in cc)
first_name (suc count) (len ∷ behind) some spells =
    let less : count ≡ suc count - 1 = omega arith in subst (λ n. FirstName (suc count) n (len ∷ behind)) less (first_of count len behind spells)
