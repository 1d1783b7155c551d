-- What a text tells, part by part.
use Rattle.std.proofs.Common.{◌≡◌, ℕ, ◌+◌, ◌-◌, ◌≤◌, true, List, [], take, drop, length, Option, Some, None, Result, Ok, Err, refl, sym, ◌∙◌, ap, ap₂, ◌⊎◌, inl, inr, arith, take_all, length-drop}
use Rattle.std.specs.Prelude.{nat_eq, unwrap_or}
use Rattle.std.specs.Option.{option_copied}
use Rattle.std.specs.List.{starts_with}
use Rattle.std.specs.Borrow.{Bor}
use Rattle.ior_text.specs.declared.address.Address.{Address}
use Rattle.ior_text.specs.declared.location.Location.{Location}
use Rattle.ior_text.specs.declared.corbaloc_fault.LocFault.{LocFault}
use Rattle.ior_text.specs.declared.corbaloc_fault.LocFault.TheVariants.{WantMemory}
use Rattle.ior_text.specs.Cut.{before, behind}
use Rattle.ior_text.specs.KeyString.{key_at}
use Rattle.ior_text.specs.CorbalocText.{scheme, listed_at, key_behind, location_of}
use Rattle.ior_text.proofs.Cutting.{lengths}

abbrev location_with : List Address → List ℕ → Location
location_with addresses key = record { addresses = addresses; key = key }

-- a text with the scheme is what stands behind the scheme
all_behind : (text : List ℕ) → take (length text - 9) (drop 9 text) ≡ drop 9 text
all_behind text = take_all (length text - 9) (drop 9 text) (omega (arith, length-drop 9 text))

-- what was cut at the first `/` behind the scheme
pub record CutAtSlash (text list : List ℕ) (back : Option (List ℕ)) : Type 0 where
  pub starts : starts_with nat_eq text scheme ≡ true
  pub long : 9 ≤ length text
  pub before_slash : list ≡ before 47 (take (length text - 9) (drop 9 text))
  pub behind_slash : back ≡ behind 47 (take (length text - 9) (drop 9 text))

listed_here :
    (text list : List ℕ) (back : Option (List ℕ)) (read : Result (List Address) LocFault) → CutAtSlash text list back →
    listed_at (9 + length list - length list) list ≡ read → listed_at 9 (before 47 (drop 9 text)) ≡ read
listed_here text list back read parts is =
    let place : 9 + length list - length list ≡ 9 = omega arith in
    sym (ap₂ listed_at place (parts.before_slash ∙ ap (before 47) (all_behind text))) ∙ is

-- a place that is counted from the end of the text, counted from its beginning
key_here :
    (rest key_string : List ℕ) (end : ℕ) (back : Option (List ℕ)) → behind 47 rest ≡ back → key_string ≡ unwrap_or back [] →
    9 + length rest ≡ end → key_at (end - length key_string) key_string ≡ key_behind (9 + length (before 47 rest)) back
key_here rest key_string end None none is whole = ap (λ (k : List ℕ). key_at (end - length k) k) is
key_here rest key_string end (Some text) some is whole =
    let sizes : length rest ≡ length (before 47 rest) + 1 + length text = lengths 47 rest text some in
    let place : end - length text ≡ 9 + length (before 47 rest) + 1 = omega arith in
    ap (λ (k : List ℕ). key_at (end - length k) k) is ∙ ap (λ (p : ℕ). key_at p text) place

key_read :
    (text list key_string : List ℕ) (back : Option (List ℕ)) (read : Result (List ℕ) LocFault) → CutAtSlash text list back →
    key_string ≡ unwrap_or back [] → key_at (length text - length key_string) key_string ≡ read →
    key_behind (9 + length (before 47 (drop 9 text))) (behind 47 (drop 9 text)) ≡ read
key_read text list key_string back read parts is told =
    let stands : behind 47 (drop 9 text) ≡ back = sym (parts.behind_slash ∙ ap (behind 47) (all_behind text)) in
    let whole : 9 + length (drop 9 text) ≡ length text = omega (arith, length-drop 9 text, parts.long) in
    ap (key_behind (9 + length (before 47 (drop 9 text)))) stands
    ∙ sym (key_here (drop 9 text) key_string (length text) back stands is whole) ∙ told

-- a fault of the addresses is the text's
pub list_refused :
    (text list : List ℕ) (back : Option (List ℕ)) (fault : LocFault) → CutAtSlash text list back →
    ((fault ≡ WantMemory) ⊎ (listed_at (9 + length list - length list) list ≡ Err fault)) →
    (fault ≡ WantMemory) ⊎ (location_of text ≡ Err fault)
list_refused text list back fault parts (inl memory) = inl memory
list_refused text list back fault parts (inr wrong) =
    inr (rw (parts.starts, listed_here text list back (Err fault) parts wrong) refl)

-- a fault of the key string is the text's
pub key_refused :
    (text list key_string : List ℕ) (back : Option (List ℕ)) (addresses : List Address) (fault : LocFault) →
    CutAtSlash text list back → key_string ≡ unwrap_or back [] →
    listed_at (9 + length list - length list) list ≡ Ok addresses →
    ((fault ≡ WantMemory) ⊎ (key_at (length text - length key_string) key_string ≡ Err fault)) →
    (fault ≡ WantMemory) ⊎ (location_of text ≡ Err fault)
key_refused text list key_string back addresses fault parts is listed (inl memory) = inl memory
key_refused text list key_string back addresses fault parts is listed (inr wrong) =
    inr (rw (
      parts.starts,
      listed_here text list back (Ok addresses) parts listed,
      key_read text list key_string back (Err fault) parts is wrong,
    ) refl)

-- the addresses and the key are the text's location
pub both_told :
    (text list key_string : List ℕ) (back : Option (List ℕ)) (addresses : List Address) (key : List ℕ) →
    CutAtSlash text list back → key_string ≡ unwrap_or back [] →
    listed_at (9 + length list - length list) list ≡ Ok addresses →
    key_at (length text - length key_string) key_string ≡ Ok key → location_of text ≡ Ok (location_with addresses key)
both_told text list key_string back addresses key parts is listed told =
    rw (
      parts.starts,
      listed_here text list back (Ok addresses) parts listed,
      key_read text list key_string back (Ok key) parts is told,
    ) refl

-- what is lent, or nothing
pub lent :
    (back : Option (Bor (List ℕ))) (nothing lent_text : Bor (List ℕ)) → lent_text ≡ unwrap_or back nothing → nothing.now ≡ [] →
    lent_text.now ≡ unwrap_or (option_copied back) []
lent None nothing lent_text is empty = ap (λ (x : Bor (List ℕ)). x.now) is ∙ empty
lent (Some text) nothing lent_text is empty = ap (λ (x : Bor (List ℕ)). x.now) is
