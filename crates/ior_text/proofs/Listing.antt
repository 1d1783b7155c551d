-- The addresses of a list, one behind the other.
use Rattle.std.proofs.Common.{◌≡◌, ℕ, ◌+◌, ◌-◌, ◌≤◌, List, [], ◌∷◌, ◌++◌, length, Some, None, Result, Ok, Err, refl, sym, ◌∙◌, ap, arith, append_assoc}
use Rattle.ior_text.specs.declared.address.Address.{Address}
use Rattle.ior_text.specs.declared.corbaloc_fault.LocFault.{LocFault}
use Rattle.ior_text.specs.declared.corbaloc_fault.LocFault.TheVariants.{BadAddress}
use Rattle.ior_text.specs.Cut.{before, behind}
use Rattle.ior_text.specs.Address.{address_of}
use Rattle.ior_text.specs.CorbalocText.{listed_at}
use Rattle.ior_text.specs.Gives.{◌>>=◌}
use Rattle.ior_text.proofs.Cutting.{first_part, one_part, more_parts, lengths}

-- addresses in front of those that were read behind them
abbrev pub found_before : List Address → Result (List Address) LocFault → Result (List Address) LocFault
found_before found (Ok addresses) = Ok (found ++ addresses)
found_before found (Err fault) = Err fault

pub found_before-nil : (more : Result (List Address) LocFault) → more ≡ found_before [] more
found_before-nil (Ok addresses) = refl
found_before-nil (Err fault) = refl

pub found_before-append :
    (found : List Address) (address : Address) (more : Result (List Address) LocFault) →
    found_before found (found_before (address ∷ []) more) ≡ found_before (found ++ address ∷ []) more
found_before-append found address (Ok addresses) = ap (λ (l : List Address). Ok l) (sym (append_assoc found (address ∷ []) addresses))
found_before-append found address (Err fault) = refl

then_first :
    (address : Address) (more : Result (List Address) LocFault) →
    (more >>= (λ addresses. Ok (address ∷ addresses))) ≡ found_before (address ∷ []) more
then_first address (Ok addresses) = refl
then_first address (Err fault) = refl

-- a list whose first part is no address
wrong_first : (at : ℕ) (list : List ℕ) → address_of (before 44 list) ≡ None → listed_at at list ≡ Err (BadAddress at)
wrong_first at list none = let first = first_part 44 list in rw (first.1, none) refl

-- a list of one address
pub one_listed :
    (at : ℕ) (list : List ℕ) (address : Address) → address_of (before 44 list) ≡ Some address → behind 44 list ≡ None →
    listed_at at list ≡ Ok (address ∷ [])
one_listed at list address is none = rw (one_part 44 list none, is) refl

-- a list of an address and others
pub more_listed :
    (at : ℕ) (list rest : List ℕ) (address : Address) → address_of (before 44 list) ≡ Some address →
    behind 44 list ≡ Some rest →
    listed_at at list ≡ found_before (address ∷ []) (listed_at (at + length (before 44 list) + 1) rest)
more_listed at list rest address is some =
    rw (more_parts 44 list rest some, is) (then_first address (listed_at (at + length (before 44 list) + 1) rest))

-- some addresses of a list that ends at a place were found, and the rest is still to be read
pub record FoundSome (end : ℕ) (list rest : List ℕ) (found : List Address) : Type 0 where
  pub inside : length rest ≤ end
  pub so_far : listed_at (end - length list) list ≡ found_before found (listed_at (end - length rest) rest)

pub found_none : (end : ℕ) (list : List ℕ) → length list ≤ end → FoundSome end list list []
found_none end list inside = record { inside = inside; so_far = found_before-nil (listed_at (end - length list) list) }

pub found_wrong :
    (end : ℕ) (list rest : List ℕ) (found : List Address) → FoundSome end list rest found →
    address_of (before 44 rest) ≡ None → listed_at (end - length list) list ≡ Err (BadAddress (end - length rest))
found_wrong end list rest found some none =
    some.so_far ∙ ap (found_before found) (wrong_first (end - length rest) rest none)

pub found_all :
    (end : ℕ) (list rest : List ℕ) (found : List Address) (address : Address) → FoundSome end list rest found →
    address_of (before 44 rest) ≡ Some address → behind 44 rest ≡ None →
    listed_at (end - length list) list ≡ Ok (found ++ address ∷ [])
found_all end list rest found address some is none =
    some.so_far ∙ ap (found_before found) (one_listed (end - length rest) rest address is none)

pub found_more :
    (end : ℕ) (list rest after : List ℕ) (found : List Address) (address : Address) → FoundSome end list rest found →
    address_of (before 44 rest) ≡ Some address → behind 44 rest ≡ Some after →
    FoundSome end list after (found ++ address ∷ [])
found_more end list rest after found address some is more =
    let sizes : length rest ≡ length (before 44 rest) + 1 + length after = lengths 44 rest after more in
    let bound : length rest ≤ end = some.inside in
    let place : end - length rest + length (before 44 rest) + 1 ≡ end - length after = omega arith in
    record {
      inside = omega arith;
      so_far = some.so_far ∙ ap (found_before found) (more_listed (end - length rest) rest after address is more)
          ∙ found_before-append found address (listed_at (end - length rest + length (before 44 rest) + 1) after)
          ∙ ap (λ (at : ℕ). found_before (found ++ address ∷ []) (listed_at at after)) place;
    }
