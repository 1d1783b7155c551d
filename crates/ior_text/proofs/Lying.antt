-- Where the object key lies in the data of its profile.
use Rattle.std.proofs.Common.{◌≡◌, ℕ, List, [], ◌∷◌, Bool, true, false, Some, None, refl, subst, arith}
use Rattle.std.specs.Prelude.{nat_lt, ◌==◌, if◌then◌else◌}
use Rattle.cdr_core.specs.Field.{octet, ushort, text}
use Rattle.cdr_core.specs.Cursor.{Cursor}
use Rattle.cdr_core.specs.Part.{IsSlice, StandsIn, counted_at}
use Rattle.cdr_core.proofs.Slices.{stands_behind, lies_in_message}
use Rattle.cdr_core.proofs.Lying.{octets_lie}
use Rattle.poa_base.specs.declared.Profile.{Profile}
use Rattle.ior_text.specs.declared.body.ProfileBody.{ProfileBody}
use Rattle.ior_text.specs.Encapsulated.{inside}
use Rattle.ior_text.specs.Body.{ReadsBody}
use Rattle.ior_text.specs.Key.{TellsKey}
use Rattle.ior_text.specs.Seen.{KeyLies}

-- the fields of an encapsulation stand in it behind its first octet
start_stands : (bytes : List ℕ) (start : Cursor) → inside bytes ≡ Some start → StandsIn bytes start
start_stands [] start e = absurd (cc)
start_stands (order ∷ rest) start e = by (nat_lt 1 order) e
  where
    first : Cursor
    first = record { little = order == 1; place = 1; rest = rest }

    by : (above : Bool) → (if above then None else Some first) ≡ Some start → StandsIn (order ∷ rest) start
    by true e = absurd (cc)
    by false e =
        let is : first ≡ start = cc in
        subst (StandsIn (order ∷ rest)) is (record { place = omega arith; rest = refl })

body_stands : (bytes : List ℕ) (body : ProfileBody) (c : Cursor) → StandsIn bytes c → (read : ReadsBody body c) → StandsIn bytes read.behind_port
body_stands bytes body c stands read =
    stands_behind bytes (ushort body.port) read.behind_host read.behind_port
    (stands_behind bytes (text body.host) read.behind_minor read.behind_host
    (stands_behind bytes (octet body.minor) read.behind_major read.behind_minor
    (stands_behind bytes (octet body.major) c read.behind_major stands read.major) read.minor) read.host) read.port

pub key_lies : (profile : Profile) (key : List ℕ) → TellsKey profile key → KeyLies profile key
key_lies profile key tells =
    let read = tells.has.encloses.read in
    let start = tells.has.encloses.start in
    let stands = body_stands profile.bytes tells.body start (start_stands profile.bytes start tells.has.encloses.opened) read in
    record {
      tells = tells;
      slice = subst (λ (k : List ℕ). IsSlice (counted_at read.behind_port.place) k profile.bytes) tells.is_key
          (lies_in_message profile.bytes tells.body.key (counted_at read.behind_port.place) read.behind_port stands
          (octets_lie tells.body.key read.behind_port read.behind_key read.key));
    }
