-- Fields that were written one behind the other are read one behind the other.
use Rattle.std.proofs.Common.{◌≡◌, ℕ, ◌+◌, Bool, List, [], ◌∷◌, ◌++◌, length, refl, sym, ap, ◌∙◌, arith, append_assoc, length-append}
use Rattle.std.proofs.lemmas.List.{append-nil}
use Rattle.cdr_core.specs.Field.{Field, Fits}
use Rattle.cdr_core.specs.Spelling.{written}
use Rattle.cdr_core.specs.Cursor.{Cursor}
use Rattle.cdr_core.specs.Draft.{Draft, with_field}
use Rattle.cdr_core.proofs.OneReading.{same_cursor}
use Rattle.cdr_core.proofs.Written.{written_reads_back}
use Rattle.cdr_core.specs.Fields.{with_fields}
use Rattle.giop_msg.specs.Fields.{ReadsAll}

-- each field can be carried
abbrev pub AllFit : List Field → Type 0
AllFit [] = Unit {0}
AllFit (f ∷ fs) = Fits f × AllFit fs

-- the bytes of fields from a place on
abbrev pub written_all : Bool → ℕ → List Field → List ℕ
written_all little place [] = []
written_all little place (f ∷ fs) = written little place f ++ written_all little (place + length (written little place f)) fs

-- these are what writing them adds
pub with_fields-bytes : (fs : List Field) (d : Draft) → (with_fields fs d).bytes ≡ d.bytes ++ written_all d.little (d.base + length d.bytes) fs
with_fields-bytes [] d = sym (append-nil d.bytes)
with_fields-bytes (f ∷ fs) d =
    let w : List ℕ = written d.little (d.base + length d.bytes) f in
    let place : d.base + length (d.bytes ++ w) ≡ d.base + length d.bytes + length w = omega (arith, length-append d.bytes w) in
    with_fields-bytes fs (with_field f d)
    ∙ (ap (λ (n : ℕ). (d.bytes ++ w) ++ written_all d.little n fs) place
    ∙ append_assoc d.bytes w (written_all d.little (d.base + length d.bytes + length w) fs))

-- and what is read there
pub reads_written : (fs : List Field) (c after : Cursor) → AllFit fs → c.rest ≡ written_all c.little c.place fs ++ after.rest → after.little ≡ c.little
    → after.place ≡ c.place + length (written_all c.little c.place fs) → ReadsAll fs c after
reads_written [] c after fit split little place = same_cursor after c little (omega (arith, place)) (sym split)
reads_written (f ∷ fs) c after fit split little place =
    let w : List ℕ = written c.little c.place f in
    let later : List ℕ = written_all c.little (c.place + length w) fs in
    let behind : Cursor = record { little = c.little; place = c.place + length w; rest = later ++ after.rest } in (
      behind,
      (
        written_reads_back f c (later ++ after.rest) fit.0 (split ∙ append_assoc w later after.rest),
        reads_written fs behind after fit.1 refl little (omega (arith, place, length-append w later)),
      ),
    )
