-- Where components are due and can't be read.
use Rattle.std.proofs.Common.{◌≡◌, ◌≢◌, ℕ, ◌<◌, List, length, arith, sym, subst, ◌⊎◌, inl, inr}
use Rattle.cdr_core.specs.declared.CdrFault.{CdrFault}
use Rattle.cdr_core.specs.declared.CdrFault.TheVariants.{WantMemory}
use Rattle.cdr_core.specs.Kind.{ULong}
use Rattle.cdr_core.specs.Field.{ulong}
use Rattle.cdr_core.specs.Cursor.{Cursor, Reads}
use Rattle.cdr_core.specs.Refusal.{Refuses}
use Rattle.cdr_core.proofs.OneReading.{one_ulong_read}
use Rattle.cdr_core.proofs.Refusals.{none_where_refused}
use Rattle.poa_base.specs.declared.Profile.{Profile}
use Rattle.ior_text.specs.Breaking.{StopsBy}
use Rattle.ior_text.specs.Tagged.{ReadsProfiles, ProfilesBreak}
use Rattle.ior_text.specs.Components.{ReadsComponents, HasComponents}
use Rattle.ior_text.proofs.OneReading.{profiles_stand}

-- the count can't be read
pub none_counted : (c : Cursor) (fault : CdrFault) → Refuses ULong c fault → HasComponents c → ⊥
none_counted c fault refused has = none_where_refused (ulong (length has.0)) c has.1.counted fault refused has.1.count

-- one of so many can't be read
pub none_there : (c counted : Cursor) (n at : ℕ) → Reads (ulong n) c counted → ProfilesBreak n counted at → HasComponents c → ⊥
none_there c counted n at count breaks has =
    let same = one_ulong_read n (length has.0) c counted has.1.counted count has.1.count in
    let fewer : length breaks.found < length has.0 = omega (arith, breaks.fewer, same.0) in
    profiles_stand has.0 breaks.found has.1.counted has.1.after breaks.behind at fewer has.1.each
    (subst (λ (x : Cursor). ReadsProfiles breaks.found x breaks.behind) same.1 breaks.read) breaks.breaks

pub none_where_stopped : (c counted after : Cursor) (n : ℕ) (fault : CdrFault) → Reads (ulong n) c counted → StopsBy (ProfilesBreak n counted) after fault
    → fault ≢ WantMemory → HasComponents c → ⊥
none_where_stopped c counted after n fault count (inl memory) other has = other memory
none_where_stopped c counted after n fault count (inr breaks) other has = none_there c counted n after.place count breaks has

-- the count, and so many components
pub counted_read : (c counted after : Cursor) (n : ℕ) (components : List Profile) → Reads (ulong n) c counted → length components ≡ n
    → ReadsProfiles components counted after → ReadsComponents components c
counted_read c counted after n components count len each = record {
  counted = counted;
  after = after;
  count = subst (λ (m : ℕ). Reads (ulong m) c counted) (sym len) count;
  each = each;
}
