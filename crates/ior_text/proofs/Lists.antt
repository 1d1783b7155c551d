-- Of profiles that are read one behind the other, the one at an index.
use Rattle.std.proofs.Common.{◌≡◌, ◌≢◌, ℕ, ◌+◌, ◌<◌, List, [], ◌∷◌, ◌++◌, Option, Some, None, length, zero, suc, refl, sym, ◌∙◌, subst, arith, length-append, ◌⊎◌, inl, inr}
use Rattle.std.specs.Prelude.{slice_get}
use Rattle.std.proofs.lemmas.Option.{slice_get_past}
use Rattle.cdr_core.specs.Field.{text, ulong}
use Rattle.cdr_core.specs.Cursor.{Cursor, Reads}
use Rattle.poa_base.specs.declared.Profile.{Profile}
use Rattle.ior_text.specs.Tagged.{ReadsProfile, ProfileBreaks, ProfilesBreak}
use Rattle.ior_text.proofs.PushingFields.{reads_push}
use Rattle.ior_text.specs.Seen.{SeesProfile, SeesAmong}

-- what stands last, and what stands elsewhere
got_last : {X : Type 0} (xs : List X) (x : X) (i : ℕ) → i ≡ length xs → slice_get (xs ++ x ∷ []) i ≡ Some x
got_last [] x zero same = refl
got_last [] x (suc i) same = absurd (omega (arith, same))
got_last (y ∷ xs) x zero same = absurd (omega (arith, same))
got_last (y ∷ xs) x (suc i) same = got_last xs x i (omega (arith, same))

got_other : {X : Type 0} (xs : List X) (x : X) (i : ℕ) → i ≢ length xs → slice_get (xs ++ x ∷ []) i ≡ slice_get xs i
got_other [] x zero other = absurd (other refl)
got_other [] x (suc i) other = refl
got_other (y ∷ xs) x zero other = refl
got_other (y ∷ xs) x (suc i) other = got_other xs x i (λ same. other (omega (arith, same)))

-- one more profile, which is the one, or isn't
sees_last :
    (n index : ℕ) (found : Option Profile) (profile : Profile) (a b c : Cursor) → n ≡ index →
    SeesAmong n index found a b → ReadsProfile profile b c → SeesAmong (n + 1) index (Some profile) a c
sees_last n index found profile a b c same sees read = record {
  profiles = sees.profiles ++ profile ∷ [];
  counted = omega (arith, length-append sees.profiles (profile ∷ []), sees.counted);
  read = reads_push sees.profiles profile a b c sees.read read;
  is = sym (got_last sees.profiles profile index (omega (arith, same, sees.counted)));
}

sees_other :
    (n index : ℕ) (found : Option Profile) (profile : Profile) (a b c : Cursor) → n ≢ index →
    SeesAmong n index found a b → ReadsProfile profile b c → SeesAmong (n + 1) index found a c
sees_other n index found profile a b c other sees read = record {
  profiles = sees.profiles ++ profile ∷ [];
  counted = omega (arith, length-append sees.profiles (profile ∷ []), sees.counted);
  read = reads_push sees.profiles profile a b c sees.read read;
  is = sees.is ∙ sym (got_other sees.profiles profile index (λ (same : index ≡ length sees.profiles). other (omega (arith, same, sees.counted))));
}

pub sees_none : (index : ℕ) (c : Cursor) → SeesAmong 0 index None c c
sees_none index c = record { profiles = []; counted = refl; read = refl; is = sym (slice_get_past [] index (omega arith)) }

-- behind a type id and a count
pub reference_seen :
    (name : List ℕ) (count index : ℕ) (found : Option Profile) (a b c d : Cursor) → Reads (text name) a b →
    Reads (ulong count) b c → SeesAmong count index found c d → SeesProfile index found a d
reference_seen name count index found a b c d name_read count_read sees = record {
  ior = record { type_id = name; profiles = sees.profiles };
  read = record {
    named = b;
    counted = c;
    type_id = name_read;
    count = subst (λ (n : ℕ). Reads (ulong n) b c) (sym sees.counted) count_read;
    profiles = sees.read;
  };
  is = sees.is;
}

-- where the next profile can't be read
pub stops_among :
    (n count index : ℕ) (found : Option Profile) (a b : Cursor) (at : ℕ) → n < count → SeesAmong n index found a b →
    ProfileBreaks b at → ProfilesBreak count a at
stops_among n count index found a b at fewer sees breaks = record {
  found = sees.profiles;
  behind = b;
  read = sees.read;
  fewer = omega (arith, fewer, sees.counted);
  breaks = breaks;
}

-- what is found after one more profile
pub sees_next :
    (n index : ℕ) (found next : Option Profile) (profile : Profile) (a b c : Cursor) →
    ((n ≡ index) × (next ≡ Some profile)) ⊎ ((n ≢ index) × (next ≡ found)) → SeesAmong n index found a b →
    ReadsProfile profile b c → SeesAmong (n + 1) index next a c
sees_next n index found next profile a b c (inl is) sees read =
    subst (λ (o : Option Profile). SeesAmong (n + 1) index o a c) (sym is.1)
    (sees_last n index found profile a b c is.0 sees read)
sees_next n index found next profile a b c (inr is) sees read =
    subst (λ (o : Option Profile). SeesAmong (n + 1) index o a c) (sym is.1)
    (sees_other n index found profile a b c is.0 sees read)
