-- A whole part that is no Fragment is a message, or begins one.
use Rattle.std.proofs.Common.{◌≡◌, ◌≢◌, ℕ, ◌≤◌, Bool, true, false, ◌||◌, not, cond, Option, Some, None, List, take, slice_index, bytes_eq, codes, nat_eq, nat_lt, refl, ◌∙◌, arith}
use Rattle.std.proofs.lemmas.Bool.{eqb-true, eqb-false, ltb-false}
use Rattle.std.proofs.lemmas.Slice.Eq.{bytes_eq-Decides}
use Rattle.giop_frame.specs.declared.why.Why.{Why}
use Rattle.giop_frame.specs.declared.why.Why.TheVariants.{BadMagic, BadVersion, BadType}
use Rattle.giop_frame.specs.Part.{header_of, continues}
use Rattle.giop_frame.specs.Open.{Opens}
use Rattle.giop_frame.specs.Rules.{foreign_fault, size_fault}
use Rattle.giop_frame.specs.Message.{IsMessage}
use Rattle.giop_frame.proofs.Looking.{IsWhole, first_none}

kind_is : (part : List ℕ) → (header_of part).kind ≡ slice_index part 7
unfolding header_of
kind_is part = refl

passed : (b : Bool) (why : Why) (f : Option Why) → cond (not b) (Some why) f ≡ None → (b ≡ true) × (f ≡ None)
passed true why f e = (refl, e)
passed false why f e = cc

not_passed : (b : Bool) (why : Why) → cond b (Some why) None ≡ None → b ≡ false
not_passed false why e = refl
not_passed true why e = cc

-- a number is this, and another isn't too large
none_of : (a b : Bool) (why : Why) (f : Option Why) → cond (not a || b) (Some why) f ≡ None → (a ≡ true) × (b ≡ false) × (f ≡ None)
none_of true true why f e = cc
none_of true false why f e = (refl, refl, e)
none_of false b why f e = cc

-- neither of two
neither : (a b : Bool) → (a || b) ≡ false → a ≡ false
neither true b e = cc
neither false b e = refl

pub message_from_whole : (limit : ℕ) (pending : Opens) (part : List ℕ) (n : ℕ) → IsWhole limit pending part n → continues (header_of part) ≡ false
    → IsMessage part
message_from_whole limit pending part n w first =
    let clean : foreign_fault part ≡ None = first_none (foreign_fault part) (size_fault limit pending (header_of part)) w.sound in
    let magic = passed (bytes_eq (take 4 part) (codes "GIOP")) BadMagic _ clean in
    let version = none_of (nat_eq (slice_index part 4) 1) (nat_lt 2 (slice_index part 5)) BadVersion _ magic.1 in
    let typed = neither (nat_lt 7 (slice_index part 7)) _ (not_passed _ BadType version.2) in
    let known : slice_index part 7 ≤ 7 = ltb-false 7 (slice_index part 7) typed in
    let other : slice_index part 7 ≢ 7 = λ (e : slice_index part 7 ≡ 7). eqb-false (header_of part).kind 7 first (kind_is part ∙ e) in
    record {
      header = w.header;
      magic = (bytes_eq-Decides (take 4 part) (codes "GIOP")).0 magic.0;
      major = eqb-true (slice_index part 4) 1 version.0;
      minor = ltb-false 2 (slice_index part 5) version.1;
      kind = omega arith;
    }
