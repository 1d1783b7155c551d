-- Entries counted one behind the other.
use Rattle.std.proofs.Common.{◌≡◌, ℕ, suc, ◌+◌, ◌<◌, Bool, if◌then◌else◌, List, [], ◌∷◌, ◌++◌, length, take, reverse, Option, Some, None, refl, sym, ap, ◌∙◌}
use Rattle.std.proofs.lemmas.List.{reverse-append}
use Rattle.std.specs.List.{slice_get}
use Rattle.poa_base.specs.declared.Entry.{Entry}
use Rattle.journal_entries.proofs.Rowing.{none_here, taken_more}
use Rattle.poad_load.specs.Counts.{count, is_such}

-- one entry more is counted where it is such
pub counted_more : (is : Entry → Bool) (es : List Entry) (i : ℕ) (o : Option Entry) → i < length es → o ≡ slice_get es i
    → count is (reverse (take (i + 1) es)) ≡ (if is_such is o then suc (count is (reverse (take i es))) else count is (reverse (take i es)))
counted_more is es i (Some e) less here =
    ap (count is) (ap reverse (sym (taken_more es (take i es) (take i es ++ e ∷ []) i e refl refl here)) ∙ reverse-append (take i es) (e ∷ []))
counted_more is es i None less here = absurd (none_here es i less here)
