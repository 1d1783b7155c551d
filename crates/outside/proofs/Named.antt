-- A look-up among the files that a map is seen as is the look-up in the map by its text keys.
use Rattle.std.proofs.Common.{◌≡◌, ℕ, List, [], ◌∷◌, Bool, true, false, cond, Option, Some, option_map, refl, map, ap, sym, ◌∙◌}
use Rattle.std.specs.Prelude.{String, Vec, string_bytes}
use Rattle.std.specs.declared.alloc.Global.{Global}
use Rattle.std.specs.Map.{lookup}
use Rattle.std.specs.BTreeMap.{BTreeMap, get_by_text, UpdatesBy}
use Rattle.std.specs.Cmp.Lexicographic.{slice_cmp}
use Rattle.std.specs.Ordering.{is_eq, nat_cmp}
use Rattle.std.specs.String.{string_cmp}
use Rattle.std.specs.Str.{bytes_eq}
use Rattle.std.proofs.lemmas.Map.Text.{is_eq-slice_cmp, btree_map_updates_text}
use Rattle.std.proofs.lemmas.Bool.{cond-true, cond-false, false_from_ne_true}
use Rattle.std.proofs.lemmas.Slice.Eq.{bytes_eq-Decides}
use Rattle.outside.specs.Memory.{File, content_of}

-- the entries of a map, as files
abbrev pub files_of : List (String Global × Vec ℕ Global) → List File
files_of entries = map (λ entry. (string_bytes entry.0, entry.1.items)) entries

-- the content that an entry is seen as
abbrev pub seen : Option (Vec ℕ Global) → Option (List ℕ)
seen found = option_map (λ content. content.items) found

seen-cond : (b : Bool) (x y : Option (Vec ℕ Global)) → seen (cond b x y) ≡ cond b (seen x) (seen y)
seen-cond true x y = refl
seen-cond false x y = refl

pub content_of-entries : (name : List ℕ) (entries : List (String Global × Vec ℕ Global))
    → content_of (files_of entries) name ≡ seen (lookup (λ k. is_eq (slice_cmp nat_cmp name (string_bytes k))) entries)
content_of-entries name [] = refl
content_of-entries name (e ∷ es) =
    rw (content_of-entries name es, is_eq-slice_cmp name (string_bytes e.0)) (sym (seen-cond (bytes_eq name (string_bytes e.0)) (Some e.1) _))

-- an insert changes the content of its name alone
pub content_of-insert : (name : List ℕ) (old new : BTreeMap (String Global) (Vec ℕ Global)) (content : Vec ℕ Global)
    → UpdatesBy string_cmp (λ k. slice_cmp nat_cmp name (string_bytes k)) old new (Some content) → (other : List ℕ)
    → content_of (files_of new.entries) other ≡ cond (bytes_eq name other) (Some content.items) (content_of (files_of old.entries) other)
content_of-insert name old new content updates other =
    content_of-entries other new.entries
    ∙ (ap seen (btree_map_updates_text name old new (Some content) updates other)
    ∙ (seen-cond (bytes_eq name other) (Some content) (get_by_text old other)
    ∙ ap (λ (before : Option (List ℕ)). cond (bytes_eq name other) (Some content.items) before) (sym (content_of-entries other old.entries))))

-- the name holds what was put
pub content_of-insert_same : (name : List ℕ) (old new : BTreeMap (String Global) (Vec ℕ Global)) (content : Vec ℕ Global)
    → UpdatesBy string_cmp (λ k. slice_cmp nat_cmp name (string_bytes k)) old new (Some content) → (other items : List ℕ) → name ≡ other → content.items ≡ items
    → content_of (files_of new.entries) other ≡ Some items
content_of-insert_same name old new content updates other items same is =
    content_of-insert name old new content updates other
    ∙ (cond-true _ _ _ ((bytes_eq-Decides name other).1 same) ∙ ap (λ (bytes : List ℕ). Some bytes) is)

-- another name holds what it held
pub content_of-insert_other : (name : List ℕ) (old new : BTreeMap (String Global) (Vec ℕ Global)) (content : Vec ℕ Global)
    → UpdatesBy string_cmp (λ k. slice_cmp nat_cmp name (string_bytes k)) old new (Some content) → (other : List ℕ) → (name ≡ other → ⊥)
    → content_of (files_of new.entries) other ≡ content_of (files_of old.entries) other
content_of-insert_other name old new content updates other differs =
    content_of-insert name old new content updates other ∙ cond-false _ _ _ (false_from_ne_true _ (λ h. differs ((bytes_eq-Decides name other).0 h)))
