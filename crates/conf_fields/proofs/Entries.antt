-- The entries of an array of tables, read one after another.
use Rattle.std.proofs.Common.{◌≡◌, ℕ, suc, ◌+◌, ◌<◌, List, [], ◌∷◌, ◌++◌, length, drop, get_or, Result, Ok, refl, ap, sym, ◌∙◌, length-append}
use Rattle.toml.specs.declared.value.Value.{Value}
use Rattle.toml.specs.View.{view, items_view}
use Rattle.toml.specs.Data.{Data}
use Rattle.toml.proofs.Views.{items_view-drop}
use Rattle.conf_fields.specs.Entries.{entries_of}
use Rattle.conf_fields.specs.declared.fault.ConfFault.{ConfFault}
use Rattle.conf_fields.specs.Look.{item_count}

pub count_of_items : (vs : List Value) → item_count (items_view vs) ≡ length vs
count_of_items [] = refl
count_of_items (v ∷ vs) = ap suc (count_of_items vs)

-- the first i entries have been read
pub record Reached {A : Type 0} (one : List A → Data → Result A ConfFault) (vs : List Value) (i : ℕ) (done : List A) : Type 0 where
  pub count : length done ≡ i
  pub same : entries_of one done (items_view (drop i vs)) ≡ entries_of one [] (items_view vs)

-- one more was read
pub reached_more : {A : Type 0} (one : List A → Data → Result A ConfFault) (vs : List Value) (i : ℕ) (done : List A) (v : Value) (x : A)
    → i < length vs → v ≡ get_or vs i v → Reached one vs i done → one done (view v) ≡ Ok x → Reached one vs (i + 1) (done ++ x ∷ [])
reached_more one vs i done v x lt is inv here = record {
  count = rw length-append (ap (λ n. n + 1) inv.count);
  same = sym (rw (items_view-drop vs i v lt, ← is, here)) ∙ inv.same;
}
