-- Numbers of calls.
use Rattle.std.specs.Prelude.{◌≡◌, ℕ, ◌<◌, ◌≤◌, ◌==◌, Bool, true}
use Rattle.std.specs.List.{list_any}
use Rattle.std.specs.BinaryHeap.{heap_items, heap_len, heap_capacity}
use Rattle.std.specs.declared.collections.binary_heap.BinaryHeap.{BinaryHeap}
use Rattle.std.specs.declared.cmp.Reverse.{Reverse}
use Rattle.std.specs.declared.alloc.Global.{Global}

abbrev pub Heap : Type 0
Heap = BinaryHeap (Reverse ℕ) Global

-- the number is one of them
abbrev pub has : Heap → ℕ → Bool
has heap r = list_any (λ x. x.0 == r) (heap_items heap)

-- one more takes no memory
abbrev pub HasRoom : Heap → Type 0
HasRoom heap = heap_len heap < heap_capacity heap

-- it is the least of them
abbrev pub IsLeast : Heap → ℕ → Type 0
IsLeast heap x = (has heap x ≡ true) × ((r : ℕ) → has heap r ≡ true → x ≤ r)
