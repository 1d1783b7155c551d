-- The rule in the words of who reads it: the words, the slot, the views, and one history.
use Rattle.std.specs.Prelude.{◌≡◌, ℕ, ◌+◌, ◌%◌, ◌^◌, ◌<◌, ◌≤◌, ◌↔◌, ◌==◌, cond, List, [], ◌∷◌, length, Option, Some, slice_index}
use mathlib.Core.Option.{some}
use lib.ListN.{get_elem?}
use Rattle.atomic_table.specs.Table.{State}
use Rattle.seat_lock.specs.declared.view.Stage.TheVariants.{Turn, Spent}
use Rattle.seat_lock.specs.declared.view.View.{View}
use Rattle.seat_lock.specs.Histories.{total, times, In, IsPrefix, IsClosed, OwnsAll}
use Rattle.seat_lock.specs.Views.{in_use, holding, tickets, weight}

module _ {G E : Type 0} where
  -- 1 where the view holds this ticket
  abbrev pub has_ticket : ℕ → View G E → ℕ
  has_ticket n v = cond (v.ticket == n) (holding v.stage) 0

  -- some view has the turn
  abbrev pub SomeTurn : List (View G E) → Type 0
  SomeTurn views = (j : ℕ) × (v : View G E) × (get_elem? views j ≡ some v) × (v.stage ≡ Turn)

module _ {T G E : Type 0} (givens : T → G) (history : T → List E) (owner : E → Option ℕ) (all : G) (base : ℕ)
    (s : State (Option T) (View G E)) where
  -- the one history: of the value where that is home, and else the one that the view with the turn keeps
  pub record IsHistory (log : List E) : Type 0 where
    pub at_home : (x : T) → s.homes ≡ some (Some x) ∷ [] → history x ≡ log
    pub taken : (j : ℕ) (v : View G E) → get_elem? s.views j ≡ some v → v.stage ≡ Turn → v.kept ≡ log

  pub record Parts : Type 0 where
    pub log : List E
    pub one_history : IsHistory log
    -- the next ticket is the served number plus the number of views with a ticket
    pub next_ticket : slice_index s.words 1 ≡ (slice_index s.words 0 + total tickets s.views) % 2 ^ 64
    -- the tickets are the numbers from the served one to below the next one, each in exactly one view
    pub tickets_between : (j : ℕ) (v : View G E) → get_elem? s.views j ≡ some v → holding v.stage ≡ 1 → (k : ℕ)
        × (k < total tickets s.views) × (v.ticket ≡ (slice_index s.words 0 + k) % 2 ^ 64)
    pub tickets_once : (k : ℕ) → k < total tickets s.views → total (has_ticket ((slice_index s.words 0 + k) % 2 ^ 64)) s.views ≡ 1
    -- the views that aren't spent and the rooms are 1,025 together
    pub rooms : total weight s.views ≡ 1025
    -- a view that has the turn holds the ticket that is served
    pub turn_is_served : (j : ℕ) (v : View G E) → get_elem? s.views j ≡ some v → v.stage ≡ Turn → v.ticket ≡ slice_index s.words 0
    -- the slot has the value exactly where no view has the turn
    pub slot_is_home : ((x : T) × (s.homes ≡ some (Some x) ∷ [])) ↔ (SomeTurn s.views → ⊥)
    -- what is seen begins the one history
    pub seen_begins : (j : ℕ) (v : View G E) → get_elem? s.views j ≡ some v → IsPrefix v.seen log
    -- no entry was made twice, and each that was made is one that the first value didn't have
    pub made_once : (x : ℕ) → total (λ v. times x v.mine) s.views ≤ 1
    pub made_is_new : (j x : ℕ) (v : View G E) → get_elem? s.views j ≡ some v → In x v.mine → (base ≤ x) × (x < length log)
    -- each entry that the first value didn't have was made by some view
    pub new_is_made : (x : ℕ) → base ≤ x → x < length log → (j : ℕ) × (v : View G E) × (get_elem? s.views j ≡ some v) × In x v.mine
    -- who made an entry of a connection made its entering entry
    pub each_closed : (j : ℕ) (v : View G E) → get_elem? s.views j ≡ some v → IsClosed owner log v.mine
    -- a spent view has nothing; it holds no ticket
    pub spent_is_empty : (j : ℕ) (v : View G E) → get_elem? s.views j ≡ some v → v.stage ≡ Spent → (holding v.stage ≡ 0) × (v.seen ≡ [])
        × (v.mine ≡ []) × (v.room ≡ 0)
    -- all others have the givens of the first value, and so has the value at home
    pub same_givens : (j : ℕ) (v : View G E) → get_elem? s.views j ≡ some v → in_use v.stage ≡ 1 → v.givens ≡ Some all
    pub home_givens : (x : T) → s.homes ≡ some (Some x) ∷ [] → givens x ≡ all
    -- so who made a connection's entering entry made every entry of it
    pub each_owns_all : (j : ℕ) (v : View G E) → get_elem? s.views j ≡ some v → OwnsAll owner log v.mine
