-- No change reaches an activation that is forgotten.
use Rattle.std.specs.Prelude.{◌≡◌, ℕ, Bool, true, false, not, ◌&&◌, ◌||◌, ◌==◌, if◌then◌else◌, List, [], ◌∷◌, map, refl}
use Rattle.std.proofs.Common.{sym, ap, ap₂, ◌∙◌}
use Rattle.poa_base.specs.declared.Config.{Config}
use Rattle.history_standing.specs.declared.node.Node.{Node}
use Rattle.history_standing.specs.Nodes.{stands_under}
use Rattle.history_standing.specs.declared.activation.Activation.{Activation}
use Rattle.history_standing.specs.declared.activation.Phase.{Phase}
use Rattle.history_standing.specs.declared.activation.Phase.TheVariants.{Begun, Complete, Void}
use Rattle.history_standing.specs.Changes.{at_number, come_to, ended_by_destroy, is_elsewhere, with_activations}
use Rattle.history_standing.specs.Ends.{is_left, let_out}
use Rattle.history_standing.specs.Standings.{Standing, is_mapped, has_servant, is_of}
use Rattle.history_standing.specs.Templates.{has_activator, manager_at}
use Rattle.core_standing.specs.declared.standing.Standing.{Standing as Held}
use Rattle.core_standing.specs.Seen.{forgotten, behind, seen}
use Rattle.active_map.specs.Tables.{Table}
use Rattle.core_standing.proofs.Behind.{any_behind, map_behind, second_fails}

-- each activation of a table is changed, and so each that is seen
pub changed_each : (s : Held) (t : Table) (f : Activation → Activation) → f forgotten ≡ forgotten
    → t ≡ record s.activations { kept = map f s.activations.kept }
    → record (seen s) { activations = behind t.forgotten t.kept } ≡ with_activations f (seen s)
changed_each s t f same is =
    ap (λ (u : Table). record (seen s) { activations = behind u.forgotten u.kept }) is
    ∙ ap (λ as'. record (seen s) { activations = as' }) (map_behind f same s.activations.forgotten s.activations.kept)

-- where a change leaves it, the change where a test says so leaves it too
pub still_where : (b : Bool) (a : Activation) → a ≡ forgotten → (if b then a else forgotten) ≡ forgotten
still_where true a same = same
still_where false a same = refl

pub still_come : (n : ℕ) (phase : Phase) → at_number n (come_to phase) forgotten ≡ forgotten
still_come n phase = still_where (forgotten.number == n) forgotten refl

pub still_told : (n : ℕ) → at_number n (λ a. record a { etherealized = true }) forgotten ≡ forgotten
still_told n = still_where (forgotten.number == n) forgotten refl

-- its servant is nowhere
nowhere : (as' : List Activation) → is_elsewhere as' forgotten ≡ false
nowhere [] = refl
nowhere (b ∷ as') = ap₂ (λ x y. x || y) (none (not (b.number == forgotten.number)) (b.adapter == forgotten.adapter) (is_mapped b)) (nowhere as')
  where
    none : (x y z : Bool) → (x && (y && (z && false))) ≡ false
    none true true true = refl
    none true true false = refl
    none true false z = refl
    none false y z = refl

pub still_taken : (n : ℕ) (as' : List Activation) → at_number n (λ a. record a { out = true; remaining = is_elsewhere as' a }) forgotten ≡ forgotten
still_taken n as' =
    still_where (forgotten.number == n) (record forgotten { out = true; remaining = is_elsewhere as' forgotten })
    (ap (λ b. record forgotten { remaining = b }) (nowhere as'))

pub still_below : (ns : List Node) (p : List (List ℕ)) (etherealize : Bool)
    → (if stands_under ns p forgotten.adapter then ended_by_destroy etherealize forgotten else forgotten) ≡ forgotten
still_below ns p etherealize = still_where (stands_under ns p forgotten.adapter) forgotten refl

pub still_off : (c : Config) (m : ℕ)
    → (if has_activator c forgotten.path && (manager_at c forgotten.path == m) then ended_by_destroy true forgotten else forgotten) ≡ forgotten
still_off c m = still_where (has_activator c forgotten.path && (manager_at c forgotten.path == m)) forgotten refl

pub still_ending : (k : ℕ) (oid : List ℕ) → (if is_of k oid forgotten then record forgotten { ending = true } else forgotten) ≡ forgotten
still_ending k oid = still_where (is_of k oid forgotten) forgotten refl

pub still_in : (c : Config) (s : Standing) → let_out c s forgotten ≡ forgotten
still_in c s = still_where (is_left c s forgotten) forgotten refl

-- a servant is elsewhere among those that are kept where it is among all
pub elsewhere_behind : (n : ℕ) (kept : List Activation) (a : Activation) → is_elsewhere kept a ≡ is_elsewhere (behind n kept) a
elsewhere_behind n kept a =
    sym (any_behind
    (λ b. not (b.number == a.number) &&
    ((b.adapter == a.adapter) && (is_mapped b && (elim a.phase [ Complete s ↦ has_servant s b | Begun ↦ false | Void ↦ false ]))))
    (second_fails (not (forgotten.number == a.number)) _ (second_fails (forgotten.adapter == a.adapter) _ refl)) n kept)

pub takes_alike : (n : ℕ) (some all : List Activation) → ((a : Activation) → is_elsewhere some a ≡ is_elsewhere all a) → (as' : List Activation)
    → map (at_number n (λ a. record a { out = true; remaining = is_elsewhere some a })) as' ≡ map
    (at_number n (λ a. record a { out = true; remaining = is_elsewhere all a })) as'
takes_alike n some all alike [] = refl
takes_alike n some all alike (a ∷ as') =
    ap₂ (λ b bs. b ∷ bs) (ap (λ b. if a.number == n then record a { out = true; remaining = b } else a) (alike a)) (takes_alike n some all alike as')
