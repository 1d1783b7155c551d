-- What stands after a history: adapters, what is in flight, activations (CORBA 3.3 Part 1, sections 15.2 and 15.3).
use Rattle.std.specs.Prelude.{ℕ, Bool, true, false, not, ◌&&◌, ◌==◌, List, Some, None}
use Rattle.std.specs.List.{list_any}
use Rattle.poa_base.specs.declared.Sid.{Sid}
use Rattle.poa_base.specs.declared.Sid.TheVariants.{Named, Fresh}
use Rattle.history_standing.specs.declared.node.Node.{Node}
use Rattle.history_standing.specs.declared.flight.Flight.{Flight}
use Rattle.history_standing.specs.declared.activation.Activation.{Activation}
use Rattle.history_standing.specs.declared.activation.Phase.TheVariants.{Begun, Complete, Void}
use Rattle.history_standing.specs.Paths.{same_bytes, same_path}

pub record Standing : Type 0 where
  -- the adapters that were created and aren't gone, in the order of their creation
  pub nodes : List Node
  -- how many adapters were created
  pub count : ℕ
  -- how many system-made object ids were made
  pub made : ℕ
  -- the requests and trials in flight
  pub flights : List Flight
  -- the activations, in the order in which they were begun
  pub activations : List Activation

abbrev pub is_complete : Activation → Bool
is_complete a = elim a.phase [ Complete s ↦ true | Begun ↦ false | Void ↦ false ]

abbrev pub is_void : Activation → Bool
is_void a = elim a.phase [ Void ↦ true | Begun ↦ false | Complete s ↦ false ]

abbrev pub is_begun : Activation → Bool
is_begun a = elim a.phase [ Begun ↦ true | Complete s ↦ false | Void ↦ false ]

-- an activation that isn't void is ending once it was deactivated, or its adapter destroyed, or its manager so deactivated
abbrev pub is_ending : Activation → Bool
is_ending a = a.ending && not (is_void a)

-- the id can be served by this activation
abbrev pub is_active : Activation → Bool
is_active a = is_complete a && not a.ending

-- the servant is in the active object map by this activation
abbrev pub is_mapped : Activation → Bool
is_mapped a = is_complete a && not a.out

abbrev pub same_servant : Sid → Sid → Bool
same_servant (Named j) (Named k) = j == k
same_servant (Fresh m) (Fresh n) = m == n
same_servant s t = false

-- the activation has this servant
abbrev pub has_servant : Sid → Activation → Bool
has_servant s a = elim a.phase [ Complete t ↦ same_servant t s | Begun ↦ false | Void ↦ false ]

-- the activation is of this id of this adapter
abbrev pub is_of : ℕ → List ℕ → Activation → Bool
is_of k oid a = (a.adapter == k) && same_bytes a.oid oid

-- the servant is in the map of the adapter
abbrev pub is_in_map : List Activation → ℕ → Sid → Bool
is_in_map activations k s = list_any (λ a. (a.adapter == k) && (is_mapped a && has_servant s a)) activations

-- a request is in flight in the activation
abbrev pub is_used : List Flight → ℕ → Bool
is_used fs n = list_any (λ f. elim f.activation [ Some m ↦ m == n | None ↦ false ]) fs

-- a request is in flight in the adapter
abbrev pub is_running : List Flight → ℕ → Bool
is_running fs k = list_any (λ f. (f.adapter == k) && (elim f.child [ None ↦ true | Some p ↦ false ])) fs

-- a request or a trial is in flight in the adapter
abbrev pub has_flights : List Flight → ℕ → Bool
has_flights fs k = list_any (λ f. f.adapter == k) fs

-- a trial of the missing child is in flight
abbrev pub is_tried : List Flight → List (List ℕ) → Bool
is_tried fs p = list_any (λ f. elim f.child [ Some q ↦ same_path q p | None ↦ false ]) fs
