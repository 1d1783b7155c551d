-- What goes on in a second run.
use Rattle.std.proofs.Common.{◌≡◌, ℕ, List, [], ◌∷◌, ◌++◌, Option, Some, inl, inr, refl, sym, ap, ap₂, ◌∙◌}
use Rattle.history_laws.specs.OneLine.{replies_by, state_after}
use Rattle.history_laws.specs.Lasting.{KeepsUpdates}
use Rattle.history_laws.proofs.Lasting.{keeps_updates}
use Rattle.history_laws.proofs.Opened.{alone, given, within}
use Rattle.history_standing.specs.Trees.{In}
use Rattle.history_standing.specs.declared.activation.Activation.{Activation}
use Rattle.poa_base.specs.declared.Call.{Call}
use Rattle.poa_base.specs.declared.Kind.{Kind}
use Rattle.poa_base.specs.declared.Reply.{Reply}
use Rattle.poa_base.specs.declared.Reply.TheVariants.{Outcome as Ended}
use Rattle.poa_base.specs.declared.State.{State}
use Rattle.history_standing.specs.Changes.{standing}
use Rattle.poa_history.specs.States.{acted, restored, stored}
use Rattle.history_laws.specs.Restarts.{GoesOn, IsStoredAt, IsUntouched, KeepsOn, OneRun, RepliesOn, StandsOn, calls, opening, state_at}
use Rattle.history_laws.proofs.KindStays.{restored_after}
use Rattle.history_laws.proofs.Untouched.{calls_untouched, stored_untouched}

after_append : (first : State) (xs ys : List (Option Call)) → state_after first (xs ++ ys) ≡ state_after (state_after first ys) xs
after_append first [] ys = refl
after_append first (x ∷ xs) ys = ap (λ (s : State). (acted s x).0) (after_append first xs ys)

replies_append : (first : State) (xs ys : List (Option Call)) → replies_by first (xs ++ ys) ≡ replies_by (state_after first ys) xs ++ replies_by first ys
replies_append first [] ys = refl
replies_append first (x ∷ xs) ys =
    ap₂ (λ (s : State) (more : List (Option Reply)). Some (Ended (acted s x).1) ∷ more) (after_append first xs ys) (replies_append first xs ys)

module _ (kind : Kind) (p : List (List ℕ)) (oid : List ℕ) where
  updates : (r : OneRun kind p oid) → KeepsUpdates r.c r.run r.opened r.h
  updates r = keeps_updates r.c r.run r.limit r.h r.is_run r.opened

  -- what a run leaves stored
  stored_state : (r : OneRun kind p oid) → IsStoredAt kind p oid r
      → stored r.c r.run r.opened r.h p oid ≡ Some (state_after (opening kind p oid r) (calls kind p oid r))
  stored_state r at =
      (updates r).kept kind p oid r.brings r.incarnated at.one at.of_id.there at.of_id.on_path at.of_id.on_oid at.told
      (λ b there on_path on_oid. at.over b (record { there = there; on_path = on_path; on_oid = on_oid }))

  -- where nothing was begun in it nothing ran and nothing was stored
  module _ (r : OneRun kind p oid) (none : IsUntouched kind p oid r) where
    none_begun : (a : Activation) → In a (standing r.c r.run r.h).activations → a.path ≡ p → a.oid ≡ oid → ⊥
    none_begun a there on_path on_oid = none a (record { there = there; on_path = on_path; on_oid = on_oid })

    untouched_stored : stored r.c r.run r.opened r.h p oid ≡ r.opened p oid
    untouched_stored =
        stored_untouched r.c r.run r.limit (given r.c r.run r.limit r.h r.is_run) (alone r.c r.run r.limit r.h r.is_run)
        (within r.c r.run r.limit r.h r.is_run) r.opened kind p oid r.brings r.h none_begun

    untouched_calls : calls kind p oid r ≡ []
    untouched_calls =
        calls_untouched r.c r.run r.limit (given r.c r.run r.limit r.h r.is_run) (alone r.c r.run r.limit r.h r.is_run)
        (within r.c r.run r.limit r.h r.is_run) r.opened kind p oid r.brings r.h r.is_run.legal none_begun

  module _ (first second : OneRun kind p oid) (on : GoesOn kind p oid first second) where
    opens : opening kind p oid second ≡ state_after (opening kind p oid first) (calls kind p oid first)
    opens =
        elim on.rests [
          | inl at ↦ ap (restored kind) (on.opens ∙ stored_state first at) ∙ restored_after kind (first.opened p oid) (calls kind p oid first)
          | inr none ↦ ap (restored kind) (on.opens ∙ untouched_stored first none)
              ∙ ap (state_after (opening kind p oid first)) (sym (untouched_calls first none))
        ]

    comes_to : state_after (opening kind p oid second) (calls kind p oid second) ≡ state_at kind p oid first second
    comes_to =
        ap (λ (s : State). state_after s (calls kind p oid second)) opens
        ∙ sym (after_append (opening kind p oid first) (calls kind p oid second) (calls kind p oid first))

    pub replies_on_both : RepliesOn kind p oid first second
    replies_on_both =
        ap₂ (λ (xs ys : List (Option Reply)). xs ++ ys)
        ((updates second).line kind p oid second.brings second.incarnated ∙ ap (λ (s : State). replies_by s (calls kind p oid second)) opens)
        ((updates first).line kind p oid first.brings first.incarnated)
        ∙ sym (replies_append (opening kind p oid first) (calls kind p oid second) (calls kind p oid first))

    pub stands_on : StandsOn kind p oid first second
    stands_on a of_id complete untold =
        (updates second).state kind p oid second.brings second.incarnated a of_id.there of_id.on_path of_id.on_oid complete untold ∙ comes_to

    pub keeps_on : IsStoredAt kind p oid second → KeepsOn kind p oid first second
    keeps_on at = stored_state second at ∙ ap (λ (s : State). Some s) comes_to
