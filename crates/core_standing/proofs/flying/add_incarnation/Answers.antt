use Rattle.std.proofs.Common.{ℕ, false, ◌≡◌, ◌++◌, ◌∷◌, [], Some, None, ◌∙◌, ◌<◌, ap, ap₂, sym, subst, length, List}
use Rattle.poa_base.specs.declared.Key.{Key}
use Rattle.history_standing.specs.Walks.{walk, adapter_met}
use Rattle.history_standing.specs.declared.activation.Activation.{Activation}
use Rattle.history_standing.specs.declared.activation.Phase.TheVariants.{Begun}
use Rattle.history_standing.specs.declared.flight.Flight.{Flight}
use Rattle.history_standing.specs.Changes.{with_request}
use Rattle.core_standing.specs.Seen.{seen, behind}
use Rattle.active_map.specs.Tables.{Table}
use Rattle.core_standing.proofs.Behind.{length_behind, pushed_behind}
use Rattle.core_standing.proofs.flying.add_incarnation.Goals as goal

pub push-requires-clause-next : goal.push-requires-clause-next
push-requires-clause-next c =
    (let t = c.args.standing.now.activations in
    ap (λ (a : Activation). a.number) c.begun-activation.ensures ∙ c.in_ok-number.ensures.begun ∙ sym (length_behind t.forgotten t.kept))

pub push-requires-clause-few : goal.push-requires-clause-few
push-requires-clause-few c = subst (λ n. n < 4294967296) (sym (ap (λ (a : Activation). a.number) c.begun-activation.ensures)) c.in_ok-number.ensures.few

pub push-requires-clause-lasts : goal.push-requires-clause-lasts
push-requires-clause-lasts c = ap (λ (a : Activation). a.ending) c.begun-activation.ensures

pub returns-clause-ok : goal.returns-clause-ok
returns-clause-ok c =
    (let s = c.args.standing.now in
    let key = c.args.key.now in
    let adapter : c.adapter_met-adapter.result ≡ adapter_met (walk s.nodes.items key.path) = c.adapter_met-adapter.ensures
    ∙ ap adapter_met (c.walk.ensures ∙ ap₂ walk c.deref.ensures.value c.path.ensures) in
    let numbered : Key → ℕ → ℕ → Activation = (λ whose n k. record {
      number = n;
      adapter = k;
      path = whose.path;
      oid = whose.oid;
      phase = Begun;
      ending = false;
      quiet = false;
      out = false;
      cleanup = false;
      remaining = false;
      etherealized = false;
    }) in
    let begun : c.begun-activation.result ≡ numbered key (length (seen s).activations) (adapter_met (walk s.nodes.items key.path)) =
    c.begun-activation.ensures ∙ ap (λ whose. numbered whose c.in_ok-number.number c.adapter_met-adapter.result) c.in_ok-key.ensures
    ∙ ap₂ (numbered key) c.in_ok-number.ensures.begun adapter in
    let flown : ℕ → ℕ → Flight = (λ n k. record { arrival = c.args.arrival; adapter = k; activation = Some n; child = None }) in
    ap₂ (λ flights (t : Table). record (seen s) { flights = flights; activations = behind t.forgotten t.kept })
    (c.push_reserved.ensures.items
    ∙ (ap (λ (fs : List Flight). fs ++ flown c.in_ok-number.number c.adapter_met-adapter.result ∷ []) c.in_ok-reserve.ensures.items
    ∙ ap₂ (λ n k. s.flights.items ++ flown n k ∷ []) c.in_ok-number.ensures.begun adapter))
    c.in_ok-push.ensures.ok
    ∙ ap (λ activations. record (with_request c.args.arrival key (Some (length (seen s).activations)) (seen s)) { activations = activations })
    (pushed_behind s.activations.forgotten s.activations.kept _ _ begun))
