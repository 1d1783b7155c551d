use Rattle.std.proofs.Common.{ℕ, List, false, ◌∙◌, ◌<◌, ap, ap₂, sym, subst}
use Rattle.history_standing.specs.declared.activation.Activation.{Activation}
use Rattle.core_standing.specs.Seen.{seen, behind}
use Rattle.active_map.specs.Tables.{Table}
use Rattle.core_standing.proofs.Behind.{length_behind, pushed_behind}
use Rattle.core_standing.proofs.beginning.add_activation.Goals as goal

pub push-requires-clause-next : goal.push-requires-clause-next
push-requires-clause-next c =
    (let t = c.args.standing.now.activations in
    ap (λ (a : Activation). a.number) c.begun-activation.ensures ∙ c.in_ok-number.ensures.begun ∙ sym (length_behind t.forgotten t.kept))

pub push-requires-clause-few : goal.push-requires-clause-few
push-requires-clause-few c = subst (λ n. n < 4294967296) (sym (ap (λ (a : Activation). a.number) c.begun-activation.ensures)) c.in_ok-number.ensures.few

pub push-requires-clause-lasts : goal.push-requires-clause-lasts
push-requires-clause-lasts c = ap (λ (a : Activation). a.ending) c.begun-activation.ensures

pub returns-clause-ok : goal.returns-clause-ok
returns-clause-ok c =
    (let s = c.args.standing.now in
    let numbered : ℕ → List (List ℕ) → List ℕ → Activation = (λ n path oid. record {
      number = n;
      adapter = c.args.adapter;
      path = path;
      oid = oid;
      phase = c.args.phase;
      ending = false;
      quiet = false;
      out = false;
      cleanup = false;
      remaining = false;
      etherealized = false;
    }) in
    let begun =
    c.begun-activation.ensures ∙ ap₂ (numbered c.in_ok-number.number) c.in_ok-clone.ensures.cases c.in_ok-clone-2.ensures.cases
    ∙ ap (λ n. numbered n c.args.path.now c.args.oid.now) c.in_ok-number.ensures.begun in
    ap (λ (t : Table). record (seen s) { activations = behind t.forgotten t.kept }) c.in_ok-push.ensures.ok
    ∙ ap (λ activations. record (seen s) { activations = activations }) (pushed_behind s.activations.forgotten s.activations.kept _ _ begun))
