-- A servant stays of its kind.
use Rattle.history_laws.specs.OneLine.{calls_on, line_opening, line_state, state_after}
use Rattle.poa_base.specs.declared.Call.{Call}
use Rattle.poa_base.specs.declared.Call.TheVariants.{Line, Locate, Request}
use Rattle.poa_base.specs.declared.Entry.{Entry}
use Rattle.poa_base.specs.declared.Kind.{Kind}
use Rattle.poa_base.specs.declared.Kind.TheVariants.{Echo as EchoKind, Fault as FaultKind, Log, Register as RegisterKind}
use Rattle.poa_base.specs.declared.State.{State}
use Rattle.poa_base.specs.declared.State.TheVariants.{Book, Echo, Fault, Register}
use Rattle.poa_history.specs.States.{Stored, acted, is_of_kind, opening_state, restored}
use Rattle.servant_kinds.specs.Act.{act_of}
use Rattle.std.proofs.Common.{ap}
use Rattle.std.proofs.lemmas.Bool.{cond_both}
use Rattle.std.specs.Prelude.{◌∷◌, ◌≡◌, List, None, Option, Some, [], if◌then◌else◌, refl, true, ℕ}
use Rattle.poa_base.specs.declared.Body.{Body}

act_kept : (kind : Kind) (state : State) (operation : List ℕ) (body : Body) → is_of_kind kind state ≡ true
    → is_of_kind kind (act_of state operation body).0 ≡ true
act_kept RegisterKind (Register v) operation body is = refl
act_kept RegisterKind (Book items) operation body is = is
act_kept RegisterKind Echo operation body is = is
act_kept RegisterKind Fault operation body is = is
act_kept Log (Register v) operation body is = is
act_kept Log (Book items) operation body is = refl
act_kept Log Echo operation body is = is
act_kept Log Fault operation body is = is
act_kept EchoKind (Register v) operation body is = is
act_kept EchoKind (Book items) operation body is = is
act_kept EchoKind Echo operation body is = refl
act_kept EchoKind Fault operation body is = is
act_kept FaultKind (Register v) operation body is = is
act_kept FaultKind (Book items) operation body is = is
act_kept FaultKind Echo operation body is = is
act_kept FaultKind Fault operation body is = refl

acted_kept : (kind : Kind) (state : State) (call : Option Call) → is_of_kind kind state ≡ true → is_of_kind kind (acted state call).0 ≡ true
acted_kept kind state (Some (Request head target operation body)) is = act_kept kind state operation body is
acted_kept kind state (Some (Locate head target)) is = is
acted_kept kind state (Some (Line number command)) is = is
acted_kept kind state None is = is

opening_kept : (kind : Kind) → is_of_kind kind (opening_state kind) ≡ true
opening_kept RegisterKind = refl
opening_kept Log = refl
opening_kept EchoKind = refl
opening_kept FaultKind = refl

restored_kept : (kind : Kind) (o : Option State) → is_of_kind kind (restored kind o) ≡ true
restored_kept kind None = opening_kept kind
restored_kept kind (Some state) =
    cond_both (is_of_kind kind state) state (opening_state kind) (λ x. is_of_kind kind x ≡ true) (λ is. is) (λ _. opening_kept kind)

pub restored_same : (kind : Kind) (state : State) → is_of_kind kind state ≡ true → restored kind (Some state) ≡ state
restored_same kind state is = ap (λ b. if b then state else opening_state kind) is

after_kept : (kind : Kind) (first : State) (calls : List (Option Call)) → is_of_kind kind first ≡ true → is_of_kind kind (state_after first calls) ≡ true
after_kept kind first [] is = is
after_kept kind first (call ∷ before) is = acted_kept kind (state_after first before) call (after_kept kind first before is)

pub line_kept : (opened : Stored) (kind : Kind) (h : List Entry) (p : List (List ℕ)) (oid : List ℕ) → is_of_kind kind (line_state opened kind h p oid) ≡ true
line_kept opened kind h p oid = after_kept kind (line_opening opened kind p oid) (calls_on h p oid) (restored_kept kind (opened p oid))
