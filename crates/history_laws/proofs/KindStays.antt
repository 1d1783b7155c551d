-- A servant stays of its kind, whatever it is asked.
use Rattle.std.proofs.Common.{◌∙◌, ap}
use Rattle.std.proofs.lemmas.Bool.{cond_both}
use Rattle.std.specs.Prelude.{◌∷◌, ◌≡◌, List, None, Option, Some, [], if◌then◌else◌, refl, true, ℕ}
use Rattle.history_laws.specs.OneLine.{state_after}
use Rattle.poa_base.specs.declared.Body.{Body}
use Rattle.poa_base.specs.declared.Call.{Call}
use Rattle.poa_base.specs.declared.Call.TheVariants.{Line, Locate, Request}
use Rattle.poa_base.specs.declared.Kind.{Kind}
use Rattle.poa_base.specs.declared.Kind.TheVariants.{Echo as EchoKind, Fault as FaultKind, Log, Register as RegisterKind}
use Rattle.poa_base.specs.declared.State.{State}
use Rattle.poa_base.specs.declared.State.TheVariants.{Book, Echo, Fault, Register}
use Rattle.poa_history.specs.States.{acted, is_of_kind, opening_state, restored}
use Rattle.servant_kinds.specs.Act.{act_of}

act_kind : (kind : Kind) (state : State) (operation : List ℕ) (body : Body) → is_of_kind kind (act_of state operation body).0 ≡ is_of_kind kind state
act_kind RegisterKind (Register v) operation body = refl
act_kind RegisterKind (Book items) operation body = refl
act_kind RegisterKind Echo operation body = refl
act_kind RegisterKind Fault operation body = refl
act_kind Log (Register v) operation body = refl
act_kind Log (Book items) operation body = refl
act_kind Log Echo operation body = refl
act_kind Log Fault operation body = refl
act_kind EchoKind (Register v) operation body = refl
act_kind EchoKind (Book items) operation body = refl
act_kind EchoKind Echo operation body = refl
act_kind EchoKind Fault operation body = refl
act_kind FaultKind (Register v) operation body = refl
act_kind FaultKind (Book items) operation body = refl
act_kind FaultKind Echo operation body = refl
act_kind FaultKind Fault operation body = refl

acted_kind : (kind : Kind) (state : State) (call : Option Call) → is_of_kind kind (acted state call).0 ≡ is_of_kind kind state
acted_kind kind state (Some (Request head target operation body)) = act_kind kind state operation body
acted_kind kind state (Some (Locate head target)) = refl
acted_kind kind state (Some (Line number command)) = refl
acted_kind kind state None = refl

after_kind : (kind : Kind) (first : State) (calls : List (Option Call)) → is_of_kind kind (state_after first calls) ≡ is_of_kind kind first
after_kind kind first [] = refl
after_kind kind first (call ∷ before) = acted_kind kind (state_after first before) call ∙ after_kind kind first before

opening_kind : (kind : Kind) → is_of_kind kind (opening_state kind) ≡ true
opening_kind RegisterKind = refl
opening_kind Log = refl
opening_kind EchoKind = refl
opening_kind FaultKind = refl

restored_kind : (kind : Kind) (o : Option State) → is_of_kind kind (restored kind o) ≡ true
restored_kind kind None = opening_kind kind
restored_kind kind (Some state) =
    cond_both (is_of_kind kind state) state (opening_state kind) (λ x. is_of_kind kind x ≡ true) (λ is. is) (λ _. opening_kind kind)

-- what the calls make of a restored state is restored as it is
pub restored_after : (kind : Kind) (o : Option State) (calls : List (Option Call))
    → restored kind (Some (state_after (restored kind o) calls)) ≡ state_after (restored kind o) calls
restored_after kind o calls =
    ap (λ b. if b then state_after (restored kind o) calls else opening_state kind) (after_kind kind (restored kind o) calls ∙ restored_kind kind o)
