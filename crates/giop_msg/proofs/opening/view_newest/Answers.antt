-- Each exit but the last is at a field that can't be read.
use Rattle.std.proofs.Common.{ℕ, [], ◌∷◌, refl}
use Rattle.cdr_core.specs.Kind.{Octet}
use Rattle.cdr_core.specs.Field.{ulong, octet}
use Rattle.cdr_core.specs.Cursor.{Cursor}
use Rattle.giop_msg.specs.Fields.{ReadsAll}
use Rattle.giop_msg.specs.Opening.{opening_fields, IsNewestOpening}
use Rattle.ior_text.proofs.Refused.{on_err}
use Rattle.giop_msg.proofs.Fields.{stuck}
use Rattle.giop_msg.proofs.opening.view_newest.Goals as goal

pub returns-in_err-octet-2-clause-bad : goal.returns-in_err-octet-2-clause-bad
returns-in_err-octet-2-clause-bad c =
    let here : ReadsAll (ulong c.in_ok-id.id ∷ octet c.in_ok-flags.flags ∷ octet c.in_ok-octet.field-0 ∷ []) c.args.view.now c.octet-2.new.self =
    (c.ulong.new.self, (c.in_ok-id.ensures.ok, (c.octet.new.self, (c.in_ok-flags.ensures.ok, (c.octet-2.new.self, (c.in_ok-octet.ensures.ok, refl)))))) in
    let none : (id flags : ℕ) (after : Cursor) → IsNewestOpening id flags c.args.view.now after
    → ⊥ = λ id flags after is. stuck (ulong c.in_ok-id.id ∷ octet c.in_ok-flags.flags ∷ octet c.in_ok-octet.field-0 ∷ [])
    (opening_fields id flags is.a is.b is.c) Octet (Octet ∷ []) c.args.view.now c.octet-2.new.self after _ refl here c.in_err-octet-2.ensures.refused is.read in
    on_err _ none

pub returns-in_err-octet-3-clause-bad : goal.returns-in_err-octet-3-clause-bad
returns-in_err-octet-3-clause-bad c =
    let here : ReadsAll (ulong c.in_ok-id.id ∷ octet c.in_ok-flags.flags ∷ octet c.in_ok-octet.field-0 ∷ octet c.in_ok-octet-2.field-0 ∷ []) c.args.view.now
    c.octet-3.new.self = (
      c.ulong.new.self,
      (
        c.in_ok-id.ensures.ok,
        (
          c.octet.new.self,
          (c.in_ok-flags.ensures.ok, (c.octet-2.new.self, (c.in_ok-octet.ensures.ok, (c.octet-3.new.self, (c.in_ok-octet-2.ensures.ok, refl))))),
        ),
      ),
    ) in
    let none : (id flags : ℕ) (after : Cursor) → IsNewestOpening id flags c.args.view.now after
    → ⊥ = λ id flags after is. stuck (ulong c.in_ok-id.id ∷ octet c.in_ok-flags.flags ∷ octet c.in_ok-octet.field-0 ∷ octet c.in_ok-octet-2.field-0 ∷ [])
    (opening_fields id flags is.a is.b is.c) Octet [] c.args.view.now c.octet-3.new.self after _ refl here c.in_err-octet-3.ensures.refused is.read in
    on_err _ none

pub returns-clause-ok : goal.returns-clause-ok
returns-clause-ok c = record {
  a = c.in_ok-octet.field-0;
  b = c.in_ok-octet-2.field-0;
  c = c.in_ok-octet-3.field-0;
  read = (
    c.ulong.new.self,
    (
      c.in_ok-id.ensures.ok,
      (
        c.octet.new.self,
        (
          c.in_ok-flags.ensures.ok,
          (
            c.octet-2.new.self,
            (c.in_ok-octet.ensures.ok, (c.octet-3.new.self, (c.in_ok-octet-2.ensures.ok, (c.octet-4.new.self, (c.in_ok-octet-3.ensures.ok, refl))))),
          ),
        ),
      ),
    ),
  );
}
