use Rattle.std.proofs.Common.{true, refl, sym, ◌∙◌, subst, ne_eqb}
use Rattle.poa_base.specs.declared.Entry.{Entry}
use Rattle.poa_base.specs.declared.Entry.TheVariants.{Arrive, Filled}
use Rattle.journal_audit.specs.Looking.{Sees}
use Rattle.journal_audit.proofs.Looked.{sees_filled, sees_still, still_concerns}
use Rattle.journal_audit.proofs.onlooker.Onlooker.see.Goals as goal

pub returns-else-conn-clause-sees : goal.returns-else-conn-clause-sees
returns-else-conn-clause-sees c =
    let o = c.args.self.now in
    let e = Arrive c.in-Arrive.conn c.in-Arrive.size c.in-Arrive.call in
    subst (λ (x : Entry). Sees x o o) (sym c.in-Arrive.is)
    (sees_still e o (λ _. ne_eqb c.in-Arrive.conn o.link.conn (λ same. c.if-conn.false (same ∙ sym c.conn.ensures))))

pub returns-then-conn-2-clause-sees : goal.returns-then-conn-2-clause-sees
returns-then-conn-2-clause-sees c =
    let o = c.args.self.now in
    subst (λ (x : Entry). Sees x o (record o { was_filled = true })) (sym c.in-Filled.is)
    (sees_filled c.in-Filled.conn c.in-Filled.size o (c.if-conn-2.true ∙ c.conn-in-Filled.ensures))

pub returns-else-conn-2-clause-sees : goal.returns-else-conn-2-clause-sees
returns-else-conn-2-clause-sees c =
    let o = c.args.self.now in
    let e = Filled c.in-Filled.conn c.in-Filled.size in
    subst (λ (x : Entry). Sees x o o) (sym c.in-Filled.is)
    (sees_still e o (λ _. ne_eqb c.in-Filled.conn o.link.conn (λ same. c.if-conn-2.false (same ∙ sym c.conn-in-Filled.ensures))))

pub returns-in_default : goal.returns-in_default
returns-in_default c =
    let o = c.args.self.now in
    record {
      sees = sees_still c.args.entry.now o (still_concerns c.args.entry.now o.link.conn c.in_default.not-Arrive c.in_default.not-Filled);
      link = refl;
    }
