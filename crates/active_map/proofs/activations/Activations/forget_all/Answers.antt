use Rattle.std.proofs.Common.{◌≡◌, ◌+◌, not, filter, length, refl, sym, ap, subst, ◌∙◌, arith}
use Rattle.std.specs.BTreeMap.{get}
use Rattle.std.specs.Map.{values_of}
use Rattle.std.specs.Option.{is_some}
use Rattle.std.specs.Ordering.{nat_cmp}
use Rattle.std.proofs.lemmas.List.Filters.{length-filter_both}
use Rattle.std.proofs.lemmas.Map.Entries.{length-values_of}
use Rattle.history_standing.specs.Ends.{is_over}
use Rattle.history_standing.specs.Trees.{In}
use Rattle.history_standing.proofs.Members.{in_kept, kept_in}
use Rattle.active_map.specs.Live.{is_live, live}
use Rattle.active_map.specs.Tables.{Table, IsIndexed, is_leaving}
use Rattle.active_map.proofs.NotedKept.{noted_fewer}
use Rattle.active_map.proofs.Covering.{covers_rest}
use Rattle.active_map.proofs.Moving.{kept_still, none_still, still_lives}
use Rattle.active_map.proofs.RowsKept.{table_kept, values_kept, still_rows}
use Rattle.active_map.proofs.activations.Activations.forget_all.Goals as goal

pub overflow_add-self : goal.overflow_add-self
overflow_add-self c = (let few = c.self.invariant.table.few in let over = c.keep_live.ensures.over in omega (arith, few, over))

pub invariant_of-self : goal.invariant_of-self
invariant_of-self c =
    (let t = c.self.inside in
    let over = c.keep_live.ensures.over in
    let table = table_kept t.forgotten t.moving (t.forgotten + c.keep_live.result) c.count_moving-self-inside.result t.rows.entries
    c.keep_live.new.rows.entries (λ e. is_live c.args.config.now e.1) c.self.invariant.table c.keep_live.ensures.live c.keep_live.ensures.ordered
    (omega (arith, over)) c.count_moving-self-inside.ensures in
    record {
      table = table;
      indexed =
          subst (IsIndexed c.forget_ids.new.index)
          (sym (ap values_of c.keep_live.ensures.live ∙ values_kept (is_live c.args.config.now) t.rows.entries)) c.forget_ids.ensures;
      covered =
          covers_rest is_leaving (is_live c.args.config.now) t.rows.entries c.keep_live.new.rows.entries c.keep_live.ensures.live table.keyed table.ordered t.leaving.keys
          c.strike_forgotten.new.leaving.keys
          (λ n was has. subst (In n) (sym c.strike_forgotten.ensures) (kept_in (λ m. is_some (get nat_cmp c.keep_live.new.rows m)) n t.leaving.keys was has))
          c.self.invariant.covered;
      noted = c.renew.ensures (noted_fewer t.passing (values_of t.rows.entries) (values_of c.keep_live.new.rows.entries)
          (λ a there. (in_kept (is_live c.args.config.now) a (values_of t.rows.entries)
          (subst (In a) (ap values_of c.keep_live.ensures.live ∙ values_kept (is_live c.args.config.now) t.rows.entries) there)).0) c.self.invariant.noted);
    })

pub returns-then-self-gt0-clause-forgotten : goal.returns-then-self-gt0-clause-forgotten
returns-then-self-gt0-clause-forgotten c =
    (let t = c.self.inside in
    let all = values_of t.rows.entries in
    let over = c.keep_live.ensures.over in
    let left : length c.keep_live.new.rows.entries ≡ length (filter (is_live c.args.config.now) all) =
    sym (length-values_of c.keep_live.new.rows.entries)
    ∙ ap length (ap values_of c.keep_live.ensures.live ∙ values_kept (is_live c.args.config.now) t.rows.entries) in
    let both = length-filter_both (is_over c.args.config.now) (is_live c.args.config.now) (λ a. refl) all in
    let long = length-values_of t.rows.entries in
    let went : c.keep_live.result ≡ length (filter (is_over c.args.config.now) all) = omega (arith, over, left, both, long) in
    ap (λ n. t.forgotten + n) went ∙ ap (λ (u : Table). u.forgotten + length (filter (is_over c.args.config.now) u.kept)) c.self.view_is)

pub returns-then-self-gt0-clause-kept : goal.returns-then-self-gt0-clause-kept
returns-then-self-gt0-clause-kept c =
    ap values_of c.keep_live.ensures.live ∙ values_kept (is_live c.args.config.now) c.self.inside.rows.entries
    ∙ ap (λ (u : Table). live c.args.config.now u.kept) c.self.view_is

pub returns-else-self-gt0-clause-forgotten : goal.returns-else-self-gt0-clause-forgotten
returns-else-self-gt0-clause-forgotten c =
    (let t = c.self.inside in
    let none = still_rows t.forgotten t.moving t.rows.entries c.self.invariant.table c.if-self-gt0.false in
    let spent = none_still (is_over c.args.config.now) (λ a still. still_lives a still c.args.config.now) (values_of t.rows.entries) none in
    let same : t.forgotten ≡ t.forgotten + length (filter (is_over c.args.config.now) (values_of t.rows.entries)) =
    subst (λ xs. t.forgotten ≡ t.forgotten + length xs) (sym spent) (omega arith) in
    ap (λ (u : Table). u.forgotten) (sym c.self.view_is) ∙ same
    ∙ ap (λ (u : Table). u.forgotten + length (filter (is_over c.args.config.now) u.kept)) c.self.view_is)

pub returns-else-self-gt0-clause-kept : goal.returns-else-self-gt0-clause-kept
returns-else-self-gt0-clause-kept c =
    (let t = c.self.inside in
    let none = still_rows t.forgotten t.moving t.rows.entries c.self.invariant.table c.if-self-gt0.false in
    ap (λ (u : Table). u.kept) (sym c.self.view_is)
    ∙ sym (kept_still (is_live c.args.config.now) (λ a still. ap not (still_lives a still c.args.config.now)) (values_of t.rows.entries) none)
    ∙ ap (λ (u : Table). live c.args.config.now u.kept) c.self.view_is)
