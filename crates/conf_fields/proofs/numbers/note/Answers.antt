use Rattle.std.proofs.Common.{Some, string_bytes}
use Rattle.std.proofs.Math.Path.{fun_ext}
use Rattle.std.proofs.lemmas.Map.Text.{btree_map_updates_text}
use Rattle.conf_fields.specs.Numbers.{find_in}
use Rattle.conf_fields.proofs.numbers.note.Goals as goal

pub returns-clause-noted : goal.returns-clause-noted
unfolding find_in
returns-clause-noted c =
    fun_ext (λ q. rw c.in_ok-key.ensures.ok at
    (btree_map_updates_text (string_bytes c.in_ok-key.key) c.args.numbers.now c.insert.new.self (Some c.args.number) c.in-Ok.ensures.updates q))
