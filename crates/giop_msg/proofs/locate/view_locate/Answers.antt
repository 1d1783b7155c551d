-- The id was read, and the target behind it.
use Rattle.std.proofs.Common.{◌≡◌, ℕ, Bool, ap, ap₂, subst}
use Rattle.std.specs.Prelude.{option_map}
use Rattle.cdr_core.specs.Field.{ulong}
use Rattle.cdr_core.specs.Cursor.{Cursor, Reads}
use Rattle.ior_text.proofs.Refused.{on_err}
use Rattle.giop_frame.specs.Part.{minor_of}
use Rattle.giop_msg.specs.Reading.{NoneAddressed}
use Rattle.giop_msg.specs.Target.{IsAddressed}
use Rattle.giop_msg.specs.Locate.{locate_head}
use Rattle.giop_msg.proofs.Locates.{no_target}
use Rattle.giop_msg.proofs.locate.view_locate.Goals as goal

pub returns-in_err-target-clause-bad : goal.returns-in_err-target-clause-bad
returns-in_err-target-clause-bad c =
    on_err _ (no_target c.args.bytes.now _ _ c.requires.locate
    (subst (λ (z : Cursor). Reads (ulong c.in_ok-id.id) z c.ulong.new.self) c.enter-view.ensures c.in_ok-id.ensures.ok)
    (subst (λ (n : ℕ). NoneAddressed n c.ulong.new.self) c.minor_of-minor.ensures c.in_err-target.ensures.bad))

pub returns-clause-ok : goal.returns-clause-ok
returns-clause-ok c = (
  c.requires.locate,
  record {
    known = c.requires.known;
    behind_id = c.ulong.new.self;
    behind = c.view_addressed.new.view;
    id = subst (λ (z : Cursor). Reads (ulong c.in_ok-id.id) z c.ulong.new.self) c.enter-view.ensures c.in_ok-id.ensures.ok;
    addressed = subst (λ (n : ℕ). IsAddressed n (option_map (λ k. k.now) c.in_ok-target.target) c.ulong.new.self c.view_addressed.new.view) c.minor_of-minor.ensures c.in_ok-target.ensures.ok;
    is_head = ap₂ (λ (n : ℕ) (little : Bool). locate_head n c.in_ok-id.id little) c.minor_of-minor.ensures c.is_little.ensures;
  },
)
