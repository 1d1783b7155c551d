-- The line of a connection that collects.
use Rattle.std.proofs.Common.{ℕ, option_map, refl, sym, ap, ◌∙◌}
use Rattle.replay_run.specs.declared.player.Player.{Player}
use Rattle.replay_run.specs.Lines.{reply_line}
use Rattle.replay_run.specs.Collecting.{CollectsAll}
use Rattle.replay_run.specs.Talking.{Collects as Collecting}
use Rattle.replay_run.specs.Effects.{numbers, Works}
use Rattle.replay_run.specs.declared.channel.Channel.{Channel}
use Rattle.replay_run.specs.Keeping.{Tells}
use Rattle.replay_run.proofs.Same.{still_collects}

-- the replies of a connection, collected by its line
pub collects_told : (conn : ℕ) (old new : Player) (channel : Channel) → Works (CollectsAll (reply_line channel.name) conn) old new
    → Tells (Collecting conn) old new channel channel
collects_told conn old new channel p = record {
  text = p.text;
  printed = p.printed;
  does = record { life = new.core; collects = p.does; became = refl };
  filled = λ known. ap (λ o. option_map numbers o) p.filled
      ∙ (known ∙ sym (still_collects (reply_line channel.name) conn old.core p.text new.core p.does).filled);
  turned_away = p.turned_away;
}
