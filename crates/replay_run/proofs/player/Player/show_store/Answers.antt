use Rattle.std.proofs.Common.{refl, ◌++◌, ◌∙◌, ap}
use Rattle.replay_run.proofs.player.Player.show_store.Goals as goal

pub returns : goal.returns
returns c = record {
  text = c.in_ok-text.text;
  printed = c.in_ok-extend_from_slice.ensures.items ∙ ap (λ t. c.args.self.now.printed.items ++ t) c.as_slice.ensures;
  is = record { slots = c.store.result.now; stores = c.store.ensures; told = c.in_ok-text.ensures };
  core = refl;
  filled = refl;
  turned_away = refl;
}
