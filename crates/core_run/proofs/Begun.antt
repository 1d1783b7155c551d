-- A run that hasn't begun is kept.
use Rattle.std.proofs.Common.{◌≡◌, ℕ, ◌+◌, ◌^◌, ◌<◌, ◌≤◌, [], length, reverse, refl, sym, ap, subst, ◌∙◌, arith}
use Rattle.poa_policy.specs.Kept.{KeepsRules}
use Rattle.core_outboxes.specs.Owed.{AreOwed}
use Rattle.core_outboxes.specs.Desk.{Files}
use Rattle.core_state.specs.State.{StateAgrees}
use Rattle.core_run.specs.declared.inside.Inside.{Inside}
use Rattle.core_run.specs.Known.{TablesAgree}
use Rattle.core_run.specs.Agrees.{Agrees, opened_in}
use Rattle.core_run.specs.ToCome.{stay}
use Rattle.core_run.specs.Kept.{IsKept}
use Rattle.core_run.proofs.Endings.{none_begun}
use Rattle.core_run.proofs.Space.{stay_is}

-- what is known of what was made
pub record IsNew (i : Inside) : Type 0 where
  pub rules : KeepsRules i.config
  pub numbered : i.run < 2 ^ 32
  pub limited : i.limit ≤ 4000000
  pub state : StateAgrees i.config i.run (opened_in i) [] i.state
  pub tables : TablesAgree i.config i.run [] i.tables
  pub owing : i.desk.owing.items ≡ []
  pub files : Files i.desk []
  pub entries : i.entries.items ≡ []
  pub len : length i.entries.items ≡ 0
  pub space : 18 ≤ i.entries.capacity

space_of : (l due owing s room : ℕ) → l ≡ 0 → due ≡ owing + 0 → owing ≡ 0 → s ≡ 18 → 18 ≤ room → l + (due + s) + 0 ≤ room
space_of l due owing s room w x y z fits = omega (arith, w, x, y, z, fits)

pub begun_kept : (i : Inside) → IsNew i → IsKept i
begun_kept i is =
    record {
      agrees = subst (λ h. Agrees h i) (sym (ap reverse is.entries))
          (record {
            runs = record { accepted = is.rules; numbered = is.numbered; limited = is.limited; legal = tt };
            state = is.state;
            tables = is.tables;
            owed = subst (AreOwed i.config i.run []) (sym is.owing) (record { which = refl; each = λ o none. absurd none });
            filed = record { replies = []; files = is.files; holds = record { which = refl; each = λ f none. absurd none } };
          });
      space = space_of (length i.entries.items) i.desk.due (length i.desk.owing.items) (stay i.tables) (i.entries.capacity)
          is.len is.files.due (ap length is.owing) (stay_is [] i.tables is.tables ∙ ap (λ n. 2 + n) none_begun) is.space;
    }
