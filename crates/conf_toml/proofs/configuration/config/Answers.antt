use Rattle.std.proofs.Common.{[]}
use Rattle.conf_fields.specs.Numbers.{find_in}
use Rattle.conf_toml.proofs.AdaptersKept.{adapters_keep, all_written}
use Rattle.conf_toml.proofs.Kept.{objects_keep}
use Rattle.conf_toml.proofs.configuration.config.Goals as goal

pub returns-clause-rules : goal.returns-clause-rules
returns-clause-rules c =
    let settings = c.in_ok-settings.ensures in
    let managers = find_in c.in_ok-managers.manager_numbers in
    let servants = find_in c.in_ok-servants.servant_numbers in
    let adapters = c.in_ok-adapters.adapters in
    let read = c.in_ok-adapters.ensures.read in
    record {
      endpoint = (settings.host, settings.ports.0);
      admin_port = settings.ports.1;
      gate = settings.gate;
      few = record {
        managers = c.in_ok-managers.ensures.few;
        servants = c.in_ok-servants.ensures.few;
        adapters = c.in_ok-adapters.ensures.few;
        objects = c.in_ok-objects.ensures.few;
        forwards = c.in_ok-forwards.ensures.few;
      };
      managers = c.in_ok-managers.ensures.kept;
      servants = c.in_ok-servants.ensures.kept;
      adapters =
          adapters_keep c.in_ok-managers.managers c.in_ok-servants.servants managers servants c.in_ok-managers.ensures.numbers c.in_ok-servants.ensures.numbers
          adapters read;
      objects =
          objects_keep (find_in c.in_ok-adapters.paths) servants adapters c.in_ok-servants.servants c.in_ok-adapters.ensures.paths
          c.in_ok-servants.ensures.numbers
          (all_written managers servants [] adapters read) c.in_ok-objects.objects (rw (← c.as_slice.ensures) c.in_ok-objects.ensures.read);
      forwards = c.in_ok-forwards.ensures.kept;
    }
