use Rattle.poad_cmd.proofs.NamesEnding.{is_of_names, read_cause, write_cause}
use Rattle.poad_cmd.proofs.naming.serve_names.Goals as goal

pub returns-clause-runs : goal.returns-clause-runs
returns-clause-runs g c = (c.names.result, c.from.ensures, c.names.ensures.names)

pub returns-clause-read_fault : goal.returns-clause-read_fault
returns-clause-read_fault g c = read_cause _ _ c.names.result c.from.result c.from.ensures c.names.ensures.read

pub returns-clause-write_fault : goal.returns-clause-write_fault
returns-clause-write_fault g c = write_cause _ _ c.names.result c.from.result c.from.ensures c.names.ensures.written

pub returns-clause-is_command : goal.returns-clause-is_command
returns-clause-is_command g c = (is_of_names c.names.result c.from.result c.from.ensures).words

pub returns-clause-no_file : goal.returns-clause-no_file
returns-clause-no_file g c = (is_of_names c.names.result c.from.result c.from.ensures).no_file

pub returns-clause-too_long : goal.returns-clause-too_long
returns-clause-too_long g c = (is_of_names c.names.result c.from.result c.from.ensures).too_long

pub returns-clause-file_fault : goal.returns-clause-file_fault
returns-clause-file_fault g c = (is_of_names c.names.result c.from.result c.from.ensures).file
