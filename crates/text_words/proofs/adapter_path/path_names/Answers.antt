use Rattle.text_words.proofs.Paths.{path_given}
use Rattle.text_words.proofs.adapter_path.path_names.Goals as goal

pub returns-clause-text : goal.returns-clause-text
returns-clause-text c = path_given c.args.word.now c.read_names.result c.read_names.ensures
