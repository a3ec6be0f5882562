use Rattle.std.proofs.lemmas.Iterator.Consumers.{map_from_collect}
use Rattle.replay.proofs.Words.{words_from}
use Rattle.replay.proofs.script.words_of.Goals as goal

pub returns : goal.returns
returns c = map_from_collect _ c.collect.ensures.ran (words_from c.args.line.now c.split_ascii_whitespace.ensures.text)
