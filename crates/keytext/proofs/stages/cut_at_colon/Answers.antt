use Rattle.std.proofs.Common.{lit<}
use Rattle.std.proofs.lemmas.Str.Pattern.{split_parts}
use Rattle.keytext.proofs.Texts.{cut_is}
use Rattle.keytext.proofs.stages.cut_at_colon.Goals as goal

pub returns : goal.returns
returns c = cut_is _ _ (split_parts 58 _ _ c.split_once.ensures.cases (lit< tt))
