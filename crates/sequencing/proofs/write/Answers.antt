-- `sequencing::write` meets its contract: the block takes the place of as many words. Assumes nothing.
use Rattle.sequencing.proofs.WritingLaws.{block_put}
use Rattle.sequencing.proofs.write.Goals as goal

pub returns : goal.returns
returns c = search block_put
