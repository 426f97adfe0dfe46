-- `sequencing::sequence` meets its contract: the block of the rule's words is written at its place. Assumes nothing.
use Rattle.sequencing.proofs.WritingLaws.{sequence_written}
use Rattle.sequencing.proofs.sequence.Goals as goal

pub returns : goal.returns
returns c = search sequence_written
