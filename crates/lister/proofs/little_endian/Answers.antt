-- `lister::little_endian` meets its contract: each pair of bytes is written as a word, and at the end there is no pair left. Assumes nothing.
use Rattle.lister.proofs.TableLaws.{pairs_start, pairs_turn, pairs_end}
use Rattle.lister.proofs.little_endian.Goals as goal

pub loop-i-init : goal.loop-i-init
loop-i-init c = pairs_start _ _ _ _ _ (cc) (cc) (cc)

pub loop-i-preserved : goal.loop-i-preserved
loop-i-preserved c =
    let s = c.in-Some.ensures.steps in
    pairs_turn _ _ _ c.requires c.loop-i.invariant s.0.0 s.0.1.0 s.0.1.1 s.1 s.2 c.from_le_bytes.ensures

pub returns : goal.returns
returns c = pairs_end _ _ _ _ _ _ c.loop-i.invariant c.in-None.ensures.steps.0.1.0
