-- `sequencing::words_of` meets its contract. After j turns the first j actions of the sequence are written, and the construction over what is
-- left gives the others. The ones of the three sets count the turns. Assumes nothing.
use Prim.Native.Nat.{◌-◌}
use Rattle.sequencing.proofs.WritingLaws.{Writing}
use Rattle.sequencing.specs.Given.{set_words}
use Rattle.sequencing.proofs.words_of.Given as goal

abbrev pub invariant-loop-j : goal.invariant-loop-j
invariant-loop-j l = Writing l.rule.words.now (set_words l.rule.words.now) l.by l.rows l.rule.at l.r l.n l.block l.state.computes l.state.visits l.state.leaves l.state.waiting l.state.wanted l.ready l.j

abbrev pub decreases-loop-j : goal.decreases-loop-j
decreases-loop-j l = l.n - l.j
