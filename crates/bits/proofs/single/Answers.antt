-- `bits::single` meets its contract: 1 shifted by less than 64 loses nothing, so it is 2 ^ i. Assumes nothing.
use borrow.Author.Rules.{rules}
use native.Mathlib.Nat.{one-mul}
use Prim.Native.Nat.{◌^◌}
use mathlib.Core.Path.{◌∙◌}
use lib.Dec.{lit<}
use lib.Pow.{shl_exact}
use Rattle.bits.proofs.single.Goals as goal

pub returns : goal.returns
returns c = shl_exact 1 c.args.i 64 (lit< tt) (search rules) ∙ one-mul (2 ^ c.args.i)
