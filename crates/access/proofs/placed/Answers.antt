-- `access::placed` meets its contract: eight bits shifted by at most 56 stay within 64, so nothing is lost. Assumes nothing.
use Prim.Native.Nat.{◌*◌}
use native.Mathlib.Omega.{arith}
use lib.Pow.{shl_exact}
use Rattle.access.proofs.placed.Goals as goal

pub returns : goal.returns
returns c = shl_exact 8 (8 * c.args.i) 64 c.requires.attributes_bound (omega arith)
