-- A walk over a set's members begins with the whole set left. Assumes nothing.
use Prim.Native.Nat.{ℕ}
use mathlib.Core.Path.{◌≡◌, ap, ◌∙◌}
use Rattle.bits.specs.declared.LowestFirst.{LowestFirst}

pub all_left : (m it : LowestFirst) (s : ℕ) → it ≡ m → m.left ≡ s → it.left ≡ s
all_left m it s e f = ap (λ (x : LowestFirst). x.left) e ∙ f
