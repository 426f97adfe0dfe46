-- Tests over the numbers below a bound: some pass, all pass, the least that passes, how many pass.
-- Each definition of document 01 that says "some", "every", "lowest" or "how many" is written with these. Assumes nothing.
use Rattle.std.specs.Prelude.{ℕ, zero, suc, ◌+◌, Bool, true, false, cond, ltb}

-- Tests joined: both pass, one of them passes, the second passes where the first does.
infixr 35 ◌and◌
unfoldable pub ◌and◌ : Bool → Bool → Bool
true and b = b
false and b = false

infixr 30 ◌or◌
unfoldable pub ◌or◌ : Bool → Bool → Bool
true or b = true
false or b = b

infixr 25 ◌implies◌
unfoldable pub ◌implies◌ : Bool → Bool → Bool
true implies b = b
false implies b = true

-- some number below n passes
unfoldable pub some : ℕ → (ℕ → Bool) → Bool
unfolding ◌or◌
some zero f = false
some (suc n) f = some n f or f n

-- every number below n passes
unfoldable pub all : ℕ → (ℕ → Bool) → Bool
unfolding ◌and◌
all zero f = true
all (suc n) f = all n f and f n

-- the least number below n that passes, and n where none does
unfoldable pub least : ℕ → (ℕ → Bool) → ℕ
least zero f = zero
least (suc n) f = let m = least n f in cond (ltb m n) m (cond (f n) n (suc n))

-- how many numbers below n pass
unfoldable pub count : ℕ → (ℕ → Bool) → ℕ
count zero f = zero
count (suc n) f = count n f + cond (f n) 1 0
