-- Lists of words by their places: the words of a rule, blocks laid end to end, the members that pass a test.
-- Assumes nothing.
use Rattle.std.specs.Prelude.{ℕ, zero, suc, ◌-◌, Bool, false, cond, List, [], ◌∷◌, ◌++◌, eqb, get_or, length, replicate}
use Rattle.basics.specs.Tests.{◌or◌}

-- the word at a place, 0 past the end
abbrev pub word : List ℕ → ℕ → ℕ
word ws p = get_or ws p 0

-- f 0, f 1 and so on, n of them
unfoldable pub tabulate {ℓ} : {A : Type ℓ} → ℕ → (ℕ → A) → List A
tabulate zero f = []
tabulate (suc n) f = tabulate n f ++ (f n ∷ [])

-- the blocks f 0, f 1 and so on, n of them, end to end
unfoldable pub blocks {ℓ} : {A : Type ℓ} → ℕ → (ℕ → List A) → List A
blocks zero f = []
blocks (suc n) f = blocks n f ++ f n

-- the list brought to length n by zeros at its end
unfoldable pub padded : ℕ → List ℕ → List ℕ
padded n xs = xs ++ replicate (n - length xs) 0

-- the numbers below n that pass, rising
unfoldable pub passing : ℕ → (ℕ → Bool) → List ℕ
passing zero f = []
passing (suc n) f = passing n f ++ cond (f n) (n ∷ []) []

-- x stands in the list
unfoldable pub member : ℕ → List ℕ → Bool
unfolding ◌or◌
member x [] = false
member x (y ∷ ys) = eqb x y or member x ys

-- some member passes, every member passes
unfoldable pub any : (ℕ → Bool) → List ℕ → Bool
unfolding ◌or◌
any f [] = false
any f (x ∷ xs) = f x or any f xs

-- the list without x
unfoldable pub without : ℕ → List ℕ → List ℕ
without x [] = []
without x (y ∷ ys) = cond (eqb x y) (without x ys) (y ∷ without x ys)
