-- Document 01: the last set m of a symbol, its visits, and the visit that a set belongs to. They are read off the set words of a plan,
-- whoever wrote it: word 8x + a is the set number of attribute a of symbol x. Assumes nothing.
use Rattle.std.specs.Prelude.{ℕ, zero, suc, ◌+◌, ◌*◌, ◌-◌, ◌/◌, max, List}
use Rattle.basics.specs.Lists.{word}
use Rattle.grammar.specs.Limits.{most_attributes}

-- "Word 8x + a is the set number"
unfoldable pub set_number : List ℕ → ℕ → ℕ → ℕ
set_number s x a = word s (8 * x + a)

-- the largest of f 0 to f (n - 1), 0 where n is 0
unfoldable pub highest : ℕ → (ℕ → ℕ) → ℕ
highest zero f = 0
highest (suc n) f = max (highest n f) (f n)

-- "m is the last set needed, 0 with no attributes"
unfoldable pub last_set : List ℕ → ℕ → ℕ
last_set s x = highest most_attributes (λ a. set_number s x a)

-- half of k, rounded up
abbrev pub half_up : ℕ → ℕ
half_up k = (k + 1) / 2

-- "The symbol has v = m/2 rounded up visits, but at least 1"
abbrev pub visits_for : ℕ → ℕ
visits_for m = max 1 (half_up m)

unfoldable pub visits : List ℕ → ℕ → ℕ
visits s x = visits_for (last_set s x)

-- "Set k belongs to visit v + 1 - (k/2 rounded up)"
abbrev pub visit_for : ℕ → ℕ → ℕ
visit_for v k = v + 1 - half_up k

unfoldable pub visit_of_set : List ℕ → ℕ → ℕ → ℕ
visit_of_set s x k = visit_for (visits s x) k

-- the visit of attribute a of symbol x
unfoldable pub visit_of : List ℕ → ℕ → ℕ → ℕ
visit_of s x a = visit_of_set s x (set_number s x a)
