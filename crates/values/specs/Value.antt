-- The values of attributes and the nine operations on them, as the table of operations lists them.
-- An operation's result is the exact one, held at the ends of the range. Assumes nothing.
use Rattle.std.specs.Prelude.{ℕ, Bool, true, false, cond, ◌&&◌, ◌||◌, List, [], ◌∷◌, get_or, eqb, ltb, ℤ, pos, negsuc, ◌+ℤ◌, ◌-ℤ◌}
use Rattle.std.specs.Int.Signed.{lt_z}

-- values are whole numbers from -2,147,483,648 ..
abbrev pub least : ℤ
least = negsuc 2147483647

-- .. to 2,147,483,647
abbrev pub greatest : ℤ
greatest = pos 2147483647

-- what lies past either end stops at that end
unfoldable pub hold : ℤ → ℤ
hold x = cond (lt_z x least) least (cond (lt_z greatest x) greatest x)

-- a constant word of 16 bits, in two's complement
unfoldable pub constant : ℕ → ℤ
constant word = cond (ltb word 32768) (pos word) (pos word -ℤ pos 65536)

-- 1 where a test holds, else 0
abbrev pub truth : Bool → ℤ
truth true = pos 1
truth false = pos 0

-- two values are equal
abbrev pub same : ℤ → ℤ → Bool
same (pos a) (pos b) = eqb a b
same (pos a) (negsuc b) = false
same (negsuc a) (pos b) = false
same (negsuc a) (negsuc b) = eqb a b

-- the larger of two
unfoldable pub larger : ℤ → ℤ → ℤ
larger x y = cond (lt_z x y) y x

-- the smaller of two
unfoldable pub smaller : ℤ → ℤ → ℤ
smaller x y = cond (lt_z x y) x y

-- 1 if x < y, else 0
unfoldable pub less : ℤ → ℤ → ℤ
less x y = truth (lt_z x y)

-- y if x is not 0, else z
unfoldable pub choose : ℤ → ℤ → ℤ → ℤ
choose x y z = cond (same x (pos 0)) z y

-- the service order: 1 if p > q, or p = q and s < t; else 0
unfoldable pub served_before : ℤ → ℤ → ℤ → ℤ → ℤ
served_before p s q t = truth (lt_z q p || (same p q && lt_z s t))

-- The exact result of each operation, from number 0 up. Operation 0 is handed its constant; an operation looks at no more than its own arguments.
abbrev pub results : ℤ → ℤ → ℤ → ℤ → List ℤ
results x y z t =
    x ∷ x ∷ (x +ℤ y) ∷ (x -ℤ y) ∷ larger x y ∷ smaller x y ∷ less x y ∷ choose x y z ∷ served_before x y z t ∷ []

-- the exact result of the operation of a number; no operation has a number over 8
unfoldable pub exact : ℕ → ℤ → ℤ → ℤ → ℤ → ℤ
exact op x y z t = get_or (results x y z t) op (pos 0)

-- the value of an operation
unfoldable pub result : ℕ → ℤ → ℤ → ℤ → ℤ → ℤ
result op x y z t = hold (exact op x y z t)
