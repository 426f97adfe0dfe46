-- Sets of small numbers, kept as the bits of one number: i is a member of s where bit i of s is 1.
-- A width w says how many bits are looked at. Assumes nothing.
use Rattle.std.specs.Prelude.{ℕ, zero, suc, ◌+◌, ◌-◌, ◌*◌, ◌/◌, ◌%◌, ◌^◌, ◌<◌, ◌≡◌, Bool, true, false, eqb}
use Rattle.std.specs.Int.Bits.{bit_and, bit_or}

-- bit i of x, as a number: 1 where i is a member of x, else 0
abbrev pub bit : ℕ → ℕ → ℕ
bit i x = x / 2 ^ i % 2

-- a test as a bit
abbrev pub number : Bool → ℕ
number true = 1
number false = 0

-- whether i is a member of x
abbrev pub hasb : ℕ → ℕ → Bool
hasb i x = eqb (bit i x) 1

-- the set of the b below w for which f holds
unfoldable pub collect : ℕ → (ℕ → Bool) → ℕ
collect zero f = 0
collect (suc w) f = collect w f + number (f w) * 2 ^ w

-- the set of i alone
abbrev pub single : ℕ → ℕ
single i = 2 ^ i

-- the set of all numbers below n
abbrev pub below : ℕ → ℕ
below n = 2 ^ n - 1

-- s with i as a member
unfoldable pub insert : ℕ → ℕ → ℕ
insert i s = s + (1 - bit i s) * 2 ^ i

-- s without i
unfoldable pub remove : ℕ → ℕ → ℕ
remove i s = s - bit i s * 2 ^ i

-- the members of a or of b
unfoldable pub union : ℕ → ℕ → ℕ
union a b = bit_or a b

-- the members of a and of b
unfoldable pub common : ℕ → ℕ → ℕ
common a b = bit_and a b

-- the members of a that b lacks
unfoldable pub minus : ℕ → ℕ → ℕ
unfolding common
minus a b = a - common a b

-- the eight places from number n on, as a set of numbers below 8, and such a set put back to the places from n on
unfoldable pub field : ℕ → ℕ → ℕ
field n s = s / 2 ^ n % 2 ^ 8

unfoldable pub raised : ℕ → ℕ → ℕ
raised n s = s * 2 ^ n

-- The lowest member of s below w, or w where there is none: start at 0, and w times over go one up from what is no member.
unfoldable pub lowest : ℕ → ℕ → ℕ
lowest zero s = 0
lowest (suc w) s = let i = lowest w s in i + (1 - bit i s)

-- how many of the numbers below w are members of s
unfoldable pub count : ℕ → ℕ → ℕ
count zero s = 0
count (suc w) s = count w s + bit w s

-- l is the lowest member of s, a set of numbers below 64 that is not empty
pub record First (s l : ℕ) : Type 0 where
  pub is : l ≡ lowest 64 s
  pub small : l < 64
  pub member : bit l s ≡ 1
