-- Four middles at a time: those from a number k on. What a row gets by way of them is the union of the rows of those that it leads to.
-- For proofs of the code: no demand rests on it. Assumes nothing.
use Rattle.std.specs.Prelude.{ℕ, ◌+◌, ◌/◌, ◌%◌, ◌^◌, ◌≤◌, ◌<◌, ◌≡◌, ◌⊎◌, cond, List, T, length}
use Rattle.bits.specs.Bit.{hasb, union}
use Rattle.basics.specs.Lists.{word}
use Rattle.closing.specs.Closure.{Closure}

-- the members of a set are some of the four from k on
abbrev pub OfFour : ℕ → ℕ → Type 0
OfFour k here = (m : ℕ) → T (hasb m here) → (k ≤ m) × (m < k + 4)

-- the row of m where m is a member of a set, else none
unfoldable pub row_of : List ℕ → ℕ → ℕ → ℕ
row_of rows here m = cond (hasb m here) (word rows m) 0

-- the rows of the first n of the four from k on
pub record RowsOf (rows : List ℕ) (here k n : ℕ) (four : List ℕ) : Type 0 where
  pub size : length four ≡ 4
  pub are : (i : ℕ) → i < n → word four i ≡ row_of rows here (k + i)

-- the rows of the four from k on, once those of them that are members of a set are closed among themselves
pub record Closed (rows : List ℕ) (here k : ℕ) (four : List ℕ) : Type 0 where
  pub between : List ℕ
  pub closure : Closure rows here between
  pub four_rows : RowsOf between here k 4 four

-- Of a table of unions those from count on, as far as they are done, are those before once more, with a further row.
pub record Doubled (before : List ℕ) (count row done : ℕ) (after : List ℕ) : Type 0 where
  pub size : length after ≡ length before
  pub stays : (s : ℕ) → (s < count) ⊎ (count + done ≤ s) → word after s ≡ word before s
  pub once_more : (s : ℕ) → s < done → word after (count + s) ≡ union (word before s) row

-- so many unions of four rows: word s has what is in one of the rows whose numbers are in s
pub record Unions (four : List ℕ) (count : ℕ) (unions : List ℕ) : Type 0 where
  pub size : length unions ≡ 16
  pub has : (s i x : ℕ) → s < count → T (hasb i s) → T (hasb x (word four i)) → T (hasb x (word unions s))
  pub sound : (s x : ℕ) → s < count → T (hasb x (word unions s)) → (i : ℕ) × T (hasb i s) × T (hasb x (word four i))

-- which of the four from k on are members of a set
unfoldable pub four_at : ℕ → ℕ → ℕ
four_at k s = s / 2 ^ k % 2 ^ 4

-- a row with the paths by way of the four from k on, by the table of their unions
unfoldable pub row_by_four : ℕ → List ℕ → ℕ → ℕ
row_by_four k unions row = union row (word unions (four_at k row))
