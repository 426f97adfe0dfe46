-- Which computes are blocked: those to which a path leads from an occurrence that waits. Of the computes that are left the others are ready.
-- For proofs of the code: no demand rests on it. Assumes nothing.
use Rattle.std.specs.Prelude.{ℕ, ◌+◌, ◌<◌, List, T}
use Rattle.basics.specs.Lists.{word}
use Rattle.bits.specs.Bit.{hasb}
use Rattle.grammar.specs.Limits.{most_occurrences}

-- the rows of a rule are closed: what o leads to leads nowhere that o does not
abbrev pub RowsClosed : List ℕ → ℕ → Type 0
RowsClosed rows base =
    (o k b : ℕ) → o < most_occurrences → T (hasb k (word rows (base + o))) → T (hasb b (word rows (base + k))) → T (hasb b (word rows (base + o)))

-- the computes to which no path leads from what waits, and no others
pub record Unblocked (rows : List ℕ) (base waiting computes ready : ℕ) : Type 0 where
  pub within : (b : ℕ) → T (hasb b ready) → T (hasb b computes)
  pub free : (b o : ℕ) → T (hasb b ready) → T (hasb o waiting) → T (hasb b (word rows (base + o))) → ⊥
  pub all : (b : ℕ) → T (hasb b computes) → ((o : ℕ) → T (hasb o waiting) → T (hasb b (word rows (base + o))) → ⊥) → T (hasb b ready)
