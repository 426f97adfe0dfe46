-- The relation of one rule in its 64 lent rows: bit b of row o says that a path leads from o to b.
-- 000's addarctrans adds an arc and all that it joins. Here a row gets its new arcs with what they lead on to, and the rows are closed
-- once, over those that got some. For proofs of the code: no demand rests on it. Assumes nothing.
use Rattle.std.specs.Prelude.{ℕ, ◌+◌, ◌*◌, ◌-◌, ◌/◌, ◌%◌, ◌<◌, ◌≡◌, ◌⊎◌, Bool, cond, List, T, ltb, leb, length}
use Rattle.bits.specs.Bit.{hasb, collect}
use Rattle.basics.specs.Tests.{◌and◌}
use Rattle.basics.specs.Lists.{word, tabulate}

-- a path leads from o to b
unfoldable pub leads : List ℕ → ℕ → ℕ → Bool
leads rows o b = hasb b (word rows o)

-- an arc of the rows
abbrev pub Arc : List ℕ → ℕ → ℕ → Type 0
Arc rows c d = (c < 64) × T (leads rows c d)

-- every arc starts at a member of a set
abbrev pub Starts : List ℕ → ℕ → Type 0
Starts rows among = (o x : ℕ) → o < 64 → T (leads rows o x) → T (hasb o among)

-- the rows of a rule: closed, and between its occurrences
pub record Kept (rows : List ℕ) (among : ℕ) : Type 0 where
  pub room : length rows ≡ 64
  pub closed : (o m x : ℕ) → o < 64 → m < 64 → T (leads rows o m) → T (leads rows m x) → T (leads rows o x)
  pub from : Starts rows among
  pub to : (o x : ℕ) → o < 64 → T (leads rows o x) → T (hasb x among)

-- the members of a set and all that they lead to
pub record Reached (rows : List ℕ) (set reached : ℕ) : Type 0 where
  pub own : (b : ℕ) → T (hasb b set) → T (hasb b reached)
  pub has : (b x : ℕ) → T (hasb b set) → T (leads rows b x) → T (hasb x reached)
  pub sound : (x : ℕ) → T (hasb x reached) → T (hasb x set) ⊎ ((b : ℕ) × T (hasb b set) × T (leads rows b x))

-- row o with arcs to the members of a set, and from there to all that they lead to; every other word stays
pub record Extended (before : List ℕ) (o to : ℕ) (after : List ℕ) : Type 0 where
  pub size : length after ≡ length before
  pub others : (j : ℕ) → (j ≡ o → ⊥) → word after j ≡ word before j
  pub keeps : (x : ℕ) → T (leads before o x) → T (leads after o x)
  pub own : (b : ℕ) → T (hasb b to) → T (leads after o b)
  pub has : (b x : ℕ) → T (hasb b to) → T (leads before b x) → T (leads after o x)
  pub sound : (x : ℕ) → T (leads after o x)
      → T (leads before o x) ⊎ (T (hasb x to) ⊎ ((b : ℕ) × T (hasb b to) × T (leads before b x)))

-- words from base on written anew at the members of a set: word base + o becomes f o
unfoldable pub rewritten : List ℕ → ℕ → ℕ → (ℕ → ℕ) → List ℕ
rewritten rows base among f =
    tabulate (length rows) (λ j. cond (leb base j and ltb j (base + 64) and hasb (j - base) among) (f (j - base)) (word rows j))

-- The arcs between the attributes at position i, of which there are count: bit 8a + b says that a path leads from attribute a to b.
unfoldable pub arcs_at : List ℕ → ℕ → ℕ → ℕ
arcs_at rows i count =
    collect 64 (λ k. ltb (k / 8) count and leads rows (8 * i + k / 8) (8 * i + k % 8))
