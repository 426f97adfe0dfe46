-- Arcs added to the rows of one rule: what the rows say afterwards is the paths of what they said before and of the arcs.
-- For proofs of the code: no demand rests on it. Assumes nothing.
use Rattle.std.specs.Prelude.{ℕ, ◌+◌, ◌*◌, ◌/◌, ◌%◌, ◌<◌, ◌≡◌, ◌⊎◌, not, List, T, length}
use Rattle.bits.specs.Bit.{hasb}
use Rattle.relations.specs.Paper.{Path⁺}
use Rattle.closing.specs.Rows.{leads, Arc, Kept}

-- the one arc from a to b
pub record Only (a b c d : ℕ) : Type 0 where
  pub start : c ≡ a
  pub end : d ≡ b

-- the ends of each arc are occurrences
abbrev pub Inside : ℕ → (ℕ → ℕ → Type 0) → Type 0
Inside among arc = (a b : ℕ) → arc a b → T (hasb a among) × T (hasb b among)

-- a step from c to d: an arc of the rows, or one of those that are added
abbrev pub Step : List ℕ → (ℕ → ℕ → Type 0) → ℕ → ℕ → Type 0
Step rows arc c d = Arc rows c d ⊎ arc c d

-- the rows after some arcs were added to those before: nothing lost, every arc there, nothing but paths
pub record Grown (before : List ℕ) (arc : ℕ → ℕ → Type 0) (after : List ℕ) : Type 0 where
  pub size : length after ≡ length before
  pub keeps : (o x : ℕ) → o < 64 → T (leads before o x) → T (leads after o x)
  pub has : (a b : ℕ) → arc a b → (a < 64) × T (leads after a b)
  pub sound : (o x : ℕ) → o < 64 → T (leads after o x) → Path⁺ (Step before arc) o x

-- closed, and between the occurrences: every path is there
pub record Closes (before : List ℕ) (among : ℕ) (arc : ℕ → ℕ → Type 0) (after : List ℕ) : Type 0 where
  pub grown : Grown before arc after
  pub kept : Kept after among

-- not closed yet: the arcs alone were added
pub record Marked (before : List ℕ) (arc : ℕ → ℕ → Type 0) (after : List ℕ) : Type 0 where
  pub grown : Grown before arc after
  pub only : (o x : ℕ) → o < 64 → T (leads after o x) → T (leads before o x) ⊎ arc o x

-- paths meet at every number but the members of a set
abbrev pub Met : List ℕ → ℕ → Type 0
Met rows set =
    (o j x : ℕ) → o < 64 → j < 64 → T (not (hasb j set)) → T (leads rows o j) → T (leads rows j x) → T (leads rows o x)

-- not closed yet: the arcs were added with what they lead on to, so that paths meet wherever they met but where arcs start. A set has the
-- numbers at which they may not meet. How many paths are there already is not said.
pub record Joined (before : List ℕ) (set : ℕ) (arc : ℕ → ℕ → Type 0) (after : List ℕ) (more : ℕ) : Type 0 where
  pub grown : Grown before arc after
  pub met : Met before set → Met after more
  pub starts : (o : ℕ) → T (hasb o more) → T (hasb o set) ⊎ ((x : ℕ) × arc o x)

-- arc k = 8a + b of a set of arcs, between attributes a and b at position i
pub record ArcAt (i arcs c d : ℕ) : Type 0 where
  pub number : ℕ
  pub member : T (hasb number arcs)
  pub start : c ≡ 8 * i + number / 8
  pub end : d ≡ 8 * i + number % 8

-- those of them that start at attribute a
pub record ArcOut (i arcs a c d : ℕ) : Type 0 where
  pub arc : ArcAt i arcs c d
  pub from : arc.number / 8 ≡ a

-- the ends of each of them are occurrences
abbrev pub Ends : ℕ → ℕ → ℕ → Type 0
Ends among i arcs = (k : ℕ) → T (hasb k arcs) → T (hasb (8 * i + k / 8) among) × T (hasb (8 * i + k % 8) among)
