-- The closure of some rows of a rule, in place: one middle after the other, each row that leads to the middle gets what the middle
-- leads to. For proofs of the code: no demand rests on it. Assumes nothing.
use Rattle.std.specs.Prelude.{ℕ, ◌≤◌, ◌<◌, ◌≡◌, ◌⊎◌, cond, not, List, T, length}
use Rattle.bits.specs.Bit.{hasb, union}
use Rattle.basics.specs.Lists.{word}
use Rattle.relations.specs.Paper.{Path⁺}
use Rattle.closing.specs.Rows.{leads}

-- a row with the paths by way of m, which leads onward to some
unfoldable pub row_by : ℕ → ℕ → ℕ → ℕ
row_by m onward row = cond (hasb m row) (union row onward) row

-- an arc of the rows that starts at a member of a set
abbrev pub ArcOf : List ℕ → ℕ → ℕ → ℕ → Type 0
ArcOf rows among c d = T (hasb c among) × T (leads rows c d)

-- paths within a set meet at each member of it that is no middle: what leads to it leads to all that it leads to
pub record Meeting (rows : List ℕ) (among middles : ℕ) : Type 0 where
  pub within : (m : ℕ) → T (hasb m middles) → T (hasb m among)
  pub meets : (o j x : ℕ) → T (not (hasb j middles)) → ArcOf rows among o j → ArcOf rows among j x → T (leads rows o x)

-- the members of a set that a path can go by way of: a member leads to them, and their rows are not empty
pub record Inner (rows : List ℕ) (among inner : ℕ) : Type 0 where
  pub within : (m : ℕ) → T (hasb m inner) → T (hasb m among)
  pub arrives : (m : ℕ) → T (hasb m inner) → (o : ℕ) × ArcOf rows among o m
  pub onward : (m : ℕ) → T (hasb m inner) → word rows m ≡ 0 → ⊥
  pub has : (o m x : ℕ) → ArcOf rows among o m → ArcOf rows among m x → T (hasb m inner)

-- The rows of a set closed: a member's row has bit x exactly if a path of arcs that start at members leads from it to x. Every other row stays.
pub record Closure (before : List ℕ) (among : ℕ) (after : List ℕ) : Type 0 where
  pub size : length after ≡ length before
  pub idle : (o : ℕ) → T (not (hasb o among)) → word after o ≡ word before o
  pub sound : (o x : ℕ) → T (hasb o among) → T (leads after o x) → Path⁺ (ArcOf before among) o x
  pub has : (o x : ℕ) → Path⁺ (ArcOf before among) o x → T (leads after o x)

-- the first rows written anew: g says what a row becomes
pub record Anew (before : List ℕ) (g : ℕ → ℕ) (count : ℕ) (after : List ℕ) : Type 0 where
  pub size : length after ≡ length before
  pub new : (o : ℕ) → o < count → word after o ≡ g (word before o)
  pub rest : (j : ℕ) → count ≤ j → word after j ≡ word before j

-- what a row becomes has what it had, and what each of some middles leads to that it leads to; and nothing else
pub record Gets (rows : List ℕ) (middles : ℕ) (g : ℕ → ℕ) : Type 0 where
  pub keeps : (row x : ℕ) → T (hasb x row) → T (hasb x (g row))
  pub by_way : (row m x : ℕ) → T (hasb m middles) → T (hasb m row) → T (leads rows m x) → T (hasb x (g row))
  pub sound : (row x : ℕ) → T (hasb x (g row)) → T (hasb x row) ⊎ ((m : ℕ) × T (hasb m middles) × T (hasb m row) × T (leads rows m x))

-- The first rows with the paths by way of some middles: once these are closed among themselves, every row that leads to one of them gets what that
-- one leads to.
pub record Stepped (before : List ℕ) (count middles : ℕ) (after : List ℕ) : Type 0 where
  pub between : List ℕ
  pub closure : Closure before middles between
  pub becomes : ℕ → ℕ
  pub gets : Gets between middles becomes
  pub anew : Anew before becomes count after
