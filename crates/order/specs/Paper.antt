-- Document 01, "Relations and sets" (000, definitions 4 to 7): the sets of a whole grammar, EDP over them, and what it is to be ordered.
-- The sets are a function: set x a is the number of attribute a of symbol x. No algorithm stands here. Assumes nothing.
use Rattle.std.specs.Prelude.{ℕ, suc, ◌<◌, ◌≡◌, List, T}
use Rattle.grammar.specs.Table.{kind, attributes, occurrence_of, rule_counts, symbol_counts}
use Rattle.relations.specs.Paper.{DP, Stands, IDS, IDP⁺, OnCycle}
use Rattle.sets.specs.Paper.{Sets}

-- x is a nonterminal that counts
pub record Nonterminal (g : List ℕ) (x : ℕ) : Type 0 where
  pub counts : T (symbol_counts g x)
  pub kind_is : kind g x ≡ 0

-- "Sets of a nonterminal": each set the largest collection; "0 for terminals and where nothing stands"
pub record PaperSets (g : List ℕ) (set : ℕ → ℕ → ℕ) : Type 1 where
  pub of_symbol : (x : ℕ) → Nonterminal g x → Sets g x (IDS g x) (set x)
  pub nothing : (x a : ℕ) → ¬ Nonterminal g x → set x a ≡ 0

-- attributes a and b of one nonterminal x at position i of rule r, and the occurrences c and d that they are there
pub record Beside (g : List ℕ) (r i x a b c d : ℕ) : Type 0 where
  pub stands : Stands g r i x
  pub nonterminal_there : kind g x ≡ 0
  pub first_fits : a < attributes g x
  pub second_fits : b < attributes g x
  pub first_is : c ≡ occurrence_of i a
  pub second_is : d ≡ occurrence_of i b

-- "DP, and at each nonterminal position the IDS arcs and an arc from a to b wherever a's set number is higher"
pub data EDP (g : List ℕ) (set : ℕ → ℕ → ℕ) (r : ℕ) : ℕ → ℕ → Type 0 where
  direct : {c d : ℕ} → DP g r c d → EDP g set r c d
  within : {c d : ℕ} (i x a b : ℕ) → Beside g r i x a b c d → IDS g x a b → EDP g set r c d
  higher : {c d : ℕ} (i x a b : ℕ) → Beside g r i x a b c d → set x b < set x a → EDP g set r c d

-- 000's definition 5 adds the arcs between neighbouring sets only
pub data Neighbouring (g : List ℕ) (set : ℕ → ℕ → ℕ) (r : ℕ) : ℕ → ℕ → Type 0 where
  direct : {c d : ℕ} → DP g r c d → Neighbouring g set r c d
  within : {c d : ℕ} (i x a b : ℕ) → Beside g r i x a b c d → IDS g x a b → Neighbouring g set r c d
  next : {c d : ℕ} (i x a b : ℕ) → Beside g r i x a b c d → set x a ≡ suc (set x b) → Neighbouring g set r c d

-- "some IDP has a cycle"
abbrev pub CircularIDP : List ℕ → Type 0
CircularIDP g = (r : ℕ) × T (rule_counts g r) × ((o : ℕ) × IDP⁺ g r o o)

-- no EDP over these sets has a cycle
abbrev pub Ordered : List ℕ → (ℕ → ℕ → ℕ) → Type 0
Ordered g set = (r o : ℕ) → T (rule_counts g r) → OnCycle (EDP g set r) o → ⊥

-- "Ordered: no EDP has a cycle": there are sets in the paper's sense, and over them no EDP has one
pub record IsOrdered (g : List ℕ) : Type 1 where
  pub set : ℕ → ℕ → ℕ
  pub are_sets : PaperSets g set
  pub no_cycle : Ordered g set

-- "the lowest-numbered rule, and in it the lowest occurrence, that lies on a cycle": lies r o says that occurrence o of rule r does
pub record LowestCycle (g : List ℕ) (lies : ℕ → ℕ → Type 0) (r o : ℕ) : Type 0 where
  pub counts : T (rule_counts g r)
  pub on : lies r o
  pub lowest_rule : (q n : ℕ) → q < r → T (rule_counts g q) → lies q n → ⊥
  pub lowest_occurrence : (n : ℕ) → n < o → lies r n → ⊥
