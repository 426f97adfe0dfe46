-- Document 01, "Relations and sets", as 000 defines them (section 3, definitions 1 to 3): what the relations are, with no algorithm.
-- A relation is a type of arcs, a path is one arc or more, and IDP is the least family of relations: it has no arc but for a reason.
-- Assumes nothing.
use Rattle.std.specs.Prelude.{ℕ, ◌≤◌, ◌<◌, ◌≡◌, List, T}
use Rattle.grammar.specs.Table.{
  functions,
  target,
  argument,
  arguments,
  right_length,
  symbol_of,
  attributes,
  occurrence_of,
  rule_counts,
}

-- a path of one arc or more
pub data Path⁺ (arc : ℕ → ℕ → Type 0) : ℕ → ℕ → Type 0 where
  one : {a b : ℕ} → arc a b → Path⁺ arc a b
  more : {a b c : ℕ} → Path⁺ arc a b → arc b c → Path⁺ arc a c

-- "DP of a rule: an arc from each argument to its target"
pub record DP (g : List ℕ) (r a b : ℕ) : Type 0 where
  pub function : ℕ
  pub function_fits : function < functions g r
  pub target_is : target g r function ≡ b
  pub place : ℕ
  pub place_fits : place < arguments g r function
  pub argument_is : argument g r function place ≡ a

-- position i of rule r, which counts, has the symbol x
pub record Stands (g : List ℕ) (r i x : ℕ) : Type 0 where
  pub counts : T (rule_counts g r)
  pub inside : i ≤ right_length g r
  pub symbol_is : symbol_of g r i ≡ x

module _ (g : List ℕ) where
  mutual
    -- "the least relations with DP in IDP, and such that a path in one rule's IDP from an attribute of one occurrence of X to another
    -- of its attributes, or back to the same one, is an arc at every occurrence of X in every rule"
    pub data IDP : ℕ → ℕ → ℕ → Type 0 where
      direct : (r a b : ℕ) → DP g r a b → IDP r a b
      induced : (r i x a b c d : ℕ) → Stands g r i x → IDS x a b → c ≡ occurrence_of i a → d ≡ occurrence_of i b → IDP r c d

    -- "IDS of X: those arcs"
    pub data IDS : ℕ → ℕ → ℕ → Type 0 where
      from : (r i x a b : ℕ) → Stands g r i x → a < attributes g x → b < attributes g x
          → IDP⁺ r (occurrence_of i a) (occurrence_of i b) → IDS x a b

    -- a path in IDP of one arc or more
    pub data IDP⁺ : ℕ → ℕ → ℕ → Type 0 where
      one : (r a b : ℕ) → IDP r a b → IDP⁺ r a b
      more : (r a b c : ℕ) → IDP⁺ r a b → IDP r b c → IDP⁺ r a c

-- o lies on a cycle of a relation
abbrev pub OnCycle : (ℕ → ℕ → Type 0) → ℕ → Type 0
OnCycle arc o = Path⁺ arc o o
