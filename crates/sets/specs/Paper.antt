-- Document 01, "Sets of a nonterminal, numbered from the end" (000, definition 4): what the sets are, with no algorithm.
-- They are over any relation of IDS arcs and any numbering of the attributes. Assumes nothing.
use Rattle.std.specs.Prelude.{ℕ, ◌≤◌, ◌<◌, ◌%◌, ◌≡◌, ◌⊎◌, Bool, cond, List, T, eqb}
use Rattle.grammar.specs.Table.{attributes, inherited}

-- "Odd sets hold synthesized attributes, even sets inherited": attribute a of symbol x is of the class of set k
unfoldable pub of_class : List ℕ → ℕ → ℕ → ℕ → Bool
of_class g x k a = eqb (k % 2) (cond (inherited g x a) 0 1)

module _ (g : List ℕ) (x : ℕ) (ids : ℕ → ℕ → Type 0) (set : ℕ → ℕ) where
  -- a is in one of the sets 1..k-1
  abbrev pub PlacedEarlier : ℕ → ℕ → Type 0
  PlacedEarlier k a = (1 ≤ set a) × (set a < k)

  -- "unplaced attributes of its class whose IDS successors are all in sets 1..k", where set k is the collection itself
  pub record Collection (k : ℕ) (member : ℕ → Type 0) : Type 0 where
    pub attribute_of : (a : ℕ) → member a → a < attributes g x
    pub unplaced : (a : ℕ) → member a → PlacedEarlier k a → ⊥
    pub class : (a : ℕ) → member a → T (of_class g x k a)
    pub successors : (a b : ℕ) → member a → ids a b → PlacedEarlier k b ⊎ member b

  -- "Set k is the largest collection"
  pub record Largest (k : ℕ) : Type 1 where
    pub collection : Collection k (λ a. set a ≡ k)
    pub largest : (member : ℕ → Type 0) → Collection k member → (a : ℕ) → member a → set a ≡ k

  -- the numbering is that of the sets: each set the largest, every attribute in one, and 0 where nothing stands
  pub record Sets : Type 1 where
    pub each : (k : ℕ) → 1 ≤ k → Largest k
    pub placed : (a : ℕ) → a < attributes g x → 1 ≤ set a
    pub nothing : (a : ℕ) → attributes g x ≤ a → set a ≡ 0
