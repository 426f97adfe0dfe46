-- The set words of a plan: word 8x + a is the number that the nine sets give attribute a of symbol x, and 0 for terminals and where nothing
-- stands. There are 256 words, each at most 9 and of the class of its attribute. Assumes nothing.
use Prim.Native.Nat.{ℕ, ◌+◌, ◌*◌, ◌≤◌, ◌<◌}
use mathlib.Core.Path.{◌≡◌, refl, ◌∙◌, ap, subst⁻¹}
use mathlib.Core.Logic.{◌⊎◌, inl, inr, ⊎_elim}
use mathlib.Core.Bool.{Bool, true, false, cond}
use mathlib.Core.List.{List}
use native.Mathlib.Omega.{arith}
use lib.Dec.{T, ltb→lt, lt→ltb, eqb→eq}
use lib.ListN.{length, replicate, length-replicate, get_or-eq_default}
use Rattle.basics.specs.Tests.{◌and◌}
use Rattle.basics.specs.Lists.{word, blocks}
use Rattle.basics.proofs.TestLaws.{and_intro, and_left, and_right, eq_T, same_or_not, below_or_not}
use Rattle.basics.proofs.ListLaws.{length_blocks, get_d_blocks}
use Rattle.grammar.specs.Limits.{most_symbols, most_attributes, set_words}
use Rattle.grammar.specs.Table.{symbols, kind, attributes, nonterminal, symbol_counts}
use Rattle.sets.specs.Paper.{of_class, Sets}
use Rattle.sets.specs.Visits.{set_number}
use Rattle.sets.specs.Computed.{most_sets, placed_up_to, sets_of_symbol, sets_of}
use Rattle.sets.proofs.Placing.{
  word_zeros,
  Arc,
  number_after,
  length_placed,
  number_at_most,
  number_of_attribute,
  number_class,
}
use Rattle.sets.proofs.Placed.{all_placed, are_the_sets, only_first_empty, arcs_down}

module _ (g ids : List ℕ) where
  -- zeros for what is no nonterminal of the table
  pub zeros_for_others : (x : ℕ) → (x < symbols g → kind g x ≡ 0 → ⊥) → sets_of_symbol g ids x ≡ replicate most_attributes 0
  unfolding sets_of_symbol
  zeros_for_others x q =
      go (symbol_counts g x and nonterminal g x) (λ t. q (ltb→lt x (symbols g) (and_left _ _ t)) (eqb→eq (kind g x) 0 (and_right _ _ t)))
    where
      go : (b : Bool) → (T b → ⊥) → cond b (placed_up_to g ids x most_sets) (replicate most_attributes 0) ≡ replicate most_attributes 0
      go true f = absurd (f tt)
      go false f = refl

  -- a nonterminal of the table has the numbers that the nine sets give
  placed_for_nonterminals : (x : ℕ) → x < symbols g → kind g x ≡ 0 → sets_of_symbol g ids x ≡ placed_up_to g ids x most_sets
  unfolding sets_of_symbol
  placed_for_nonterminals x i e =
      go (symbol_counts g x and nonterminal g x) (and_intro _ _ (lt→ltb x (symbols g) i) (eq_T (kind g x) 0 e))
    where
      go : (b : Bool) → T b → cond b (placed_up_to g ids x most_sets) (replicate most_attributes 0) ≡ placed_up_to g ids x most_sets
      go true t = refl
      go false t = absurd t

  pub nonterminal_or_not : (x : ℕ) → ((x < symbols g) × (kind g x ≡ 0)) ⊎ (x < symbols g → kind g x ≡ 0 → ⊥)
  nonterminal_or_not x =
      ⊎_elim (λ l. ⊎_elim (λ e. inl (l, e)) (λ d. inr (λ i e. d e)) (same_or_not (kind g x) 0)) (λ l. inr (λ i e. omega arith))
      (below_or_not x (symbols g))

  length_of_symbol : (x : ℕ) → length (sets_of_symbol g ids x) ≡ most_attributes
  length_of_symbol x =
      ⊎_elim (λ p. ap length (placed_for_nonterminals x p.0 p.1) ∙ length_placed g ids x most_sets)
      (λ q. ap length (zeros_for_others x q) ∙ length-replicate {A = ℕ} most_attributes 0) (nonterminal_or_not x)

  -- the 256 set words
  pub length_sets : length (sets_of g ids) ≡ set_words
  unfolding sets_of
  length_sets = length_blocks most_attributes most_symbols (λ x. sets_of_symbol g ids x) (λ x l. length_of_symbol x)

  -- "Word 8x + a is the set number"
  pub word_of_symbol : (x a : ℕ) → x < most_symbols → a < most_attributes
      → set_number (sets_of g ids) x a ≡ word (sets_of_symbol g ids x) a
  unfolding set_number sets_of
  word_of_symbol x a h l =
      let e : 8 * x + a ≡ x * 8 + a = omega arith in
      ap (λ (i : ℕ). word (blocks most_symbols (λ x. sets_of_symbol g ids x)) i) e
      ∙ get_d_blocks most_attributes most_symbols (λ x. sets_of_symbol g ids x) 0 (λ x l. length_of_symbol x) x a h l

  -- no word past the last symbol
  word_past : (x a : ℕ) → most_symbols ≤ x → set_number (sets_of g ids) x a ≡ 0
  unfolding set_number
  word_past x a h = get_or-eq_default (sets_of g ids) 0 (omega (arith, length_sets))

  -- 0 for a terminal, and past the table's symbols
  pub number_of_other : (x a : ℕ) → (x < symbols g → kind g x ≡ 0 → ⊥) → a < most_attributes → set_number (sets_of g ids) x a ≡ 0
  number_of_other x a q l =
      ⊎_elim (λ h. word_of_symbol x a h l ∙ ap (λ (w : List ℕ). word w a) (zeros_for_others x q) ∙ word_zeros most_attributes a)
      (λ h. word_past x a h) (below_or_not x most_symbols)

  -- the number that the nine sets give, for a nonterminal of the table
  pub number_of_nonterminal : (x a : ℕ) → x < most_symbols → x < symbols g → kind g x ≡ 0 → a < most_attributes
      → set_number (sets_of g ids) x a ≡ number_after g ids x most_sets a
  number_of_nonterminal x a h i e l = word_of_symbol x a h l ∙ ap (λ (w : List ℕ). word w a) (placed_for_nonterminals x i e)

  -- what a word above 0 says: it stands for an attribute of a nonterminal of the table, and is the number that the nine sets give
  pub record Numbered (x a : ℕ) : Type 0 where
    pub symbol_fits : x < symbols g
    pub symbol_is : kind g x ≡ 0
    pub attribute_fits : a < attributes g x
    pub number_is : set_number (sets_of g ids) x a ≡ number_after g ids x most_sets a

  -- every word above 0 says so
  pub numbered : (x a : ℕ) → a < most_attributes → 1 ≤ set_number (sets_of g ids) x a → Numbered x a
  numbered x a l h =
      ⊎_elim
      (λ m.
      ⊎_elim
      (λ p.
      let n = number_of_nonterminal x a m p.0 p.1 l in
      record {
        symbol_fits = p.0;
        symbol_is = p.1;
        attribute_fits = number_of_attribute g ids x most_sets a (omega arith);
        number_is = n;
      })
      (λ q. absurd (omega (arith, number_of_other x a q l))) (nonterminal_or_not x))
      (λ m. absurd (omega (arith, word_past x a m))) (below_or_not x most_symbols)

  -- no number where nothing stands
  pub number_where_nothing : (x a : ℕ) → attributes g x ≤ a → a < most_attributes → set_number (sets_of g ids) x a ≡ 0
  number_where_nothing x a h l =
      ⊎_elim (λ z. omega arith) (λ p. absurd (omega (arith, (numbered x a l p).attribute_fits)))
      (below_or_not (set_number (sets_of g ids) x a) 1)

  -- the numbers are at most 9
  pub number_nine : (x a : ℕ) → a < most_attributes → set_number (sets_of g ids) x a ≤ most_sets
  number_nine x a l =
      ⊎_elim (λ z. omega arith) (λ p. omega (arith, (numbered x a l p).number_is, number_at_most g ids x most_sets a))
      (below_or_not (set_number (sets_of g ids) x a) 1)

  -- each number is of the class of its attribute
  pub number_of_class : (x a : ℕ) → a < most_attributes → 1 ≤ set_number (sets_of g ids) x a
      → T (of_class g x (set_number (sets_of g ids) x a) a)
  number_of_class x a l h =
      let e = (numbered x a l h).number_is in
      subst⁻¹ (λ (n : ℕ). T (of_class g x n a)) e (number_class g ids x most_sets a (omega arith))

  -- for a nonterminal of the table whose IDS is transitive and has no cycle, the words are the numbers of the sets
  module _ (x : ℕ) (within : x < most_symbols) (stands : x < symbols g) (nonterminal_there : kind g x ≡ 0) (few : attributes g x ≤ most_attributes)
      (transitive : (a b c : ℕ) → Arc g ids x a b → Arc g ids x b c → Arc g ids x a c)
      (acyclic : (a : ℕ) → Arc g ids x a a → ⊥) where
    number_is_law : (a : ℕ) → a < attributes g x → set_number (sets_of g ids) x a ≡ number_after g ids x most_sets a
    number_is_law a l = number_of_nonterminal x a within stands nonterminal_there (omega arith)

    -- the eight words of the symbol number its sets
    pub words_are_the_sets : Sets g x (Arc g ids x) (λ a. word (sets_of_symbol g ids x) a)
    words_are_the_sets =
        subst⁻¹ (λ (w : List ℕ). Sets g x (Arc g ids x) (λ a. word w a)) (placed_for_nonterminals x stands nonterminal_there)
        (are_the_sets g ids x few transitive acyclic)

    -- every attribute has a number
    pub word_placed : (a : ℕ) → a < attributes g x → 1 ≤ set_number (sets_of g ids) x a
    word_placed a l = omega (arith, number_is_law a l, all_placed g ids x few transitive acyclic a l)

    -- only number 1 can be missing
    pub word_only_first_empty : (a j : ℕ) → a < attributes g x → 2 ≤ j → j ≤ set_number (sets_of g ids) x a
        → (b : ℕ) × (b < attributes g x) × (set_number (sets_of g ids) x b ≡ j)
    word_only_first_empty a j l h i =
        let w = only_first_empty g ids x few transitive acyclic a j h (omega (arith, number_is_law a l)) in
        (w.0, w.1, number_is_law w.0 w.1 ∙ w.2)

    -- an IDS arc leads to the same number or a lower one
    pub word_arcs_down : (a b : ℕ) → Arc g ids x a b → set_number (sets_of g ids) x b ≤ set_number (sets_of g ids) x a
    word_arcs_down a b r =
        omega (arith, number_is_law a r.0, number_is_law b r.1, arcs_down g ids x few transitive acyclic a b r)
