-- Each attribute of a nonterminal node has one definer, a node and a defining occurrence of its rule; a terminal's has none.
-- Different attributes have different cells, all of them inside the values. Assumes nothing.
use Prim.Native.Nat.{ℕ, zero, suc, ◌+◌, ◌*◌, ◌-◌, ◌/◌, ◌%◌, ◌≤◌, ◌<◌}
use mathlib.Core.Path.{◌≡◌, refl, sym, ◌∙◌, ap, ap₂, subst, subst⁻¹}
use mathlib.Core.Logic.{◌⊎◌, inl, inr, ⊎_elim}
use mathlib.Core.Bool.{Bool, not}
use mathlib.Core.List.{List}
use native.Mathlib.Omega.{arith}
use lib.Dec.{T, eqb, T_not}
use Rattle.basics.proofs.TestLaws.{eq_T, tested, same_or_not}
use Rattle.grammar.specs.Table.{
  symbols,
  start,
  kind,
  attributes,
  nonterminal,
  inherited,
  right_length,
  symbol_of,
  position,
  attribute,
  occurrence,
  inherited_at,
}
use Rattle.grammar.specs.WellFormed.{WellFormed, SymbolFormed, RuleFormed}
use Rattle.grammar.proofs.AcceptedTable.{defining_occurs}
use Rattle.grammar.proofs.OccurrenceLaws.{
  none_inherited,
  occurs_inside,
  occurs_attribute,
  attribute_occurs,
  defining_left,
  defining_child,
  left_defining,
  child_defining,
}
use Rattle.trees.specs.Tree.{terminal_mark, nodes, rule_of, applies_rule, child, symbol_at_node, node_at, cell, value_words}
use Rattle.trees.specs.Formed.{ChildOf, Parent, TreeFormed}
use Rattle.trees.specs.Definers.{DefinedAt, Definer, AttributeOf}
use Rattle.trees.proofs.AcceptedTree.{rule_symbol, terminal_symbol}

-- a cell names its node
pub cell_node : (t : List ℕ) (n o : ℕ) → cell t n o / 8 ≡ node_at t n (position o)
unfolding cell
cell_node t n o = omega arith

-- and its attribute
pub cell_attribute : (t : List ℕ) (n o : ℕ) → cell t n o % 8 ≡ attribute o
unfolding cell
cell_attribute t n o = omega arith

-- "value 8n + a"
pub cell_is : (t : List ℕ) (n o : ℕ) → cell t n o ≡ 8 * node_at t n (position o) + attribute o
unfolding cell
cell_is t n o = refl

-- the node at position 0 is the node itself
pub node_left : (t : List ℕ) (n i : ℕ) → i ≡ 0 → node_at t n i ≡ n
unfolding node_at
node_left t n zero e = refl
node_left t n (suc i) e = absurd (omega arith)

-- above it is its child
pub node_child : (t : List ℕ) (n i : ℕ) → 1 ≤ i → node_at t n i ≡ child t n i
unfolding node_at
node_child t n zero e = absurd (omega arith)
node_child t n (suc i) e = refl

module _ {g t : List ℕ} {l : ℕ} (table : WellFormed g) (tree : TreeFormed g t l) where
  rule_formed : (n : ℕ) → n < nodes t → T (applies_rule t n) → RuleFormed g (rule_of t n)
  rule_formed n h a = table.rule (rule_of t n) (tree.rule_known n h a)

  -- the symbol of a node is one of the table's
  pub symbol_known : (n : ℕ) → n < nodes t → symbol_at_node g t n < symbols g
  symbol_known n h =
      ⊎_elim
      (λ a. omega (arith, rule_symbol g t n a, (rule_formed n h a).symbols_fit 0 (omega arith)))
      (λ a. omega (arith, terminal_symbol g t n a, tree.terminal_known n h a)) (tested (applies_rule t n))

  -- a node applies a rule exactly where its symbol is a nonterminal
  pub applies_nonterminal : (n : ℕ) → n < nodes t → T (applies_rule t n) → T (nonterminal g (symbol_at_node g t n))
  applies_nonterminal n h a =
      eq_T _ _ (ap (λ (x : ℕ). kind g x) (rule_symbol g t n a) ∙ (rule_formed n h a).left_nonterminal)

  -- and the other way
  pub nonterminal_applies : (n : ℕ) → n < nodes t → T (nonterminal g (symbol_at_node g t n)) → T (applies_rule t n)
  nonterminal_applies n h s =
      ⊎_elim (λ a. a)
      (λ a.
      absurd (T_not (nonterminal g (rule_of t n - terminal_mark)) (tree.terminal_is n h a) (subst (λ (x : ℕ). T (nonterminal g x)) (terminal_symbol g t n a) s)))
      (tested (applies_rule t n))

  -- the root applies a rule
  pub root_applies : T (applies_rule t 0)
  root_applies =
      nonterminal_applies 0 tree.some_node (eq_T _ _ (ap (λ (x : ℕ). kind g x) tree.root_start ∙ table.start_nonterminal))

  -- the child at a position of the rule
  pub child_of : (n i : ℕ) → n < nodes t → T (applies_rule t n) → 1 ≤ i → i ≤ right_length g (rule_of t n) → ChildOf g t n i (child t n i)
  child_of n i h a f k = record { inside = h; applies = a; first = f; last = k; names = refl }

  -- the node at a position is a node of the tree
  pub node_at_inside : (n i : ℕ) → n < nodes t → T (applies_rule t n) → i ≤ right_length g (rule_of t n) → node_at t n i < nodes t
  unfolding node_at
  node_at_inside n zero h a k = h
  node_at_inside n (suc i) h a k = tree.child_node n (suc i) _ (child_of n (suc i) h a (omega arith) k)

  -- its symbol is the rule's at that position
  pub node_at_symbol : (n i : ℕ) → n < nodes t → T (applies_rule t n) → i ≤ right_length g (rule_of t n)
      → symbol_at_node g t (node_at t n i) ≡ symbol_of g (rule_of t n) i
  unfolding node_at
  node_at_symbol n zero h a k = rule_symbol g t n a
  node_at_symbol n (suc i) h a k = tree.child_symbol n (suc i) _ (child_of n (suc i) h a (omega arith) k)

  -- an attribute number is below 8
  pub attribute_eight : (n a : ℕ) → AttributeOf g t n a → a < 8
  attribute_eight n a w = omega (arith, w.exists, (table.symbol _ (symbol_known n w.inside)).attributes_fit)

  -- an occurrence of the rule at a node is an attribute of the node at its position
  pub occurrence_attribute : (n o : ℕ) → n < nodes t → T (applies_rule t n) → T (occurrence g (rule_of t n) o)
      → AttributeOf g t (node_at t n (position o)) (attribute o)
  occurrence_attribute n o h a t' =
      let i : position o ≤ right_length g (rule_of t n) = occurs_inside g (rule_of t n) o t' in
      record {
        inside = node_at_inside n (position o) h a i;
        exists =
            subst⁻¹ (λ (x : ℕ). attribute o < attributes g x) (node_at_symbol n (position o) h a i)
            (occurs_attribute g (rule_of t n) o t');
      }

  -- so its cell stands inside the values
  pub cell_inside : (n o : ℕ) → n < nodes t → T (applies_rule t n) → T (occurrence g (rule_of t n) o) → cell t n o < value_words t
  cell_inside n o h a t' =
      omega (arith, cell_is t n o, (occurrence_attribute n o h a t').inside)

  module _ (n o : ℕ) (w : DefinedAt g t n o) where
    -- a defining occurrence is an occurrence
    pub defined_occurs : T (occurrence g (rule_of t n) o)
    defined_occurs = defining_occurs g (rule_of t n) o w.is_defining

    defined_position : position o ≤ right_length g (rule_of t n)
    defined_position = occurs_inside g (rule_of t n) o defined_occurs

    -- the class of a defining occurrence, as the class of the attribute at its node
    class_at : inherited_at g (rule_of t n) o ≡ inherited g (symbol_at_node g t (node_at t n (position o))) (attribute o)
    unfolding inherited_at
    class_at = ap (λ (x : ℕ). inherited g x (attribute o)) (sym (node_at_symbol n (position o) w.inside w.applies defined_position))

    defined_child : 1 ≤ position o → ChildOf g t n (position o) (node_at t n (position o))
    defined_child h =
        subst⁻¹ (λ (c : ℕ). ChildOf g t n (position o) c) (node_child t n (position o) h)
        (child_of n (position o) w.inside w.applies h defined_position)

    defined_inherited : 1 ≤ position o → T (inherited g (symbol_at_node g t (node_at t n (position o))) (attribute o))
    defined_inherited h = subst (λ (b : Bool). T b) class_at (defining_child g (rule_of t n) o w.is_defining h)

    defined_synthesized : position o ≡ 0 → T (not (inherited g (symbol_at_node g t (node_at t n (position o))) (attribute o)))
    defined_synthesized h = subst (λ (b : Bool). T (not b)) class_at (defining_left g (rule_of t n) o w.is_defining h)

    -- the node whose attribute a defining occurrence is applies a rule: no function writes a terminal's
    pub defined_applies : T (applies_rule t (node_at t n (position o)))
    defined_applies =
        ⊎_elim (λ e. subst⁻¹ (λ (x : ℕ). T (applies_rule t x)) (node_left t n (position o) e) w.applies)
        (λ e.
        let x : ℕ = node_at t n (position o) in
        let h : x < nodes t = node_at_inside n (position o) w.inside w.applies defined_position in
        let f : SymbolFormed g (symbol_at_node g t x) = table.symbol (symbol_at_node g t x) (symbol_known x h) in
        ⊎_elim (λ s. nonterminal_applies x h s)
        (λ s.
        let k : kind g (symbol_at_node g t x) ≡ 1 =
        omega (arith, f.kind_fits, nonzero (kind g (symbol_at_node g t x)) s) in
        absurd (none_inherited g (symbol_at_node g t x) (attribute o) (f.terminal_mask k) (defined_inherited (omega arith))))
        (tested (nonterminal g (symbol_at_node g t x))))
        (same_or_not (position o) 0)
      where
        nonzero : (k : ℕ) → T (not (eqb k 0)) → 1 ≤ k
        nonzero zero s = absurd s
        nonzero (suc k) s = omega arith

  -- two definers of one cell are the same
  pub one_definer : (n o m q : ℕ) → DefinedAt g t n o → DefinedAt g t m q → cell t n o ≡ cell t m q → (n ≡ m) × (o ≡ q)
  one_definer n o m q v w e = go (same_or_not (position o) 0) (same_or_not (position q) 0)
    where
      node : node_at t n (position o) ≡ node_at t m (position q)
      node = sym (cell_node t n o) ∙ (ap (λ (c : ℕ). c / 8) e ∙ cell_node t m q)

      attr : attribute o ≡ attribute q
      attr = sym (cell_attribute t n o) ∙ (ap (λ (c : ℕ). c % 8) e ∙ cell_attribute t m q)

      class : inherited g (symbol_at_node g t (node_at t n (position o))) (attribute o)
          ≡ inherited g (symbol_at_node g t (node_at t m (position q))) (attribute q)
      class = ap₂ (λ (x a : ℕ). inherited g (symbol_at_node g t x) a) node attr

      go : (position o ≡ 0) ⊎ (position o ≡ 0 → ⊥) → (position q ≡ 0) ⊎ (position q ≡ 0 → ⊥) → (n ≡ m) × (o ≡ q)
      go (inl a) (inl b) = (sym (node_left t n (position o) a) ∙ (node ∙ node_left t m (position q) b), omega (arith, attr))
      go (inl a) (inr b) =
          absurd (T_not (inherited g (symbol_at_node g t (node_at t n (position o))) (attribute o)) (defined_synthesized n o v a) (subst⁻¹ (λ (c : Bool). T c) class (defined_inherited m q w (omega arith))))
      go (inr a) (inl b) =
          absurd (T_not (inherited g (symbol_at_node g t (node_at t m (position q))) (attribute q)) (defined_synthesized m q w b) (subst (λ (c : Bool). T c) class (defined_inherited n o v (omega arith))))
      go (inr a) (inr b) =
          let x : ChildOf g t n (position o) (node_at t m (position q)) =
          subst (λ (c : ℕ). ChildOf g t n (position o) c) node (defined_child n o v (omega arith)) in
          let y : ChildOf g t m (position q) (node_at t m (position q)) = defined_child m q w (omega arith) in (
            tree.same_parent n (position o) m (position q) _ x y,
            omega (arith, attr, tree.same_slot n (position o) m (position q) _ x y),
          )

  module _ (n a : ℕ) (here : T (applies_rule t n)) (w : AttributeOf g t n a) where
    eight : a < 8
    eight = attribute_eight n a w

    place : (i : ℕ) → ((8 * i + a) / 8 ≡ i) × ((8 * i + a) % 8 ≡ a)
    place i = (omega (arith, eight), omega (arith, eight))

    -- The occurrence of attribute a at position i of the rule at node m, where that position is node n's.
    module _ (m i : ℕ) (inside : m < nodes t) (applies : T (applies_rule t m)) (k : i ≤ right_length g (rule_of t m)) (at : node_at t m i ≡ n) where
      symbol_there : symbol_of g (rule_of t m) i ≡ symbol_at_node g t n
      symbol_there = sym (node_at_symbol m i inside applies k) ∙ ap (λ (x : ℕ). symbol_at_node g t x) at

      -- attribute a occurs there
      pub occurs_there : T (occurrence g (rule_of t m) (8 * i + a))
      occurs_there =
          attribute_occurs g (rule_of t m) i a k eight (subst⁻¹ (λ (x : ℕ). a < attributes g x) symbol_there w.exists)

      -- of the same class
      pub class_there : inherited_at g (rule_of t m) (8 * i + a) ≡ inherited g (symbol_at_node g t n) a
      unfolding inherited_at
      class_there =
          ap₂ (λ (j b : ℕ). inherited g (symbol_of g (rule_of t m) j) b) (place i).0 (place i).1
          ∙ ap (λ (x : ℕ). inherited g x a) symbol_there

      -- in the same cell
      pub cell_there : cell t m (8 * i + a) ≡ 8 * n + a
      cell_there =
          cell_is t m (8 * i + a)
          ∙ ap₂ (λ (x b : ℕ). 8 * x + b) (ap (λ (j : ℕ). node_at t m j) (place i).0 ∙ at) (place i).1

    -- the attribute of a nonterminal node has a definer
    pub definer : Definer g t (8 * n + a)
    definer =
        ⊎_elim
        (λ s. inherits s (⊎_elim (λ e. absurd (root_none e s)) (λ h. tree.parent_of n h w.inside) (root_or_not n)))
        (λ s.
        let k : 0 ≤ right_length g (rule_of t n) = omega arith in
        record {
          node = n;
          occurs = 8 * 0 + a;
          defined_at = record {
            inside = w.inside;
            applies = here;
            is_defining =
                left_defining g (rule_of t n) (8 * 0 + a) (occurs_there n 0 w.inside here k (node_left t n 0 refl)) (place 0).0
                (subst⁻¹ (λ (b : Bool). T (not b)) (class_there n 0 w.inside here k (node_left t n 0 refl)) s);
          };
          is_cell = cell_there n 0 w.inside here k (node_left t n 0 refl);
        })
        (tested (inherited g (symbol_at_node g t n) a))
      where
        root_or_not : (n : ℕ) → (n ≡ 0) ⊎ (1 ≤ n)
        root_or_not zero = inl refl
        root_or_not (suc n) = inr (omega arith)

        root_none : n ≡ 0 → T (inherited g (symbol_at_node g t n) a) → ⊥
        root_none e s =
            none_inherited g (start g) a table.start_mask
            (subst (λ (x : ℕ). T (inherited g x a)) (ap (λ (m : ℕ). symbol_at_node g t m) e ∙ tree.root_start) s)

        inherits : T (inherited g (symbol_at_node g t n) a) → Parent g t n → Definer g t (8 * n + a)
        inherits s q =
            let m : ℕ = q.parent in
            let i : ℕ = q.slot in
            let c : ChildOf g t m i n = q.is_child in
            let at : node_at t m i ≡ n = node_child t m i c.first ∙ c.names in
            record {
              node = m;
              occurs = 8 * i + a;
              defined_at = record {
                inside = c.inside;
                applies = c.applies;
                is_defining =
                    child_defining g (rule_of t m) (8 * i + a) (occurs_there m i c.inside c.applies c.last at)
                    (omega (arith, (place i).0, c.first))
                    (subst⁻¹ (λ (b : Bool). T b) (class_there m i c.inside c.applies c.last at) s);
              };
              is_cell = cell_there m i c.inside c.applies c.last at;
            }
