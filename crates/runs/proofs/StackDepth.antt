-- "The stack never exceeds the number of nonterminals on the longest path down": it is such a path itself.
-- So it never exceeds the number of nodes, which is at most 1,024. Assumes nothing.
use Prim.Native.Nat.{ℕ, zero, suc, ◌+◌, ◌-◌, ◌≤◌}
use mathlib.Core.Path.{◌≡◌, refl, ap, subst, subst⁻¹}
use mathlib.Core.Logic.{⊎_elim}
use mathlib.Core.Bool.{Bool, true, false, cond}
use mathlib.Core.List.{List, [], ◌∷◌}
use native.Mathlib.Omega.{arith}
use lib.Dec.{T}
use lib.IntN.{ℤ}
use lib.ListN.{length}
use Rattle.basics.proofs.TestLaws.{below_or_not}
use Rattle.grammar.specs.Table.{right_length}
use Rattle.sets.specs.Visits.{highest}
use Rattle.sets.proofs.Visits.{highest_bounds, highest_reached}
use Rattle.trees.specs.Tree.{most_nodes, nodes, rule_of, applies_rule, child}
use Rattle.trees.specs.Formed.{ChildOf}
use Rattle.runs.specs.Depth.{PathDown, depth_below, longest_down}
use Rattle.runs.specs.Balance.{RunGiven}
use Rattle.runs.specs.Computing.{machine_at}
use Rattle.runs.proofs.Steps.{top_inside, top_applies}
use Rattle.runs.proofs.BalanceKept.{after_balanced}

module _ (g t : List ℕ) where
  -- a node that applies a rule is one more than the deepest of its children
  depth_applies : (d n : ℕ) → T (applies_rule t n)
      → depth_below g t (suc d) n ≡ suc (highest (right_length g (rule_of t n)) (λ i. depth_below g t d (child t n (suc i))))
  unfolding depth_below
  depth_applies d n = go (applies_rule t n)
    where
      go : (b : Bool) → T b
          → cond b (suc (highest (right_length g (rule_of t n)) (λ i. depth_below g t d (child t n (suc i))))) 0
          ≡ suc (highest (right_length g (rule_of t n)) (λ i. depth_below g t d (child t n (suc i))))
      go true a = refl
      go false a = absurd a

  child_depth : (d n i c : ℕ) → ChildOf g t n i c → suc (depth_below g t d c) ≤ depth_below g t (suc d) n
  child_depth d n zero c w = absurd (omega (arith, w.first))
  child_depth d n (suc i) c w =
      omega (
        arith,
        depth_applies d n w.applies,
        ap (λ (x : ℕ). depth_below g t d x) w.names,
        highest_bounds (right_length g (rule_of t n)) (λ i. depth_below g t d (child t n (suc i))) i w.last,
      )

  -- what stands above the last node of a path, and the depth below it, are together no more than the depth below the root
  path_depth : (d c : ℕ) (rest : List ℕ) → PathDown g t (c ∷ rest) → length rest + depth_below g t d c ≤ depth_below g t (length rest + d) 0
  path_depth d c [] w =
      let e : 0 + d ≡ d = omega arith in
      subst⁻¹ (λ (x : ℕ). 0 + depth_below g t d c ≤ depth_below g t x 0) e
      (omega (arith, ap (λ (x : ℕ). depth_below g t d x) w))
  path_depth d c (n ∷ rest) w =
      let e : suc (length rest) + d ≡ length rest + suc d = omega arith in
      subst⁻¹ (λ (x : ℕ). suc (length rest) + depth_below g t d c ≤ depth_below g t x 0) e
      (omega (arith, path_depth (suc d) n rest w.1, child_depth d n w.0.slot c w.0.is_child))

  -- only a node that applies a rule has nonterminal nodes below it or in it
  some_applies : (d n : ℕ) → 1 ≤ depth_below g t d n → T (applies_rule t n)
  unfolding depth_below
  some_applies zero n h = absurd (omega arith)
  some_applies (suc d) n h = go (applies_rule t n) h
    where
      go : (b : Bool) → 1 ≤ cond b (suc (highest (right_length g (rule_of t n)) (λ i. depth_below g t d (child t n (suc i))))) 0 → T b
      go true h = tt
      go false h = absurd (omega arith)

  some_fuel : (d n : ℕ) → 1 ≤ depth_below g t d n → 1 ≤ d
  unfolding depth_below
  some_fuel zero n h = absurd (omega arith)
  some_fuel (suc d) n h = omega arith

module _ {g p t : List ℕ} {l : ℕ} (given : RunGiven g p t l) where
  -- the nodes of a path rise, so it has no more nodes than its last node's number says
  path_short : (c : ℕ) (rest : List ℕ) → PathDown g t (c ∷ rest) → length rest ≤ c
  path_short c [] w = omega arith
  path_short c (n ∷ rest) w =
      omega (arith, path_short n rest w.1, given.tree.child_higher n w.0.slot c w.0.is_child)

  -- a path down has no more nodes than the tree
  pub path_nodes : (stack : List ℕ) → PathDown g t stack → length stack ≤ nodes t
  path_nodes [] w = omega arith
  path_nodes (c ∷ rest) w = omega (arith, path_short c rest w, top_inside given c rest w)

  -- no path down is longer than the longest
  pub path_longest : (stack : List ℕ) → PathDown g t stack → length stack ≤ longest_down g t
  unfolding longest_down
  path_longest [] w = omega arith
  path_longest (c ∷ rest) w =
      let short : suc (length rest) ≤ nodes t = path_nodes (c ∷ rest) w in
      let d : ℕ = nodes t - suc (length rest) in
      let e : length rest + suc d ≡ nodes t = omega arith in
      subst (λ (x : ℕ). suc (length rest) ≤ depth_below g t x 0) e
      (omega (arith, path_depth g t (suc d) c rest w, depth_applies g t d c (top_applies given c rest w)))

  -- from the last node of a path one goes on as deep as it gets
  reached : (d c : ℕ) (rest : List ℕ) → PathDown g t (c ∷ rest) → 1 ≤ d
      → (path : List ℕ) × PathDown g t path × (length path ≡ length rest + depth_below g t d c)
  reached zero c rest w h = absurd (omega arith)
  reached (suc d) c rest w h =
      ⊎_elim
      (λ s.
      let v = highest_reached r below s in
      let i : ℕ = v.0 in
      let x : ℕ = child t c (suc i) in
      let deep : 1 ≤ depth_below g t d x = omega (arith, v.2) in
      let u = reached d x (c ∷ rest) (
        record {
          slot = suc i;
          applies = some_applies g t d x deep;
          is_child = record {
            inside = top_inside given c rest w;
            applies = a;
            first = omega arith;
            last = v.1;
            names = refl;
          };
        },
        w,
      ) (some_fuel g t d x deep) in
      (u.0, u.1, omega (arith, u.2, v.2, depth_applies g t d c a)))
      (λ s. (c ∷ rest, w, omega (arith, depth_applies g t d c a))) (below_or_not 0 (highest r below))
    where
      a : T (applies_rule t c)
      a = top_applies given c rest w

      r : ℕ
      r = right_length g (rule_of t c)

      below : ℕ → ℕ
      below i = depth_below g t d (child t c (suc i))

  -- so it is the number on the longest path
  pub longest_reached : (path : List ℕ) × PathDown g t path × (length path ≡ longest_down g t)
  unfolding longest_down
  longest_reached =
      let w = reached (nodes t) 0 [] refl given.tree.some_node in (w.0, w.1, omega (arith, w.2))

  -- at every moment the stack is no longer
  pub stack_depth : (values : List ℤ) (k : ℕ) → length (machine_at g p t values k).stack ≤ longest_down g t
  stack_depth values k = path_longest (machine_at g p t values k).stack (after_balanced given values k).path

  -- nor longer than the tree's nodes
  pub stack_nodes : (values : List ℤ) (k : ℕ) → length (machine_at g p t values k).stack ≤ nodes t
  stack_nodes values k = path_nodes (machine_at g p t values k).stack (after_balanced given values k).path

  -- so at most 1,024
  pub stack_fits : (values : List ℤ) (k : ℕ) → length (machine_at g p t values k).stack ≤ most_nodes
  stack_fits values k = omega (arith, stack_nodes values k, given.tree.nodes_fit)
