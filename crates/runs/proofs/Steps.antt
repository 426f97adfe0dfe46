-- What one action does to the stack and the places, and what the stack as a path down says of its nodes.
-- Assumes nothing.
use Prim.Native.Nat.{ℕ, zero, suc, ◌+◌, ◌≤◌, ◌<◌}
use mathlib.Core.Path.{◌≡◌, refl, sym, ◌∙◌, ap, subst, subst⁻¹}
use mathlib.Core.Bool.{Bool, true, false, cond}
use mathlib.Core.List.{List, [], ◌∷◌}
use native.Mathlib.Omega.{arith}
use lib.Dec.{T, eqb, eqb→eq}
use lib.IntN.{ℤ}
use lib.ListN.{set, replicate}
use Rattle.basics.specs.Lists.{word}
use Rattle.basics.proofs.TestLaws.{eq_T, true_T}
use Rattle.sequences.specs.Actions.{Action, compute, visit, leave, none, decode}
use Rattle.trees.specs.Tree.{nodes, rule_of, applies_rule}
use Rattle.trees.proofs.Cells.{root_applies}
use Rattle.plans.specs.Sequences.{action_at}
use Rattle.runs.specs.Automaton.{Machine, act, action_of, step_on, step}
use Rattle.runs.specs.Depth.{PathDown}
use Rattle.runs.specs.Balance.{RunGiven, times}

-- a list of zeros is 0 everywhere
pub all_zero : (n i : ℕ) → word (replicate n 0) i ≡ 0
all_zero zero i = refl
all_zero (suc n) zero = refl
all_zero (suc n) (suc i) = all_zero n i

-- the action that a node is at
pub action_of_law : (p t places : List ℕ) (n : ℕ) → action_of p t places n ≡ decode (action_at p (rule_of t n) (word places n))
unfolding action_of
action_of_law p t places n = refl

-- one step of the node on top
pub step_on_law : (g p t : List ℕ) (m : Machine) (n : ℕ) (rest : List ℕ) (a : Action) → m.stack ≡ n ∷ rest → action_of p t m.places n ≡ a
    → step g p t m ≡ act g t a n rest (set m.places n (suc (word m.places n))) m.values
unfolding step step_on
step_on_law g p t m n rest a e d =
    ap (λ (s : List ℕ). step_on g p t s m.places m.values) e
    ∙ ap (λ (b : Action). act g t b n rest (set m.places n (suc (word m.places n))) m.values) d

-- an action moves no place by itself
pub act_places : (g t : List ℕ) (a : Action) (n : ℕ) (rest places : List ℕ) (values : List ℤ)
    → (act g t a n rest places values).places ≡ places
unfolding act
act_places g t (compute o) n rest places values = refl
act_places g t (visit i k) n rest places values = refl
act_places g t (leave k) n rest places values = refl
act_places g t none n rest places values = refl

-- a node put on the stack stands there once more
pub times_same : (n : ℕ) (rest : List ℕ) → times n (n ∷ rest) ≡ suc (times n rest)
unfolding times
times_same n rest = go (eqb n n) (eq_T n n refl)
  where
    go : (b : Bool) → T b → cond b 1 0 + times n rest ≡ suc (times n rest)
    go true t = omega arith
    go false t = absurd t

-- another stands there as often
pub times_other : (n m : ℕ) (rest : List ℕ) → (n ≡ m → ⊥) → times n (m ∷ rest) ≡ times n rest
unfolding times
times_other n m rest d = go (eqb n m) refl
  where
    go : (b : Bool) → eqb n m ≡ b → cond b 1 0 + times n rest ≡ times n rest
    go true e = absurd (d (eqb→eq n m (true_T (eqb n m) e)))
    go false e = omega arith

-- on an empty stack none stands
pub times_none : (n : ℕ) → times n [] ≡ 0
unfolding times
times_none n = refl

module _ {g p t : List ℕ} {l : ℕ} (given : RunGiven g p t l) where
  -- the top of the stack is a node of the tree
  pub top_inside : (n : ℕ) (rest : List ℕ) → PathDown g t (n ∷ rest) → n < nodes t
  top_inside n [] w = omega (arith, given.tree.some_node)
  top_inside n (m ∷ rest) w = given.tree.child_node m w.0.slot n w.0.is_child

  -- and applies a rule
  pub top_applies : (n : ℕ) (rest : List ℕ) → PathDown g t (n ∷ rest) → T (applies_rule t n)
  top_applies n [] w = subst⁻¹ (λ (k : ℕ). T (applies_rule t k)) w (root_applies given.table given.tree)
  top_applies n (m ∷ rest) w = w.0.applies

  -- a node above the top does not stand on the stack
  pub above_top : (n x : ℕ) (rest : List ℕ) → PathDown g t (n ∷ rest) → n < x → times x (n ∷ rest) ≡ 0
  above_top n x [] w h = times_other x n [] (λ e. omega arith) ∙ times_none x
  above_top n x (m ∷ rest) w h =
      times_other x n (m ∷ rest) (λ e. omega arith)
      ∙ above_top m x rest w.1 (omega (arith, given.tree.child_higher m w.0.slot n w.0.is_child))

  -- the top stands once
  pub top_once : (n : ℕ) (rest : List ℕ) → PathDown g t (n ∷ rest) → times n (n ∷ rest) ≡ 1
  top_once n [] w = times_same n [] ∙ ap suc (times_none n)
  top_once n (m ∷ rest) w =
      times_same n (m ∷ rest)
      ∙ ap suc (above_top m n rest w.1 (given.tree.child_higher m w.0.slot n w.0.is_child))

  -- no node stands twice
  pub no_node_twice : (x : ℕ) (stack : List ℕ) → PathDown g t stack → times x stack ≤ 1
  no_node_twice x [] w = omega (arith, times_none x)
  no_node_twice x (n ∷ []) w = go (eqb x n) refl
    where
      go : (b : Bool) → eqb x n ≡ b → times x (n ∷ []) ≤ 1
      go true e =
          let i : x ≡ n = eqb→eq x n (true_T (eqb x n) e) in
          omega (arith, ap (λ (y : ℕ). times x (y ∷ [])) (sym i), times_same x [], times_none x)
      go false e = omega (arith, times_other x n [] (λ i. subst (λ (b : Bool). T b) e (eq_T x n i)), times_none x)
  no_node_twice x (n ∷ m ∷ rest) w = go (eqb x n) refl (no_node_twice x (m ∷ rest) w.1)
    where
      go : (b : Bool) → eqb x n ≡ b → times x (m ∷ rest) ≤ 1 → times x (n ∷ m ∷ rest) ≤ 1
      go true e h =
          let i : x ≡ n = eqb→eq x n (true_T (eqb x n) e) in
          omega (arith, ap (λ (y : ℕ). times y (n ∷ m ∷ rest)) i, top_once n (m ∷ rest) w)
      go false e h = omega (arith, times_other x n (m ∷ rest) (λ i. subst (λ (b : Bool). T b) e (eq_T x n i)))

  -- a path goes on above its last node
  pub path_rest : (n : ℕ) (rest : List ℕ) → PathDown g t (n ∷ rest) → PathDown g t rest
  path_rest n [] w = tt
  path_rest n (m ∷ rest) w = w.1
