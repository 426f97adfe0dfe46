-- The arrays of a run: what is written above the depth is not on the stack, a push and a pop move one node between the top and the arrays, and the place
-- of a node that is not on the stack can be written before or after the marks are. Assumes nothing.
use Prim.Native.Nat.{ℕ, zero, suc, ◌+◌, ◌-◌, ◌^◌, ◌≤◌, ◌<◌}
use mathlib.Core.Path.{◌≡◌, refl, sym, ◌∙◌, ap, ap₂, subst⁻¹}
use mathlib.Core.Logic.{⊎_elim}
use mathlib.Core.List.{List, ◌∷◌}
use native.Mathlib.Omega.{arith}
use native.Mathlib.Numerals.{add-one}
use lib.IntN.{ℤ}
use lib.Signed.{mag}
use lib.ListN.{length, get_or, get_or-map, set, length-set, replicate}
use Rattle.std.proofs.lemmas.List.{map-set}
use lib.Seq.{get_or-set_same, get_or-set_other, set_comm}
use mir.Syntax.{w32}
use mir.Val.{to_z, of_z}
use Rattle.basics.specs.Lists.{word}
use Rattle.basics.proofs.TestLaws.{same_or_not}
use Rattle.trees.specs.Tree.{rule_of, child, cell}
use Rattle.evaluating.specs.FunctionPlaces.{value_from}
use Rattle.evaluating.proofs.PlaceLaws.{kept}
use Rattle.runs.specs.Automaton.{Machine}
use Rattle.runs.specs.Balance.{times}
use Rattle.runs.proofs.Steps.{times_same, times_other}
use Rattle.executing.specs.declared.Frame.{Frame}
use Rattle.executing.specs.State.{nodes_in, marks_in, Pushed, Popped, stack_of, relative, places_of, written, Placed, Standing, Visited}

-- machines are equal by their parts
pub same_machine : {s s' q q' : List ℕ} {v v' : List ℤ} → s ≡ s' → q ≡ q' → v ≡ v'
    → ◌≡◌ {A = Machine} (record { stack = s; places = q; values = v }) (record { stack = s'; places = q'; values = v' })
same_machine a b c = λ i. record { stack = a i; places = b i; values = c i }

-- ---- the stack

-- what is written above the top is not on the stack
stack_above : (xs : List ℕ) (i v depth : ℕ) → depth ≤ i → stack_of (set xs i v) depth ≡ stack_of xs depth
unfolding stack_of
stack_above xs i v zero h = refl
stack_above xs i v (suc depth) h =
    ap₂ (λ (x : ℕ) (s : List ℕ). x ∷ s) (get_or-set_other xs i depth v 0 (λ e. omega arith)) (stack_above xs i v depth (omega arith))

-- a node that is pushed
pub stack_push : (xs : List ℕ) (depth v : ℕ) → depth < length xs → stack_of (set xs depth v) (depth + 1) ≡ v ∷ stack_of xs depth
unfolding stack_of
stack_push xs depth v h =
    ap (stack_of (set xs depth v)) (add-one depth)
    ∙ ap₂ (λ (x : ℕ) (s : List ℕ). x ∷ s) (get_or-set_same xs depth v 0 h) (stack_above xs depth v depth (omega arith))

-- the depth is the number of nodes on the stack
pub stack_length : (xs : List ℕ) (depth : ℕ) → length (stack_of xs depth) ≡ depth
unfolding stack_of
stack_length xs zero = refl
stack_length xs (suc depth) = ap suc (stack_length xs depth)

-- ---- the places

pub places_length : (t stack marks places : List ℕ) (depth : ℕ) → length (places_of t stack marks places depth) ≡ length places
unfolding places_of
places_length t stack marks places zero = refl
places_length t stack marks places (suc depth) =
    places_length t stack marks (set places (word stack depth) (relative t (word stack depth) (word marks depth))) depth
    ∙ length-set places (word stack depth) (relative t (word stack depth) (word marks depth))

-- a node that is not on the stack keeps the place that is written for it
pub uncovered : (t stack marks xs : List ℕ) (n v depth : ℕ) → times n (stack_of stack depth) ≡ 0
    → places_of t stack marks (set xs n v) depth ≡ set (places_of t stack marks xs depth) n v
unfolding places_of stack_of
uncovered t stack marks xs n v zero h = refl
uncovered t stack marks xs n v (suc depth) h =
    let m : ℕ = word stack depth in
    let q : ℕ = relative t (word stack depth) (word marks depth) in
    ⊎_elim
    (λ e. absurd (omega (arith, h, ap (λ (x : ℕ). times n (x ∷ stack_of stack depth)) e, times_same n (stack_of stack depth))))
    (λ d.
    ap (λ (s : List ℕ). places_of t stack marks s depth) (set_comm xs n m v q d)
    ∙ uncovered t stack marks (set xs m q) n v depth (sym (times_other n m (stack_of stack depth) d) ∙ h))
    (same_or_not n m)

-- what is written above the depth says nothing of the places
places_above : (t stack marks xs : List ℕ) (i a b depth : ℕ) → depth ≤ i
    → places_of t (set stack i a) (set marks i b) xs depth ≡ places_of t stack marks xs depth
unfolding places_of
places_above t stack marks xs i a b zero h = refl
places_above t stack marks xs i a b (suc depth) h =
    places_above t stack marks (set xs (word (set stack i a) depth) (relative t (word (set stack i a) depth) (word (set marks i b) depth))) i a b depth (omega arith)
    ∙ ap₂ (λ (m q : ℕ). places_of t stack marks (set xs m (relative t m q)) depth) (get_or-set_other stack i depth a 0 (λ e. omega arith))
    (get_or-set_other marks i depth b 0 (λ e. omega arith))

-- a node that is pushed with its mark has the place that the mark says
pub places_push : (t stack marks xs : List ℕ) (n q v depth : ℕ) → depth < length stack → depth < length marks → relative t n q ≡ v
    → places_of t (set stack depth n) (set marks depth q) xs (depth + 1) ≡ places_of t stack marks (set xs n v) depth
unfolding places_of
places_push t stack marks xs n q v depth h l e =
    ap (places_of t (set stack depth n) (set marks depth q) xs) (add-one depth)
    ∙ (ap₂ (λ (m b : ℕ). places_of t (set stack depth n) (set marks depth q) (set xs m (relative t m b)) depth) (get_or-set_same stack depth n 0 h)
    (get_or-set_same marks depth q 0 l)
    ∙ (ap (λ (x : ℕ). places_of t (set stack depth n) (set marks depth q) (set xs n x) depth) e
    ∙ places_above t stack marks (set xs n v) depth n q depth (omega arith)))

-- ---- a compute writes the value of its function

pub compute_writes : (g t : List ℕ) (values : List ℤ) (n o f c : ℕ) (v : ℤ) → v ≡ value_from g t values n f → mag v < 2 ^ 31 → c ≡ cell t n o
    → set values c (to_z w32 (of_z w32 v)) ≡ written g t values n o f
unfolding written
compute_writes g t values n o f c v e l d = ap₂ (λ (x : ℕ) (y : ℤ). set values x y) d (kept l e)

-- ---- the node on top after a visit

pub placed_child : (t : List ℕ) (n i c : ℕ) → Placed t (child t n i) → c ≡ child t n i → Placed t c
placed_child t n i c h e = subst⁻¹ (Placed t) e h

pub visited : (t places : List ℕ) (n i c x node rule at : ℕ) → c ≡ child t n i → x ≡ word places c → Standing t c x node rule at
    → Visited t places n i node rule at
visited t places n i c x node rule at e f s =
    record {
      node_is = s.node_is ∙ e;
      rule_is = s.rule_is ∙ ap (rule_of t) (sym s.node_is);
      at_is = omega (arith, s.at_is, f, ap (word places) s.node_is);
    }

-- ---- frames

-- a frame of zeros, as the array has them at first
abbrev pub no_frame : Frame
no_frame = record { node = 0; at = 0 }

pub nodes_zero : (n : ℕ) → nodes_in (replicate n no_frame) ≡ replicate n 0
unfolding nodes_in
nodes_zero zero = refl
nodes_zero (suc n) = ap (λ (s : List ℕ). 0 ∷ s) (nodes_zero n)

pub marks_zero : (n : ℕ) → marks_in (replicate n no_frame) ≡ replicate n 0
unfolding marks_in
marks_zero zero = refl
marks_zero (suc n) = ap (λ (s : List ℕ). 0 ∷ s) (marks_zero n)

pub frame_pushed : (frames : List Frame) (depth n at : ℕ)
    → Pushed (record { frames = frames; depth = depth }) (record { frames = set frames depth (record { node = n; at = at }); depth = depth + 1 }) n at
unfolding nodes_in marks_in
frame_pushed frames depth n at =
    record {
      depth_is = refl;
      nodes_are = map-set (λ f. f.node) frames depth (record { node = n; at = at });
      marks_are = map-set (λ f. f.at) frames depth (record { node = n; at = at });
    }

pub frame_popped : (frames : List Frame) (depth : ℕ) → (depth ≡ 0 → ⊥)
    → Popped (record { frames = frames; depth = depth }) (record { frames = frames; depth = depth - 1 }) (get_or frames (depth - 1) no_frame)
unfolding nodes_in marks_in
frame_popped frames depth h =
    record {
      depth_is = omega arith;
      frames_are = refl;
      node_is = sym (get_or-map (λ f. f.node) frames (depth - 1) no_frame);
      mark_is = sym (get_or-map (λ f. f.at) frames (depth - 1) no_frame);
    }
