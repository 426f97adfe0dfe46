-- The machine of a run in arrays. The node on top and its place are at hand; the nodes below it stand in the frames of a stack, from the bottom up, of which
-- the first `depth` count, each with the word of the plan at which it goes on: `stack` and `marks` are the lists of these two. Every other node has its
-- place in `places`.
-- For proofs of the code: no demand rests on it. Assumes nothing.
use Rattle.std.specs.Prelude.{ℕ, zero, suc, ◌+◌, ◌-◌, ◌/◌, ◌≤◌, ◌<◌, ◌≡◌, List, [], ◌∷◌, ℤ, map, take, set}
use Rattle.basics.specs.Lists.{word}
use Rattle.grammar.specs.Limits.{most_rules}
use Rattle.plans.specs.Sequences.{sequence_at}
use Rattle.trees.specs.Tree.{most_nodes, nodes, rule_of, child, cell}
use Rattle.evaluating.specs.FunctionPlaces.{value_from}
use Rattle.runs.specs.Automaton.{Machine}
use Rattle.executing.specs.declared.Action as A
use Rattle.executing.specs.declared.Frame.{Frame}
use Rattle.executing.specs.declared.Stack.{Stack}

-- the first words of an array as a stack, the last of them on top
unfoldable pub stack_of : List ℕ → ℕ → List ℕ
stack_of xs zero = []
stack_of xs (suc depth) = word xs depth ∷ stack_of xs depth

-- the place of node m at word q of the plan: the actions of its sequence stand from word sequence_at r + 1 on
abbrev pub relative : List ℕ → ℕ → ℕ → ℕ
relative t m q = q - (sequence_at (rule_of t m) + 1)

-- the places of all nodes: those of the nodes on the stack are where their marks say
unfoldable pub places_of : List ℕ → List ℕ → List ℕ → List ℕ → ℕ → List ℕ
places_of t stack marks places zero = places
places_of t stack marks places (suc depth) =
    places_of t stack marks (set places (word stack depth) (relative t (word stack depth) (word marks depth))) depth

-- the machine that the arrays hold, with node n on top at a place
unfoldable pub machine_of : List ℕ → List ℕ → List ℕ → ℕ → List ℕ → ℕ → ℕ → List ℤ → Machine
machine_of t stack marks depth places n place values =
    record {
      stack = n ∷ stack_of stack depth;
      places = take (nodes t) (places_of t stack marks (set places n place) depth);
      values = values;
    }

-- the values with that of occurrence o at node n, whose function starts at word f
unfoldable pub written : List ℕ → List ℕ → List ℤ → ℕ → ℕ → ℕ → List ℤ
written g t values n o f = set values (cell t n o) (value_from g t values n f)

-- node n can be on top: it is one of the tree's, and its rule one of a table's
pub record Placed (t : List ℕ) (n : ℕ) : Type 0 where
  pub inside : n < nodes t
  pub small : n < most_nodes
  pub rule : rule_of t n < most_rules

-- the node on top is n, with its rule, at a place of its sequence
pub record Standing (t : List ℕ) (n place node rule at : ℕ) : Type 0 where
  pub node_is : node ≡ n
  pub rule_is : rule ≡ rule_of t n
  pub at_is : at ≡ sequence_at rule + 1 + place

-- the node on top is child i of node n, at its own place
pub record Visited (t places : List ℕ) (n i node rule at : ℕ) : Type 0 where
  pub node_is : node ≡ child t n i
  pub rule_is : rule ≡ rule_of t node
  pub at_is : at ≡ sequence_at rule + 1 + word places node

-- the node on top is the one of a frame, at its word
pub record Resumed (t : List ℕ) (below : Frame) (node rule at : ℕ) : Type 0 where
  pub node_is : node ≡ below.node
  pub rule_is : rule ≡ rule_of t node
  pub at_is : at ≡ below.at

-- what a number of a plan stands for
abbrev pub StandsFor : ℕ → A.Action → Type 0
StandsFor number (A.TheVariants.Compute o) = (number < 64) × (o ≡ number)
StandsFor number (A.TheVariants.Visit i) = (64 ≤ number) × ((number < 128) × (i ≡ (number - 64) / 8))
StandsFor number A.TheVariants.Leave = 128 ≤ number

-- the nodes of frames, and the words at which they go on
unfoldable pub nodes_in : List Frame → List ℕ
nodes_in frames = map (λ f. f.node) frames

unfoldable pub marks_in : List Frame → List ℕ
marks_in frames = map (λ f. f.at) frames

-- node n is pushed, to go on at a word
pub record Pushed (before after : Stack) (n at : ℕ) : Type 0 where
  pub depth_is : after.depth ≡ before.depth + 1
  pub nodes_are : nodes_in after.frames ≡ set (nodes_in before.frames) before.depth n
  pub marks_are : marks_in after.frames ≡ set (marks_in before.frames) before.depth at

-- the last frame is popped
pub record Popped (before after : Stack) (below : Frame) : Type 0 where
  pub depth_is : before.depth ≡ after.depth + 1
  pub frames_are : after.frames ≡ before.frames
  pub node_is : below.node ≡ word (nodes_in before.frames) after.depth
  pub mark_is : below.at ≡ word (marks_in before.frames) after.depth
