-- What a run is about to do after k actions: which node is on top and at which place, and which cell it is about to compute.
-- Assumes nothing.
use Rattle.std.specs.Prelude.{ℕ, ◌<◌, ◌≡◌, List, ◌∷◌, ℤ}
use Rattle.basics.specs.Lists.{word}
use Rattle.sequences.specs.Actions.{compute}
use Rattle.trees.specs.Tree.{cell}
use Rattle.runs.specs.Automaton.{Machine, started, action_of, after}

-- the machine after k actions of a run of plan p over tree t
abbrev pub machine_at : List ℕ → List ℕ → List ℕ → List ℤ → ℕ → Machine
machine_at g p t values k = after g p t k (started t values)

module _ (g p t : List ℕ) (values : List ℤ) where
  -- after k actions node n is on top, at place j of its sequence
  pub record OnTop (k n j : ℕ) : Type 0 where
    pub rest : List ℕ
    pub stack_is : (machine_at g p t values k).stack ≡ n ∷ rest
    pub place_is : word (machine_at g p t values k).places n ≡ j

  -- after k actions node n is on top, and its action is to compute occurrence o
  pub record Computing (k n o : ℕ) : Type 0 where
    pub rest : List ℕ
    pub stack_is : (machine_at g p t values k).stack ≡ n ∷ rest
    pub action_is : action_of p t (machine_at g p t values k).places n ≡ compute o

  -- after k actions the machine is about to compute cell c
  pub record AboutTo (k c : ℕ) : Type 0 where
    pub node : ℕ
    pub occurs : ℕ
    pub computing : Computing k node occurs
    pub is_cell : cell t node occurs ≡ c

  -- cell c is computed by one of the first k actions
  pub record ComputedBefore (k c : ℕ) : Type 0 where
    pub moment : ℕ
    pub earlier : moment < k
    pub about_to : AboutTo moment c

  -- cell c is computed at exactly one moment, before so many actions are done
  pub record ExactlyOnce (actions c : ℕ) : Type 0 where
    pub moment : ℕ
    pub inside : moment < actions
    pub about_to : AboutTo moment c
    pub no_other : (k : ℕ) → AboutTo k c → k ≡ moment
