-- Document 01, "Actions and ties", as facts over the paper's EDP, with no algorithm: the actions of a rule, what each makes available, which
-- follows which, and the sequence that the tie rule leaves. set x a is the set number of attribute a of symbol x. Assumes nothing.
use Rattle.std.specs.Prelude.{ℕ, suc, ◌≤◌, ◌<◌, ◌≡◌, not, List, [], T, length}
use Rattle.basics.specs.Lists.{word, member}
use Rattle.grammar.specs.Limits.{most_attributes}
use Rattle.grammar.specs.Table.{kind, right_length, symbol_of, occurrence, inherited_at, defining, position, attribute}
use Rattle.sets.specs.Visits.{highest, visits_for, visit_for}
use Rattle.order.specs.Paper.{EDP}
use Rattle.sequences.specs.Actions.{Action, compute, visit, leave, decode}

-- "m is the last set needed", and the visits of a symbol whose attributes have these set numbers
unfoldable pub visits_by : (ℕ → ℕ) → ℕ
visits_by numbers = visits_for (highest most_attributes numbers)

-- the visit of its attribute a
unfoldable pub visit_by : (ℕ → ℕ) → ℕ → ℕ
visit_by numbers a = visit_for (visits_by numbers) (numbers a)

module _ (g : List ℕ) (set : ℕ → ℕ → ℕ) (r : ℕ) where
  -- "Compute occurrence o", a defining one; "Visit r of child i, for nonterminal children"; "Leave n, for n up to v of the left side"
  pub data Belongs : Action → Type 0 where
    computes : (o : ℕ) → T (defining g r o) → Belongs (compute o)
    visits_child : (i n : ℕ) → 1 ≤ i → i ≤ right_length g r → kind g (symbol_of g r i) ≡ 0 → 1 ≤ n
        → n ≤ visits_by (set (symbol_of g r i)) → Belongs (visit i n)
    leaves : (n : ℕ) → 1 ≤ n → n ≤ visits_by (set (symbol_of g r 0)) → Belongs (leave n)

  -- occurrence o stands at position i, and its attribute belongs to visit n
  pub record OfVisit (i n o : ℕ) : Type 0 where
    pub occurs : T (occurrence g r o)
    pub stands : position o ≡ i
    pub visit_is : visit_by (set (symbol_of g r i)) (attribute o) ≡ n

  -- "A computed occurrence is available after its compute; a child's synthesized attribute after its visit; the left side's inherited
  -- ones of visit n after leave n - 1 (from the start for n = 1); a terminal's always."
  pub data Makes : Action → ℕ → Type 0 where
    computed : (o : ℕ) → T (defining g r o) → Makes (compute o) o
    handed_back : (i n o : ℕ) → kind g (symbol_of g r i) ≡ 0 → OfVisit i n o → T (not (inherited_at g r o)) → Makes (visit i n) o
    handed_in : (n o : ℕ) → OfVisit 0 (suc n) o → T (inherited_at g r o) → Makes (leave n) o

  -- which action follows which: first the later, then the earlier
  pub data Follows : Action → Action → Type 0 where
    -- "An action follows a different one where an EDP arc links what they make available."
    linked : (later earlier : Action) (a b : ℕ) → ¬ (later ≡ earlier) → Makes earlier a → Makes later b → EDP g set r a b
        → Follows later earlier
    -- "visit r follows visit r - 1 and the computes of the child's inherited attributes of that visit"
    next_visit : (i n : ℕ) → Follows (visit i (suc n)) (visit i n)
    handed_down : (i n o : ℕ) → OfVisit i n o → T (inherited_at g r o) → Follows (visit i n) (compute o)
    -- "leave n follows leave n - 1 and the computes of the synthesized attributes of visit n"
    next_leave : (n : ℕ) → Follows (leave (suc n)) (leave n)
    handed_up : (n o : ℕ) → OfVisit 0 n o → T (not (inherited_at g r o)) → Follows (leave n) (compute o)
    -- "the last leave follows everything"
    last_leave : (n : ℕ) (earlier : Action) → n ≡ visits_by (set (symbol_of g r 0)) → ¬ (leave n ≡ earlier) → Follows (leave n) earlier

-- a stands in the list at a place before place j
pub record DoneBefore (out : List ℕ) (j a : ℕ) : Type 0 where
  pub place : ℕ
  pub earlier : place < j
  pub stands_there : word out place ≡ a

-- The tie rule, over any actions and any relation of following: "The next action is always the lowest-numbered one whose predecessors are done."
module _ (action : ℕ → Type 0) (after : ℕ → ℕ → Type 0) (out : List ℕ) where
  -- a is an action that is not done before place j, and all that it follows are
  pub record May (j a : ℕ) : Type 0 where
    pub remains : action a
    pub undone : ¬ DoneBefore out j a
    pub predecessors : (b : ℕ) → action b → after a b → DoneBefore out j b

  -- a is the lowest of those
  pub record Next (j a : ℕ) : Type 0 where
    pub may : May j a
    pub lowest : (b : ℕ) → b < a → ¬ May j b

  -- each place has the next action, and the list ends where there is none
  pub record TieRule : Type 0 where
    pub next : (j : ℕ) → j < length out → Next j (word out j)
    pub ends : (a : ℕ) → ¬ May (length out) a

-- out is the visit-sequence of rule r, by the actions' numbers
abbrev pub Sequence : List ℕ → (ℕ → ℕ → ℕ) → ℕ → List ℕ → Type 0
Sequence g set r out = TieRule (λ a. Belongs g set r (decode a)) (λ a b. Follows g set r (decode a) (decode b)) out

-- action a is ready where these are all that remain: by the tie rule it may be the next, so it is one of them and follows none of them
abbrev pub ReadyAmong : List ℕ → (ℕ → ℕ → ℕ) → ℕ → List ℕ → ℕ → Type 0
ReadyAmong g set r remaining a = May (λ b. T (member b remaining)) (λ b c. Follows g set r (decode b) (decode c)) [] 0 a
