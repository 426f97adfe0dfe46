-- What is kept of the rule at word p as sets of bits, whoever orders its actions: the attributes of a symbol by set and by visit, the visits
-- and occurrences of the rule, what an action makes available, and which visits and leaves are ready.
-- For proofs of the code: no demand rests on it. Assumes nothing.
use Rattle.std.specs.Prelude.{ℕ, ◌+◌, ◌*◌, ◌-◌, ◌/◌, ◌%◌, ◌≤◌, ◌<◌, ◌≡◌, Bool, cond, List, T, ltb, leb, eqb}
use Rattle.basics.specs.Tests.{◌and◌, ◌or◌}
use Rattle.basics.specs.Lists.{word}
use Rattle.bits.specs.Bit.{hasb, collect, remove, below, union, raised, field, common, minus, lowest}
use Rattle.grammar.specs.Limits.{most_symbols}
use Rattle.grammar.specs.Table.{symbols, attributes, nonterminal, length_at, position, attribute}
use Rattle.access.specs.ByPlace.{symbol_from, definings_at}
use Rattle.sets.specs.Visits.{set_number, half_up, visits}
use Rattle.remaining.specs.declared.ByVisit.{ByVisit as Kept}

-- "Set k belongs to visit v + 1 - (k/2 rounded up)": attribute j % 8 of symbol x is in an even (0) or odd (1) set, of visit j / 8 + 1
unfoldable pub part_at : List ℕ → ℕ → ℕ → ℕ → Bool
part_at s x odd j =
    eqb (set_number s x (j % 8) % 2) odd and eqb (visits s x - half_up (set_number s x (j % 8))) (j / 8)

-- the attributes of symbol x in even or odd sets, those of visit n from place 8 (n - 1) on
unfoldable pub part_by_visit : List ℕ → ℕ → ℕ → ℕ
part_by_visit s x odd = collect 64 (λ j. part_at s x odd j)

-- the visits of a symbol that has so many, counted from 0, and the attributes that some action makes available; a terminal has none
unfoldable pub symbol_visits : List ℕ → ℕ → ℕ → ℕ
symbol_visits g x v = cond (nonterminal g x) (below v) 0

unfoldable pub made_attributes : List ℕ → ℕ → ℕ
made_attributes g x = cond (nonterminal g x) (below (attributes g x)) 0

-- a table of this for every symbol
pub record ByVisit (g s : List ℕ) (by : Kept) : Type 0 where
  pub even : (x : ℕ) → x < symbols g → word by.inherited x ≡ part_by_visit s x 0
  pub odd : (x : ℕ) → x < symbols g → word by.synthesized x ≡ part_by_visit s x 1
  pub calls : (x : ℕ) → x < symbols g → word by.visits x ≡ symbol_visits g x (visits s x)

-- what is kept of symbol x for a visit, counted from 0
unfoldable pub of_visit : List ℕ → ℕ → ℕ → ℕ
of_visit kept x n = field (8 * n) (word kept x)

-- in such a table the inherited attributes of a visit of symbol x, the synthesized ones, and all its visits
abbrev pub inherited_mask : Kept → ℕ → ℕ → ℕ
inherited_mask by x n = of_visit by.inherited x n

abbrev pub synthesized_mask : Kept → ℕ → ℕ → ℕ
synthesized_mask by x n = of_visit by.synthesized x n

unfoldable pub visits_in : Kept → ℕ → ℕ
visits_in by x = word by.visits x

-- b / 8 is a child of the rule at word p, and b % 8 a member of the word that is kept of it; and all such b
unfoldable pub child_in : List ℕ → List ℕ → ℕ → ℕ → Bool
child_in g kept p b = (leb 1 (b / 8) and leb (b / 8) (length_at g p)) and hasb (b % 8) (word kept (symbol_from g p (b / 8)))

unfoldable pub children_in : List ℕ → List ℕ → ℕ → ℕ
children_in g kept p = collect 64 (λ b. child_in g kept p b)

-- o is the occurrence of a nonterminal in the rule at word p; and all such o
unfoldable pub made_from : List ℕ → ℕ → ℕ → Bool
made_from g p o =
    let x = symbol_from g p (position o) in
    leb (position o) (length_at g p) and (nonterminal g x and ltb (attribute o) (attributes g x))

unfoldable pub occurrences_from : List ℕ → ℕ → ℕ
occurrences_from g p = collect 64 (λ o. made_from g p o)

-- "v at most 5"
abbrev pub FewVisits : List ℕ → Type 0
FewVisits s = (x : ℕ) → visits s x ≤ 5

-- the table has the symbols of the rule at word p
abbrev pub Tabled : List ℕ → ℕ → Type 0
Tabled g p = (i : ℕ) → i ≤ length_at g p → symbol_from g p i < most_symbols

-- Before the first action all are left, what waits are the occurrences of nonterminals but for the left side's inherited ones of visit 1, and
-- the first visits want what they take along.
pub record Started (g : List ℕ) (by : Kept) (p computes left leaves waiting wanted : ℕ) : Type 0 where
  pub computes_are : computes ≡ definings_at g p
  pub visits_are : left ≡ children_in g by.visits p
  pub leaves_are : leaves ≡ visits_in by (symbol_from g p 0)
  pub waiting_are : waiting ≡ minus (collect 64 (λ o. made_from g p o)) (inherited_mask by (symbol_from g p 0) 0)
  pub wanted_are : wanted ≡ children_in g by.inherited p

-- what visit b of the rule at word p makes available, and what leave b does
unfoldable pub handed_up : List ℕ → Kept → ℕ → ℕ → ℕ
handed_up g by p b = raised (8 * (b / 8)) (synthesized_mask by (symbol_from g p (b / 8)) (b % 8))

unfoldable pub handed_down : List ℕ → Kept → ℕ → ℕ → ℕ
handed_down g by p b = inherited_mask by (symbol_from g p 0) (b + 1)

-- what is wanted after visit b: its child's next visit takes along its own
unfoldable pub wanted_next : List ℕ → Kept → ℕ → ℕ → ℕ → ℕ
wanted_next g by p b wanted =
    union (minus wanted (raised (8 * (b / 8)) 255)) (raised (8 * (b / 8)) (inherited_mask by (symbol_from g p (b / 8)) (b % 8 + 1)))

-- leaves are few
abbrev pub FewLeaves : ℕ → Type 0
FewLeaves left = (b : ℕ) → T (hasb b left) → b < 7

-- visit b is the next one of its child
abbrev pub NextVisit : ℕ → ℕ → Type 0
NextVisit left b = (k : ℕ) → k < b % 8 → T (hasb (8 * (b / 8) + k) left) → ⊥

-- at each child is wanted what its next visit takes along
pub record Along (g : List ℕ) (by : Kept) (p left wanted : ℕ) : Type 0 where
  pub takes : (b o : ℕ) → b < 64 → T (hasb b left) → NextVisit left b → o / 8 ≡ b / 8 → T (hasb o wanted)
      → T (hasb (o % 8) (inherited_mask by (symbol_from g p (b / 8)) (b % 8)))
  pub taken : (b o : ℕ) → b < 64 → T (hasb b left) → NextVisit left b → o / 8 ≡ b / 8
      → T (hasb (o % 8) (inherited_mask by (symbol_from g p (b / 8)) (b % 8))) → T (hasb o wanted)

-- the members of a set of numbers below 64, each one up
unfoldable pub one_up : ℕ → ℕ
one_up s = collect 64 (λ b. leb 1 b and hasb (b - 1) s)

-- The visits that are ready, by those that are left and the wanted occurrences that wait: the visit before is not left, and nothing is lacking at
-- the child.
unfoldable pub visit_ready : ℕ → ℕ → ℕ → Bool
visit_ready left lacking b = hasb b (minus left (one_up left)) and eqb (common lacking (raised (8 * (b / 8)) 255)) 0

unfoldable pub ready_visits : ℕ → ℕ → ℕ
ready_visits left lacking = collect 64 (λ b. visit_ready left lacking b)

-- "the last leave follows everything", another "the computes of the synthesized attributes of visit n": by those of them that wait, the later
-- leaves and the other actions
unfoldable pub leave_free : ℕ → ℕ → ℕ → Bool
leave_free waits later others = cond (eqb later 0) (eqb others 0) (eqb waits 0)

-- the computes and visits that are left, together
unfoldable pub others : ℕ → ℕ → ℕ
others computes left = collect 64 (λ k. hasb k computes or hasb k left)

-- leave b is ready: it is the lowest, and free
unfoldable pub leave_ready : List ℕ → Kept → ℕ → ℕ → ℕ → ℕ → ℕ → ℕ → Bool
leave_ready g by p computes left leaves waiting b =
    leb b (lowest 64 leaves)
    and leave_free (common (synthesized_mask by (symbol_from g p 0) b) waiting) (remove b leaves) (others computes left)

-- the leaves that are ready
unfoldable pub ready_leaves : List ℕ → Kept → ℕ → ℕ → ℕ → ℕ → ℕ → ℕ
ready_leaves g by p computes left leaves waiting = collect 64 (λ b. hasb b leaves and leave_ready g by p computes left leaves waiting b)
