-- Steps 1 and 2 of 000, section 7, rule by rule. 000 marks an arc of a symbol once it is induced at every occurrence of the symbol; here a rule is
-- stale while one of its symbols may have an arc that it lacks. A rule that is not stale has them all, and hands on what its paths induce.
-- For proofs of the code: no demand rests on it. Assumes nothing.
use Rattle.std.specs.Prelude.{ℕ, ◌+◌, ◌*◌, ◌/◌, ◌%◌, ◌≤◌, ◌<◌, ◌≡◌, ◌⊎◌, not, List, T, length}
use Rattle.bits.specs.Bit.{bit, hasb, below, minus, First}
use Rattle.basics.specs.Lists.{word}
use Rattle.grammar.specs.Table.{rules, attributes, right_length, symbol_of}
use Rattle.access.specs.ByPlace.{symbol_from}
use Rattle.closing.specs.Rows.{leads, arcs_at}
use Rattle.inducing.specs.Arcs.{Gathered}
use Rattle.inducing.specs.Rules.{rule_rows, Frame, Standing}

-- rule r put into the set of each symbol at its first n positions
pub record NamedAt (g : List ℕ) (r n : ℕ) (before after : List ℕ) : Type 0 where
  pub size : length after ≡ length before
  pub keeps : (x q : ℕ) → T (hasb q (word before x)) → T (hasb q (word after x))
  pub has : (i : ℕ) → i < n → T (hasb r (word after (symbol_of g r i)))
  pub sound : (x q : ℕ) → T (hasb q (word after x)) → T (hasb q (word before x)) ⊎ (q ≡ r)

-- for each symbol a set of rules, with all of the first n that name it
pub record Naming (g : List ℕ) (n : ℕ) (naming : List ℕ) : Type 0 where
  pub size : length naming ≡ 32
  pub has : (r i : ℕ) → r < n → i ≤ right_length g r → T (hasb r (word naming (symbol_of g r i)))
  pub below : (x q : ℕ) → T (hasb q (word naming x)) → q < n

-- some arc of symbol x is new
pub record NewArc (x : ℕ) (ids after : List ℕ) : Type 0 where
  pub arc : ℕ
  pub lacked : T (not (hasb arc (word ids x)))
  pub there : T (hasb arc (word after x))

-- arcs put to those of symbol x; where one of them is new, the rules that name x are touched
pub record Added (x arcs names : ℕ) (ids after : List ℕ) (touched : ℕ) : Type 0 where
  pub size : length after ≡ length ids
  pub others : (y : ℕ) → (y ≡ x → ⊥) → word after y ≡ word ids y
  pub keeps : (k : ℕ) → T (hasb k (word ids x)) → T (hasb k (word after x))
  pub has : (k : ℕ) → T (hasb k arcs) → T (hasb k (word after x))
  pub sound : (k : ℕ) → T (hasb k (word after x)) → T (hasb k (word ids x)) ⊎ T (hasb k arcs)
  pub touches : (k q : ℕ) → T (hasb k (word after x)) → T (hasb q names) → T (hasb k (word ids x)) ⊎ T (hasb q touched)
  pub only : (q : ℕ) → T (hasb q touched) → T (hasb q names)
  pub new : (q : ℕ) → T (hasb q touched) → NewArc x ids after

-- those at position i of the rule at word p, put to those of the symbol there
abbrev pub AddedAt : List ℕ → ℕ → ℕ → List ℕ → List ℕ → List ℕ → List ℕ → ℕ → Type 0
AddedAt g p i rows naming ids after touched =
    Added (symbol_from g p i) (arcs_at rows i (attributes g (symbol_from g p i))) (word naming (symbol_from g p i)) ids after touched

-- why rule q is touched: it names a symbol that has a new arc
pub record Reason (naming ids after : List ℕ) (q : ℕ) : Type 0 where
  pub symbol : ℕ
  pub names : T (hasb q (word naming symbol))
  pub new : NewArc symbol ids after

-- the arcs at the first n positions of the rule at word p, put to those of their symbols, and the rules that this touches
pub record Gathering (g : List ℕ) (p : ℕ) (rows : List ℕ) (n : ℕ) (naming ids after : List ℕ) (touched : ℕ) : Type 0 where
  pub gathered : Gathered g p rows n ids after
  pub touches : (x k q : ℕ) → T (hasb k (word after x)) → T (hasb q (word naming x)) → T (hasb k (word ids x)) ⊎ T (hasb q touched)
  pub reason : (q : ℕ) → T (hasb q touched) → Reason naming ids after q

-- rule r has the arcs of its symbols at each position, and what its paths induce is in the state
pub record Fresh (g rows ids : List ℕ) (r : ℕ) : Type 0 where
  pub spreads : (i k : ℕ) → i ≤ right_length g r → T (hasb k (word ids (symbol_of g r i))) → T (leads (rule_rows rows r) (8 * i + k / 8) (8 * i + k % 8))
  pub gathers : (i k : ℕ) → i ≤ right_length g r → T (hasb k (arcs_at (rule_rows rows r) i (attributes g (symbol_of g r i)))) → T (hasb k (word ids (symbol_of g r i)))

-- after rule r took up the arcs of its symbols and handed on its own, and DP of the first n rules is there: whatever is not touched is fresh, or as
-- it was
pub record Refreshed (g naming : List ℕ) (n r : ℕ) (rows ids after out : List ℕ) (touched : ℕ) : Type 0 where
  pub standing : Standing g n after out
  pub frame : Frame g rows after
  pub own : (T (hasb r touched) → ⊥) → Fresh g after out r
  pub others : (q : ℕ) → q < rules g → (q ≡ r → ⊥) → (T (hasb q touched) → ⊥) → Fresh g rows ids q → Fresh g after out q
  pub grows : (x k : ℕ) → T (hasb k (word ids x)) → T (hasb k (word out x))
  pub reason : (q : ℕ) → T (hasb q touched) → Reason naming ids out q

-- while some of the first n rules are stale: every other of them is fresh
pub record Stale (g entry : List ℕ) (n stale : ℕ) (rows ids : List ℕ) : Type 0 where
  pub standing : Standing g n rows ids
  pub frame : Frame g entry rows
  pub fresh : (r : ℕ) → r < n → (T (hasb r stale) → ⊥) → Fresh g rows ids r
  pub below : (r : ℕ) → T (hasb r stale) → r < rules g

-- a member of a set, whichever
pub record Chosen (stale r : ℕ) : Type 0 where
  pub small : r < 64
  pub member : bit r stale ≡ 1

-- which one: the lowest from a number on, else the lowest of all
pub data Upward (stale from r : ℕ) : Type 0 where
  from_there : First (minus stale (below from)) r → Upward stale from r
  from_below : minus stale (below from) ≡ 0 → First stale r → Upward stale from r
