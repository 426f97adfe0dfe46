-- Document 01, "Actions and ties": the actions of a rule and their numbers, and what each makes available.
-- The set numbers are those of a list of set words s, so all of this holds for a plan from anyone. Assumes nothing.
use Rattle.std.specs.Prelude.{ℕ, suc, ◌+◌, ◌*◌, ◌-◌, ◌/◌, ◌%◌, Bool, false, cond, not, List, ltb, leb, eqb}
use Rattle.basics.specs.Tests.{◌and◌}
use Rattle.basics.specs.Lists.{passing}
use Rattle.grammar.specs.Table.{
  right_length,
  symbol_of,
  nonterminal,
  occurrence,
  inherited_at,
  defining,
  position,
  attribute,
}
use Rattle.sets.specs.Visits.{visits, visit_of}

-- compute an occurrence, visit a child, leave to the parent; visits and leaves are counted from 1
pub data Action : Type 0 where
  compute : ℕ → Action
  visit : ℕ → ℕ → Action
  leave : ℕ → Action
  none : Action

-- "Compute occurrence o: number o. Visit r of child i: 64 + 8i + (r - 1). Leave n: 128 + (n - 1)."
abbrev pub number_of : Action → ℕ
number_of (compute o) = o
number_of (visit i n) = 64 + 8 * i + (n - 1)
number_of (leave n) = 128 + (n - 1)
number_of none = 136

-- the action of a number
unfoldable pub decode : ℕ → Action
decode n =
    cond (ltb n 64) (compute n)
    (cond (ltb n 128) (visit ((n - 64) / 8) (n % 8 + 1)) (cond (ltb n 136) (leave (n - 128 + 1)) none))

-- the numbers of actions are below this one
abbrev pub action_numbers : ℕ
action_numbers = 136

-- "A sequence has at most 104 actions."
abbrev pub most_actions : ℕ
most_actions = 104

-- an action of rule r: a defining occurrence, a visit of a nonterminal child, a leave of the left side
unfoldable pub belongs : List ℕ → List ℕ → ℕ → Action → Bool
belongs g s r (compute o) = defining g r o
belongs g s r (visit i n) =
    leb 1 i and leb i (right_length g r) and nonterminal g (symbol_of g r i) and leb 1 n and leb n (visits s (symbol_of g r i))
belongs g s r (leave n) = leb 1 n and leb n (visits s (symbol_of g r 0))
belongs g s r none = false

unfoldable pub is_action : List ℕ → List ℕ → ℕ → ℕ → Bool
is_action g s r a = belongs g s r (decode a)

-- the actions of rule r, rising
unfoldable pub actions_of : List ℕ → List ℕ → ℕ → List ℕ
actions_of g s r = passing action_numbers (λ a. is_action g s r a)

-- the visit to which the attribute of occurrence o belongs
unfoldable pub visit_at : List ℕ → List ℕ → ℕ → ℕ → ℕ
visit_at g s r o = visit_of s (symbol_of g r (position o)) (attribute o)

-- o is an inherited, or a synthesized, attribute at position i, of visit n
unfoldable pub inherited_of : List ℕ → List ℕ → ℕ → ℕ → ℕ → ℕ → Bool
inherited_of g s r i n o = occurrence g r o and eqb (position o) i and inherited_at g r o and eqb (visit_at g s r o) n

unfoldable pub synthesized_of : List ℕ → List ℕ → ℕ → ℕ → ℕ → ℕ → Bool
synthesized_of g s r i n o = occurrence g r o and eqb (position o) i and not (inherited_at g r o) and eqb (visit_at g s r o) n

-- "A computed occurrence is available after its compute; a child's synthesized attribute after its visit; the left side's inherited
-- ones of visit n after leave n - 1 (from the start for n = 1); a terminal's always."
unfoldable pub makes : List ℕ → List ℕ → ℕ → Action → ℕ → Bool
makes g s r (compute p) o = defining g r o and eqb p o
makes g s r (visit i n) o = nonterminal g (symbol_of g r i) and synthesized_of g s r i n o
makes g s r (leave n) o = inherited_of g s r 0 (suc n) o
makes g s r none o = false
