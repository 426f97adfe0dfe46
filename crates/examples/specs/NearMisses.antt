-- Tables that tell the right definitions from the slips of document 01, and the worked grammars of source documents 000 and 002.
-- Assumes nothing.
use Rattle.std.specs.Prelude.{ℕ, List, [], ◌∷◌}

-- Z to A, A to B, B to nothing; s is attribute 0, i attribute 1. A.i is A.s at the root, s is handed up and i down: the arc from s to i
-- reaches B in the second round. One round of induced arcs finds no order for it. Set 1 is empty, and the last visit is still made.
abbrev pub chain_of_two : List ℕ
chain_of_two =
    3 ∷ 3 ∷ 0 ∷ 0 ∷ 0 ∷ 0 ∷ 0 ∷ 2 ∷ 2 ∷ 0 ∷ 2 ∷ 2 ∷ 0 ∷ 1 ∷ 1 ∷ 1 ∷ 9 ∷ 1 ∷ 8 ∷ 1 ∷ 1 ∷ 2 ∷ 2 ∷ 0
    ∷ 1 ∷ 8 ∷ 9 ∷ 1 ∷ 1 ∷ 2 ∷ 0 ∷ 1 ∷ 0 ∷ 0 ∷ 5 ∷ []

-- the same with C below B: the arc reaches C in the third round
abbrev pub chain_of_three : List ℕ
chain_of_three =
    4 ∷ 4 ∷ 0 ∷ 0 ∷ 0 ∷ 0 ∷ 0 ∷ 2 ∷ 2 ∷ 0 ∷ 2 ∷ 2 ∷ 0 ∷ 2 ∷ 2 ∷ 0 ∷ 1 ∷ 1 ∷ 1 ∷ 9 ∷ 1 ∷ 8 ∷ 1 ∷ 1
    ∷ 2 ∷ 2 ∷ 0 ∷ 1 ∷ 8 ∷ 9 ∷ 1 ∷ 1 ∷ 2 ∷ 1 ∷ 3 ∷ 2 ∷ 0 ∷ 1 ∷ 8 ∷ 9 ∷ 1 ∷ 1 ∷ 3 ∷ 0 ∷ 1 ∷ 0 ∷ 0 ∷ 5 ∷ []

-- Z to nothing, twice. Only the second rule copies attribute 1 to 0, and the first computes them in that order too.
abbrev pub order_elsewhere : List ℕ
order_elsewhere =
    1 ∷ 2 ∷ 0 ∷ 0 ∷ 2 ∷ 0 ∷ 0 ∷ 0 ∷ 2 ∷ 0 ∷ 0 ∷ 8 ∷ 1 ∷ 0 ∷ 7 ∷ 0 ∷ 0 ∷ 2 ∷ 1 ∷ 0 ∷ 6 ∷ 0 ∷ 1 ∷ 1 ∷ []

-- Z to A B, where A.i is B's value and A hands nothing up
abbrev pub handed_down : List ℕ
handed_down =
    3 ∷ 3 ∷ 0 ∷ 0 ∷ 0 ∷ 0 ∷ 0 ∷ 1 ∷ 1 ∷ 0 ∷ 1 ∷ 0 ∷ 0 ∷ 2 ∷ 1 ∷ 2 ∷ 1 ∷ 8 ∷ 1 ∷ 16 ∷ 1 ∷ 0 ∷ 0 ∷ 2
    ∷ 0 ∷ 1 ∷ 0 ∷ 0 ∷ 5 ∷ []

-- Z to A with A.0 = A.1, and A to nothing: the inherited attribute 0 waits for attribute 1, and attribute 2 for nothing
abbrev pub from_the_end : List ℕ
from_the_end =
    2 ∷ 2 ∷ 0 ∷ 0 ∷ 0 ∷ 0 ∷ 0 ∷ 3 ∷ 1 ∷ 0 ∷ 1 ∷ 1 ∷ 1 ∷ 8 ∷ 1 ∷ 9 ∷ 1 ∷ 0 ∷ 2 ∷ 1 ∷ 0 ∷ 3 ∷ 2 ∷ 0
    ∷ 4 ∷ []

-- Z to nothing, where the function of attribute 1 stands before that of attribute 0
abbrev pub written_later : List ℕ
written_later =
    1 ∷ 1 ∷ 0 ∷ 0 ∷ 2 ∷ 0 ∷ 0 ∷ 0 ∷ 2 ∷ 1 ∷ 0 ∷ 7 ∷ 0 ∷ 0 ∷ 8 ∷ []

-- Z to A, A to nothing, no attributes at all
abbrev pub nothing_up : List ℕ
nothing_up =
    2 ∷ 2 ∷ 0 ∷ 0 ∷ 0 ∷ 0 ∷ 0 ∷ 0 ∷ 0 ∷ 0 ∷ 1 ∷ 1 ∷ 0 ∷ 1 ∷ 0 ∷ 0 ∷ []

-- Z to A A, each inherited attribute 2 copied from the other's attribute 0; A to nothing, attribute 1 a copy of 0. 01 puts both
-- synthesized attributes into set 1; 000's definition 4 puts 0, which has a successor, into set 3, before the inherited one.
abbrev pub successor_in_first : List ℕ
successor_in_first =
    2 ∷ 2 ∷ 0 ∷ 0 ∷ 0 ∷ 0 ∷ 0 ∷ 3 ∷ 4 ∷ 0 ∷ 2 ∷ 1 ∷ 1 ∷ 2 ∷ 10 ∷ 1 ∷ 16 ∷ 18 ∷ 1 ∷ 8 ∷ 1 ∷ 0 ∷ 2 ∷ 0
    ∷ 0 ∷ 5 ∷ 1 ∷ 1 ∷ 0 ∷ []

-- its set words by 000's definition 4
abbrev pub successor_in_first_by000 : List ℕ
successor_in_first_by000 = 0 ∷ 0 ∷ 0 ∷ 0 ∷ 0 ∷ 0 ∷ 0 ∷ 0 ∷ 3 ∷ 1 ∷ 2 ∷ []

-- Z to A A, each inherited attribute 3 copied from the other's inherited attribute 2; A to nothing, 0 a copy of 3 and 1 of 0. 01 puts both
-- inherited attributes into set 2; 000's definition 4 puts 3, whose successor 0 is in set 3, into set 4.
abbrev pub heirs_together : List ℕ
heirs_together =
    2 ∷ 2 ∷ 0 ∷ 0 ∷ 0 ∷ 0 ∷ 0 ∷ 4 ∷ 12 ∷ 0 ∷ 2 ∷ 1 ∷ 1 ∷ 4 ∷ 10 ∷ 0 ∷ 5 ∷ 18 ∷ 0 ∷ 5 ∷ 11 ∷ 1 ∷ 18 ∷ 19
    ∷ 1 ∷ 10 ∷ 1 ∷ 0 ∷ 2 ∷ 0 ∷ 1 ∷ 3 ∷ 1 ∷ 1 ∷ 0 ∷ []

abbrev pub heirs_together_by000 : List ℕ
heirs_together_by000 = 0 ∷ 0 ∷ 0 ∷ 0 ∷ 0 ∷ 0 ∷ 0 ∷ 0 ∷ 3 ∷ 1 ∷ 2 ∷ 4 ∷ []

-- 000, rules p1 to p9. Symbols: program, primary, expression, assignment, declaration, identifier, intconstant, realconstant, and one
-- terminal for all marks. Attributes of primary, expression and assignment: access, primode, postmode, evaluable, value, as far as
-- they have them; of declaration: access, description.
abbrev pub expressions : List ℕ
expressions =
    9 ∷ 9 ∷ 0 ∷ 0 ∷ 0 ∷ 0 ∷ 0 ∷ 5 ∷ 5 ∷ 0 ∷ 5 ∷ 5 ∷ 0 ∷ 3 ∷ 5 ∷ 0 ∷ 2 ∷ 1 ∷ 1 ∷ 1 ∷ 0 ∷ 1 ∷ 1 ∷ 0
    ∷ 1 ∷ 1 ∷ 0 ∷ 1 ∷ 0 ∷ 0 ∷ 0 ∷ 1 ∷ 1 ∷ 2 ∷ 8 ∷ 0 ∷ 0 ∷ 10 ∷ 1 ∷ 9 ∷ 1 ∷ 5 ∷ 8 ∷ 4 ∷ 8 ∷ 3 ∷ 8 ∷ 6
    ∷ 16 ∷ 1 ∷ 0 ∷ 32 ∷ 2 ∷ 0 ∷ 17 ∷ 1 ∷ 1 ∷ 33 ∷ 34 ∷ 1 ∷ 2 ∷ 3 ∷ 0 ∷ 0 ∷ 4 ∷ 0 ∷ 0 ∷ 1 ∷ 1 ∷ 5 ∷ 3 ∷ 1
    ∷ 2 ∷ 8 ∷ 0 ∷ 3 ∷ 0 ∷ 0 ∷ 4 ∷ 0 ∷ 0 ∷ 1 ∷ 1 ∷ 6 ∷ 3 ∷ 1 ∷ 0 ∷ 1 ∷ 3 ∷ 0 ∷ 1 ∷ 4 ∷ 7 ∷ 2 ∷ 8 ∷ 8
    ∷ 1 ∷ 1 ∷ 7 ∷ 3 ∷ 1 ∷ 0 ∷ 2 ∷ 3 ∷ 0 ∷ 1 ∷ 4 ∷ 1 ∷ 8 ∷ 3 ∷ 3 ∷ 5 ∷ 8 ∷ 2 ∷ 3 ∷ 24 ∷ 1 ∷ 0 ∷ 1 ∷ 2
    ∷ 8 ∷ 0 ∷ 26 ∷ 1 ∷ 1 ∷ 2 ∷ 3 ∷ 2 ∷ 8 ∷ 1 ∷ 7 ∷ 8 ∷ 1 ∷ 0 ∷ 24 ∷ 1 ∷ 0 ∷ 1 ∷ 2 ∷ 9 ∷ 25 ∷ 10 ∷ 1 ∷ 1
    ∷ 26 ∷ 1 ∷ 1 ∷ 3 ∷ 2 ∷ 11 ∷ 27 ∷ 4 ∷ 7 ∷ 3 ∷ 12 ∷ 28 ∷ 2 ∷ 1 ∷ 1 ∷ 5 ∷ 8 ∷ 1 ∷ 0 ∷ 1 ∷ 1 ∷ 9 ∷ 10 ∷ 1
    ∷ 2 ∷ 3 ∷ 1 ∷ 11 ∷ 4 ∷ 1 ∷ 12 ∷ 4 ∷ 4 ∷ 8 ∷ 5 ∷ 8 ∷ 2 ∷ 3 ∷ 32 ∷ 1 ∷ 0 ∷ 1 ∷ 2 ∷ 16 ∷ 33 ∷ 34 ∷ 1 ∷ 33 ∷ []

-- 002, the example grammar: S to A A, A to a A, A to b, A to c; attributes of A: alpha, beta, gamma, delta
abbrev pub computation_sequences : List ℕ
computation_sequences =
    5 ∷ 4 ∷ 0 ∷ 0 ∷ 1 ∷ 0 ∷ 0 ∷ 4 ∷ 3 ∷ 1 ∷ 0 ∷ 0 ∷ 1 ∷ 0 ∷ 0 ∷ 1 ∷ 0 ∷ 0 ∷ 0 ∷ 2 ∷ 1 ∷ 1 ∷ 5 ∷ 0
    ∷ 2 ∷ 10 ∷ 18 ∷ 8 ∷ 1 ∷ 19 ∷ 9 ∷ 0 ∷ 1 ∷ 16 ∷ 1 ∷ 11 ∷ 17 ∷ 0 ∷ 2 ∷ 1 ∷ 2 ∷ 2 ∷ 1 ∷ 4 ∷ 2 ∷ 1 ∷ 18 ∷ 3
    ∷ 1 ∷ 19 ∷ 16 ∷ 1 ∷ 0 ∷ 17 ∷ 1 ∷ 1 ∷ 1 ∷ 1 ∷ 3 ∷ 2 ∷ 2 ∷ 1 ∷ 0 ∷ 3 ∷ 0 ∷ 0 ∷ 1 ∷ 1 ∷ 4 ∷ 2 ∷ 2 ∷ 0
    ∷ 2 ∷ 3 ∷ 1 ∷ 1 ∷ []
