-- The tables, trees and values of document 01's checked examples, word by word.
-- Assumes nothing.
use Rattle.std.specs.Prelude.{ℕ, List, [], ◌∷◌, ◌++◌, ℤ, pos, replicate}

-- Table G: three symbols, three rules, start 0; the symbols Z, L and the terminal; Z to L, L to terminal L, L to terminal.
abbrev pub table_g : List ℕ
table_g =
    3 ∷ 3 ∷ 0
    ∷ 0 ∷ 1 ∷ 0 ∷ 0 ∷ 3 ∷ 2 ∷ 1 ∷ 1 ∷ 0
    ∷ 0 ∷ 1 ∷ 1 ∷ 2 ∷ 0 ∷ 1 ∷ 10 ∷ 9 ∷ 1 ∷ 8
    ∷ 1 ∷ 2 ∷ 2 ∷ 1 ∷ 3 ∷ 0 ∷ 4 ∷ 8 ∷ 16 ∷ 17 ∷ 1 ∷ 1 ∷ 2 ∷ 1 ∷ 18
    ∷ 1 ∷ 1 ∷ 2 ∷ 2 ∷ 0 ∷ 1 ∷ 8 ∷ 2 ∷ 6 ∷ 8 ∷ 1 ∷ []

-- 33 symbols
abbrev pub too_many_symbols : List ℕ
too_many_symbols = 33 ∷ 1 ∷ 0 ∷ []

-- Z to A with A.i = A.s; A to nothing with A.s = A.i; s is attribute 0, i attribute 1; Z.0 = A.s
abbrev pub copied_round : List ℕ
copied_round =
    2 ∷ 2 ∷ 0
    ∷ 0 ∷ 1 ∷ 0 ∷ 0 ∷ 2 ∷ 2
    ∷ 0 ∷ 1 ∷ 1 ∷ 2 ∷ 0 ∷ 1 ∷ 8 ∷ 9 ∷ 1 ∷ 8
    ∷ 1 ∷ 0 ∷ 1 ∷ 0 ∷ 1 ∷ 1 ∷ []

-- Z to A A, each A.i copied from the other's s, Z.0 the first s; A to nothing, s a constant
abbrev pub crossed_copies : List ℕ
crossed_copies =
    2 ∷ 2 ∷ 0
    ∷ 0 ∷ 1 ∷ 0 ∷ 0 ∷ 2 ∷ 2
    ∷ 0 ∷ 2 ∷ 1 ∷ 1 ∷ 3 ∷ 0 ∷ 1 ∷ 8 ∷ 9 ∷ 1 ∷ 16 ∷ 17 ∷ 1 ∷ 8
    ∷ 1 ∷ 0 ∷ 1 ∷ 0 ∷ 0 ∷ 7 ∷ []

-- Z.0 copied from itself
abbrev pub copied_itself : List ℕ
copied_itself = 1 ∷ 1 ∷ 0 ∷ 0 ∷ 1 ∷ 0 ∷ 0 ∷ 0 ∷ 1 ∷ 0 ∷ 1 ∷ 0 ∷ []

-- Z to A, A to nothing. A has eight attributes, synthesized first and alternating: each inherited one is copied from the one before
-- it at Z to A, each synthesized one from the one before it at A to nothing, and the first is a constant.
abbrev pub chain_of_eight : List ℕ
chain_of_eight =
    2 ∷ 2 ∷ 0
    ∷ 0 ∷ 0 ∷ 0 ∷ 0 ∷ 8 ∷ 170
    ∷ 0 ∷ 1 ∷ 1 ∷ 4 ∷ 9 ∷ 1 ∷ 8 ∷ 11 ∷ 1 ∷ 10 ∷ 13 ∷ 1 ∷ 12 ∷ 15 ∷ 1 ∷ 14
    ∷ 1 ∷ 0 ∷ 4 ∷ 0 ∷ 0 ∷ 5 ∷ 2 ∷ 1 ∷ 1 ∷ 4 ∷ 1 ∷ 3 ∷ 6 ∷ 1 ∷ 5 ∷ []

-- Z without attributes to nothing
abbrev pub no_attributes : List ℕ
no_attributes = 1 ∷ 1 ∷ 0 ∷ 0 ∷ 0 ∷ 0 ∷ 0 ∷ 0 ∷ 0 ∷ []

-- G's tree of two lines: rule 0; rule 1; terminal; rule 2; terminal
abbrev pub two_lines : List ℕ
two_lines =
    0 ∷ 1 ∷ 0 ∷ 0 ∷ 0 ∷ 0 ∷ 0 ∷ 0
    ∷ 1 ∷ 2 ∷ 3 ∷ 0 ∷ 0 ∷ 0 ∷ 0 ∷ 0
    ∷ 32770 ∷ 0 ∷ 0 ∷ 0 ∷ 0 ∷ 0 ∷ 0 ∷ 0
    ∷ 2 ∷ 4 ∷ 0 ∷ 0 ∷ 0 ∷ 0 ∷ 0 ∷ 0
    ∷ 32770 ∷ 0 ∷ 0 ∷ 0 ∷ 0 ∷ 0 ∷ 0 ∷ 0 ∷ []

-- values for it: zeros, but for the two terminals
abbrev pub priorities : ℤ → ℤ → List ℤ
priorities first second =
    replicate 16 (pos 0) ++ (first ∷ replicate 15 (pos 0)) ++ (second ∷ replicate 7 (pos 0))
