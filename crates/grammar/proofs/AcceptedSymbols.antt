-- The header and the symbols of a table that the reader accepts are well formed: each fact is one of the tests that passed. Assumes nothing.
use Prim.Native.Nat.{ℕ, ◌+◌, ◌^◌, ◌≤◌, ◌<◌}
use mathlib.Core.Path.{◌≡◌}
use mathlib.Core.Logic.{⊎_elim}
use mathlib.Core.Bool.{Bool}
use mathlib.Core.List.{List}
use native.Mathlib.Omega.{arith}
use lib.Dec.{T, ltb, leb, eqb, ltb→lt, leb→le, eqb→eq}
use lib.ListN.{length}
use Rattle.basics.specs.Tests.{◌and◌, ◌or◌}
use Rattle.basics.proofs.TestLaws.{and_left, and_right, or_cases}
use Rattle.refusals.specs.declared.Refusal.TheVariants.{EndsEarly, OutOfRange, WrongClass}
use Rattle.grammar.specs.Limits.{most_symbols, most_rules, most_attributes}
use Rattle.grammar.specs.Table.{symbols, rules, start, symbol_at, kind, attributes, mask, nonterminal}
use Rattle.grammar.specs.Verdicts.{Good, unless}
use Rattle.grammar.specs.Reading.{present, ranged, header, symbol_fault}
use Rattle.grammar.specs.WellFormed.{SymbolFormed}
use Rattle.grammar.proofs.VerdictLaws.{then_first, then_second, unless_passes}

module _ (g : List ℕ) where
  pub present_at : (p : ℕ) → present g p ≡ Good → p < length g
  unfolding present
  present_at p e = ltb→lt p (length g) (unless_passes (ltb p (length g)) (EndsEarly p) e)

  pub ranged_there : (p : ℕ) (b : Bool) → ranged g p b ≡ Good → p < length g
  unfolding ranged
  ranged_there p b e = present_at p (then_first (present g p) (unless b (OutOfRange p)) e)

  pub ranged_passes : (p : ℕ) (b : Bool) → ranged g p b ≡ Good → T b
  unfolding ranged
  ranged_passes p b e = unless_passes b (OutOfRange p) (then_second (present g p) (unless b (OutOfRange p)) e)

  -- the header's three ranges
  pub header_symbols : header g ≡ Good → (1 ≤ symbols g) × (symbols g ≤ most_symbols)
  unfolding header
  header_symbols e =
      let t = ranged_passes 0 (leb 1 (symbols g) and leb (symbols g) most_symbols) (then_first _ _ e) in (
        leb→le 1 (symbols g) (and_left (leb 1 (symbols g)) (leb (symbols g) most_symbols) t),
        leb→le (symbols g) most_symbols (and_right (leb 1 (symbols g)) (leb (symbols g) most_symbols) t),
      )

  pub header_rules : header g ≡ Good → (1 ≤ rules g) × (rules g ≤ most_rules)
  unfolding header
  header_rules e =
      let t = ranged_passes 1 (leb 1 (rules g) and leb (rules g) most_rules) (then_first _ _ (then_second _ _ e)) in (
        leb→le 1 (rules g) (and_left (leb 1 (rules g)) (leb (rules g) most_rules) t),
        leb→le (rules g) most_rules (and_right (leb 1 (rules g)) (leb (rules g) most_rules) t),
      )

  pub header_start : header g ≡ Good → start g < symbols g
  unfolding header
  header_start e =
      ltb→lt (start g) (symbols g)
      (ranged_passes 2 (ltb (start g) (symbols g)) (then_second _ _ (then_second _ _ e)))

  pub symbol_formed : (x : ℕ) → symbol_fault g x ≡ Good → SymbolFormed g x
  unfolding symbol_fault
  symbol_formed x e =
      let e₁ = then_second _ _ e in
      let e₂ = then_second _ _ e₁ in
      record {
        kind_fits = leb→le (kind g x) 1 (ranged_passes (symbol_at x) (leb (kind g x) 1) (then_first _ _ e));
        attributes_fit =
            leb→le (attributes g x) most_attributes
            (ranged_passes (symbol_at x + 1) (leb (attributes g x) most_attributes) (then_first _ _ e₁));
        mask_fits =
            ltb→lt (mask g x) (2 ^ attributes g x)
            (ranged_passes (symbol_at x + 2) (ltb (mask g x) (2 ^ attributes g x)) (then_first _ _ e₂));
        terminal_mask = λ k.
            ⊎_elim (λ t. absurd (let z : kind g x ≡ 0 = eqb→eq (kind g x) 0 t in omega arith))
            (λ t. eqb→eq (mask g x) 0 t)
            (or_cases (nonterminal g x) (eqb (mask g x) 0)
            (unless_passes (nonterminal g x or eqb (mask g x) 0) (WrongClass (symbol_at x + 2)) (then_second _ _ e₂)));
      }
