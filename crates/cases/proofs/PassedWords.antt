-- What the reader has found once it has passed a key: at one word, in the header and in a symbol. A test whose key is passed was met and
-- held, since all tests before it end below that key. Assumes nothing.
use Prim.Native.Nat.{ℕ, suc, ◌+◌, ◌*◌, ◌^◌, ◌≤◌, ◌<◌}
use mathlib.Core.Bool.{Bool}
use mathlib.Core.List.{List}
use native.Mathlib.Omega.{arith}
use lib.Dec.{T, ltb, leb, eqb, ltb→lt}
use lib.ListN.{length}
use Rattle.basics.specs.Tests.{◌and◌, ◌or◌}
use Rattle.refusals.specs.declared.Refusal.{Refusal}
use Rattle.refusals.specs.declared.Refusal.TheVariants.{EndsEarly, OutOfRange, WrongClass}
use Rattle.grammar.specs.Limits.{most_symbols, most_rules, most_attributes}
use Rattle.grammar.specs.Table.{symbols, rules, start, symbol_at, kind, attributes, mask, nonterminal}
use Rattle.grammar.specs.Verdicts.{Verdict, ◌then◌, unless}
use Rattle.grammar.specs.Reading.{present, ranged, header, symbol_fault}
use Rattle.cases.specs.TableCases.{TableCase}
use Rattle.cases.proofs.PassedLaws.{EndsBelow, ends_then, ends_unless, Passed, passed_down, passed_first, passed_second, passed_unless}
use Rattle.cases.proofs.TableKeys.{key}

module _ (g : List ℕ) where
  abbrev pub Past : Verdict → ℕ → Type 0
  Past v k = Passed (TableCase g) (key g) v k

  pub past_first : (v w : Verdict) (k : ℕ) → Past (v then w) k → Past v k
  past_first v w k p = passed_first (TableCase g) (key g) v w k p

  pub past_second : (v w : Verdict) (k : ℕ) → EndsBelow (TableCase g) (key g) v (suc k) → Past (v then w) k → Past w k
  past_second v w k h p = passed_second (TableCase g) (key g) v w k h p

  pub past_down : (v : Verdict) (a b : ℕ) → a ≤ b → Past v b → Past v a
  past_down v a b h p = passed_down (TableCase g) (key g) v a b h p

  pub past_unless : (b : Bool) (n : Refusal) (k : ℕ) → key g n ≤ k → Past (unless b n) k → T b
  past_unless b n k h p = passed_unless (TableCase g) (key g) b n (past_down (unless b n) (key g n) k h p)

  -- The keys of the tests at one word.
  pub ends_present : (p end : ℕ) → 16 * p + 2 ≤ end → EndsBelow (TableCase g) (key g) (present g p) end
  unfolding present
  ends_present p end l = ends_unless (TableCase g) (key g) (ltb p (length g)) (EndsEarly p) end (omega arith)

  pub ends_ranged : (p : ℕ) (b : Bool) (end : ℕ) → 16 * p + 3 ≤ end → EndsBelow (TableCase g) (key g) (ranged g p b) end
  unfolding ranged
  ends_ranged p b end l =
      ends_then (TableCase g) (key g) _ _ end (ends_present p end (omega arith))
      (ends_unless (TableCase g) (key g) b (OutOfRange p) end (omega arith))

  -- a word that was looked for is there
  pub present_there : (p k : ℕ) → 16 * p + 1 ≤ k → Past (present g p) k → p < length g
  unfolding present
  present_there p k h q = ltb→lt p (length g) (past_unless (ltb p (length g)) (EndsEarly p) k (omega arith) q)

  pub ranged_there : (p : ℕ) (b : Bool) (k : ℕ) → 16 * p + 1 ≤ k → Past (ranged g p b) k → p < length g
  unfolding ranged
  ranged_there p b k h q = present_there p k h (past_first _ _ k q)

  -- and is in its range
  pub ranged_passes : (p : ℕ) (b : Bool) (k : ℕ) → 16 * p + 2 ≤ k → Past (ranged g p b) k → T b
  unfolding ranged
  ranged_passes p b k h q =
      past_unless b (OutOfRange p) k (omega arith)
      (past_second (present g p) (unless b (OutOfRange p)) k (ends_present p (suc k) (omega arith)) q)

  -- The parts of the header.
  pub header_symbols : (k : ℕ) → Past (header g) k → Past (ranged g 0 (leb 1 (symbols g) and leb (symbols g) most_symbols)) k
  unfolding header
  header_symbols k p = past_first _ _ k p

  pub header_rules : (k : ℕ) → 16 ≤ k → Past (header g) k → Past (ranged g 1 (leb 1 (rules g) and leb (rules g) most_rules)) k
  unfolding header
  header_rules k l p = past_first _ _ k (past_second _ _ k (ends_ranged 0 _ (suc k) (omega arith)) p)

  pub header_start : (k : ℕ) → 32 ≤ k → Past (header g) k → Past (ranged g 2 (ltb (start g) (symbols g))) k
  unfolding header
  header_start k l p =
      past_second _ _ k (ends_ranged 1 _ (suc k) (omega arith)) (past_second _ _ k (ends_ranged 0 _ (suc k) (omega arith)) p)

  -- The parts of a symbol.
  pub symbol_kind_law : (x k : ℕ) → Past (symbol_fault g x) k → Past (ranged g (symbol_at x) (leb (kind g x) 1)) k
  unfolding symbol_fault
  symbol_kind_law x k p = past_first _ _ k p

  pub symbol_count_law : (x k : ℕ) → 16 * (symbol_at x + 1) ≤ k → Past (symbol_fault g x) k
      → Past (ranged g (symbol_at x + 1) (leb (attributes g x) most_attributes)) k
  unfolding symbol_fault
  symbol_count_law x k l p = past_first _ _ k (past_second _ _ k (ends_ranged (symbol_at x) _ (suc k) (omega arith)) p)

  pub symbol_last : (x k : ℕ) → 16 * (symbol_at x + 2) ≤ k → Past (symbol_fault g x) k
      → Past (ranged g (symbol_at x + 2) (ltb (mask g x) (2 ^ attributes g x))
      then unless (nonterminal g x or eqb (mask g x) 0) (WrongClass (symbol_at x + 2))) k
  unfolding symbol_fault
  symbol_last x k l p =
      past_second _ _ k (ends_ranged (symbol_at x + 1) _ (suc k) (omega arith))
      (past_second _ _ k (ends_ranged (symbol_at x) _ (suc k) (omega arith)) p)
