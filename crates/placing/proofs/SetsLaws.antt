-- The set words of all symbols: a terminal is passed over, a nonterminal gets its nine sets, and what comes out is the plan's set words.
-- Assumes nothing.
use Prim.Native.Nat.{ℕ, zero, suc, ◌+◌, ◌*◌, ◌/◌, ◌%◌, ◌≤◌, ◌<◌}
use mathlib.Core.Path.{◌≡◌, refl, sym, ◌∙◌, ap, subst, subst⁻¹}
use mathlib.Core.Logic.{◌⊎◌, inl, inr, ⊎_elim}
use mathlib.Core.Bool.{Bool, true, false, cond}
use mathlib.Core.List.{List}
use native.Mathlib.Omega.{arith}
use lib.Dec.{ltb, lt→ltb, not_T, T_not}
use lib.Pow.{pow_pos, pow_mono}
use borrow.Author.Tests.{le-ltb}
use lib.ListN.{length, get_or, replicate, length-replicate, get_or-replicate}
use lib.Seq.{ext_get_or}
use Rattle.bits.specs.Bit.{below}
use Rattle.basics.specs.Tests.{◌and◌}
use Rattle.basics.specs.Lists.{word}
use Rattle.basics.proofs.TestLaws.{and_intro, and_right, chosen, passed_over, tested, true_T, false_T, below_or_not}
use Rattle.grammar.specs.Limits.{most_attributes}
use Rattle.grammar.specs.Verdicts.{Good}
use Rattle.grammar.specs.Table.{symbols, nonterminal, attributes, mask, symbol_counts}
use Rattle.grammar.specs.Reading.{read_table}
use Rattle.grammar.specs.WellFormed.{WellFormed, SymbolFormed}
use Rattle.grammar.proofs.AcceptedTable.{accepted}
use Rattle.sets.specs.Computed.{placed_up_to, sets_of_symbol, sets_of, most_sets}
use Rattle.sets.specs.Visits.{set_number}
use Rattle.sets.proofs.SetWords.{length_sets, word_of_symbol, number_of_other}
use Rattle.placing.specs.SymbolSets.{numbered_to, left_after, taken_next, placed_attributes, placed_nonterminal}
use Rattle.placing.proofs.SymbolLaws.{PlacedTo, placing_start, placing_turn}

-- nine times over, the words and what is left are as the definition has them
pub all_placed : (g ids : List ℕ) (x : ℕ) (sets : List ℕ) (at : ℕ) → PlacedTo g ids x sets at 0 sets (below (attributes g x)) → (k : ℕ)
    → PlacedTo g ids x sets at k (numbered_to sets at (below (attributes g x)) (mask g x) (word ids x) k)
    (left_after (below (attributes g x)) (mask g x) (word ids x) k)
unfolding numbered_to left_after taken_next
all_placed g ids x sets at w zero = w
all_placed g ids x sets at w (suc k) =
    placing_turn g ids x sets at k (numbered_to sets at (below (attributes g x)) (mask g x) (word ids x) k)
    (left_after (below (attributes g x)) (mask g x) (word ids x) k) (all_placed g ids x sets at w k) _ _ _ refl refl refl

-- a terminal is passed over
pub over_terminal : (g : List ℕ) (x arcs : ℕ) (sets : List ℕ) (t : Bool) → t ≡ nonterminal g x → t ≡ false → sets ≡ placed_nonterminal g x arcs sets
unfolding placed_nonterminal
over_terminal g x arcs sets t e f = sym (passed_over (nonterminal g x) _ sets (false_T _ (sym e ∙ f)))

-- a nonterminal gets its sets
pub nonterminal_placed : (g : List ℕ) (x arcs : ℕ) (sets next : List ℕ) (t : Bool) → t ≡ nonterminal g x → t ≡ true
    → next ≡ placed_attributes g x arcs sets → next ≡ placed_nonterminal g x arcs sets
unfolding placed_nonterminal
nonterminal_placed g x arcs sets next t e f n = n ∙ sym (chosen (nonterminal g x) _ sets (true_T _ (sym e ∙ f)))

pub attributes_placed : (g : List ℕ) (x arcs count every inherited : ℕ) (sets next : List ℕ) → count ≡ attributes g x → every ≡ below count
    → inherited ≡ mask g x → next ≡ numbered_to sets (8 * x) every inherited arcs 9 → next ≡ placed_attributes g x arcs sets
unfolding placed_attributes
attributes_placed g x arcs count every inherited sets next c h q n =
    n
    ∙ (ap (λ (v : ℕ). numbered_to sets (8 * x) v inherited arcs 9) (h ∙ ap below c)
    ∙ ap (λ (v : ℕ). numbered_to sets (8 * x) (below (attributes g x)) v arcs 9) q)

-- the attributes of a symbol are a small set
pub attributes_small : (g : List ℕ) (x n every : ℕ) → SymbolFormed g x → n ≡ attributes g x → every ≡ below n → every < 256
attributes_small g x n every w e q =
    subst⁻¹ (λ (s : ℕ). s < 256) q (omega (arith, pow_pos n, pow_mono {i = n} {j = 8} (omega (arith, w.attributes_fit))))

-- The loop over the symbols: those that are done have their sets, the others zeros.
pub record SetsTo (g ids sets : List ℕ) (x : ℕ) : Type 0 where
  pub inside : x ≤ symbols g
  pub formed : WellFormed g
  pub size : length sets ≡ 256
  pub words : (y a : ℕ) → y < 32 → a < 8 → word sets (8 * y + a) ≡ cond (ltb y x) (word (sets_of_symbol g ids y) a) 0

pub sets_start : (g ids sets : List ℕ) → read_table g ≡ Good → sets ≡ replicate 256 0 → SetsTo g ids sets 0
sets_start g ids sets good e =
    record {
      inside = omega arith;
      formed = accepted g good;
      size = ap length e ∙ length-replicate {A = ℕ} 256 0;
      words = λ y a h l.
          ap (λ (s : List ℕ). word s (8 * y + a)) e
          ∙ (get_or-replicate {A = ℕ} 256 (8 * y + a) 0 0 (omega arith) ∙ sym (passed_over (ltb y 0) _ 0 (false_T _ (le-ltb y 0 (omega arith)))));
    }

-- the symbol that is next
module _ (g ids sets : List ℕ) (n x : ℕ) (w : SetsTo g ids sets x) (e : n ≡ symbols g) (h : x < n) where
  pub next_formed : SymbolFormed g x
  next_formed = w.formed.symbol x (omega arith)

  pub next_small : x < 32
  next_small = omega (arith, w.formed.symbols_fit)

-- the words of symbol x after it is done, and those of the others
module _ (g ids sets : List ℕ) (x : ℕ) (w : SetsTo g ids sets x) (h : x < symbols g) where
  small : x < 32
  small = omega (arith, w.formed.symbols_fit)

  zeros_there : (a : ℕ) → a < 8 → word sets (8 * x + a) ≡ 0
  zeros_there a l = w.words x a small l ∙ passed_over (ltb x x) _ 0 (false_T _ (le-ltb x x (omega arith)))

  start_there : PlacedTo g ids x sets (8 * x) 0 sets (below (attributes g x))
  start_there =
      placing_start g ids x sets (8 * x) (below (attributes g x)) (w.formed.symbol x h).attributes_fit (w.formed.symbol x h).mask_fits
      (omega (arith, w.size, small)) zeros_there refl

  nine : PlacedTo g ids x sets (8 * x) 9 (numbered_to sets (8 * x) (below (attributes g x)) (mask g x) (word ids x) 9)
      (left_after (below (attributes g x)) (mask g x) (word ids x) 9)
  nine = all_placed g ids x sets (8 * x) start_there 9

  placed_size : length (placed_nonterminal g x (word ids x) sets) ≡ 256
  unfolding placed_nonterminal placed_attributes
  placed_size =
      ⊎_elim (λ t. ap length (chosen (nonterminal g x) _ sets t) ∙ (nine.size ∙ w.size))
      (λ t. ap length (passed_over (nonterminal g x) _ sets t) ∙ w.size) (tested (nonterminal g x))

  placed_here : (a : ℕ) → a < 8 → word (placed_nonterminal g x (word ids x) sets) (8 * x + a) ≡ word (sets_of_symbol g ids x) a
  unfolding placed_nonterminal placed_attributes sets_of_symbol
  placed_here a l =
      ⊎_elim
      (λ t.
      ap (λ (s : List ℕ). word s (8 * x + a)) (chosen (nonterminal g x) _ sets t)
      ∙ (nine.words a l
      ∙ ap (λ (s : List ℕ). word s a) (sym (chosen (symbol_counts g x and nonterminal g x) (placed_up_to g ids x most_sets) (replicate most_attributes 0) (and_intro _ _ (lt→ltb x (symbols g) h) t)))))
      (λ t.
      ap (λ (s : List ℕ). word s (8 * x + a)) (passed_over (nonterminal g x) _ sets t)
      ∙ (zeros_there a l
      ∙ (sym (get_or-replicate {A = ℕ} most_attributes a 0 0 l)
      ∙ ap (λ (s : List ℕ). word s a)
      (sym (passed_over (symbol_counts g x and nonterminal g x) (placed_up_to g ids x most_sets) (replicate most_attributes 0)
      (not_T (symbol_counts g x and nonterminal g x) (λ u. T_not (nonterminal g x) t (and_right _ _ u))))))))
      (tested (nonterminal g x))

  placed_other : (j : ℕ) → (j < 8 * x) ⊎ (8 * x + 8 ≤ j) → word (placed_nonterminal g x (word ids x) sets) j ≡ word sets j
  unfolding placed_nonterminal placed_attributes
  placed_other j o =
      ⊎_elim (λ t. ap (λ (s : List ℕ). word s j) (chosen (nonterminal g x) _ sets t) ∙ nine.others j o)
      (λ t. ap (λ (s : List ℕ). word s j) (passed_over (nonterminal g x) _ sets t)) (tested (nonterminal g x))

-- one symbol more
pub sets_turn : (g ids sets : List ℕ) (m x : ℕ) (next : List ℕ) → SetsTo g ids sets x → m ≡ symbols g → x < m
    → next ≡ placed_nonterminal g x (get_or ids x 0) sets → SetsTo g ids next (x + 1)
sets_turn g ids sets m x next w e r n =
    let h : x < symbols g = omega arith in
    record {
      inside = omega arith;
      formed = w.formed;
      size = ap length n ∙ placed_size g ids sets x w h;
      words = λ y a hy l.
          ap (λ (s : List ℕ). word s (8 * y + a)) n
          ∙ ⊎_elim
          (λ b.
          placed_other g ids sets x w h (8 * y + a) (inl (omega arith))
          ∙ (w.words y a hy l
          ∙ (chosen (ltb y x) _ 0 (lt→ltb y x b) ∙ sym (chosen (ltb y (x + 1)) _ 0 (lt→ltb y (x + 1) (omega arith))))))
          (λ b.
          ⊎_elim
          (λ c.
          placed_other g ids sets x w h (8 * y + a) (inr (omega arith))
          ∙ (w.words y a hy l
          ∙ (passed_over (ltb y x) _ 0 (false_T _ (le-ltb y x b)) ∙ sym (passed_over (ltb y (x + 1)) _ 0 (false_T _ (le-ltb y (x + 1) (omega arith)))))))
          (λ c.
          let q : y ≡ x = omega arith in
          ap (λ (z : ℕ). word (placed_nonterminal g x (word ids x) sets) (8 * z + a)) q
          ∙ (placed_here g ids sets x w h a l
          ∙ (ap (λ (z : ℕ). word (sets_of_symbol g ids z) a) (sym q) ∙ sym (chosen (ltb y (x + 1)) _ 0 (lt→ltb y (x + 1) (omega arith))))))
          (below_or_not x y)) (below_or_not y x);
    }

-- all symbols
pub sets_finish : (g ids sets : List ℕ) (n x : ℕ) → SetsTo g ids sets x → n ≡ symbols g → n ≤ x → sets ≡ sets_of g ids
unfolding set_number
sets_finish g ids sets n x w e h =
    ext_get_or 0 sets (sets_of g ids) (w.size ∙ sym (length_sets g ids))
    (λ j l.
    let i : 8 * (j / 8) + j % 8 ≡ j = omega arith in
    let y : j / 8 < 32 = omega (arith, w.size) in
    subst (λ (n : ℕ). word sets n ≡ word (sets_of g ids) n) i
    (w.words (j / 8) (j % 8) y (omega arith)
    ∙ ⊎_elim
    (λ b. chosen (ltb (j / 8) x) _ 0 (lt→ltb (j / 8) x b) ∙ sym (word_of_symbol g ids (j / 8) (j % 8) y (omega arith)))
    (λ b.
    passed_over (ltb (j / 8) x) _ 0 (false_T _ (le-ltb (j / 8) x b))
    ∙ sym (number_of_other g ids (j / 8) (j % 8) (λ s k. omega arith) (omega arith)))
    (below_or_not (j / 8) x)))
