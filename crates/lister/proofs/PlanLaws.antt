-- How the code types the lines of a plan, and that they are the lines of the grammar.
-- Assumes nothing.
use Prim.Native.Nat.{ℕ, zero, suc, ◌+◌, ◌*◌, ◌≤◌, ◌<◌}
use mathlib.Core.Path.{◌≡◌, refl, sym, ◌∙◌, ap, ap₂, subst}
use mathlib.Core.Bool.{Bool, true, false, cond, not}
use mathlib.Core.List.{List, [], ◌∷◌, ◌++◌, append_assoc}
use native.Mathlib.Omega.{arith}
use lib.Dec.{T}
use lib.ListN.{length, get_or}
use lib.Seq.{ext_get_or}
use Rattle.grammar.specs.Limits.{plan_words}
use Rattle.basics.specs.Lists.{tabulate, blocks}
use Rattle.basics.proofs.TestLaws.{chosen, passed_over, true_T, false_T}
use Rattle.basics.proofs.ListLaws.{length_tabulate, get_d_tabulate}
use Rattle.grammar.specs.Verdicts.{Good}
use Rattle.grammar.specs.Table.{symbols, rules, nonterminal, attributes}
use Rattle.grammar.specs.Reading.{read_table}
use Rattle.grammar.specs.WellFormed.{WellFormed}
use Rattle.grammar.proofs.AcceptedTable.{accepted}
use Rattle.relations.specs.Computed.{ids_of}
use Rattle.sets.specs.Computed.{sets_of}
use Rattle.sets.specs.Visits.{set_number, visits}
use Rattle.sequences.specs.Order.{sequence_of}
use Rattle.plans.specs.Buffers.{over}
use Rattle.plans.specs.Answer.{sequences_of, accepted_plan}
use Rattle.plans.specs.Sequences.{sequence_length, action_at}
use Rattle.plans.proofs.PlanWords.{numbers_same, sequence_stands}
use Rattle.runs.proofs.SameSets.{visits_same}
use Rattle.text.specs.Lines.{decimal, line, symbol_word, rule_word, plan_word}
use Rattle.text.specs.Listing.{first_line, symbol_line, rule_line, plan_text}
use Rattle.lister.specs.declared.Page.{Page}
use Rattle.lister.specs.Shown.{Types, actions_in, rule_line_of, plan_lines}
use Rattle.lister.proofs.PageLaws.{types_none, types_same}
use Rattle.lister.proofs.LineLaws.{Begun, line_word, line_number, NumbersTo, numbers_start, numbers_turn, numbers_end, two_line, BlocksTo, blocks_start, blocks_turn, blocks_end}

-- the first line
pub first_line_typed : {o o₁ o₂ o₃ o₄ : Page} (g : List ℕ) (x y : ℕ) → x ≡ symbols g → y ≡ rules g → Types o plan_word o₁
    → Types o₁ (32 ∷ decimal x) o₂ → Types o₂ (32 ∷ decimal y) o₃ → Types o₃ (10 ∷ []) o₄ → Types o (first_line g) o₄
unfolding first_line
first_line_typed g x y ex ey w s t v =
    types_same (ap₂ (λ (m n : ℕ). line plan_word (m ∷ n ∷ [])) ex ey) (two_line x y w s t v)

-- the line of a symbol: nothing for a terminal
pub symbol_skipped : (o : Page) (g p : List ℕ) (x : ℕ) (b : Bool) → b ≡ nonterminal g x → not b ≡ true → Types o (symbol_line g p x) o
unfolding symbol_line
symbol_skipped o g p x b e t =
    types_same (sym (passed_over (nonterminal g x) _ _ (subst (λ (c : Bool). T (not c)) e (true_T (not b) t)))) (types_none o)

not_false : (b : Bool) → not b ≡ false → T b
not_false true e = tt
not_false false e = false_T true e

-- the numbers of a nonterminal: the sets of the attributes before a are typed
abbrev pub SetsTo : (p : List ℕ) (x n : ℕ) (o : Page) (a : ℕ) (o' : Page) → Type 0
SetsTo p x n o a o' = NumbersTo symbol_word (x ∷ visits p x ∷ []) (set_number p x) n o a o'

pub sets_start : {o o₁ o₂ o₃ : Page} (p : List ℕ) (x v n : ℕ) → v ≡ visits p x → Types o (115 ∷ []) o₁ → Types o₁ (32 ∷ decimal x) o₂
    → Types o₂ (32 ∷ decimal v) o₃ → SetsTo p x n o 0 o₃
sets_start {o} {o₃ = o₃} p x v n e w s t =
    numbers_start (x ∷ visits p x ∷ []) (set_number p x) n
    (subst (λ (m : ℕ). Begun symbol_word (x ∷ m ∷ []) o o₃) e (line_number (x ∷ []) v (line_number [] x (line_word w) s) t))

pub sets_turn : {o o₁ o₂ : Page} (p : List ℕ) (x n a v : ℕ) → a < n → SetsTo p x n o a o₁ → Types o₁ (32 ∷ decimal v) o₂
    → v ≡ get_or p (8 * x + a) 0 → SetsTo p x n o (a + 1) o₂
unfolding set_number
sets_turn p x n a v h s t e = numbers_turn (x ∷ visits p x ∷ []) (set_number p x) n a v h s t e

pub symbol_line_typed : {o o₁ o₂ : Page} (g p : List ℕ) (x n a : ℕ) (b : Bool) → not b ≡ false → b ≡ nonterminal g x → n ≡ attributes g x → n ≤ a
    → SetsTo p x n o a o₁ → Types o₁ (10 ∷ []) o₂ → Types o (symbol_line g p x) o₂
unfolding symbol_line
symbol_line_typed g p x n a b t e m h s v =
    types_same (sym (chosen (nonterminal g x) _ _ (subst T e (not_false b t))))
    (numbers_end (x ∷ visits p x ∷ []) (set_number p x) n (attributes g x) a m h s v)

-- the line of a rule: the actions before j are typed
abbrev pub ActionsTo : (p : List ℕ) (r n : ℕ) (o : Page) (j : ℕ) (o' : Page) → Type 0
ActionsTo p r n o j o' = NumbersTo rule_word (r ∷ []) (action_at p r) n o j o'

pub actions_start : {o o₁ o₂ : Page} (p : List ℕ) (r n : ℕ) → Types o (114 ∷ []) o₁ → Types o₁ (32 ∷ decimal r) o₂ → ActionsTo p r n o 0 o₂
actions_start p r n w s = numbers_start (r ∷ []) (action_at p r) n (line_number [] r (line_word w) s)

pub actions_turn : {o o₁ o₂ : Page} (p : List ℕ) (r n j v : ℕ) → j < n → ActionsTo p r n o j o₁ → Types o₁ (32 ∷ decimal v) o₂
    → v ≡ get_or p (plan_words r + 1 + j) 0 → ActionsTo p r n o (j + 1) o₂
unfolding action_at
actions_turn p r n j v h s t e = numbers_turn (r ∷ []) (action_at p r) n j v h s t e

pub rule_line_typed : {o o₁ o₂ : Page} (p : List ℕ) (r n j : ℕ) → n ≡ get_or p (plan_words r) 0 → n ≤ j → ActionsTo p r n o j o₁
    → Types o₁ (10 ∷ []) o₂ → Types o (rule_line_of p r) o₂
unfolding rule_line_of actions_in sequence_length
rule_line_typed p r n j e h s v = numbers_end (r ∷ []) (action_at p r) n (get_or p (plan_words r) 0) j e h s v

-- All lines: those of the symbols before x are typed, behind the first line; and those of the rules before r, behind those of the symbols.
abbrev pub SymbolsTo : (g p : List ℕ) (n : ℕ) (o : Page) (x : ℕ) (o' : Page) → Type 0
SymbolsTo g p n o x o' = BlocksTo (first_line g) (symbol_line g p) n o x o'

abbrev pub RulesTo : (g p : List ℕ) (n : ℕ) (o : Page) (r : ℕ) (o' : Page) → Type 0
RulesTo g p n o r o' = BlocksTo (first_line g ++ blocks (symbols g) (symbol_line g p)) (rule_line_of p) n o r o'

pub symbols_start : {o o₁ : Page} (g p : List ℕ) (n : ℕ) → Types o (first_line g) o₁ → SymbolsTo g p n o 0 o₁
symbols_start g p n t = blocks_start (first_line g) (symbol_line g p) n t

pub symbols_turn : {o o₁ o₂ : Page} (g p : List ℕ) (n x : ℕ) → x < n → SymbolsTo g p n o x o₁ → Types o₁ (symbol_line g p x) o₂
    → SymbolsTo g p n o (x + 1) o₂
symbols_turn g p n x h s t = blocks_turn (first_line g) (symbol_line g p) n x h s t

pub rules_start : {o o₁ : Page} (g p : List ℕ) (n x m : ℕ) → n ≡ symbols g → n ≤ x → SymbolsTo g p n o x o₁ → RulesTo g p m o 0 o₁
rules_start g p n x m e h s = blocks_start _ (rule_line_of p) m (blocks_end (first_line g) (symbol_line g p) n (symbols g) x e h s)

pub rules_turn : {o o₁ o₂ : Page} (g p : List ℕ) (n r : ℕ) → r < n → RulesTo g p n o r o₁ → Types o₁ (rule_line_of p r) o₂ → RulesTo g p n o (r + 1) o₂
rules_turn g p n r h s t = blocks_turn _ (rule_line_of p) n r h s t

pub plan_lines_typed : {o o₁ : Page} (g p : List ℕ) (n r : ℕ) → n ≡ rules g → n ≤ r → RulesTo g p n o r o₁ → Types o (plan_lines g p) o₁
unfolding plan_lines
plan_lines_typed g p n r e h s =
    types_same (append_assoc (first_line g) (blocks (symbols g) (symbol_line g p)) (blocks (rules g) (rule_line_of p)))
    (blocks_end _ (rule_line_of p) n (rules g) r e h s)

-- Lists that are equal place by place.
tabulate_same : (n : ℕ) (f h : ℕ → ℕ) → ((k : ℕ) → k < n → f k ≡ h k) → tabulate n f ≡ tabulate n h
unfolding tabulate
tabulate_same zero f h e = refl
tabulate_same (suc n) f h e =
    ap₂ (λ (l : List ℕ) (m : ℕ). l ++ (m ∷ [])) (tabulate_same n f h (λ k l. e k (omega arith))) (e n (omega arith))

blocks_same : (n : ℕ) (f h : ℕ → List ℕ) → ((k : ℕ) → k < n → f k ≡ h k) → blocks n f ≡ blocks n h
unfolding blocks
blocks_same zero f h e = refl
blocks_same (suc n) f h e = ap₂ (λ (l m : List ℕ). l ++ m) (blocks_same n f h (λ k l. e k (omega arith))) (e n (omega arith))

module _ (g : List ℕ) (good : read_table g ≡ Good) (lent : List ℕ) where
  abbrev s : List ℕ
  s = sets_of g (ids_of g)

  abbrev p : List ℕ
  p = over (accepted_plan g) lent

  w : WellFormed g
  w = accepted g good

  symbol_same : (x : ℕ) → x < symbols g → symbol_line g p x ≡ symbol_line g s x
  unfolding symbol_line
  symbol_same x h =
      let all : (y a : ℕ) → y < 32 → a < 8 → set_number p y a ≡ set_number s y a = numbers_same g lent in
      let numbers : (a : ℕ) → a < 8 → set_number p x a ≡ set_number s x a = λ a l. all x a (omega (arith, w.symbols_fit)) l in
      let few : attributes g x ≤ 8 = (w.symbol x h).attributes_fit in
      ap (λ (l : List ℕ). cond (nonterminal g x) l [])
      (ap₂ (λ (v : ℕ) (l : List ℕ). line symbol_word (x ∷ v ∷ l)) (visits_same g p s w all x (omega (arith, w.symbols_fit)))
      (tabulate_same (attributes g x) (λ a. set_number p x a) (λ a. set_number s x a) (λ a l. numbers a (omega arith))))

  actions_same : (r : ℕ) → r < rules g → actions_in p r ≡ sequences_of g r
  unfolding actions_in sequences_of
  actions_same r h =
      let out : List ℕ = sequence_of g (ids_of g) s r in
      let long : length (actions_in p r) ≡ length (sequence_of g (ids_of g) s r) =
      length_tabulate (sequence_length p r) (λ j. action_at p r j) ∙ (sequence_stands g lent r h).length_is in
      ext_get_or 0 (actions_in p r) (sequence_of g (ids_of g) s r) long
      (λ j l. get_d_tabulate (sequence_length p r) (λ k. action_at p r k) 0 j (omega (arith, long, (sequence_stands g lent r h).length_is))
      ∙ (sequence_stands g lent r h).action_is j (omega (arith, long)))

  -- the lines of the plan are the listing of the table
  pub lines_of_plan : plan_lines g p ≡ plan_text g
  unfolding plan_lines plan_text
  lines_of_plan =
      ap₂ (λ (l m : List ℕ). first_line g ++ (l ++ m))
      (blocks_same (symbols g) (λ x. symbol_line g p x) (λ x. symbol_line g s x) symbol_same)
      (blocks_same (rules g) (λ r. rule_line_of p r) (λ r. rule_line g r) rule_same)
    where
      rule_same : (r : ℕ) → r < rules g → rule_line_of p r ≡ rule_line g r
      rule_same r h = unfold rule_line_of rule_line in ap (λ (l : List ℕ). line rule_word (r ∷ l)) (actions_same r h)
