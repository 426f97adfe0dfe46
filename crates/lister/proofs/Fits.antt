-- Every listing fits the buffer of the program: none is longer than 28,365 bytes. So what the program writes is the whole text.
-- Assumes nothing.
use Prim.Native.Nat.{ℕ, zero, suc, ◌+◌, ◌*◌, ◌/◌, ◌%◌, ◌^◌, ◌≤◌, ◌<◌}
use mathlib.Core.Path.{◌≡◌, refl, ap}
use mathlib.Core.Logic.{⊎_elim}
use mathlib.Core.Bool.{Bool, true, false, cond}
use mathlib.Core.List.{List, [], ◌∷◌, ◌++◌}
use native.Mathlib.Omega.{arith}
use native.Mathlib.Nat.{pow-suc}
use lib.Dec.{ltb, eqb, lt→ltb}
use lib.ListN.{length, get_or, take, length-append}
use Rattle.grammar.specs.Limits.{most_rules, row_words, plan_words}
use Rattle.basics.specs.Lists.{tabulate, blocks}
use Rattle.basics.proofs.TestLaws.{tested, chosen, passed_over}
use Rattle.basics.proofs.ListLaws.{length_tabulate, get_d_tabulate}
use Rattle.refusals.specs.declared.Refusal.{Refusal}
use Rattle.refusals.specs.declared.Refusal.TheVariants.{EndsEarly}
use Rattle.refusals.specs.Numbers.{number_of, place_of, second_of}
use Rattle.grammar.specs.Verdicts.{Good}
use Rattle.grammar.specs.Table.{symbols, rules, nonterminal, attributes}
use Rattle.grammar.specs.Reading.{read_table}
use Rattle.grammar.specs.WellFormed.{WellFormed}
use Rattle.grammar.proofs.AcceptedTable as reading
use Rattle.relations.specs.Computed.{ids_of}
use Rattle.sets.specs.Computed.{sets_of}
use Rattle.sets.specs.Visits.{set_number, visits}
use Rattle.sets.proofs.SetWords.{number_nine}
use Rattle.sets.proofs.Visits.{visits_five}
use Rattle.sequences.specs.Order.{sequence_of}
use Rattle.sequences.proofs.ActionLaws.{action_below}
use Rattle.sequences.proofs.SequenceLaws.{nothing_else_law}
use Rattle.sequences.proofs.PlannedSequences.{planned_short}
use Rattle.plans.specs.Answer.{Outcome, untouched, circular_idp, unordered, accepted, outcome, sequences_of}
use Rattle.planner.proofs.AcceptedLaws.{both_good}
use Rattle.text.specs.Lines.{digits, decimal, spaced, line, plan_word, symbol_word, rule_word, refused_word}
use Rattle.lister.specs.Shown.{longest_listing}
use Rattle.text.specs.Listing.{most_bytes, refusal_line, first_line, symbol_line, rule_line, plan_text, outcome_text, table_text, words_of, bytes_text, listing}

-- A number has no more digits than are asked for, and no more than it needs.
digits_most : (k n : ℕ) → length (digits k n) ≤ k
unfolding digits
digits_most zero n = omega arith
digits_most (suc k) n = go (ltb n 10) (digits_most k (n / 10))
  where
    go : (b : Bool) → length (digits k (n / 10)) ≤ k
        → length (cond b ((48 + n) ∷ []) (digits k (n / 10) ++ ((48 + n % 10) ∷ []))) ≤ suc k
    go true h = omega arith
    go false h = omega (arith, length-append (digits k (n / 10)) ((48 + n % 10) ∷ []))

digits_short : (k d n : ℕ) → n < 10 ^ suc d → length (digits k n) ≤ suc d
unfolding digits
digits_short zero d n h = omega arith
digits_short (suc k) zero n h =
    let e : length (digits (suc k) n) ≡ 1 =
    ap length (chosen (ltb n 10) ((48 + n) ∷ []) (digits k (n / 10) ++ ((48 + n % 10) ∷ [])) (lt→ltb n 10 (let z : 10 ^ 1 ≡ 10 = refl in omega (arith, z)))) in
    omega (arith, e)
digits_short (suc k) (suc d) n h = go (ltb n 10) (digits_short k d (n / 10) (omega (arith, pow-suc 10 (suc d))))
  where
    go : (b : Bool) → length (digits k (n / 10)) ≤ suc d
        → length (cond b ((48 + n) ∷ []) (digits k (n / 10) ++ ((48 + n % 10) ∷ []))) ≤ suc (suc d)
    go true l = omega arith
    go false l = omega (arith, length-append (digits k (n / 10)) ((48 + n % 10) ∷ []))

-- a number below 1,000 takes three digits
small : (n : ℕ) → n < 1000 → length (decimal n) ≤ 3
unfolding decimal
small n h = digits_short 20 2 n (let z : 10 ^ 3 ≡ 1000 = refl in omega (arith, z))

-- The numbers of a line, each of at most c digits.
Each : ℕ → List ℕ → Type 0
Each c ns = (j : ℕ) → j < length ns → length (decimal (get_or ns j 0)) ≤ c

spaced_short : (c : ℕ) (ns : List ℕ) → Each c ns → length (spaced ns) ≤ length ns * (c + 1)
unfolding spaced Each
spaced_short c [] h = omega arith
spaced_short c (n ∷ ns) h =
    omega (arith, length-append (decimal n) (spaced ns), h 0 (omega arith), spaced_short c ns (λ j l. h (suc j) (omega arith)))

line_short : (c : ℕ) (w ns : List ℕ) → Each c ns → length (line w ns) ≤ length w + length ns * (c + 1) + 1
unfolding line
line_short c w ns h =
    omega (arith, length-append w (spaced ns ++ (10 ∷ [])), length-append (spaced ns) (10 ∷ []), spaced_short c ns h)

blocks_short : (c n : ℕ) (f : ℕ → List ℕ) → ((k : ℕ) → k < n → length (f k) ≤ c) → length (blocks n f) ≤ n * c
unfolding blocks
blocks_short c zero f h = omega arith
blocks_short c (suc n) f h =
    omega (arith, length-append (blocks n f) (f n), blocks_short c n f (λ k l. h k (omega arith)), h n (omega arith))

-- a refusal: three numbers of at most twenty digits
refusal_short : (n : Refusal) → length (refusal_line n) ≤ 71
unfolding refusal_line Each
refusal_short n = line_short 20 refused_word (number_of n ∷ place_of n ∷ second_of n ∷ []) (λ j l. unfold decimal in digits_most 20 _)

module _ (g : List ℕ) (good : read_table g ≡ Good) where
  abbrev s : List ℕ
  s = sets_of g (ids_of g)

  w : WellFormed g
  w = reading.accepted g good

  first_short : length (first_line g) ≤ 13
  unfolding first_line Each
  first_short = line_short 3 plan_word (symbols g ∷ rules g ∷ []) each
    where
      each : Each 3 (symbols g ∷ rules g ∷ [])
      each zero l = small (symbols g) (omega (arith, w.symbols_fit))
      each (suc zero) l = small (rules g) (omega (arith, w.rules_fit))
      each (suc (suc j)) l = absurd (omega arith)

  symbol_short : (x : ℕ) → x < symbols g → length (symbol_line g s x) ≤ 42
  unfolding symbol_line Each
  symbol_short x h = go (nonterminal g x)
    where
      few : attributes g x ≤ 8
      few = (w.symbol x h).attributes_fit

      each : Each 3 (x ∷ visits s x ∷ tabulate (attributes g x) (λ a. set_number s x a))
      each zero l = small x (omega (arith, w.symbols_fit))
      each (suc zero) l = small (visits s x) (omega (arith, visits_five g (ids_of g) x))
      each (suc (suc a)) l =
          let size : length (tabulate (attributes g x) (λ a. set_number s x a)) ≡ attributes g x = length_tabulate (attributes g x) (λ a. set_number s x a) in
          let is : get_or (tabulate (attributes g x) (λ a. set_number s x a)) a 0 ≡ set_number s x a =
          get_d_tabulate (attributes g x) (λ a. set_number s x a) 0 a (omega (arith, size)) in
          small (get_or (tabulate (attributes g x) (λ a. set_number s x a)) a 0)
          (omega (arith, is, number_nine g (ids_of g) x a (omega (arith, size, few))))

      go : (b : Bool) → length (cond b (line symbol_word (x ∷ visits s x ∷ tabulate (attributes g x) (λ a. set_number s x a))) []) ≤ 42
      go true =
          omega (
            arith,
            line_short 3 symbol_word (x ∷ visits s x ∷ tabulate (attributes g x) (λ a. set_number s x a)) each,
            length_tabulate (attributes g x) (λ a. set_number s x a),
            few,
          )
      go false = omega arith

  rule_short : (r : ℕ) → r < rules g → length (rule_line g r) ≤ 422
  unfolding rule_line sequences_of Each
  rule_short r h =
      omega (arith, line_short 3 rule_word (r ∷ sequence_of g (ids_of g) s r) each, planned_short g r)
    where
      each : Each 3 (r ∷ sequence_of g (ids_of g) s r)
      each zero l = small r (omega (arith, w.rules_fit))
      each (suc j) l =
          small (get_or (sequence_of g (ids_of g) s r) j 0)
          (omega (arith, action_below g s r (get_or (sequence_of g (ids_of g) s r) j 0) (nothing_else_law g (ids_of g) s r j (omega arith))))

  plan_short : length (plan_text g) ≤ longest_listing
  unfolding plan_text
  plan_short =
      omega (
        arith,
        length-append (first_line g) (blocks (symbols g) (λ x. symbol_line g s x) ++ blocks (rules g) (λ r. rule_line g r)),
        length-append (blocks (symbols g) (λ x. symbol_line g s x)) (blocks (rules g) (λ r. rule_line g r)),
        first_short,
        blocks_short 42 (symbols g) (λ x. symbol_line g s x) symbol_short,
        blocks_short 422 (rules g) (λ r. rule_line g r) rule_short,
        w.symbols_fit,
        w.rules_fit,
      )

table_short : (g : List ℕ) → length (table_text g) ≤ longest_listing
unfolding table_text
table_short g = go (outcome g (row_words most_rules) (plan_words most_rules)) refl
  where
    go : (o : Outcome) → outcome g (row_words most_rules) (plan_words most_rules) ≡ o → length (outcome_text g o) ≤ longest_listing
    go (untouched n) e = unfold outcome_text in omega (arith, refusal_short n)
    go (circular_idp n) e = unfold outcome_text in omega (arith, refusal_short n)
    go (unordered n) e = unfold outcome_text in omega (arith, refusal_short n)
    go accepted e = unfold outcome_text in plan_short g (both_good g (row_words most_rules) (plan_words most_rules) e).0

-- no listing is longer
pub listing_fits : (input : List ℕ) → length (listing input) ≤ longest_listing
unfolding listing bytes_text
listing_fits input = go (take most_bytes input)
  where
    go : (bytes : List ℕ) → length (bytes_text bytes) ≤ longest_listing
    go bytes =
        ⊎_elim (λ t. let e = chosen (eqb (length bytes % 2) 0) (table_text (words_of bytes)) (refusal_line (EndsEarly (length bytes / 2))) t in
        omega (arith, ap length e, table_short (words_of bytes)))
        (λ t. let e = passed_over (eqb (length bytes % 2) 0) (table_text (words_of bytes)) (refusal_line (EndsEarly (length bytes / 2))) t in
        omega (arith, ap length e, refusal_short (EndsEarly (length bytes / 2))))
        (tested (eqb (length bytes % 2) 0))
