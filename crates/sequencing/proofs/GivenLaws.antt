-- What is given of a rule, as its actions are taken one by one: its sets are orderly, its rows hold all paths and so are closed, and what waits is
-- an occurrence. Assumes nothing.
use Prim.Native.Nat.{ℕ, ◌+◌, ◌%◌, ◌≤◌, ◌<◌}
use mathlib.Core.Path.{◌≡◌, sym, ◌∙◌, ap, subst, subst⁻¹}
use mathlib.Core.Bool.{Bool}
use mathlib.Core.List.{List}
use native.Mathlib.Omega.{arith}
use lib.Dec.{T, lt→ltb}
use lib.ListN.{length}
use Rattle.bits.specs.Bit.{hasb}
use Rattle.bits.proofs.CollectLaws.{collect_lt}
use Rattle.bits.proofs.MemberLaws.{hasb_collect, hasb_below}
use Rattle.basics.specs.Lists.{word}
use Rattle.grammar.specs.Limits.{most_symbols, most_occurrences, row_words}
use Rattle.grammar.specs.Table.{symbols, right_length, length_at, symbol_of, rules, position}
use Rattle.grammar.proofs.AcceptedTable.{accepted}
use Rattle.relations.specs.Computed.{ids_of}
use Rattle.sets.specs.Visits.{set_number, visits}
use Rattle.sets.proofs.Visits.{visits_five}
use Rattle.sets.specs.Computed.{sets_of}
use Rattle.order.specs.Computed.{edp_path}
use Rattle.order.specs.Paper.{EDP}
use Rattle.order.proofs.ExactEdp.{edp_path_exact}
use Rattle.relations.specs.Paper.{Path⁺}
use Rattle.relations.proofs.PathLaws.{path_join}
use Rattle.access.specs.ByPlace.{symbol_from}
use Rattle.access.proofs.Accessors.{symbol_at_rule, rule_fits}
use Rattle.sequences.proofs.OrderlyRules.{Orderly, set_at, fits}
use Rattle.sequences.proofs.PlannedSequences.{orderly}
use Rattle.plans.specs.Answer.{edp_paths}
use Rattle.sequencing.specs.Given.{RuleGiven}
use Rattle.remaining.specs.declared.ByVisit.{ByVisit as Kept}
use Rattle.remaining.specs.Remaining.{remains}
use Rattle.sequencing.specs.Going.{Going}
use Rattle.sequencing.specs.Blocked.{RowsClosed}
use Rattle.sequencing.proofs.ReadyComputes.{waits_attribute}
use Rattle.sequencing.proofs.ReadyComputes.{Free}
use Rattle.remaining.specs.RuleSets.{visits_in, symbol_visits, Tabled}
use Rattle.remaining.proofs.MaskLaws.{Seen, seen_symbol}
use Rattle.remaining.proofs.RemainsLaws.{remains_compute, remains_visit, remains_leave}

-- no action that is left goes before a
abbrev pub ActionReady : List ℕ → List ℕ → ℕ → ℕ → ℕ → ℕ → ℕ → Type 0
ActionReady g s r c v l a = Free g (ids_of g) s r (remains c v l) a

-- what stands in one of the three sets is left
pub left_compute : (c v l o : ℕ) → o < 64 → T (hasb o c) → T (remains c v l o)
left_compute c v l o h t = subst⁻¹ (λ (x : Bool). T x) (remains_compute c v l o h) t

pub left_visit : (c v l b : ℕ) → b < 64 → T (hasb b v) → T (remains c v l (64 + b))
left_visit c v l b h t = subst⁻¹ (λ (x : Bool). T x) (remains_visit c v l b h) t

pub left_leave : (c v l b : ℕ) → T (hasb b l) → T (remains c v l (128 + b))
left_leave c v l b t = subst⁻¹ (λ (x : Bool). T x) (remains_leave c v l b) t

module _ (g s : List ℕ) (by : Kept) (rows : List ℕ) (p r : ℕ) (given : RuleGiven g s by rows p r) where
  pub orderly_rule : Orderly g (ids_of g) s r
  orderly_rule =
      subst⁻¹ (λ (x : List ℕ). Orderly g (ids_of g) x r) given.sets
      (orderly g given.good given.noncircular given.ordered r (lt→ltb r (rules g) given.counts))

  pub five_visits : (x : ℕ) → visits s x ≤ 5
  five_visits x = subst⁻¹ (λ (y : List ℕ). visits y x ≤ 5) given.sets (visits_five g (ids_of g) x)

  pub symbol_is_law : (i : ℕ) → symbol_from g p i ≡ symbol_of g r i
  symbol_is_law i = symbol_at_rule g r p given.starts i

  -- the rows hold the paths
  pub row_path : (o b : ℕ) → o < most_occurrences → b < most_occurrences → hasb b (word rows (row_words r + o)) ≡ edp_path g (ids_of g) s r o b
  unfolding edp_paths
  row_path o b h l =
      ap (λ (x : ℕ). hasb b x) (given.paths o h)
      ∙ (hasb_collect most_occurrences b _ l ∙ ap (λ (x : List ℕ). edp_path g (ids_of g) x r o b) (sym given.sets))

  pub set_from : (i o : ℕ) → position o ≡ i → set_number s (symbol_from g p i) (o % 8) ≡ set_at g s r o
  unfolding set_at
  set_from i o q = ap (λ (x : ℕ). set_number s x (o % 8)) (symbol_is_law i ∙ ap (λ (j : ℕ). symbol_of g r j) (sym q))

  pub visits_from : (i : ℕ) → visits s (symbol_from g p i) ≡ visits s (symbol_of g r i)
  visits_from i = ap (λ (x : ℕ). visits s x) (symbol_is_law i)

  -- the table has the symbols of the rule
  pub symbol_in : (i : ℕ) → i ≤ right_length g r → symbol_from g p i < symbols g
  symbol_in i h = subst⁻¹ (λ (x : ℕ). x < symbols g) (symbol_is_law i) (((accepted g given.good).rule r given.counts).symbols_fit i h)

  pub symbol_low : (i : ℕ) → i ≤ right_length g r → symbol_from g p i < most_symbols
  symbol_low i h = omega (arith, symbol_in i h, (accepted g given.good).symbols_fit)

  pub seen_at : (i : ℕ) → i ≤ right_length g r → Seen s by (symbol_from g p i)
  seen_at i h = seen_symbol g s by (symbol_from g p i) given.by_visit (symbol_in i h)

  pub length_is : length_at g p ≡ right_length g r
  unfolding right_length
  length_is = ap (length_at g) given.starts

  pub visits_in_law : (i : ℕ) → i ≤ right_length g r → visits_in by (symbol_from g p i) ≡ symbol_visits g (symbol_from g p i) (visits s (symbol_from g p i))
  unfolding visits_in
  visits_in_law i h = given.by_visit.calls (symbol_from g p i) (symbol_in i h)

  module _ (c v l w : ℕ) (going : Going g (ids_of g) s r (remains c v l) w) where
    pub waiting_fits : (x : ℕ) → T (hasb x w) → x < most_occurrences
    waiting_fits x t = fits g (ids_of g) s r orderly_rule x (waits_attribute g (ids_of g) s r orderly_rule five_visits (remains c v l) w going x t).occurs

-- The same as the code meets it.
module _ (g s : List ℕ) (by : Kept) (rows : List ℕ) (p r : ℕ) where
  pub left_low : RuleGiven g s by rows p r → symbol_from g p 0 < most_symbols
  left_low given = symbol_low g s by rows p r given 0 (omega arith)

  pub tabled_given : RuleGiven g s by rows p r → Tabled g p
  tabled_given given i h = symbol_low g s by rows p r given i (omega (arith, length_is g s by rows p r given))

  pub rows_room : RuleGiven g s by rows p r → row_words r + most_occurrences ≤ length rows
  rows_room given = omega (arith, given.room, given.counts)

  -- the rows hold all paths, so they are closed
  pub rows_closed : RuleGiven g s by rows p r → RowsClosed rows (row_words r)
  rows_closed given o k b h t u =
      let l : k < most_occurrences = row_below o h k t in
      let m : b < most_occurrences = row_below k l b u in
      subst⁻¹ (λ (x : Bool). T x) (row_path g s by rows p r given o b h m)
      ((edp_path_exact g given.good s r (lt→ltb r (rules g) given.counts) o b).1
      (path_join (has_path o k h l t) (has_path k b l m u)))
    where
      row_below : (o : ℕ) → o < most_occurrences → (k : ℕ) → T (hasb k (word rows (row_words r + o))) → k < most_occurrences
      row_below o h k t =
          hasb_below most_occurrences k _ (collect_lt most_occurrences (λ b. edp_paths g (ids_of g) (sets_of g (ids_of g)) r o b))
          (subst (λ (x : ℕ). T (hasb k x)) (given.paths o h) t)

      has_path : (o b : ℕ) → o < most_occurrences → b < most_occurrences → T (hasb b (word rows (row_words r + o))) → Path⁺ (EDP g (set_number s) r) o b
      has_path o b h m t =
          (edp_path_exact g given.good s r (lt→ltb r (rules g) given.counts) o b).0
          (subst (λ (x : Bool). T x) (row_path g s by rows p r given o b h m) t)
