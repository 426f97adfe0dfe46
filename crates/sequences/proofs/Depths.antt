-- How deep an occurrence stands: how many occurrences have an EDP path to it. An arc leads deeper where EDP has no cycle, so an attribute of a
-- higher set is less deep than all of the lower sets at its position. Assumes nothing.
use Prim.Native.Nat.{ℕ, ◌+◌, ◌*◌, ◌-◌, ◌≤◌, ◌<◌}
use mathlib.Core.Path.{◌≡◌, refl, sym, ◌∙◌, subst⁻¹}
use mathlib.Core.Logic.{⊎_elim}
use mathlib.Core.Bool.{Bool}
use mathlib.Core.List.{List}
use native.Mathlib.Omega.{arith}
use lib.Dec.{T, leb, eqb, leb→le, le→leb, eqb→eq, not_T}
use Rattle.basics.specs.Tests.{◌and◌, some, least, count}
use Rattle.basics.proofs.TestLaws.{and_intro, and_left, and_right, some_at, some_find, eq_T, below_or_not, least_is, count_le, count_more}
use Rattle.grammar.specs.Limits.{most_occurrences}
use Rattle.grammar.specs.Table.{nonterminal, symbol_of, occurrence, position}
use Rattle.relations.specs.Paper.{Path⁺}
use Rattle.relations.specs.Computed.{occurrences}
use Rattle.relations.proofs.PathLaws.{path_sound, path_complete}
use Rattle.relations.proofs.Occurrences.{occurrences_exact}
use Rattle.sets.specs.Visits.{visits}
use Rattle.order.specs.Computed.{edp, edp_path}
use Rattle.sequences.proofs.OrderlyRules.{set_at, fits, Orderly, arc_starts, higher_arc, left_nonterminal_law, set_low}

module _ (g ids s : List ℕ) (r : ℕ) where
  -- how many occurrences have an EDP path to o
  unfoldable pub depth : ℕ → ℕ
  depth o = count most_occurrences (λ p. edp_path g ids s r p o)

  -- o is an occurrence at position i, in one of the sets up to k, at depth d
  deep_as : ℕ → ℕ → ℕ → ℕ → Bool
  deep_as i k d o = occurrence g r o and eqb (position o) i and leb (set_at g s r o) k and eqb (depth o) d

  -- the least depth of the attributes at position i in sets up to k, more than any where there are none
  pub low : ℕ → ℕ → ℕ
  low i k = least (most_occurrences + 1) (λ d. some most_occurrences (λ o. deep_as i k d o))

  -- the least depth is at most each depth, is one of them where it is not more than any, and falls with more sets
  deep_intro : (i k d o : ℕ) → T (occurrence g r o) → position o ≡ i → set_at g s r o ≤ k → depth o ≡ d → T (deep_as i k d o)
  unfolding deep_as
  deep_intro i k d o t p l e = and_intro _ _ t (and_intro _ _ (eq_T _ _ p) (and_intro _ _ (le→leb _ _ l) (eq_T _ _ e)))

  pub low_at : (i k o : ℕ) → o < most_occurrences → T (occurrence g r o) → position o ≡ i → set_at g s r o ≤ k → low i k ≤ depth o
  unfolding low
  low_at i k o h t p l =
      ⊎_elim
      (λ q.
      absurd ((least_is (most_occurrences + 1) (λ d. some most_occurrences (λ o. deep_as i k d o))).lowest (depth o) q
      (some_at most_occurrences (λ p. deep_as i k (depth o) p) o h (deep_intro i k (depth o) o t p l refl))))
      (λ q. q) (below_or_not (depth o) (low i k))

  -- the occurrence that has the least depth
  record Lowest (i k : ℕ) : Type 0 where
    which : ℕ
    fits : which < most_occurrences
    occurs : T (occurrence g r which)
    stands : position which ≡ i
    set : set_at g s r which ≤ k
    depth_is : depth which ≡ low i k

  low_find : (i k : ℕ) → low i k < most_occurrences + 1 → Lowest i k
  unfolding low deep_as
  low_find i k h =
      let w = some_find most_occurrences (λ o. deep_as i k (low i k) o)
      ((least_is (most_occurrences + 1) (λ d. some most_occurrences (λ o. deep_as i k d o))).passes h) in
      let u = and_right _ _ w.2 in
      let v = and_right _ _ u in
      record {
        which = w.0;
        fits = w.1;
        occurs = and_left _ _ w.2;
        stands = eqb→eq _ _ (and_left _ _ u);
        set = leb→le _ _ (and_left _ _ v);
        depth_is = eqb→eq _ _ (and_right _ _ v);
      }

  pub low_most : (i k : ℕ) → low i k ≤ most_occurrences + 1
  unfolding low
  low_most i k = (least_is (most_occurrences + 1) (λ d. some most_occurrences (λ o. deep_as i k d o))).inside

  pub low_falls : (i k l : ℕ) → k ≤ l → low i l ≤ low i k
  low_falls i k l h =
      ⊎_elim
      (λ q.
      let w : Lowest i k = low_find i k q in
      omega (arith, low_at i l w.which w.fits w.occurs w.stands (omega (arith, w.set)), w.depth_is))
      (λ q. omega (arith, low_most i l)) (below_or_not (low i k) (most_occurrences + 1))

  pub depth_most : (o : ℕ) → depth o ≤ most_occurrences
  unfolding depth
  depth_most o = count_le most_occurrences (λ p. edp_path g ids s r p o)

  module _ (h : Orderly g ids s r) where
    -- an arc raises the depth
    pub arc_deeper : (a b : ℕ) → T (edp g ids s r a b) → depth a < depth b
    unfolding depth edp_path
    arc_deeper a b t =
        count_more most_occurrences (λ p. edp_path g ids s r p a) (λ p. edp_path g ids s r p b)
        (λ p l u. listed p b (Path⁺.more (found p a u) t)) a (fits g ids s r h a (arc_starts g ids s r h a b t))
        (not_T (edp_path g ids s r a a) (λ u. h.acyclic a (found a a u))) (listed a b (Path⁺.one t))
      where
        arc : ℕ → ℕ → Bool
        arc c d = edp g ids s r c d

        found : (c d : ℕ) → T (edp_path g ids s r c d) → Path⁺ (λ x y. T (arc x y)) c d
        found c d u = path_sound arc (occurrences g r) c d u

        listed : (c d : ℕ) → Path⁺ (λ x y. T (arc x y)) c d → T (edp_path g ids s r c d)
        listed c d p =
            path_complete arc (occurrences g r)
            (λ x y u. (occurrences_exact g h.formed r x h.counts).1 (arc_starts g ids s r h x y u)) p

    -- an attribute of a set above k is less deep than all in the sets up to k
    pub low_above : (i k o : ℕ) → T (occurrence g r o) → position o ≡ i → T (nonterminal g (symbol_of g r i)) → k < set_at g s r o
        → depth o < low i k
    low_above i k o t e n l =
        ⊎_elim
        (λ q.
        let w : Lowest i k = low_find i k q in
        let d : depth o < depth w.which =
        arc_deeper o w.which
        (higher_arc g ids s r o w.which t w.occurs (e ∙ sym w.stands) (subst⁻¹ (λ (j : ℕ). T (nonterminal g (symbol_of g r j))) e n)
        (omega (arith, w.set))) in
        omega (arith, w.depth_is))
        (λ q. omega (arith, depth_most o)) (below_or_not (low i k) (most_occurrences + 1))

    -- nothing is in the sets up to 0
    pub low_last : (n : ℕ) → n ≡ visits s (symbol_of g r 0) → most_occurrences + 1 ≤ low 0 (2 * (visits s (symbol_of g r 0) - n))
    low_last n e =
        ⊎_elim
        (λ q.
        let w : Lowest 0 (2 * (visits s (symbol_of g r 0) - n)) = low_find 0 (2 * (visits s (symbol_of g r 0) - n)) q in
        absurd (omega (
          arith,
          w.set,
          set_low g ids s r h w.which w.occurs
              (subst⁻¹ (λ (j : ℕ). T (nonterminal g (symbol_of g r j))) w.stands (left_nonterminal_law g ids s r h)),
        )))
        (λ q. q) (below_or_not (low 0 (2 * (visits s (symbol_of g r 0) - n))) (most_occurrences + 1))
