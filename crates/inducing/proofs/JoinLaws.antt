-- Arcs added to closed rows with all that they lead on to. Then paths meet everywhere but where arcs start: what leads to another number led on from
-- there before, or is a row with new arcs, which has what they lead on to. Assumes nothing.
use Prim.Native.Nat.{ℕ, ◌+◌, ◌*◌, ◌-◌, ◌/◌, ◌^◌, ◌≤◌, ◌<◌}
use mathlib.Core.Path.{◌≡◌, ap, ◌∙◌, subst, subst⁻¹}
use mathlib.Core.Logic.{◌⊎◌, inl, inr, ⊎_elim}
use mathlib.Core.Bool.{not}
use mathlib.Core.List.{List}
use native.Mathlib.Omega.{arith}
use lib.Dec.{T, T_not, not_T}
use lib.ListN.{get_or}
use Rattle.bits.specs.Bit.{hasb, single, insert, field, raised, minus}
use Rattle.bits.proofs.MemberLaws.{none_left, some_member, hasb_below, minus_both, both_minus, insert_cases, insert_new, insert_old}
use Rattle.basics.specs.Lists.{word}
use Rattle.basics.proofs.TestLaws.{tested, same_or_not, below_suc}
use Rattle.relations.specs.Paper.{Path⁺}
use Rattle.closing.specs.Rows.{leads, Extended}
use Rattle.closing.proofs.GatherLaws.{moved_forth, moved_back}
use Rattle.inducing.specs.Closes.{Step, Grown, Met, Joined, ArcAt, ArcOut}
use Rattle.inducing.proofs.GrownLaws.{grown_there, grown_then, grown_same}

module _ (before : List ℕ) (set : ℕ) where
  -- where every arc is there already, nothing is added
  pub joined_there : (arc : ℕ → ℕ → Type 0) → ((a b : ℕ) → arc a b → (a < 64) × T (leads before a b)) → Joined before set arc before set
  joined_there arc there = record { grown = grown_there before arc there; met = λ m. m; starts = λ o t. inl t }

  -- two parts, one after the other
  pub joined_then : (mid after : List ℕ) (more most : ℕ) (first second both : ℕ → ℕ → Type 0) → Joined before set first mid more
      → Joined mid more second after most → ((c d : ℕ) → both c d → first c d ⊎ second c d) → ((c d : ℕ) → first c d → both c d)
      → ((c d : ℕ) → second c d → both c d) → Joined before set both after most
  joined_then mid after more most first second both v w split left right =
      record {
        grown = grown_then before mid after first second both v.grown w.grown split left right;
        met = λ m. w.met (v.met m);
        starts = λ o t.
            ⊎_elim (λ s. ⊎_elim (λ y. inl y) (λ y. inr (y.0, left o y.0 y.1)) (v.starts o s)) (λ s. inr (s.0, right o s.0 s.1))
            (w.starts o t);
      }

  -- the same arcs by other words
  pub joined_same : (arc other : ℕ → ℕ → Type 0) (after : List ℕ) (more : ℕ) → Joined before set arc after more
      → ((c d : ℕ) → arc c d → other c d) → ((c d : ℕ) → other c d → arc c d) → Joined before set other after more
  joined_same arc other after more v forth back =
      record {
        grown = grown_same before arc other after v.grown forth back;
        met = v.met;
        starts = λ o t. ⊎_elim (λ s. inl s) (λ s. inr (s.0, forth o s.0 s.1)) (v.starts o t);
      }

-- Row o with arcs to the members of a set and on to all that they lead to: of the arcs that are meant, those that were missing.
module _ (before : List ℕ) (set o to : ℕ) (after : List ℕ) (arc : ℕ → ℕ → Type 0) (h : o < 64) (some : to ≡ 0 → ⊥) (small : to < 2 ^ 64)
    (e : Extended before o to after) (is : (d : ℕ) → T (hasb d to) → arc o d)
    (split : (c d : ℕ) → arc c d → ((c < 64) × T (leads before c d)) ⊎ ((c ≡ o) × T (hasb d to))) where
  other : (c x : ℕ) → (c ≡ o → ⊥) → T (leads after c x) → T (leads before c x)
  unfolding leads
  other c x n t = subst (λ (y : ℕ). T (hasb x y)) (e.others c (λ q. n (omega arith))) t

  row_cases : (c x : ℕ) → T (leads after c x)
      → T (leads before c x) ⊎ ((c ≡ o) × (T (hasb x to) ⊎ ((b : ℕ) × T (hasb b to) × T (leads before b x))))
  row_cases c x t =
      ⊎_elim
      (λ q.
      ⊎_elim (λ l. inl (subst⁻¹ (λ (y : ℕ). T (leads before y x)) q l)) (λ l. inr (q, l))
      (e.sound x (subst (λ (y : ℕ). T (leads after y x)) q t)))
      (λ n. inl (other c x n t)) (same_or_not c o)

  row_keeps : (c x : ℕ) → T (leads before c x) → T (leads after c x)
  unfolding leads
  row_keeps c x t =
      ⊎_elim (λ q. subst⁻¹ (λ (y : ℕ). T (leads after y x)) q (e.keeps x (subst (λ (y : ℕ). T (leads before y x)) q t)))
      (λ n. subst⁻¹ (λ (y : ℕ). T (hasb x y)) (e.others c (λ q. n (omega arith))) t) (same_or_not c o)

  extended_grown : Grown before arc after
  extended_grown =
      record {
        size = e.size;
        keeps = λ c x l t. row_keeps c x t;
        has = λ c d s.
            ⊎_elim (λ l. (l.0, row_keeps c d l.1))
            (λ l. (omega (arith, l.0), subst⁻¹ (λ (y : ℕ). T (leads after y d)) l.0 (e.own d l.1))) (split c d s);
        sound = λ c x l t.
            ⊎_elim (λ s. Path⁺.one (inl (l, s)))
            (λ s.
            subst⁻¹ (λ (y : ℕ). Path⁺ (Step before arc) y x) s.0
            (⊎_elim (λ y. Path⁺.one (inr (is x y)))
            (λ y. Path⁺.more (Path⁺.one (inr (is y.0 y.1))) (inl (hasb_below 64 y.0 to small y.1, y.2))) s.1))
            (row_cases c x t);
      }

  extended_met : Met before set → Met after (insert o set)
  extended_met m c j x hc hj n s t =
      ⊎_elim (λ l. row_keeps c x (m c j x hc hj (lacks j n) l onward))
      (λ l.
      subst⁻¹ (λ (y : ℕ). T (leads after y x)) l.0
      (⊎_elim (λ y. e.has j x y onward) (λ y. e.has y.0 x y.1 (m y.0 j x (hasb_below 64 y.0 to small y.1) hj (lacks j n) y.2 onward))
      l.1)) (row_cases c j s)
    where
      lacks : (i : ℕ) → T (not (hasb i (insert o set))) → T (not (hasb i set))
      lacks i a = not_T (hasb i set) (λ b. T_not (hasb i (insert o set)) a (insert_old i o set b))

      onward : T (leads before j x)
      onward =
          other j x (λ q. T_not (hasb j (insert o set)) n (subst⁻¹ (λ (y : ℕ). T (hasb y (insert o set))) q (insert_new o set))) t

  pub joined_row : Joined before set arc after (insert o set)
  joined_row =
      record {
        grown = extended_grown;
        met = extended_met;
        starts = λ c t.
            ⊎_elim (λ q. let d = some_member 64 to small some in inr (d.0, subst⁻¹ (λ (y : ℕ). arc y d.0) q (is d.0 d.2))) (λ l. inl l)
            (insert_cases c o set t);
      }

-- The missing arcs from attribute a.
module _ (rows : List ℕ) (i arcs a to : ℕ) (hi : i < 8) (ha : a < 8)
    (m : to ≡ minus (raised (8 * i) (field (8 * a) arcs)) (get_or rows (8 * i + a) 0)) where
  missing_is : (d : ℕ) → T (hasb d to) → ArcOut i arcs a (8 * i + a) d
  missing_is d s =
      let t = minus_both d (raised (8 * i) (field (8 * a) arcs)) (word rows (8 * i + a)) (subst (λ (n : ℕ). T (hasb d n)) m s) in
      let u = moved_forth (8 * a) (8 * i) d arcs t.0 in
      record {
        arc = record { number = 8 * a + (d - 8 * i); member = u.2; start = omega (arith, u.1); end = omega (arith, u.0, u.1) };
        from = omega (arith, u.1);
      }

  missing_split : (c d : ℕ) → ArcOut i arcs a c d → ((c < 64) × T (leads rows c d)) ⊎ ((c ≡ 8 * i + a) × T (hasb d to))
  unfolding leads
  missing_split c d s =
      let start : c ≡ 8 * i + a = omega (arith, s.arc.start, s.from) in
      let same : s.arc.number ≡ 8 * a + (d - 8 * i) = omega (arith, s.arc.end, s.from) in
      ⊎_elim (λ t. inl (omega arith, subst⁻¹ (λ (o : ℕ). T (hasb d (word rows o))) start t))
      (λ t.
      inr (
        start,
        subst⁻¹ (λ (n : ℕ). T (hasb d n)) m
            (both_minus d (raised (8 * i) (field (8 * a) arcs)) (word rows (8 * i + a))
            (moved_back (8 * a) (8 * i) d arcs (omega (arith, s.arc.end)) (omega (arith, s.arc.end))
            (subst (λ (n : ℕ). T (hasb n arcs)) same s.arc.member)) t),
      ))
      (tested (hasb d (word rows (8 * i + a))))

  pub none_missing : (set : ℕ) → to ≡ 0 → Joined rows set (ArcOut i arcs a) rows set
  none_missing set z =
      joined_there rows set (ArcOut i arcs a)
      (λ c d s.
      ⊎_elim (λ l. l) (λ l. absurd (T_not (hasb d 0) (none_left d) (subst (λ (n : ℕ). T (hasb d n)) z l.1))) (missing_split c d s))

  pub some_missing : (set more : ℕ) (after : List ℕ) → (to ≡ 0 → ⊥) → to < 2 ^ 64 → Extended rows (8 * i + a) to after
      → more ≡ insert (8 * i + a) set → Joined rows set (ArcOut i arcs a) after more
  some_missing set more after some small e q =
      subst⁻¹ (λ (n : ℕ). Joined rows set (ArcOut i arcs a) after n) q
      (joined_row rows set (8 * i + a) to after (ArcOut i arcs a) (omega arith) some small e missing_is missing_split)

pub missing_set : (row i arcs a all r : ℕ) → all ≡ raised (8 * i) (field (8 * a) arcs) → r ≡ minus all row
    → r ≡ minus (raised (8 * i) (field (8 * a) arcs)) row
missing_set row i arcs a all r q m = m ∙ ap (λ (n : ℕ). minus n row) q

-- The arcs of a set at position i that lead from one of the first n attributes.
pub record ArcFrom (i arcs n c d : ℕ) : Type 0 where
  pub arc : ArcAt i arcs c d
  pub done : arc.number / 8 < n

module _ (entry : List ℕ) (set i arcs : ℕ) where
  pub attributes_start : Joined entry set (ArcFrom i arcs 0) entry set
  attributes_start = joined_there entry set (ArcFrom i arcs 0) (λ c d s. absurd (let h = s.done in omega arith))

  -- the arcs from one attribute more
  pub attributes_turn : (rows after : List ℕ) (a more most : ℕ) → Joined entry set (ArcFrom i arcs a) rows more
      → Joined rows more (ArcOut i arcs a) after most → Joined entry set (ArcFrom i arcs (a + 1)) after most
  attributes_turn rows after a more most v w =
      joined_then entry set rows after more most (ArcFrom i arcs a) (ArcOut i arcs a) (ArcFrom i arcs (a + 1)) v w
      (λ c d s.
      ⊎_elim (λ l. inl (record { arc = s.arc; done = l })) (λ l. inr (record { arc = s.arc; from = l }))
      (below_suc (s.arc.number / 8) a (omega (arith, s.done))))
      (λ c d s. record { arc = s.arc; done = omega (arith, s.done) }) (λ c d s. record { arc = s.arc; done = omega (arith, s.from) })

  -- where no attribute from a on has arcs, all are there
  pub attributes_early : (rows : List ℕ) (a limit more : ℕ) → Joined entry set (ArcFrom i arcs a) rows more → limit ≡ single (8 * a) → arcs < limit
      → Joined entry set (ArcAt i arcs) rows more
  attributes_early rows a limit more v e h =
      joined_same entry set (ArcFrom i arcs a) (ArcAt i arcs) rows more v (λ c d s. s.arc)
      (λ c d s. record { arc = s; done = omega (arith, hasb_below (8 * a) s.number arcs (omega (arith, e)) s.member) })

  pub attributes_finish : (rows : List ℕ) (a more : ℕ) → Joined entry set (ArcFrom i arcs a) rows more → arcs < 2 ^ 64 → a ≤ 8 → 8 ≤ a
      → Joined entry set (ArcAt i arcs) rows more
  attributes_finish rows a more v fits h l =
      let e : 64 ≡ 8 * a = omega arith in attributes_early rows a (2 ^ 64) more v (ap (λ (n : ℕ). 2 ^ n) e) fits
