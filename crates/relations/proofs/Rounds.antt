-- The rounds: each keeps the arcs of the one before and adds what is induced, and the last adds nothing.
-- A round that changes the state adds an arc, and there are 64 for each symbol. Assumes nothing.
use Prim.Native.Nat.{ℕ, zero, suc, ◌+◌, ◌*◌, ◌/◌, ◌%◌, ◌^◌, ◌≤◌, ◌<◌}
use mathlib.Core.Path.{◌≡◌, refl, sym, ◌∙◌, ap, ap₂, subst, subst⁻¹}
use mathlib.Core.Logic.{◌⊎◌, inl, inr, ⊎_elim}
use mathlib.Core.Bool.{Bool, true, false, not}
use mathlib.Core.List.{List}
use native.Mathlib.Omega.{arith}
use lib.Dec.{T, eqb→eq, T_not}
use lib.ListN.{length, replicate, length-replicate, get_or-replicate, get_or-eq_default}
use lib.Seq.{ext_get_or}
use Rattle.bits.specs.Bit.{hasb, collect}
use Rattle.bits.proofs.CollectLaws.{collect_lt}
use Rattle.bits.proofs.MemberLaws.{hasb_collect, hasb_below, hasb_ext}
use Rattle.basics.specs.Tests.{◌or◌, ◌implies◌, all, count}
use Rattle.basics.specs.Lists.{word}
use Rattle.basics.proofs.TestLaws.{
  or_left,
  or_right,
  implies_use,
  implies_fails,
  tested,
  same_test,
  eq_T,
  below_or_not,
  all_at,
  all_intro,
  all_fails,
  count_le,
  count_more,
}
use Rattle.basics.proofs.ListLaws.{length_tabulate, get_d_tabulate}
use Rattle.grammar.specs.Limits.{most_attributes}
use Rattle.grammar.specs.Table.{symbols}
use Rattle.relations.specs.Computed.{arc_in, is_induced, round, same_state, rounds, ids_of}

module _ (g : List ℕ) where
  -- a state has a word of 64 bits for each symbol, and no other arcs
  pub record State (s : List ℕ) : Type 0 where
    pub sized : length s ≡ symbols g
    pub fits : (x : ℕ) → word s x < 2 ^ 64

  -- past the last symbol there are no arcs
  state_inside : (s : List ℕ) → State s → (x k : ℕ) → T (hasb k (word s x)) → x < symbols g
  state_inside s v x k t =
      ⊎_elim (λ l. l)
      (λ l.
      let z : word s x ≡ 0 = get_or-eq_default s 0 {n = x} (omega (arith, v.sized)) in
      absurd (omega (arith, hasb_below 0 k (word s x) (omega arith) t)))
      (below_or_not x (symbols g))

  -- an arc of a state is one of a symbol of the table, and starts at one of eight attributes
  pub arc_inside : (s : List ℕ) → State s → (x a b : ℕ) → T (arc_in s x a b) → (x < symbols g) × (a < most_attributes)
  unfolding arc_in
  arc_inside s v x a b t =
      (state_inside s v x (8 * a + b) t, (let h = hasb_below 64 (8 * a + b) (word s x) (v.fits x) t in omega arith))

  -- two states with the same arcs are one
  pub state_ext : (s t : List ℕ) → State s → State t
      → ((x a b : ℕ) → a < most_attributes → b < most_attributes → arc_in s x a b ≡ arc_in t x a b) → s ≡ t
  unfolding arc_in
  state_ext s t v w e =
      ext_get_or 0 s t (v.sized ∙ sym w.sized)
      (λ x h.
      hasb_ext 64 (word s x) (word t x) (v.fits x) (w.fits x)
      (λ k l.
      let i : 8 * (k / 8) + k % 8 ≡ k = omega arith in
      subst (λ (j : ℕ). hasb j (word s x) ≡ hasb j (word t x)) i (e x (k / 8) (k % 8) (omega arith) (omega arith))))

  -- the empty state is a state, with no arc
  empty_word : (x : ℕ) → word (replicate (symbols g) 0) x ≡ 0
  empty_word x =
      ⊎_elim (λ l. get_or-replicate (symbols g) x 0 0 l)
      (λ l. get_or-eq_default (replicate (symbols g) 0) 0 {n = x} (omega (arith, length-replicate {A = ℕ} (symbols g) 0)))
      (below_or_not x (symbols g))

  pub empty_state : State (replicate (symbols g) 0)
  empty_state = record { sized = length-replicate (symbols g) 0; fits = λ x. omega (arith, empty_word x) }

  pub empty_arcs : (x a b : ℕ) → T (arc_in (replicate (symbols g) 0) x a b) → ⊥
  unfolding arc_in
  empty_arcs x a b t =
      let h = hasb_below 0 (8 * a + b) (word (replicate (symbols g) 0) x) (omega (arith, empty_word x)) t in omega arith

  -- the word of a symbol after a round
  round_word : (s : List ℕ) (x : ℕ) → x < symbols g
      → word (round g s) x ≡ collect 64 (λ k. hasb k (word s x) or is_induced g s x (k / 8) (k % 8))
  unfolding round
  round_word s x h = get_d_tabulate (symbols g) _ 0 x h

  -- after a round there is a state again
  pub round_state : (s : List ℕ) → State (round g s)
  round_state s = record { sized = size; fits = fits }
    where
      size : length (round g s) ≡ symbols g
      size = unfold round in length_tabulate (symbols g) (λ x. collect 64 (λ k. hasb k (word s x) or is_induced g s x (k / 8) (k % 8)))

      fits : (x : ℕ) → word (round g s) x < 2 ^ 64
      fits x =
          ⊎_elim
          (λ l.
          subst⁻¹ (λ (n : ℕ). n < 2 ^ 64) (round_word s x l)
          (collect_lt 64 (λ k. hasb k (word s x) or is_induced g s x (k / 8) (k % 8))))
          (λ l. omega (arith, get_or-eq_default (round g s) 0 {n = x} (omega (arith, size))))
          (below_or_not x (symbols g))

  -- the bits after a round: the old ones and the induced ones
  round_has : (s : List ℕ) (x k : ℕ) → x < symbols g → k < 64
      → hasb k (word (round g s) x) ≡ (hasb k (word s x) or is_induced g s x (k / 8) (k % 8))
  round_has s x k h l =
      ap (λ (n : ℕ). hasb k n) (round_word s x h) ∙ hasb_collect 64 k _ l

  -- so its arcs are the old ones and the induced ones
  pub round_arcs : (s : List ℕ) (x a b : ℕ) → x < symbols g → a < most_attributes → b < most_attributes
      → arc_in (round g s) x a b ≡ (arc_in s x a b or is_induced g s x a b)
  unfolding arc_in
  round_arcs s x a b h l m =
      let p : (8 * a + b) / 8 ≡ a = omega arith in
      let q : (8 * a + b) % 8 ≡ b = omega arith in
      round_has s x (8 * a + b) h (omega arith) ∙ ap₂ (λ (c d : ℕ). hasb (8 * a + b) (word s x) or is_induced g s x c d) p q

  -- none is lost
  round_keeps : (s : List ℕ) → State s → (x k : ℕ) → T (hasb k (word s x)) → T (hasb k (word (round g s) x))
  round_keeps s v x k t =
      subst⁻¹ (λ (b : Bool). T b) (round_has s x k (state_inside s v x k t) (hasb_below 64 k (word s x) (v.fits x) t))
      (or_left _ _ t)

  -- the rounds stop where one adds nothing, and go on otherwise
  rounds_cases : (n : ℕ) (s : List ℕ)
      → (T (same_state g s (round g s)) × (rounds g (suc n) s ≡ s))
      ⊎ (T (not (same_state g s (round g s))) × (rounds g (suc n) s ≡ rounds g n (round g s)))
  unfolding rounds
  rounds_cases n s = go (same_state g s (round g s))
    where
      go : (b : Bool) → (T b × (elim b as (λ x. List ℕ) [ true ↦ s | false ↦ rounds g n (round g s) ] ≡ s))
          ⊎ (T (not b) × (elim b as (λ x. List ℕ) [ true ↦ s | false ↦ rounds g n (round g s) ] ≡ rounds g n (round g s)))
      go true = inl (tt, refl)
      go false = inr (tt, refl)

  -- what holds before the rounds and is kept by each holds after them
  pub rounds_keep : (P : List ℕ → Type 0) → ((s : List ℕ) → P s → P (round g s)) → (n : ℕ) (s : List ℕ) → P s → P (rounds g n s)
  unfolding rounds
  rounds_keep P f zero s p = p
  rounds_keep P f (suc n) s p =
      ⊎_elim (λ c. subst⁻¹ P c.1 p) (λ c. subst⁻¹ P c.1 (rounds_keep P f n (round g s) (f s p))) (rounds_cases n s)

  -- how many arcs a state has
  arcs : List ℕ → ℕ
  arcs s = count (64 * symbols g) (λ j. hasb (j % 64) (word s (j / 64)))

  -- two states are the same where their words are
  same_intro : (s t : List ℕ) → ((x : ℕ) → x < symbols g → word s x ≡ word t x) → T (same_state g s t)
  unfolding same_state
  same_intro s t e = all_intro _ _ (λ x h. eq_T _ _ (e x h))

  pub same_words : (s t : List ℕ) → T (same_state g s t) → (x : ℕ) → x < symbols g → word s x ≡ word t x
  unfolding same_state
  same_words s t e x h = eqb→eq _ _ (all_at _ _ e x h)

  -- a round that changes the state adds an arc
  round_adds : (s : List ℕ) → State s → T (not (same_state g s (round g s))) → arcs s < arcs (round g s)
  unfolding arcs
  round_adds s v n =
      ⊎_elim (λ t. absurd (T_not (same_state g s (round g s)) n (same_intro s (round g s) (λ x h. nothing_new t x h))))
      (λ t.
      let j = all_fails (64 * symbols g) (λ j. new j implies old j) t in
      let d = implies_fails (new j.0) (old j.0) j.2 in
      count_more (64 * symbols g) old new (λ j h. round_keeps s v (j / 64) (j % 64)) j.0 j.1 d.1 d.0)
      (tested (all (64 * symbols g) (λ j. new j implies old j)))
    where
      old : ℕ → Bool
      old j = hasb (j % 64) (word s (j / 64))

      new : ℕ → Bool
      new j = hasb (j % 64) (word (round g s) (j / 64))

      nothing_new : T (all (64 * symbols g) (λ j. new j implies old j)) → (x : ℕ) → x < symbols g → word s x ≡ word (round g s) x
      nothing_new t x h =
          hasb_ext 64 (word s x) (word (round g s) x) (v.fits x) ((round_state s).fits x)
          (λ k l.
          same_test (hasb k (word s x)) (hasb k (word (round g s) x)) (λ p. round_keeps s v x k p)
          (λ p.
          let i : (64 * x + k) / 64 ≡ x = omega arith in
          let m : (64 * x + k) % 64 ≡ k = omega arith in
          subst (λ (y : ℕ). T (hasb k (word s y))) i
          (subst (λ (c : ℕ). T (hasb c (word s ((64 * x + k) / 64)))) m
          (implies_use (new (64 * x + k)) (old (64 * x + k))
          (all_at (64 * symbols g) (λ j. new j implies old j) t (64 * x + k) (omega arith))
          (subst⁻¹ (λ (c : ℕ). T (hasb c (word (round g s) ((64 * x + k) / 64)))) m
          (subst⁻¹ (λ (y : ℕ). T (hasb k (word (round g s) y))) i p))))))

  -- after as many rounds as there are arcs to add, a round adds nothing
  rounds_fixed : (n : ℕ) (s : List ℕ) → State s → 64 * symbols g ≤ n + arcs s → T (same_state g (rounds g n s) (round g (rounds g n s)))
  unfolding rounds
  rounds_fixed zero s v h =
      ⊎_elim (λ t. t) (λ t. absurd (omega (arith, round_adds s v t, full (round g s)))) (tested (same_state g s (round g s)))
    where
      full : (s : List ℕ) → arcs s ≤ 64 * symbols g
      full s = unfold arcs in count_le (64 * symbols g) (λ j. hasb (j % 64) (word s (j / 64)))
  rounds_fixed (suc n) s v h =
      ⊎_elim (λ c. subst⁻¹ (λ (t : List ℕ). T (same_state g t (round g t))) c.1 c.0)
      (λ c.
      subst⁻¹ (λ (t : List ℕ). T (same_state g t (round g t))) c.1
      (rounds_fixed n (round g s) (round_state s) (omega (arith, round_adds s v c.0))))
      (rounds_cases n s)

  -- what the rounds end with is a state, and a round more adds nothing to it
  pub ids_state : State (ids_of g)
  unfolding ids_of
  ids_state = rounds_keep State (λ s v. round_state s) _ _ empty_state

  pub ids_fixed : T (same_state g (ids_of g) (round g (ids_of g)))
  unfolding ids_of
  ids_fixed = rounds_fixed _ _ empty_state (omega arith)

  -- so what it induces is in it
  pub ids_keeps : (x a b : ℕ) → x < symbols g → a < most_attributes → b < most_attributes
      → T (is_induced g (ids_of g) x a b) → T (arc_in (ids_of g) x a b)
  unfolding arc_in
  ids_keeps x a b h l m t =
      subst⁻¹ (λ (n : ℕ). T (hasb (8 * a + b) n)) (same_words (ids_of g) (round g (ids_of g)) ids_fixed x h)
      (subst⁻¹ (λ (c : Bool). T c) (round_arcs (ids_of g) x a b h l m) (or_right _ _ t))
