-- A function of six words that are there needs no test of an end: it passes exactly where its target may be defined, its operation is one, and its
-- arguments are occurrences. Assumes nothing.
use Prim.Native.Nat.{ℕ, suc, ◌+◌, ◌^◌, ◌≤◌, ◌<◌}
use mathlib.Core.Path.{◌≡◌, refl, sym, ◌∙◌, ap, ap₂, subst, subst⁻¹}
use mathlib.Core.Logic.{◌⊎◌, inl, inr, ⊎_elim}
use mathlib.Core.Bool.{Bool, true, false}
use mathlib.Core.List.{List}
use native.Mathlib.Omega.{arith}
use native.Mathlib.Nat.{not-suc-le-zero}
use lib.Dec.{T, leb, eqb, eqb→eq, le→leb, T_not}
use lib.ListN.{length, get_or}
use borrow.Author.Tests.{le-leb, lt-leb, eq-eqb, ne_eqb}
use Rattle.std.specs.Prelude.{Option, Some, None, Ok, Err}
use Rattle.std.specs.Bool.{then_some}
use Rattle.basics.specs.Tests.{◌and◌, ◌or◌}
use Rattle.basics.proofs.TestLaws.{same_or_not, tested, below_suc, same_test, true_T, T_true, false_T, eq_T, and_intro, and_left, and_right}
use Rattle.bits.specs.Bit.{bit, hasb, insert, minus}
use Rattle.bits.proofs.BitLaws.{bit_single_same, bit_single_other, bit_has, has_bit}
use Rattle.bits.proofs.MemberLaws.{hasb_below, insert_cases, insert_new, insert_old, no_member, none_left, minus_both, both_minus}
use Rattle.refusals.specs.declared.Refusal.{Refusal}
use Rattle.grammar.specs.Table.{argument_words}
use Rattle.grammar.specs.Verdicts.{Verdict, Good, Refused, each}
use Rattle.grammar.specs.Reading.{present, ranged}
use Rattle.grammar.proofs.RuleStarts.{argument_words_law}
use Rattle.grammar.proofs.VerdictLaws.{then_first, then_second, then_good, unless_passes, unless_good, each_at, each_good}
use Rattle.access.specs.ByPlace.{argument_from, arguments_from, function_from}
use Rattle.access.proofs.Laws.{passes, refused_good, unless_true, present_there, ranged_le}
use Rattle.reading.specs.Parts.{four_occur, operands_fault, function_words, words_if, FunctionRead}

-- ---- four words as one set

-- the four tests apart
record Four (s a b c d : ℕ) : Type 0 where
  first : T (hasb a s)
  second : T (hasb b s)
  third : T (hasb c s)
  fourth : T (hasb d s)

four_apart : (s a b c d : ℕ) → T (four_occur s a b c d) → Four s a b c d
unfolding four_occur
four_apart s a b c d t =
    let u = and_right (hasb a s) (hasb b s and hasb c s and hasb d s) t in
    let v = and_right (hasb b s) (hasb c s and hasb d s) u in
    record {
      first = and_left (hasb a s) (hasb b s and hasb c s and hasb d s) t;
      second = and_left (hasb b s) (hasb c s and hasb d s) u;
      third = and_left (hasb c s) (hasb d s) v;
      fourth = and_right (hasb c s) (hasb d s) v;
    }

four_together : (s a b c d : ℕ) → Four s a b c d → T (four_occur s a b c d)
unfolding four_occur
four_together s a b c d w =
    and_intro (hasb a s) (hasb b s and hasb c s and hasb d s) w.first
    (and_intro (hasb b s) (hasb c s and hasb d s) w.second (and_intro (hasb c s) (hasb d s) w.third w.fourth))

-- what is past the width is no member
failing : (b : Bool) → (T b → ⊥) → false ≡ b
failing true h = absurd (h tt)
failing false h = refl

module _ (s a b c d : ℕ) (h : s < 2 ^ 64) where
  pub first_past : 64 ≤ a → false ≡ four_occur s a b c d
  first_past l = failing (four_occur s a b c d) (λ t. omega (arith, hasb_below 64 a s h (four_apart s a b c d t).first))

  pub second_past : 64 ≤ b → false ≡ four_occur s a b c d
  second_past l = failing (four_occur s a b c d) (λ t. omega (arith, hasb_below 64 b s h (four_apart s a b c d t).second))

  pub third_past : 64 ≤ c → false ≡ four_occur s a b c d
  third_past l = failing (four_occur s a b c d) (λ t. omega (arith, hasb_below 64 c s h (four_apart s a b c d t).third))

  pub fourth_past : 64 ≤ d → false ≡ four_occur s a b c d
  fourth_past l = failing (four_occur s a b c d) (λ t. omega (arith, hasb_below 64 d s h (four_apart s a b c d t).fourth))

-- what is inserted and what was there are members
joined : {x : ℕ} (i s : ℕ) → (x ≡ i) ⊎ T (hasb x s) → T (hasb x (insert i s))
joined {x} i s r = ⊎_elim (λ e. subst⁻¹ (λ (y : ℕ). T (hasb y (insert i s))) e (insert_new i s)) (λ t. insert_old x i s t) r

-- the set of the four: each is a member, and nothing else is
module _ (a b c d p q u v : ℕ) (e : p ≡ 2 ^ a) (f : q ≡ insert b p) (g : u ≡ insert c q) (h : v ≡ insert d u) where
  module _ (x : ℕ) where
    of_first : T (hasb x p) → x ≡ a
    of_first t =
        ⊎_elim (λ i. i) (λ n. absurd (omega (arith, bit_single_other x a n, has_bit x (2 ^ a) (ap (hasb x) (sym e) ∙ T_true _ t))))
        (same_or_not x a)

    of_four : (s : ℕ) → Four s a b c d → T (hasb x v) → T (hasb x s)
    of_four s w t =
        ⊎_elim (λ i. put d i w.fourth)
        (λ t. ⊎_elim (λ i. put c i w.third)
        (λ t. ⊎_elim (λ i. put b i w.second) (λ t. put a (of_first t) w.first) (insert_cases x b p (subst (λ (y : ℕ). T (hasb x y)) f t)))
        (insert_cases x c q (subst (λ (y : ℕ). T (hasb x y)) g t))) (insert_cases x d u (subst (λ (y : ℕ). T (hasb x y)) h t))
      where
        put : (y : ℕ) → x ≡ y → T (hasb y s) → T (hasb x s)
        put y i t = subst⁻¹ (λ (z : ℕ). T (hasb z s)) i t

    in_p : x ≡ a → T (hasb x p)
    in_p i = true_T _ (bit_has x p (ap₂ (λ (y z : ℕ). bit y z) i e ∙ bit_single_same a))

    in_q : (x ≡ b) ⊎ T (hasb x p) → T (hasb x q)
    in_q r = subst⁻¹ (λ (y : ℕ). T (hasb x y)) f (joined b p r)

    in_u : (x ≡ c) ⊎ T (hasb x q) → T (hasb x u)
    in_u r = subst⁻¹ (λ (y : ℕ). T (hasb x y)) g (joined c q r)

    in_v : (x ≡ d) ⊎ T (hasb x u) → T (hasb x v)
    in_v r = subst⁻¹ (λ (y : ℕ). T (hasb x y)) h (joined d u r)

  module _ (s m : ℕ) (k : m ≡ minus v s) where
    -- where the set has nothing outside s, its members are members of s
    within : m ≡ 0 → (x : ℕ) → T (hasb x v) → T (hasb x s)
    within z x t =
        ⊎_elim (λ i. i)
        (λ n. absurd (T_not (hasb x 0) (none_left x) (subst (λ (y : ℕ). T (hasb x y)) (sym k ∙ z) (both_minus x v s t n)))) (tested (hasb x s))

    pub four_inside : eqb m 0 ≡ four_occur s a b c d
    four_inside =
        same_test (eqb m 0) (four_occur s a b c d)
        (λ t.
        let z : m ≡ 0 = eqb→eq m 0 t in
        four_together s a b c d record {
          first = within z a (in_v a (inr (in_u a (inr (in_q a (inr (in_p a refl)))))));
          second = within z b (in_v b (inr (in_u b (inr (in_q b (inl refl))))));
          third = within z c (in_v c (inr (in_u c (inl refl))));
          fourth = within z d (in_v d (inl refl));
        })
        (λ t.
        eq_T m 0
        (k ∙ no_member (minus v s) (λ x i. let w = minus_both x v s i in T_not (hasb x s) w.1 (of_four x s (four_apart s a b c d t) w.0))))

-- ---- the words of a function

words_good : (v : Verdict) (n : ℕ) → v ≡ Good → Some n ≡ words_if v n
unfolding words_if
words_good v n e = sym (ap (λ (u : Verdict). words_if u n) e)

words_refused : (v : Verdict) (n : ℕ) → (v ≡ Good → ⊥) → None ≡ words_if v n
unfolding words_if
words_refused (Ok _) n h = absurd (h refl)
words_refused (Err m) n h = refl

-- a test that passes exactly where the verdict is good
words_tested : (v : Verdict) (t : Bool) (n : ℕ) (r : Option ℕ) → r ≡ then_some t n → (T t → v ≡ Good) → (v ≡ Good → T t) → r ≡ words_if v n
words_tested v true n r e f h = e ∙ words_good v n (f tt)
words_tested v false n r e f h = e ∙ words_refused v n h

-- ---- arguments

module _ (g : List ℕ) (f s : ℕ) (fits : f + 6 ≤ length g) where
  -- the word at j places from f + 2 on is an occurrence
  abbrev At : ℕ → Type 0
  At j = T (hasb (get_or g (f + 2 + j) 0) s)

  at : (j q x : ℕ) → x ≡ get_or g q 0 → q ≡ f + 2 + j → T (hasb x s) → At j
  at j q x e d t = subst (λ (p : ℕ). T (hasb (get_or g p 0) s)) d (subst (λ (o : ℕ). T (hasb o s)) e t)

  from : (j q x : ℕ) → x ≡ get_or g q 0 → q ≡ f + 2 + j → At j → T (hasb x s)
  from j q x e d t = subst⁻¹ (λ (o : ℕ). T (hasb o s)) e (subst⁻¹ (λ (p : ℕ). T (hasb (get_or g p 0) s)) d t)

  none : (j : ℕ) → j < 0 → At j
  none j l = absurd (not-suc-le-zero l)

  next : (n : ℕ) → ((j : ℕ) → j < n → At j) → At n → (j : ℕ) → j < suc n → At j
  next n h t j l = ⊎_elim (λ i. h j i) (λ i. subst⁻¹ (λ (k : ℕ). At k) i t) (below_suc j n l)

  there : (q : ℕ) → q < f + 6 → present g q ≡ Good
  there q h = sym (present_there g q (omega arith))

  module _ (op : ℕ) (e : op ≡ get_or g (f + 1) 0) where
    operation_good : op ≤ 8 → ranged g (f + 1) (leb (get_or g (f + 1) 0) 8) ≡ Good
    unfolding ranged
    operation_good h =
        then_good _ _ (there (f + 1) (omega arith)) (unless_good _ _ (le→leb (get_or g (f + 1) 0) 8 (omega arith)))

    pub operation_past : 8 < op → None ≡ words_if (operands_fault g f s) (function_words g f)
    unfolding operands_fault
    operation_past h = words_refused _ _ (λ y. omega (arith, ranged_le g (f + 1) (get_or g (f + 1) 0) 8 _ refl (then_first _ _ y)))

    -- the arguments by the operation that the code holds
    arguments_by : (n : ℕ) (b : Bool) → argument_words op ≡ n → eqb op 0 ≡ b
        → arguments_from g f s ≡ each n (λ j. argument_from g (f + 2 + j) b s)
    unfolding arguments_from
    arguments_by n b h k =
        ap (λ (o : ℕ). each (argument_words o) (λ j. argument_from g (f + 2 + j) (eqb o 0) s)) (sym e)
        ∙ ap₂ (λ (m : ℕ) (b : Bool). each m (λ j. argument_from g (f + 2 + j) b s)) h k

    pub constant_words : op ≡ 0 → Some 3 ≡ words_if (operands_fault g f s) (function_words g f)
    unfolding operands_fault argument_from argument_words ◌or◌
    constant_words h =
        let one : argument_words op ≡ 1 = simp (le-leb op 1 (omega arith)) in
        let w : 3 ≡ function_words g f = ap (λ (m : ℕ). 2 + m) (sym one ∙ ap argument_words e) in
        ap (λ (m : ℕ). Some m) w
        ∙ words_good (operands_fault g f s) (function_words g f)
        (then_good _ _ (operation_good (omega arith))
        (arguments_by 1 true one (eq-eqb op 0 (omega arith))
        ∙ each_good 1 (λ j. argument_from g (f + 2 + j) true s)
        (λ j l. then_good _ _ (there (f + 2 + j) (omega arith)) (unless_good _ _ tt))))

    module _ (n : ℕ) (few : n ≤ 4) (most : op ≤ 8) (least : op ≡ 0 → ⊥) (k : argument_words op ≡ n) where
      -- the operands pass exactly where each argument is an occurrence
      operands_pass : ((j : ℕ) → j < n → At j) → operands_fault g f s ≡ Good
      unfolding operands_fault argument_from ◌or◌
      operands_pass h =
          then_good _ _ (operation_good most)
          (arguments_by n false k (ne_eqb op 0 least)
          ∙ each_good n (λ j. argument_from g (f + 2 + j) false s)
          (λ j l. then_good _ _ (there (f + 2 + j) (omega arith)) (unless_good _ _ (h j l))))

      operands_passed : operands_fault g f s ≡ Good → (j : ℕ) → j < n → At j
      unfolding operands_fault argument_from ◌or◌
      operands_passed y j l =
          unless_passes _ _ (then_second _ _
          (each_at n (λ j. argument_from g (f + 2 + j) false s)
          (sym (arguments_by n false k (ne_eqb op 0 least)) ∙ then_second _ _ y) j l))

      -- and so the test of four words answers, where these are the arguments and nothing else
      answered : (a b c d : ℕ) (t : Bool) (r : Option ℕ) → t ≡ four_occur s a b c d → r ≡ then_some t (2 + n)
          → (Four s a b c d → (j : ℕ) → j < n → At j) → (((j : ℕ) → j < n → At j) → Four s a b c d)
          → r ≡ words_if (operands_fault g f s) (function_words g f)
      answered a b c d t r h i into back =
          let w : 2 + n ≡ function_words g f = ap (λ (m : ℕ). 2 + m) (sym k ∙ ap argument_words e) in
          words_tested (operands_fault g f s) t (2 + n) r i
          (λ y. operands_pass (into (four_apart s a b c d (subst (λ (b : Bool). T b) h y))))
          (λ y. subst⁻¹ (λ (b : Bool). T b) h (four_together s a b c d (back (operands_passed y))))
          ∙ ap (words_if (operands_fault g f s)) w

    module _ (a : ℕ) (t : Bool) (r : Option ℕ) (ea : a ≡ get_or g (f + 2) 0) where
      pub one_word : op ≡ 1 → t ≡ four_occur s a a a a → r ≡ then_some t 3 → r ≡ words_if (operands_fault g f s) (function_words g f)
      unfolding argument_words
      one_word z h i =
          answered 1 (omega arith) (omega arith) (λ y. omega arith) (simp (le-leb op 1 (omega arith))) a a a a t r h i
          (λ w. next 0 none (at 0 (f + 2) a ea (omega arith) w.first))
          (λ k.
          let x = from 0 (f + 2) a ea (omega arith) (k 0 (omega arith)) in
          record { first = x; second = x; third = x; fourth = x })

      module _ (b : ℕ) (eb : b ≡ get_or g (f + 3) 0) where
        pub two_words : 2 ≤ op → op ≤ 6 → t ≡ four_occur s a b a b → r ≡ then_some t 4
            → r ≡ words_if (operands_fault g f s) (function_words g f)
        unfolding argument_words
        two_words least most h i =
            answered 2 (omega arith) (omega arith) (λ y. omega arith) (simp (lt-leb op 1 (omega arith), le-leb op 6 (omega arith))) a b a b t r h i
            (λ w. next 1 (next 0 none (at 0 (f + 2) a ea (omega arith) w.first)) (at 1 (f + 3) b eb (omega arith) w.second))
            (λ k.
            let x = from 0 (f + 2) a ea (omega arith) (k 0 (omega arith)) in
            let y = from 1 (f + 3) b eb (omega arith) (k 1 (omega arith)) in
            record { first = x; second = y; third = x; fourth = y })

        module _ (c : ℕ) (ec : c ≡ get_or g (f + 4) 0) where
          pub three_words : op ≡ 7 → t ≡ four_occur s a b c c → r ≡ then_some t 5 → r ≡ words_if (operands_fault g f s) (function_words g f)
          unfolding argument_words
          three_words z h i =
              answered 3 (omega arith) (omega arith) (λ y. omega arith)
              (simp (lt-leb op 1 (omega arith), lt-leb op 6 (omega arith), eq-eqb op 7 z)) a b c c t r h i
              (λ w.
              next 2 (next 1 (next 0 none (at 0 (f + 2) a ea (omega arith) w.first)) (at 1 (f + 3) b eb (omega arith) w.second))
              (at 2 (f + 4) c ec (omega arith) w.third))
              (λ k.
              let z = from 2 (f + 4) c ec (omega arith) (k 2 (omega arith)) in
              record {
                first = from 0 (f + 2) a ea (omega arith) (k 0 (omega arith));
                second = from 1 (f + 3) b eb (omega arith) (k 1 (omega arith));
                third = z;
                fourth = z;
              })

          module _ (d : ℕ) (ed : d ≡ get_or g (f + 5) 0) where
            pub four_words : op ≡ 8 → t ≡ four_occur s a b c d → r ≡ then_some t 6 → r ≡ words_if (operands_fault g f s) (function_words g f)
            unfolding argument_words
            four_words z h i =
                answered 4 (omega arith) (omega arith) (λ y. omega arith)
                (simp (lt-leb op 1 (omega arith), lt-leb op 6 (omega arith), ne_eqb op 7 (λ y. omega arith))) a b c d t r h i
                (λ w.
                next 3
                (next 2 (next 1 (next 0 none (at 0 (f + 2) a ea (omega arith) w.first)) (at 1 (f + 3) b eb (omega arith) w.second))
                (at 2 (f + 4) c ec (omega arith) w.third)) (at 3 (f + 5) d ed (omega arith) w.fourth))
                (λ k.
                record {
                  first = from 0 (f + 2) a ea (omega arith) (k 0 (omega arith));
                  second = from 1 (f + 3) b eb (omega arith) (k 1 (omega arith));
                  third = from 2 (f + 4) c ec (omega arith) (k 2 (omega arith));
                  fourth = from 3 (f + 5) d ed (omega arith) (k 3 (omega arith));
                })

-- ---- the function at word f

module _ (g : List ℕ) (f x s undefined : ℕ) (m : Bool) (fits : f + 6 ≤ length g) (d : x ≡ get_or g f 0) (e : m ≡ (hasb x s and hasb x undefined)) where
  may : m ≡ (hasb (get_or g f 0) s and hasb (get_or g f 0) undefined)
  may = e ∙ ap (λ (o : ℕ). hasb o s and hasb o undefined) d

  -- a function is its target and then its operands
  pub target_passes : (r : Option ℕ) (n : ℕ) → m ≡ true → r ≡ words_if (operands_fault g f s) n → r ≡ words_if (function_from g f s undefined) n
  unfolding function_from operands_fault
  target_passes r n h k =
      let t = subst (λ (b : Bool). T b) may (true_T m h) in
      k
      ∙ ap (λ (v : Verdict). words_if v n)
      (passes _ _ Good _ (present_there g f (omega arith)) refl
      (passes _ _ Good _ (unless_true _ _ (T_true _ (and_left (hasb (get_or g f 0) s) (hasb (get_or g f 0) undefined) t))) refl
      (passes _ _ Good _ (unless_true _ _ (T_true _ (and_right (hasb (get_or g f 0) s) (hasb (get_or g f 0) undefined) t))) refl refl)))

  pub target_fails : (n : ℕ) → m ≡ false → None ≡ words_if (function_from g f s undefined) n
  unfolding function_from
  target_fails n h =
      words_refused _ n
      (λ y.
      T_not m (false_T m h)
      (subst⁻¹ (λ (b : Bool). T b) may
      (and_intro (hasb (get_or g f 0) s) (hasb (get_or g f 0) undefined) (unless_passes _ _ (then_first _ _ (then_second _ _ y)))
      (unless_passes _ _ (then_first _ _ (then_second _ _ (then_second _ _ y)))))))

-- what the words say of a function: where there are some it passes, and they are its own
words_pass : (v : Verdict) (n r : ℕ) → Some r ≡ words_if v n → (v ≡ Good) × (r ≡ n)
unfolding words_if
words_pass (Ok _) n r e = (refl, cc)
words_pass (Err m) n r e = absurd (let z : ◌≡◌ {A = ℕ} 0 1 = cc in omega arith)

module _ (g : List ℕ) (f s undefined : ℕ) where
  pub read_whole : (r : ℕ) → Some r ≡ words_if (function_from g f s undefined) (function_words g f) → FunctionRead g f s undefined (Ok r)
  read_whole r e =
      let p = words_pass (function_from g f s undefined) (function_words g f) r e in
      (p.0, p.1, omega (arith, p.1, (argument_words_law (get_or g (f + 1) 0)).1))

  pub read_words : (v : Verdict) (op n : ℕ) → v ≡ function_from g f s undefined → v ≡ Good → op ≡ get_or g (f + 1) 0 → n ≡ argument_words op → n ≤ 4
      → FunctionRead g f s undefined (Ok (2 + n))
  read_words v op n e h d k l = (sym e ∙ h, ap (λ (m : ℕ). 2 + m) (k ∙ ap argument_words d), omega arith)
