-- A rule's set is made of blocks of eight bits, one a position: block i holds the attributes of the symbol there.
-- Each new block goes on top of the ones before it, and past the rule's last position nothing is a member. Assumes nothing.
use Prim.Native.Nat.{ℕ, zero, suc, ◌+◌, ◌-◌, ◌*◌, ◌/◌, ◌%◌, ◌^◌, ◌≤◌, ◌<◌}
use mathlib.Core.Path.{◌≡◌, refl, sym, ◌∙◌, ap, ap₂, subst}
use mathlib.Core.Logic.{⊎_elim}
use mathlib.Core.Bool.{Bool, true, false, cond, not}
use mathlib.Core.List.{List}
use native.Mathlib.Omega.{arith}
use native.Mathlib.Nat.{add-suc, add-zero, add-mul, add_comm, mul_assoc, mul_comm, zero-mul, lt_of_lt_of_le}
use native.Mathlib.Numerals.{add-one}
use lib.Dec.{ltb, leb, eqb}
use lib.ListN.{get_or}
use lib.Bits.{or_shifted}
use lib.Pow.{pow-add, pow_mono, ones_lt}
use borrow.Author.Tests.{lt-ltb, le-ltb, le-leb, lt-leb, ne_eqb}
use Rattle.basics.specs.Tests.{◌and◌}
use Rattle.basics.proofs.TestLaws.{below_or_not, below_suc}
use Rattle.bits.specs.Bit.{bit, number, hasb, below, collect, union, minus}
use Rattle.bits.proofs.BitLaws.{bit_above, bit_below, number_hasb}
use Rattle.bits.proofs.CollectLaws.{collect_lt, collect_unique}
use Rattle.bits.proofs.SetLaws.{bit_minus, minus_lt}
use Rattle.grammar.specs.Table.{attributes, mask, inherited, length_at, position, attribute}
use Rattle.grammar.specs.WellFormed.{SymbolFormed}
use Rattle.access.specs.ByPlace.{symbol_from, occurrence_from, defining_from, occurrences_at, definings_at, Shaped}

-- ---- collected sets

-- the bits from w on, on top of those below w
pub collect_add : (w v : ℕ) (f : ℕ → Bool) → collect (w + v) f ≡ collect w f + collect v (λ a. f (w + a)) * 2 ^ w
unfolding collect
collect_add w zero f = ap (λ (n : ℕ). collect n f) (add-zero w) ∙ omega (arith, zero-mul (2 ^ w))
collect_add w (suc v) f =
    ap (λ (n : ℕ). collect n f) (add-suc w v)
    ∙ omega (arith, collect_add w v f, add-mul (collect v (λ a. f (w + a))) (number (f (w + v)) * 2 ^ v) (2 ^ w), top (number (f (w + v))))
  where
    top : (n : ℕ) → n * 2 ^ v * 2 ^ w ≡ n * 2 ^ (w + v)
    top n = mul_assoc n (2 ^ v) (2 ^ w) ∙ ap (λ (m : ℕ). n * m) (mul_comm (2 ^ v) (2 ^ w) ∙ sym (pow-add 2 w v))

-- where nothing from w on passes
pub collect_rest : (w v : ℕ) (f : ℕ → Bool) → w ≤ v → ((i : ℕ) → w ≤ i → f i ≡ false) → collect v f ≡ collect w f
unfolding collect
collect_rest w zero f h e = let z : w ≡ 0 = omega arith in sym (ap (λ (n : ℕ). collect n f) z)
collect_rest w (suc v) f h e =
    ⊎_elim
    (λ l. ap (λ (b : Bool). collect v f + number b * 2 ^ v) (e v (omega arith)) ∙ omega (arith, collect_rest w v f (omega arith) e, zero-mul (2 ^ v)))
    (λ q. sym (ap (λ (n : ℕ). collect n f) q)) (below_suc w (suc v) (omega arith))

-- one more block of eight
pub block_more : (f : ℕ → Bool) (i b : ℕ) → b < 256 → ((a : ℕ) → a < 8 → bit a b ≡ number (f (8 * i + a)))
    → union (b * 2 ^ (8 * i)) (collect (8 * i) f) ≡ collect (8 * (i + 1)) f
unfolding union
block_more f i b h e =
    let next : 8 * (i + 1) ≡ 8 * i + 8 = omega arith in
    or_shifted b (8 * i) (collect (8 * i) f) (collect_lt (8 * i) f)
    ∙ (add_comm (b * 2 ^ (8 * i)) (collect (8 * i) f)
    ∙ (ap (λ (x : ℕ). collect (8 * i) f + x * 2 ^ (8 * i)) (collect_unique 8 b (λ a. f (8 * i + a)) h e)
    ∙ (sym (collect_add (8 * i) 8 f) ∙ ap (λ (n : ℕ). collect n f) (sym next))))

-- ---- the attributes of a symbol as a set

pub below_small : (n : ℕ) → n ≤ 8 → below n < 256
below_small n h = lt_of_lt_of_le (ones_lt n) (pow_mono {i = n} {j = 8} h)

-- a test below n
bit_of_below : (n a : ℕ) → bit a (below n) ≡ number (ltb a n)
bit_of_below n a =
    ⊎_elim (λ l. bit_below n a l ∙ sym (ap number (lt-ltb a n l)))
    (λ l. bit_above n a (below n) (ones_lt n) l ∙ sym (ap number (le-ltb a n l))) (below_or_not a n)

-- a set below 2 ^ n, and what it lacks of the numbers below n
bit_of_mask : (n m a : ℕ) → m < 2 ^ n → bit a m ≡ number (ltb a n and hasb a m)
unfolding ◌and◌
bit_of_mask n m a h =
    ⊎_elim (λ l. sym (number_hasb a m) ∙ sym (ap (λ (t : Bool). number (t and hasb a m)) (lt-ltb a n l)))
    (λ l. bit_above n a m h l ∙ sym (ap (λ (t : Bool). number (t and hasb a m)) (le-ltb a n l))) (below_or_not a n)

number_not : (t : Bool) → 1 - number t ≡ number (not t)
number_not true = refl
number_not false = refl

bit_of_rest : (n m a : ℕ) → m < 2 ^ n → bit a (minus (below n) m) ≡ number (ltb a n and not (hasb a m))
unfolding ◌and◌
bit_of_rest n m a h =
    ⊎_elim
    (λ l.
    bit_minus a (below n) m
    ∙ (ap₂ (λ (x y : ℕ). x - y) (bit_below n a l) (sym (number_hasb a m))
    ∙ (number_not (hasb a m) ∙ sym (ap (λ (t : Bool). number (t and not (hasb a m))) (lt-ltb a n l)))))
    (λ l.
    bit_above n a (minus (below n) m) (minus_lt n (below n) m (ones_lt n)) l
    ∙ sym (ap (λ (t : Bool). number (t and not (hasb a m))) (le-ltb a n l))) (below_or_not a n)

-- where a walk over n positions on the right stands after i of them: the set has the blocks up to position i
pub record Filled (f : ℕ → Bool) (n i s : ℕ) : Type 0 where
  pub inside : i ≤ n
  pub holds : s ≡ collect (8 * (i + 1)) f

-- ---- the rule at word p, position by position

module _ (g : List ℕ) (p : ℕ) where
  occurrence_bit : (i a : ℕ) → i ≤ length_at g p → a < 8 → occurrence_from g p (8 * i + a) ≡ ltb a (attributes g (symbol_from g p i))
  unfolding occurrence_from ◌and◌
  occurrence_bit i a h l =
      let place : (8 * i + a) / 8 ≡ i = omega arith in
      let own : (8 * i + a) % 8 ≡ a = omega arith in
      ap₂ (λ (j b : ℕ). leb j (length_at g p) and ltb b (attributes g (symbol_from g p j))) place own
      ∙ ap (λ (t : Bool). t and ltb a (attributes g (symbol_from g p i))) (le-leb i (length_at g p) h)

  defining_bit : (i a : ℕ) → i ≤ length_at g p → a < 8
      → defining_from g p (8 * i + a)
      ≡ (ltb a (attributes g (symbol_from g p i))
      and cond (eqb i 0) (not (inherited g (symbol_from g p i) a)) (inherited g (symbol_from g p i) a))
  unfolding defining_from
  defining_bit i a h l =
      let place : (8 * i + a) / 8 ≡ i = omega arith in
      let own : (8 * i + a) % 8 ≡ a = omega arith in
      ap₂ (λ (s t : Bool). s and t) (occurrence_bit i a h l)
      (ap₂ (λ (j b : ℕ). cond (eqb j 0) (not (inherited g (symbol_from g p j) b)) (inherited g (symbol_from g p j) b)) place own)

  -- past the last position nothing stands
  pub past : (o : ℕ) → 8 * (length_at g p + 1) ≤ o → occurrence_from g p o ≡ false
  unfolding occurrence_from ◌and◌
  past o h =
      ap (λ (t : Bool). t and ltb (attribute o) (attributes g (symbol_from g p (position o))))
      (lt-leb (position o) (length_at g p) (omega arith))

  pub past_defining : (o : ℕ) → 8 * (length_at g p + 1) ≤ o → defining_from g p o ≡ false
  unfolding defining_from ◌and◌
  past_defining o h =
      ap (λ (t : Bool). t and cond (eqb (position o) 0) (not (inherited g (symbol_from g p (position o)) (attribute o)))
      (inherited g (symbol_from g p (position o)) (attribute o))) (past o h)

  symbol_at : (i : ℕ) → symbol_from g p (i + 1) ≡ get_or g (p + 2 + i) 0
  unfolding symbol_from
  symbol_at i = ap (symbol_from g p) (add-one i)

  module _ (shape : Shaped g p) where
    pub formed_left : (x : ℕ) → x ≡ get_or g p 0 → SymbolFormed g x
    unfolding symbol_from
    formed_left x e = subst (λ (y : ℕ). SymbolFormed g y) (sym e) (shape.formed 0 (omega arith))

    pub formed_at : (i x : ℕ) → i < length_at g p → x ≡ get_or g (p + 2 + i) 0 → SymbolFormed g x
    formed_at i x h e = subst (λ (y : ℕ). SymbolFormed g y) (symbol_at i ∙ sym e) (shape.formed (i + 1) (omega arith))

    -- the positions of the right side, as the code counts them up to the length that it read
    pub place_inside : (n i : ℕ) → n ≡ length_at g p → i < n → i + 1 < 8
    place_inside n i e h = omega (arith, shape.short)

    pub attributes_left : (x : ℕ) → x ≡ get_or g p 0 → attributes g x ≤ 8
    attributes_left x e = (formed_left x e).attributes_fit

    pub attributes_at : (n i x : ℕ) → n ≡ length_at g p → i < n → x ≡ get_or g (p + 2 + i) 0 → attributes g x ≤ 8
    attributes_at n i x e h d = (formed_at i x (omega arith) d).attributes_fit

    pub block_at : (n i x m : ℕ) → n ≡ length_at g p → i < n → x ≡ get_or g (p + 2 + i) 0 → m ≡ below (attributes g x) → m < 256
    block_at n i x m e h d k =
        subst (λ (b : ℕ). b < 256) (sym k) (below_small (attributes g x) (attributes_at n i x e h d))

    -- the inherited attributes of a symbol are few enough for a block
    pub mask_small : (x : ℕ) → SymbolFormed g x → mask g x < 256
    mask_small x f = lt_of_lt_of_le f.mask_fits (pow_mono {i = attributes g x} {j = 8} f.attributes_fit)

    pub mask_at : (n i x m : ℕ) → n ≡ length_at g p → i < n → x ≡ get_or g (p + 2 + i) 0 → m ≡ mask g x → m < 256
    mask_at n i x m e h d k = subst (λ (b : ℕ). b < 256) (sym k) (mask_small x (formed_at i x (omega arith) d))

    -- The left side's block alone, the block of one more position on the right, which is b of the symbol there, and the end of the rule.
    module _ (f : ℕ → Bool) where
      first_block : (s : ℕ) → s < 256 → ((a : ℕ) → a < 8 → bit a s ≡ number (f (8 * 0 + a))) → s ≡ collect (8 * (0 + 1)) f
      first_block s h e =
          collect_unique 8 s f h
          (λ a l. e a l ∙ ap (λ (o : ℕ). number (f o)) (let z : 8 * 0 + a ≡ a = omega arith in z))

      next_block : (b : ℕ → ℕ) (i x m q u s : ℕ) → s ≡ collect (8 * (i + 1)) f → x ≡ get_or g (p + 2 + i) 0 → m ≡ b x → q ≡ m * 2 ^ (8 * (i + 1))
          → u ≡ union q s → b x < 256 → ((a : ℕ) → a < 8 → bit a (b (symbol_from g p (i + 1))) ≡ number (f (8 * (i + 1) + a)))
          → u ≡ collect (8 * (i + 1 + 1)) f
      next_block b i x m q u s k d e h w small bits =
          w
          ∙ (ap₂ union h k
          ∙ block_more f (i + 1) m (subst (λ (y : ℕ). y < 256) (sym e) small)
          (λ a l. ap (bit a) (e ∙ ap b (d ∙ sym (symbol_at i))) ∙ bits a l))

      last_block : (n i s : ℕ) → n ≡ length_at g p → i ≤ n → n ≤ i → s ≡ collect (8 * (i + 1)) f
          → ((o : ℕ) → 8 * (length_at g p + 1) ≤ o → f o ≡ false) → s ≡ collect 64 f
      last_block n i s e h l k none =
          let q : i ≡ length_at g p = omega arith in
          k
          ∙ (ap (λ (j : ℕ). collect (8 * (j + 1)) f) q
          ∙ sym (collect_rest (8 * (length_at g p + 1)) 64 f (omega (arith, shape.short)) none))

    pub occurrences_start : (n x s : ℕ) → x ≡ get_or g p 0 → s ≡ below (attributes g x) → Filled (occurrence_from g p) n 0 s
    unfolding symbol_from
    occurrences_start n x s d e =
        record {
          inside = omega arith;
          holds =
              first_block (λ o. occurrence_from g p o) s
              (subst (λ (y : ℕ). y < 256) (sym e) (below_small (attributes g x) (attributes_left x d)))
              (λ a l.
              ap (bit a) (e ∙ ap (λ (y : ℕ). below (attributes g y)) d)
              ∙ (bit_of_below (attributes g (get_or g p 0)) a ∙ sym (ap number (occurrence_bit 0 a (omega arith) l))));
        }

    pub occurrences_more : (n i x m q u s : ℕ) → n ≡ length_at g p → i < n → Filled (occurrence_from g p) n i s → x ≡ get_or g (p + 2 + i) 0
        → m ≡ below (attributes g x) → q ≡ m * 2 ^ (8 * (i + 1)) → u ≡ union q s → Filled (occurrence_from g p) n (i + 1) u
    occurrences_more n i x m q u s c h k d e r w =
        record {
          inside = omega arith;
          holds =
              next_block (λ o. occurrence_from g p o) (λ y. below (attributes g y)) i x m q u s k.holds d e r w
              (below_small (attributes g x) (attributes_at n i x c h d))
              (λ a l.
              bit_of_below (attributes g (symbol_from g p (i + 1))) a ∙ sym (ap number (occurrence_bit (i + 1) a (omega arith) l)));
        }

    pub occurrences_end : (n i s : ℕ) → n ≡ length_at g p → n ≤ i → Filled (occurrence_from g p) n i s → s ≡ occurrences_at g p
    unfolding occurrences_at
    occurrences_end n i s e l k = last_block (λ o. occurrence_from g p o) n i s e k.inside l k.holds past

    pub definings_start : (n x t m s : ℕ) → x ≡ get_or g p 0 → t ≡ below (attributes g x) → m ≡ mask g x → s ≡ minus t m
        → Filled (defining_from g p) n 0 s
    unfolding symbol_from
    definings_start n x t m s d e k w =
        let is : s ≡ minus (below (attributes g (get_or g p 0))) (mask g (get_or g p 0)) =
        w ∙ (ap₂ minus e k ∙ ap (λ (y : ℕ). minus (below (attributes g y)) (mask g y)) d) in
        let left : SymbolFormed g (get_or g p 0) = formed_left (get_or g p 0) refl in
        record {
          inside = omega arith;
          holds =
              first_block (λ o. defining_from g p o) s
              (subst (λ (y : ℕ). y < 256) (sym is)
              (minus_lt 8 (below (attributes g (get_or g p 0))) (mask g (get_or g p 0)) (below_small (attributes g (get_or g p 0)) left.attributes_fit)))
              (λ a l.
              ap (bit a) is
              ∙ (bit_of_rest (attributes g (get_or g p 0)) (mask g (get_or g p 0)) a left.mask_fits
              ∙ sym (ap number (defining_bit 0 a (omega arith) l))));
        }

    pub definings_more : (n i x m q u s : ℕ) → n ≡ length_at g p → i < n → Filled (defining_from g p) n i s → x ≡ get_or g (p + 2 + i) 0
        → m ≡ mask g x → q ≡ m * 2 ^ (8 * (i + 1)) → u ≡ union q s → Filled (defining_from g p) n (i + 1) u
    definings_more n i x m q u s c h k d e r w =
        record {
          inside = omega arith;
          holds =
              next_block (λ o. defining_from g p o) (mask g) i x m q u s k.holds d e r w (mask_small x (formed_at i x (omega arith) d))
              (λ a l.
              bit_of_mask (attributes g (symbol_from g p (i + 1))) (mask g (symbol_from g p (i + 1))) a (shape.formed (i + 1) (omega arith)).mask_fits
              ∙ sym (ap number (defining_bit (i + 1) a (omega arith) l ∙ inner a)));
        }
      where
        inner : (a : ℕ) → (ltb a (attributes g (symbol_from g p (i + 1)))
            and cond (eqb (i + 1) 0) (not (inherited g (symbol_from g p (i + 1)) a)) (inherited g (symbol_from g p (i + 1)) a))
            ≡ (ltb a (attributes g (symbol_from g p (i + 1))) and inherited g (symbol_from g p (i + 1)) a)
        inner a =
            ap (λ (t : Bool). ltb a (attributes g (symbol_from g p (i + 1)))
            and cond t (not (inherited g (symbol_from g p (i + 1)) a)) (inherited g (symbol_from g p (i + 1)) a))
            (ne_eqb (i + 1) 0 (λ z. omega arith))

    pub definings_end : (n i s : ℕ) → n ≡ length_at g p → n ≤ i → Filled (defining_from g p) n i s → s ≡ definings_at g p
    unfolding definings_at
    definings_end n i s e l k = last_block (λ o. defining_from g p o) n i s e k.inside l k.holds past_defining
