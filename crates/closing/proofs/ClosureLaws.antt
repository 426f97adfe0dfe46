-- Closing rows by some middles after others. Once m was a middle, a path to m and one from m are one path, and later middles keep it so:
-- if both parts go by way of later ones, so does the whole. Assumes nothing.
use Prim.Native.Nat.{ℕ, ◌-◌, ◌*◌, ◌/◌, ◌^◌, ◌<◌}
use mathlib.Core.Path.{◌≡◌, refl, sym, ◌∙◌, ap, subst, subst⁻¹}
use mathlib.Core.Logic.{◌⊎◌, inl, inr, ⊎_elim}
use mathlib.Core.Bool.{Bool, not}
use mathlib.Core.List.{List}
use native.Mathlib.Omega.{arith}
use lib.Dec.{T, T_not, not_T}
use lib.ListN.{length}
use Rattle.bits.specs.Bit.{hasb, remove, common, minus, raised, lowest, First}
use Rattle.bits.specs.End.{End}
use Rattle.bits.proofs.BitLaws.{bit_has, bit_lacks, bit_below, bit_single_same, bit_single_other}
use Rattle.bits.proofs.ShiftLaws.{has_raised, raised_low}
use Rattle.bits.proofs.RestLaws.{rest_of}
use Rattle.bits.proofs.MemberLaws.{hasb_below, none_left, no_member, common_both, both_common, minus_both, both_minus}
use Rattle.basics.specs.Lists.{word}
use Rattle.basics.proofs.TestLaws.{tested, true_T, false_T, same_or_not, below_or_not}
use Rattle.relations.specs.Paper.{Path⁺}
use Rattle.relations.proofs.PathLaws.{path_join, path_map, path_into, path_first}
use Rattle.closing.specs.Rows.{leads, Arc, Starts}
use Rattle.closing.specs.Closure.{row_by, ArcOf, Meeting, Closure, Anew, Stepped}
use Rattle.closing.specs.Fours.{OfFour, Closed, Unions, row_by_four}
use Rattle.closing.proofs.RewriteLaws.{still, gone}
use Rattle.closing.proofs.PassLaws.{Through, passed, by_gets, passed_through}
use Rattle.closing.proofs.FourLaws.{four_gets}

-- a path is an arc, or starts with one
path_front : {R : ℕ → ℕ → Type 0} {a c : ℕ} → Path⁺ R a c → R a c ⊎ ((b : ℕ) × R a b × Path⁺ R b c)
path_front (Path⁺.one e) = inl e
path_front (Path⁺.more {b = b} p e) = ⊎_elim (λ f. inr (b, f, Path⁺.one e)) (λ f. inr (f.0, f.1, Path⁺.more f.2 e)) (path_front p)

-- ---- one middle alone

single_has : (m : ℕ) → T (hasb m (2 ^ m))
single_has m = true_T _ (bit_has m (2 ^ m) (bit_single_same m))

single_only : (m i : ℕ) → T (hasb i (2 ^ m)) → i ≡ m
single_only m i t =
    ⊎_elim (λ e. e) (λ n. absurd (T_not (hasb i (2 ^ m)) (false_T _ (bit_lacks i (2 ^ m) (bit_single_other i m n))) t)) (same_or_not i m)

-- it is closed already
alone : (rows : List ℕ) (here m : ℕ) → ((i : ℕ) → T (hasb i here) → i ≡ m) → Closure rows here rows
alone rows here m only =
    record { size = refl; idle = λ o n. refl; sound = λ o x i t. Path⁺.one (i, t); has = λ o x p. along p }
  where
    along : {o x : ℕ} → Path⁺ (ArcOf rows here) o x → T (leads rows o x)
    along (Path⁺.one s) = s.1
    along (Path⁺.more {a = a} {b = b} {c = c} p s) =
        subst (λ (y : ℕ). T (leads rows y c)) (only b s.0 ∙ sym (only a (path_first p).1.0)) s.1

-- as the code meets it: nothing but the first is there
pub lone_step : (rows : List ℕ) (count here m rest : ℕ) (after : List ℕ) → First here m → rest ≡ remove (lowest 64 here) here → rest ≡ 0
    → Anew rows (row_by m (word rows m)) count after → Stepped rows count here after
lone_step rows count here m rest after f e z v =
    record {
      between = rows;
      closure = alone rows here m only;
      becomes = row_by m (word rows m);
      gets = by_gets rows here m (true_T _ (bit_has m here f.member)) only;
      anew = v;
    }
  where
    only : (i : ℕ) → T (hasb i here) → i ≡ m
    only i t =
        ⊎_elim (λ q. q) (λ n. absurd (T_not (hasb i here) n t))
        (gone m here i (subst (λ (y : ℕ). T (not (hasb i y))) (sym z ∙ rest_of here m rest f e) (none_left i)))

-- ---- some of four middles

pub four_step : (rows : List ℕ) (here k count : ℕ) (four unions after : List ℕ) → OfFour k here → Closed rows here k four
    → Unions four 16 unions → Anew rows (row_by_four k unions) count after → Stepped rows count here after
four_step rows here k count four unions after some w u v =
    record {
      between = w.between;
      closure = w.closure;
      becomes = row_by_four k unions;
      gets = four_gets w.between here k four unions some w.four_rows u;
      anew = v;
    }

some_in : (m s : ℕ) → T (hasb m s) → 0 < s
some_in m s t =
    ⊎_elim (λ z. absurd (T_not (hasb m 0) (none_left m) (subst (λ (y : ℕ). T (hasb m y)) z t))) (λ n. omega (arith, n)) (same_or_not s 0)

-- the group that the first of those left is one of
module _ (left m k four here : ℕ) (f : First left m) (e : k ≡ m / 4 * 4) (h : four ≡ raised k 15) (is : here ≡ common left four) where
  member_there : T (hasb m here)
  member_there =
      subst⁻¹ (λ (y : ℕ). T (hasb m y)) is
      (both_common m left four (true_T _ (bit_has m left f.member))
      (subst⁻¹ (λ (y : ℕ). T (hasb m y)) h
      (subst⁻¹ (λ (b : Bool). T b) (has_raised k m 15 (omega (arith, e)))
      (true_T _ (bit_has (m - k) 15 (bit_below 4 (m - k) (omega (arith, e))))))))

  pub of_four : OfFour k here
  of_four i t =
      let r = subst (λ (y : ℕ). T (hasb i y)) h (common_both i left four (subst (λ (y : ℕ). T (hasb i y)) is t)).1 in
      ⊎_elim (λ l. absurd (T_not (hasb i (raised k 15)) (false_T _ (raised_low k i 15 l)) r))
      (λ l. (
        l,
        let s = hasb_below 4 (i - k) 15 (omega arith) (subst (λ (b : Bool). T b) (has_raised k i 15 l) r) in omega (arith, s),
      )) (below_or_not i k)

  pub some_here : 0 < here
  some_here = some_in m here member_there

  pub fewer_left : (next : ℕ) → next ≡ minus left here → next < left
  unfolding minus
  fewer_left next q =
      let t = true_T _ (bit_has m left f.member) in
      omega (arith, q, some_in m left t, some_in m (common left here) (both_common m left here t member_there))

-- ---- all middles

-- The invariant: the rows have the arcs and nothing but paths, and paths meet at each middle that is done.
pub record Closing (before : List ℕ) (among left : ℕ) (rows : List ℕ) : Type 0 where
  pub room : length before ≡ 64
  pub size : length rows ≡ length before
  pub idle : (o : ℕ) → T (not (hasb o among)) → word rows o ≡ word before o
  pub within : (o : ℕ) → T (hasb o left) → T (hasb o among)
  pub keeps : (o x : ℕ) → T (hasb o among) → T (leads before o x) → T (leads rows o x)
  pub sound : (o x : ℕ) → T (hasb o among) → T (leads rows o x) → Path⁺ (ArcOf before among) o x
  pub meets : (o j x : ℕ) → T (hasb o among) → T (hasb j among) → T (not (hasb j left)) → T (leads rows o j) → T (leads rows j x)
      → T (leads rows o x)

module _ (before : List ℕ) (among : ℕ) where
  pub closing_start : (middles : ℕ) → length before ≡ 64 → Meeting before among middles → Closing before among middles before
  closing_start middles h w =
      record {
        room = h;
        size = refl;
        idle = λ o n. refl;
        within = w.within;
        keeps = λ o x i t. t;
        sound = λ o x i t. Path⁺.one (i, t);
        meets = λ o j x io ij n s t. w.meets o j x n (io, s) (ij, t);
      }

  -- A step by way of some middles: they are closed among themselves, and then every row that leads to one of them gets what that one leads to.
  module _ (rows : List ℕ) (left here next : ℕ) (mid after : List ℕ) (w : Closing before among left rows) (c : Closure rows here mid)
      (v : Through mid among here after)
      (inside : (m : ℕ) → T (hasb m here) → T (hasb m left)) (still_left : (m : ℕ) → T (hasb m next) → T (hasb m left))
      (done : (m : ℕ) → T (not (hasb m next)) → T (hasb m here) ⊎ T (not (hasb m left))) where
    middle : (m : ℕ) → T (hasb m here) → T (hasb m among)
    middle m h = w.within m (inside m h)

    mid_keeps : (o x : ℕ) → T (leads rows o x) → T (leads mid o x)
    unfolding leads
    mid_keeps o x t =
        ⊎_elim (λ h. c.has o x (Path⁺.one (h, t))) (λ n. subst⁻¹ (λ (y : ℕ). T (hasb x y)) (c.idle o n) t) (tested (hasb o here))

    mid_idle : (o x : ℕ) → T (not (hasb o here)) → T (leads mid o x) → T (leads rows o x)
    unfolding leads
    mid_idle o x n t = subst (λ (y : ℕ). T (hasb x y)) (c.idle o n) t

    mid_sound : (o x : ℕ) → T (hasb o among) → T (leads mid o x) → Path⁺ (ArcOf before among) o x
    mid_sound o x i t =
        ⊎_elim (λ h. path_into (λ c d s. w.sound c d (middle c s.0) s.1) (c.sound o x h t))
        (λ n. w.sound o x i (mid_idle o x n t)) (tested (hasb o here))

    -- two middles of the step
    mid_joins : (m n x : ℕ) → T (hasb m here) → T (hasb n here) → T (leads mid m n) → T (leads mid n x) → T (leads mid m x)
    mid_joins m n x h i s t = c.has m x (path_join (c.sound m n h s) (c.sound n x i t))

    -- a middle that was done before: the last arc of a path to it goes on from there
    mid_meets : (o j x : ℕ) → T (hasb o among) → T (hasb j among) → T (not (hasb j left)) → T (leads mid o j) → T (leads mid j x)
        → T (leads mid o x)
    mid_meets o j x io ij n s t =
        ⊎_elim (λ h. c.has o x (onward (c.sound o j h s)))
        (λ h. mid_keeps o x (w.meets o j x io ij n (mid_idle o j h s) from_it)) (tested (hasb o here))
      where
        from_it : T (leads rows j x)
        from_it = mid_idle j x (not_T (hasb j here) (λ h. T_not (hasb j left) n (inside j h))) t

        onward : {c : ℕ} → Path⁺ (ArcOf rows here) c j → Path⁺ (ArcOf rows here) c x
        onward (Path⁺.one {a = a} e) = Path⁺.one (e.0, w.meets a j x (middle a e.0) ij n e.1 from_it)
        onward (Path⁺.more {b = b} p e) = Path⁺.more p (e.0, w.meets b j x (middle b e.0) ij n e.1 from_it)

    abbrev Via : ℕ → ℕ → Type 0
    Via o x = T (leads mid o x) ⊎ ((m : ℕ) × T (hasb m here) × T (leads mid o m) × T (leads mid m x))

    -- a middle of this step
    at_middle : (o j x : ℕ) → T (hasb o among) → T (hasb j here) → Via o j → Via j x → T (leads after o x)
    at_middle o j x io h s t = to_it s (⊎_elim (λ a. a) (λ b. mid_joins j b.0 x h b.1 b.2 b.3) t)
      where
        to_it : Via o j → T (leads mid j x) → T (leads after o x)
        to_it (inl a) t = v.by_way o j x io h a t
        to_it (inr (m, i, a, b)) t = v.by_way o m x io i a (mid_joins m j x i h b t)

    before_it : (o j x : ℕ) → T (hasb o among) → T (hasb j among) → T (not (hasb j left)) → Via o j → Via j x → T (leads after o x)
    before_it o j x io ij n (inl s) (inl t) = v.keeps o x io (mid_meets o j x io ij n s t)
    before_it o j x io ij n (inl s) (inr (m, h, t, u)) = v.by_way o m x io h (mid_meets o j m io ij n s t) u
    before_it o j x io ij n (inr (m, h, r, s)) (inl t) = v.by_way o m x io h r (mid_meets m j x (middle m h) ij n s t)
    before_it o j x io ij n (inr (m, h, r, s)) (inr (q, i, t, u)) =
        v.by_way o m x io h r (mid_joins m q x h i (mid_meets m j q (middle m h) ij n s t) u)

    closing_more : Closing before among next after
    closing_more =
        record {
          room = w.room;
          size = v.size ∙ (c.size ∙ w.size);
          idle = λ o n.
              v.idle o n
              ∙ (c.idle o (not_T (hasb o here) (λ h. T_not (hasb o among) n (middle o h))) ∙ w.idle o n);
          within = λ o t. w.within o (still_left o t);
          keeps = λ o x i t. v.keeps o x i (mid_keeps o x (w.keeps o x i t));
          sound = λ o x i t.
              ⊎_elim (λ l. mid_sound o x i l) (λ l. path_join (mid_sound o l.0 i l.2) (mid_sound l.0 x (middle l.0 l.1) l.3))
              (v.sound o x i t);
          meets = λ o j x io ij n s t.
              let a = v.sound o j io s in
              let b = v.sound j x ij t in
              ⊎_elim (λ h. at_middle o j x io h a b) (λ m. before_it o j x io ij m a b) (done j n);
        }

  -- by way of one middle
  pub closing_single : (rows : List ℕ) (left m : ℕ) → Closing before among left rows → among < 2 ^ 64 → T (hasb m left)
      → Closing before among (remove m left) (passed rows among m)
  closing_single rows left m w small member =
      closing_more rows left (2 ^ m) (remove m left) rows (passed rows among m) w (alone rows (2 ^ m) m (single_only m))
      (passed_through rows among (2 ^ m) m (passed rows among m) small (omega (arith, w.size, w.room)) (single_has m) (single_only m) refl)
      (λ i t. subst⁻¹ (λ (n : ℕ). T (hasb n left)) (single_only m i t) member) (λ i t. still m left i t)
      (λ i t. ⊎_elim (λ q. inl (subst⁻¹ (λ (n : ℕ). T (hasb n (2 ^ m))) q (single_has m))) (λ q. inr q) (gone m left i t))

  -- where m is no member, it makes no difference whether it is left
  pub closing_absent : (rows : List ℕ) (left m : ℕ) → Closing before among left rows → T (not (hasb m among)) → Closing before among (remove m left) rows
  closing_absent rows left m w n =
      record {
        room = w.room;
        size = w.size;
        idle = w.idle;
        within = λ o t. w.within o (still m left o t);
        keeps = w.keeps;
        sound = w.sound;
        meets = λ o j x io ij t.
            w.meets o j x io ij (⊎_elim (λ q. absurd (T_not (hasb m among) n (subst (λ (y : ℕ). T (hasb y among)) q ij))) (λ q. q) (gone m left j t));
      }

  -- by way of some: the first rows are written anew, and those of no member are empty and stay so
  pub closing_step : (rows : List ℕ) (left four here next count : ℕ) (after : List ℕ) → Closing before among left rows → Starts before among
      → End among count → here ≡ common left four → next ≡ minus left here → Stepped rows count here after → Closing before among next after
  unfolding leads
  closing_step rows left four here next count after w starts end e h v =
      closing_more rows left here next v.between after w v.closure through inside
      (λ m t. (minus_both m left here (subst (λ (n : ℕ). T (hasb m n)) h t)).0)
      (λ m t.
      ⊎_elim (λ i. inl i)
      (λ n. inr (not_T (hasb m left) (λ l. T_not (hasb m next) t (subst⁻¹ (λ (y : ℕ). T (hasb m y)) h (both_minus m left here l n)))))
      (tested (hasb m here)))
    where
      inside : (m : ℕ) → T (hasb m here) → T (hasb m left)
      inside m t = (common_both m left four (subst (λ (n : ℕ). T (hasb m n)) e t)).0

      outer : (o : ℕ) → T (not (hasb o among)) → T (not (hasb o here))
      outer o n = not_T (hasb o here) (λ i. T_not (hasb o among) n (w.within o (inside o i)))

      empty : (o : ℕ) → o < count → T (not (hasb o among)) → word rows o ≡ 0
      empty o l n =
          no_member (word rows o)
          (λ x t. T_not (hasb o among) n (starts o x (omega (arith, l, end.small)) (subst (λ (y : ℕ). T (hasb x y)) (w.idle o n) t)))

      nothing : v.becomes 0 ≡ 0
      nothing =
          no_member (v.becomes 0)
          (λ x t. ⊎_elim (λ l. T_not (hasb x 0) (none_left x) l) (λ l. T_not (hasb l.0 0) (none_left l.0) l.2) (v.gets.sound 0 x t))

      is : (o : ℕ) → T (hasb o among) → word after o ≡ v.becomes (word rows o)
      is o i = v.anew.new o (hasb_below count o among end.above i)

      keep : (o x : ℕ) → T (hasb x (word rows o)) → T (hasb x (word v.between o))
      keep o x t =
          ⊎_elim (λ i. v.closure.has o x (Path⁺.one (i, t))) (λ n. subst⁻¹ (λ (y : ℕ). T (hasb x y)) (v.closure.idle o n) t) (tested (hasb o here))

      -- a path within the middles starts with an arc that was there
      first : (o x : ℕ) → T (hasb o among) → Path⁺ (ArcOf rows here) o x → T (hasb x (word after o))
      first o x i p =
          subst⁻¹ (λ (y : ℕ). T (hasb x y)) (is o i)
          (⊎_elim (λ a. v.gets.keeps (word rows o) x a.1) (λ a. onward a.0 a.1 a.2) (path_front p))
        where
          onward : (m : ℕ) → ArcOf rows here o m → Path⁺ (ArcOf rows here) m x → T (hasb x (v.becomes (word rows o)))
          onward m a q = v.gets.by_way (word rows o) m x (path_first q).1.0 a.1 (v.closure.has m x q)

      forth : (o x : ℕ) → T (hasb o among) → T (hasb x (word v.between o)) → T (hasb x (word after o))
      forth o x i t =
          ⊎_elim (λ l. first o x i (v.closure.sound o x l t))
          (λ n. subst⁻¹ (λ (y : ℕ). T (hasb x y)) (is o i) (v.gets.keeps (word rows o) x (subst (λ (y : ℕ). T (hasb x y)) (v.closure.idle o n) t)))
          (tested (hasb o here))

      through : Through v.between among here after
      through =
          record {
            size = v.anew.size ∙ sym v.closure.size;
            idle = λ o n.
                ⊎_elim (λ l. v.anew.new o l ∙ (ap v.becomes (empty o l n) ∙ (nothing ∙ sym (empty o l n))))
                (λ l. v.anew.rest o l) (below_or_not o count)
                ∙ sym (v.closure.idle o (outer o n));
            keeps = forth;
            by_way = λ o m x i l s t.
                ⊎_elim (λ k. first o x i (path_join (v.closure.sound o m k s) (v.closure.sound m x l t)))
                (λ n.
                subst⁻¹ (λ (y : ℕ). T (hasb x y)) (is o i)
                (v.gets.by_way (word rows o) m x l (subst (λ (y : ℕ). T (hasb m y)) (v.closure.idle o n) s) t)) (tested (hasb o here));
            sound = λ o x i t.
                ⊎_elim (λ l. inl (keep o x l)) (λ l. inr (l.0, l.1, keep o l.0 l.2, l.3))
                (v.gets.sound (word rows o) x (subst (λ (y : ℕ). T (hasb x y)) (is o i) t));
          }

  pub closing_finish : (rows : List ℕ) (left : ℕ) → Closing before among left rows → left ≡ 0 → Closure before among rows
  closing_finish rows left w e =
      record { size = w.size; idle = w.idle; sound = w.sound; has = λ o x p. along p }
    where
      along : {o x : ℕ} → Path⁺ (ArcOf before among) o x → T (leads rows o x)
      along (Path⁺.one {a = a} {b = b} s) = w.keeps a b s.0 s.1
      along (Path⁺.more {a = a} {b = b} {c = c} p s) =
          w.meets a b c (path_first p).1.0 s.0 (subst⁻¹ (λ (n : ℕ). T (not (hasb b n))) e (none_left b)) (along p) (w.keeps b c s.0 s.1)

-- where every arc starts at a member of the set, a row has bit x exactly if a path of the rows on entry leads from it to x
module _ (before : List ℕ) (among : ℕ) (after : List ℕ) (small : among < 2 ^ 64) (w : Closure before among after)
    (starts : Starts before among) where
  pub closure_starts : Starts after among
  unfolding leads
  closure_starts o x h t =
      ⊎_elim (λ i. i) (λ n. starts o x h (subst (λ (y : ℕ). T (hasb x y)) (w.idle o n) t)) (tested (hasb o among))

  pub leads_path : (o x : ℕ) → o < 64 → T (leads after o x) → Path⁺ (Arc before) o x
  leads_path o x h t =
      path_map (λ c d s. (hasb_below 64 c among small s.0, s.1)) (w.sound o x (closure_starts o x h t) t)

  pub path_leads : (o x : ℕ) → Path⁺ (Arc before) o x → T (leads after o x)
  path_leads o x p = w.has o x (path_map (λ c d s. (starts c d s.0 s.1, s.1)) p)
