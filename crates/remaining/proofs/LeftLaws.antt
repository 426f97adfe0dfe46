-- What is left before the first action and after each: the code's values are those of the specification, one equation after the other.
-- Assumes nothing.
use Prim.Native.Nat.{ℕ, ◌+◌, ◌*◌, ◌/◌, ◌%◌, ◌≤◌, ◌<◌}
use mathlib.Core.Path.{◌≡◌, refl, ◌∙◌, ap, ap₂}
use mathlib.Core.List.{List}
use native.Mathlib.Omega.{arith}
use lib.ListN.{get_or}
use mir.Syntax.{w64}
use mir.Val.{Fits}
use Rattle.bits.specs.Bit as bits
use Rattle.bits.proofs.CountLaws.{count_le}
use Rattle.bits.specs.Bit.{remove, union, minus, raised, field}
use Rattle.grammar.specs.Limits.{most_symbols}
use Rattle.access.specs.ByPlace.{symbol_from, definings_at}
use Rattle.remaining.specs.Remaining.{Done}
use Rattle.remaining.specs.declared.ByVisit.{ByVisit as Kept}
use Rattle.remaining.specs.RuleSets.{
  of_visit,
  inherited_mask,
  synthesized_mask,
  visits_in,
  children_in,
  occurrences_from,
  Tabled,
  Started,
  handed_up,
  handed_down,
  wanted_next,
}

pub started_by : (g : List ℕ) (by : Kept) (p x c v l m d w q : ℕ) → x ≡ symbol_from g p 0 → c ≡ definings_at g p → v ≡ children_in g by.visits p → l ≡ visits_in by x
    → m ≡ occurrences_from g p → d ≡ inherited_mask by x 0 → w ≡ minus m d → q ≡ children_in g by.inherited p → Started g by p c v l w q
unfolding occurrences_from
started_by g by p x c v l m d w q e f h k i j z n =
    record {
      computes_are = f;
      visits_are = h;
      leaves_are = k ∙ ap (visits_in by) e;
      waiting_are = z ∙ ap₂ minus i (j ∙ ap (λ (y : ℕ). inherited_mask by y 0) e);
      wanted_are = n;
    }

-- the table has the left side
pub left_low : (g : List ℕ) (p x : ℕ) → Tabled g p → x ≡ symbol_from g p 0 → x < most_symbols
left_low g p x tabled e = omega (arith, e, tabled 0 (omega arith))

up_by : (g : List ℕ) (by : Kept) (p b x up part w r : ℕ) → x ≡ symbol_from g p (b / 8) → up ≡ synthesized_mask by x (b % 8) → part ≡ raised (8 * (b / 8)) up
    → r ≡ minus w part → r ≡ minus w (handed_up g by p b)
unfolding handed_up
up_by g by p b x up part w r e f h q =
    q ∙ ap (minus w) (h ∙ ap (raised (8 * (b / 8))) (f ∙ ap (λ (y : ℕ). synthesized_mask by y (b % 8)) e))

down_by : (g : List ℕ) (by : Kept) (p b x down w r : ℕ) → x ≡ symbol_from g p 0 → down ≡ inherited_mask by x (b + 1) → r ≡ minus w down
    → r ≡ minus w (handed_down g by p b)
unfolding handed_down
down_by g by p b x down w r e f q = q ∙ ap (minus w) (f ∙ ap (λ (y : ℕ). inherited_mask by y (b + 1)) e)

wanted_by : (g : List ℕ) (by : Kept) (p b x down child others part wanted r : ℕ) → x ≡ symbol_from g p (b / 8) → down ≡ inherited_mask by x (b % 8 + 1)
    → child ≡ raised (8 * (b / 8)) 255 → others ≡ minus wanted child → part ≡ raised (8 * (b / 8)) down → r ≡ union others part
    → r ≡ wanted_next g by p b wanted
unfolding wanted_next
wanted_by g by p b x down child others part wanted r e f h q k n =
    n ∙ ap₂ union (q ∙ ap (minus wanted) h) (k ∙ ap (raised (8 * (b / 8))) (f ∙ ap (λ (y : ℕ). inherited_mask by y (b % 8 + 1)) e))

-- what is answered after a visit, and after a leave
pub visit_answer : (g : List ℕ) (by : Kept) (p b x up down child others up_part down_part c v v' l w w' d d' : ℕ) → x ≡ symbol_from g p (b / 8)
    → up ≡ synthesized_mask by x (b % 8) → down ≡ inherited_mask by x (b % 8 + 1) → child ≡ raised (8 * (b / 8)) 255 → others ≡ minus d child
    → v' ≡ remove b v → up_part ≡ raised (8 * (b / 8)) up → w' ≡ minus w up_part → down_part ≡ raised (8 * (b / 8)) down → d' ≡ union others down_part
    → Done (64 + b) c v' l w' d' (64 + b) c (remove b v) l (minus w (handed_up g by p b)) (wanted_next g by p b d)
visit_answer g by p b x up down child others up_part down_part c v v' l w w' d d' e f h k i q j m n z =
    record {
      action_is = refl;
      computes_are = refl;
      visits_are = q;
      leaves_are = refl;
      waiting_are = up_by g by p b x up up_part w w' e f j m;
      wanted_are = wanted_by g by p b x down child others down_part d d' e h k i n z;
    }

pub leave_answer : (g : List ℕ) (by : Kept) (p b x down c v l l' w r d : ℕ) → x ≡ symbol_from g p 0 → down ≡ inherited_mask by x (b + 1) → l' ≡ remove b l
    → r ≡ minus w down → Done (128 + b) c v l' r d (128 + b) c v (remove b l) (minus w (handed_down g by p b)) d
leave_answer g by p b x down c v l l' w r d e f q k =
    record {
      action_is = refl;
      computes_are = refl;
      visits_are = refl;
      leaves_are = q;
      waiting_are = down_by g by p b x down w r e f k;
      wanted_are = refl;
    }

-- the eight places of a visit in a symbol's word
pub visit_by : (kept : List ℕ) (x n v : ℕ) → v ≡ field (8 * n) (get_or kept x 0) → v ≡ of_visit kept x n
unfolding of_visit
visit_by kept x n v e = e

pub visits_by_table : (by : Kept) (x r : ℕ) → r ≡ get_or by.visits x 0 → r ≡ visits_in by x
unfolding visits_in
visits_by_table by x r e = e

-- a set of numbers below 64 has at most 64 members, so the sums fit
pub two_fit : (c v x y : ℕ) → x ≡ bits.count 64 c → y ≡ bits.count 64 v → Fits w64 (x + y)
two_fit c v x y e f = record { fits = omega (arith, count_le 64 c, count_le 64 v) }

pub three_few : (c v l x y z : ℕ) → x ≡ bits.count 64 c → y ≡ bits.count 64 v → z ≡ bits.count 64 l → x + y + z ≤ 192
three_few c v l x y z e f h = omega (arith, count_le 64 c, count_le 64 v, count_le 64 l)

pub three_fit : (c v l x y z : ℕ) → x ≡ bits.count 64 c → y ≡ bits.count 64 v → z ≡ bits.count 64 l → Fits w64 (x + y + z)
three_fit c v l x y z e f h = record { fits = omega (arith, three_few c v l x y z e f h) }

-- the sum of the three counts is how many actions are left
pub counted : (c v l x y z : ℕ) → x ≡ bits.count 64 c → y ≡ bits.count 64 v → z ≡ bits.count 64 l
    → x + y + z ≡ bits.count 64 c + bits.count 64 v + bits.count 64 l
counted c v l x y z e f h = omega (arith, e, f, h)
