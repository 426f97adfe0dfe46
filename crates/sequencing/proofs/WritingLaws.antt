-- The words of the sequence, action after action: what is written is the start of the construction, and what is left gives its rest.
-- The block then goes into the plan at its place. Assumes nothing.
use Prim.Native.Nat.{ℕ, suc, ◌+◌, ◌-◌, ◌≤◌, ◌<◌}
use mathlib.Core.Path.{◌≡◌, refl, sym, ◌∙◌, ap, ap₂}
use mathlib.Core.List.{List, [], ◌∷◌, ◌++◌, append_assoc, append-nil}
use native.Mathlib.Omega.{arith}
use lib.ListN.{length, set, take, drop, replicate, length-append}
use lib.Seq.{set_at, drop-drop}
use borrow.Rule.Slice.PartMut.{put_mid}
use Rattle.basics.specs.Lists.{padded}
use Rattle.bits.specs.Bit as bits
use Rattle.grammar.specs.Limits.{row_words, rule_words, longest_sequence}
use Rattle.relations.specs.Computed.{ids_of}
use Rattle.access.specs.ByPlace.{Shaped}
use Rattle.access.proofs.Accessors.{shaped_rule}
use Rattle.sequences.specs.Actions.{most_actions, actions_of}
use Rattle.sequences.specs.Follows.{follows}
use Rattle.sequences.specs.Order.{order, sequence_of}
use Rattle.sequences.proofs.ActionLaws.{at_most_104}
use Rattle.plans.specs.Buffers.{sequence_words}
use Rattle.sequencing.specs.Given.{RuleGiven, with_block}
use Rattle.remaining.specs.declared.ByVisit.{ByVisit as Kept}
use Rattle.remaining.specs.Remaining.{remains, remaining}
use Rattle.sequencing.specs.Blocked.{Unblocked}
use Rattle.sequencing.specs.Going.{Going, Taken}
use Rattle.remaining.specs.RuleSets.{Along, Started}
use Rattle.sequencing.proofs.GivenLaws.{five_visits}
use Rattle.sequencing.proofs.StartLaws.{starts_going, starts_along, starts_all, starts_count}

module _ (g s : List ℕ) (by : Kept) (rows : List ℕ) (p r : ℕ) where
  pub shaped_given : RuleGiven g s by rows p r → Shaped g p
  shaped_given given = shaped_rule g r p given.starts given.good given.counts

  -- after j actions, of n
  pub record Writing (n : ℕ) (block : List ℕ) (c v l w d q j : ℕ) : Type 0 where
    pub along : Along g by p v d
    pub quiet : Unblocked rows (row_words r) w c q
    pub inside : j ≤ n
    pub short : n ≤ most_actions
    pub left : length (remaining (remains c v l)) + j ≡ n
    pub going : Going g (ids_of g) s r (remains c v l) w
    pub out : List ℕ
    pub out_length : length out ≡ j
    pub block_is : block ≡ n ∷ (out ++ replicate (longest_sequence - j) 0)
    pub rest : sequence_of g (ids_of g) s r
        ≡ out ++ order (λ a b. follows g (ids_of g) s r a b) (n - j) (remaining (remains c v l))

  pub writing_start : (c v l w d q n : ℕ) → RuleGiven g s by rows p r → Started g by p c v l w d
      → n ≡ bits.count 64 c + bits.count 64 v + bits.count 64 l → Unblocked rows (row_words r) w c q
      → Writing n (n ∷ replicate longest_sequence 0) c v l w d q 0
  unfolding sequence_of
  writing_start c v l w d q n given started e quiet =
      let f : n ≡ length (remaining (remains c v l)) = e ∙ starts_count g s by rows p r given c v l w d started in
      let whole : n - 0 ≡ n = omega arith in
      let a : remaining (remains c v l) ≡ actions_of g s r = starts_all g s by rows p r given c v l w d started in
      record {
        along = starts_along g s by rows p r given c v l w d started;
        quiet = quiet;
        inside = omega arith;
        short = omega (arith, ap length a, at_most_104 g s r (five_visits g s by rows p r given));
        left = omega arith;
        going = starts_going g s by rows p r given c v l w d started;
        out = [];
        out_length = refl;
        block_is = refl;
        rest =
            sym (ap₂ (λ (m : ℕ) (xs : List ℕ). order (λ a b. follows g (ids_of g) s r a b) m xs) (whole ∙ (f ∙ ap length a)) a);
      }

  -- some action is left, and its word has room
  pub writing_left : (n : ℕ) (block : List ℕ) (c v l w d q j : ℕ) → Writing n block c v l w d q j → j < n → 1 ≤ length (remaining (remains c v l))
  writing_left n block c v l w d q j k h = omega (arith, k.left)

  pub writing_turn : (n : ℕ) (block : List ℕ) (c v l w d q j a c' v' l' w' d' q' : ℕ) → Writing n block c v l w d q j → j < n
      → Taken g (ids_of g) s r (remains c v l) a (remains c' v' l') w' → Along g by p v' d' → Unblocked rows (row_words r) w' c' q'
      → Writing n (set block (j + 1) a) c' v' l' w' d' q' (j + 1)
  writing_turn n block c v l w d q j a c' v' l' w' d' q' k h t along quiet =
      let more : longest_sequence - j ≡ suc (longest_sequence - (j + 1)) = omega (arith, k.short) in
      let steps : n - j ≡ suc (n - (j + 1)) = omega arith in
      record {
        along = along;
        quiet = quiet;
        inside = omega arith;
        short = k.short;
        left = omega (arith, k.left, t.fewer);
        going = t.going;
        out = k.out ++ (a ∷ []);
        out_length = length-append k.out (a ∷ []) ∙ omega (arith, k.out_length);
        block_is =
            ap (λ (b : List ℕ). set b (j + 1) a) k.block_is
            ∙ (ap (λ (m : ℕ). set (n ∷ (k.out ++ replicate m 0)) (j + 1) a) more
            ∙ (set_at (n ∷ k.out) 0 (replicate (longest_sequence - (j + 1)) 0) a (j + 1) (omega (arith, k.out_length))
            ∙ ap (λ (b : List ℕ). n ∷ b) (sym (append_assoc k.out (a ∷ []) (replicate (longest_sequence - (j + 1)) 0)))));
        rest =
            k.rest
            ∙ (ap (λ (m : ℕ). k.out ++ order (λ a b. follows g (ids_of g) s r a b) m (remaining (remains c v l))) steps
            ∙ (ap (λ (b : List ℕ). k.out ++ b) (t.next (n - (j + 1)))
            ∙ sym (append_assoc k.out (a ∷ []) (order (λ a b. follows g (ids_of g) s r a b) (n - (j + 1)) (remaining (remains c' v' l'))))));
      }

  pub writing_finish : (n : ℕ) (block : List ℕ) (c v l w d q j : ℕ) → Writing n block c v l w d q j → n ≤ j
      → block ≡ sequence_words (sequence_of g (ids_of g) s r)
  unfolding order sequence_words padded
  writing_finish n block c v l w d q j k h =
      let e : j ≡ n = omega (arith, k.inside) in
      let z : n - j ≡ 0 = omega arith in
      let all : sequence_of g (ids_of g) s r ≡ k.out =
      k.rest
      ∙ (ap (λ (m : ℕ). k.out ++ order (λ a b. follows g (ids_of g) s r a b) m (remaining (remains c v l))) z
      ∙ append-nil k.out) in
      let f : length k.out ≡ n = k.out_length ∙ e in
      let m : longest_sequence - j ≡ rule_words - suc (length k.out) = omega (arith, k.out_length) in
      k.block_is
      ∙ (ap (λ (m : ℕ). n ∷ (k.out ++ replicate m 0)) m
      ∙ (ap (λ (x : ℕ). x ∷ (k.out ++ replicate (rule_words - suc (length k.out)) 0)) (sym f)
      ∙ ap (λ (b : List ℕ). padded rule_words (length b ∷ b)) (sym all)))

-- the block is copied
pub block_put : (plan : List ℕ) (at : ℕ) (block next : List ℕ) → next ≡ block
    → put_mid at (at + length block - at) plan next ≡ with_block plan at block
unfolding with_block
block_put plan at block next e =
    let n : at + length block - at ≡ length block = omega arith in
    ap (λ (b : List ℕ). take at plan ++ (b ++ drop (at + length block - at) (drop at plan))) e
    ∙ ap (λ (d : List ℕ). take at plan ++ (block ++ d)) (ap (λ (k : ℕ). drop k (drop at plan)) n ∙ drop-drop (length block) at plan)

-- the block that is written is the sequence
pub sequence_written : (plan block sequence next : List ℕ) (at : ℕ) → block ≡ sequence → next ≡ with_block plan at block → next ≡ with_block plan at sequence
sequence_written plan block sequence next at e f = f ∙ ap (with_block plan at) e
