-- Adding arcs to one row, with all that they lead on to, which is found first. Assumes nothing.
use Prim.Native.Nat.{ℕ, ◌<◌}
use mathlib.Core.Path.{◌≡◌, subst, subst⁻¹, ◌∙◌}
use mathlib.Core.Logic.{◌⊎◌, inl, inr, ⊎_elim}
use mathlib.Core.Bool.{not}
use mathlib.Core.List.{List}
use native.Mathlib.Omega.{arith}
use lib.Dec.{T, T_not}
use lib.ListN.{length, set, length-set}
use lib.Seq.{get_or-set_same, get_or-set_other}
use Rattle.bits.specs.Bit.{hasb, remove, union, First}
use Rattle.bits.proofs.BitLaws.{bit_has}
use Rattle.bits.proofs.MemberLaws.{union_cases, union_left, union_right, none_left}
use Rattle.basics.specs.Lists.{word}
use Rattle.basics.proofs.TestLaws.{true_T}
use Rattle.closing.specs.Rows.{leads, Reached, Extended}
use Rattle.closing.proofs.RewriteLaws.{still, gone}

-- The members of a set, and all that those lead to which are no longer left: the invariant of the loop over them.
pub record Reaching (rows : List ℕ) (set reached left : ℕ) : Type 0 where
  pub within : (b : ℕ) → T (hasb b left) → T (hasb b set)
  pub own : (b : ℕ) → T (hasb b set) → T (hasb b reached)
  pub has : (b x : ℕ) → T (hasb b set) → T (not (hasb b left)) → T (leads rows b x) → T (hasb x reached)
  pub sound : (x : ℕ) → T (hasb x reached) → T (hasb x set) ⊎ ((b : ℕ) × T (hasb b set) × T (leads rows b x))

module _ (rows : List ℕ) (set : ℕ) where
  pub reaching_start : (left : ℕ) → left ≡ set → Reaching rows set set left
  reaching_start left e =
      subst⁻¹ (λ (y : ℕ). Reaching rows set set y) e
      (record { within = λ b t. t; own = λ b t. t; has = λ b x t n l. absurd (T_not (hasb b set) n t); sound = λ x t. inl t })

  pub reaching_turn : (reached left b next more : ℕ) → Reaching rows set reached left → First left b
      → next ≡ remove b left → more ≡ union reached (word rows b) → Reaching rows set more next
  unfolding leads
  reaching_turn reached left b next more w f e h =
      record {
        within = λ c t. w.within c (still b left c (subst (λ (y : ℕ). T (hasb c y)) e t));
        own = λ c t. grown c (union_left c reached (word rows b) (w.own c t));
        has = λ c x t n l.
            grown x
            (⊎_elim (λ q. union_right x reached (word rows b) (subst (λ (y : ℕ). T (hasb x (word rows y))) q l))
            (λ q. union_left x reached (word rows b) (w.has c x t q l))
            (gone b left c (subst (λ (y : ℕ). T (not (hasb c y))) e n)));
        sound = λ x t.
            ⊎_elim (λ l. w.sound x l) (λ l. inr (b, w.within b (true_T _ (bit_has b left f.member)), l))
            (union_cases x reached (word rows b) (subst (λ (y : ℕ). T (hasb x y)) h t));
      }
    where
      grown : (x : ℕ) → T (hasb x (union reached (word rows b))) → T (hasb x more)
      grown x t = subst⁻¹ (λ (y : ℕ). T (hasb x y)) h t

  pub reaching_finish : (reached left : ℕ) → Reaching rows set reached left → left ≡ 0 → Reached rows set reached
  reaching_finish reached left w e =
      record {
        own = w.own;
        has = λ b x t l. w.has b x t (subst⁻¹ (λ (y : ℕ). T (not (hasb b y))) e (none_left b)) l;
        sound = w.sound;
      }

-- the row with all that is reached
pub extended_row : (rows : List ℕ) (o to reached v : ℕ) → length rows ≡ 64 → o < 64 → Reached rows to reached
    → v ≡ union (word rows o) reached → Extended rows o to (set rows o v)
unfolding leads
extended_row rows o to reached v room h w e =
    record {
      size = length-set rows o v;
      others = λ j n. get_or-set_other rows o j v 0 n;
      keeps = λ x t. here x (union_left x (word rows o) reached t);
      own = λ b t. here b (union_right b (word rows o) reached (w.own b t));
      has = λ b x t l. here x (union_right x (word rows o) reached (w.has b x t l));
      sound = λ x t.
          ⊎_elim (λ l. inl l) (λ l. inr (w.sound x l))
          (union_cases x (word rows o) reached (subst (λ (y : ℕ). T (hasb x y)) row t));
    }
  where
    row : word (set rows o v) o ≡ union (word rows o) reached
    row = get_or-set_same rows o v 0 (omega arith) ∙ e

    here : (x : ℕ) → T (hasb x (union (word rows o) reached)) → T (hasb x (word (set rows o v) o))
    here x t = subst⁻¹ (λ (y : ℕ). T (hasb x y)) row t
