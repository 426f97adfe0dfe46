-- A node put into a tree keeps the tree's length, and a tree is put together node after node.
-- Assumes nothing.
use Prim.Native.Nat.{ℕ, ◌+◌, ◌*◌, ◌≤◌, ◌<◌}
use mathlib.Core.Path.{◌≡◌, refl, sym, ◌∙◌, ap}
use mathlib.Core.List.{List}
use native.Mathlib.Omega.{arith}
use native.Mathlib.Numerals.{add-one}
use lib.ListN.{length, set, length-set}
use Rattle.scenarios.specs.Nodes.{Holds, put, line, lines, many_lines, links, long_chain}

pub put_holds : (n rule first second : ℕ) (t : List ℕ) → length t ≡ 8192
    → Holds (put n rule first second t) (set (set (set t (8 * n) rule) (8 * n + 1) first) (8 * n + 2) second)
unfolding put
put_holds n rule first second t e = record { is = refl; long = simp length-set e }

-- k links of the chain stand on the root that was put first
pub record Linked (start : List ℕ) (k : ℕ) (tree : List ℕ) : Type 0 where
  pub few : k ≤ 1022
  pub holds : Holds (links k start) tree

pub links_start : (start : List ℕ) → length start ≡ 8192 → Linked start 0 start
unfolding links
links_start start e = record { few = omega arith; holds = record { is = refl; long = e } }

pub links_turn : {start tree next : List ℕ} {k : ℕ} → Linked start k tree → k < 1022 → Holds (put (k + 1) 1 (k + 2) 0 tree) next → Linked start (k + 1) next
unfolding links
links_turn {start} {tree} {next} {k} w h p =
    record {
      few = omega arith;
      holds = record {
        is = p.is ∙ (ap (λ (t : List ℕ). put (k + 1) 1 (k + 2) 0 t) w.holds.is ∙ sym (ap (λ (n : ℕ). links n start) (add-one k)));
        long = p.long;
      };
    }

pub links_end : (lent start tree out : List ℕ) (k : ℕ) → Holds (put 0 0 1 0 lent) start → Linked start k tree → 1022 ≤ k → Holds (put 1023 2 0 0 tree) out
    → Holds (long_chain lent) out
unfolding long_chain
links_end lent start tree out k s w h p =
    let e : k ≡ 1022 = omega (arith, w.few) in
    record {
      is =
          p.is
          ∙ (ap (λ (t : List ℕ). put 1023 2 0 0 t) (w.holds.is ∙ ap (λ (n : ℕ). links n start) e)
          ∙ ap (λ (t : List ℕ). put 1023 2 0 0 (links 1022 t)) s.is);
      long = p.long;
    }

-- k lines of G's tree stand on it
pub record Lined (start : List ℕ) (k : ℕ) (tree : List ℕ) : Type 0 where
  pub few : k ≤ 510
  pub holds : Holds (lines k start) tree

pub lines_start : (start : List ℕ) → length start ≡ 8192 → Lined start 0 start
unfolding lines
lines_start start e = record { few = omega arith; holds = record { is = refl; long = e } }

pub line_holds : (k : ℕ) (tree middle next : List ℕ) → Holds (put (2 * k + 1) 1 (2 * k + 2) (2 * k + 3) tree) middle
    → Holds (put (2 * k + 2) 32770 0 0 middle) next → Holds (line k tree) next
unfolding line
line_holds k tree middle next m p = record { is = p.is ∙ ap (λ (t : List ℕ). put (2 * k + 2) 32770 0 0 t) m.is; long = p.long }

pub lines_turn : {start tree next : List ℕ} {k : ℕ} → Lined start k tree → k < 510 → Holds (line k tree) next → Lined start (k + 1) next
unfolding lines
lines_turn {start} {tree} {next} {k} w h p =
    record {
      few = omega arith;
      holds = record {
        is = p.is ∙ (ap (λ (t : List ℕ). line k t) w.holds.is ∙ sym (ap (λ (n : ℕ). lines n start) (add-one k)));
        long = p.long;
      };
    }

pub lines_end : (lent start tree last out : List ℕ) (k : ℕ) → Holds (put 0 0 1 0 lent) start → Lined start k tree → 510 ≤ k
    → Holds (put 1021 2 1022 0 tree) last → Holds (put 1022 32770 0 0 last) out → Holds (many_lines lent) out
unfolding many_lines
lines_end lent start tree last out k s w h l p =
    let e : k ≡ 510 = omega (arith, w.few) in
    record {
      is =
          p.is
          ∙ ap (λ (t : List ℕ). put 1022 32770 0 0 t)
          (l.is
          ∙ (ap (λ (t : List ℕ). put 1021 2 1022 0 t) (w.holds.is ∙ ap (λ (n : ℕ). lines n start) e)
          ∙ ap (λ (t : List ℕ). put 1021 2 1022 0 (lines 510 t)) s.is));
      long = p.long;
    }
