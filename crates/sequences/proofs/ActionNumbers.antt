-- Actions and their numbers: every number below 136 is the number of exactly one action, computes below 64, visits below 128, then the leaves.
-- Assumes nothing.
use Prim.Native.Nat.{ℕ, ◌+◌, ◌*◌, ◌-◌, ◌/◌, ◌%◌, ◌≤◌, ◌<◌}
use mathlib.Core.Path.{◌≡◌, refl, sym, ◌∙◌, ap}
use mathlib.Core.Logic.{⊎_elim}
use mathlib.Core.Bool.{not}
use native.Mathlib.Omega.{arith}
use lib.Dec.{T, ltb, ltb→lt, lt→ltb, not_T}
use Rattle.basics.proofs.TestLaws.{chosen, passed_over, below_or_not}
use Rattle.sequences.specs.Actions.{Action, compute, visit, leave, none, number_of, decode, action_numbers}

-- the actions that have a number: occurrences below 64, children below 8, visits and leaves from 1 to 8
abbrev pub InRange : Action → Type 0
InRange (compute o) = o < 64
InRange (visit i n) = (i < 8) × (1 ≤ n) × (n ≤ 8)
InRange (leave n) = (1 ≤ n) × (n ≤ 8)
InRange none = ⊥

-- a number that is not below another fails that test
at_least : (n m : ℕ) → m ≤ n → T (not (ltb n m))
at_least n m h = not_T (ltb n m) (λ t. omega (arith, ltb→lt n m t))

-- the action of a number, by its range: below 64 the computes
pub decode_compute : (n : ℕ) → n < 64 → decode n ≡ compute n
unfolding decode
decode_compute n h = chosen (ltb n 64) _ _ (lt→ltb n 64 h)

-- 64 to 127: the visits, eight to a child
pub decode_visit : (n : ℕ) → 64 ≤ n → n < 128 → decode n ≡ visit ((n - 64) / 8) (n % 8 + 1)
unfolding decode
decode_visit n h l =
    passed_over (ltb n 64) _ _ (at_least n 64 (omega arith)) ∙ chosen (ltb n 128) _ _ (lt→ltb n 128 l)

-- 128 to 135: the leaves
pub decode_leave : (n : ℕ) → 128 ≤ n → n < action_numbers → decode n ≡ leave (n - 128 + 1)
unfolding decode
decode_leave n h l =
    passed_over (ltb n 64) _ _ (at_least n 64 (omega arith))
    ∙ (passed_over (ltb n 128) _ _ (at_least n 128 (omega arith)) ∙ chosen (ltb n 136) _ _ (lt→ltb n 136 l))

-- from 136 on: none
pub decode_none : (n : ℕ) → action_numbers ≤ n → decode n ≡ none
unfolding decode
decode_none n h =
    passed_over (ltb n 64) _ _ (at_least n 64 (omega arith))
    ∙ (passed_over (ltb n 128) _ _ (at_least n 128 (omega arith))
    ∙ passed_over (ltb n 136) _ _ (at_least n 136 (omega arith)))

-- what the action of a number is, one case each
pub data Decoded (n : ℕ) : Type 0 where
  is_compute : (o : ℕ) → o < 64 → n ≡ number_of (compute o) → decode n ≡ compute o → Decoded n
  is_visit : (i m : ℕ) → i < 8 → 1 ≤ m → m ≤ 8 → n ≡ number_of (visit i m) → decode n ≡ visit i m → Decoded n
  is_leave : (m : ℕ) → 1 ≤ m → m ≤ 8 → n ≡ number_of (leave m) → decode n ≡ leave m → Decoded n
  is_none : action_numbers ≤ n → decode n ≡ none → Decoded n

-- every number is one of them
pub decoded : (n : ℕ) → Decoded n
decoded n =
    ⊎_elim (λ h. is_compute n h refl (decode_compute n h))
    (λ h.
    ⊎_elim
    (λ l. is_visit ((n - 64) / 8) (n % 8 + 1) (omega arith) (omega arith) (omega arith) (omega arith) (decode_visit n h l))
    (λ l.
    ⊎_elim (λ k. is_leave (n - 128 + 1) (omega arith) (omega arith) (omega arith) (decode_leave n l k))
    (λ k. is_none k (decode_none n k)) (below_or_not n 136))
    (below_or_not n 128))
    (below_or_not n 64)

-- the action of an action's number is that action
pub decode_number : (a : Action) → InRange a → decode (number_of a) ≡ a
decode_number (compute o) h = decode_compute o h
decode_number (visit i n) h =
    let e : (64 + 8 * i + (n - 1) - 64) / 8 ≡ i = omega arith in
    let f : (64 + 8 * i + (n - 1)) % 8 + 1 ≡ n = omega arith in
    decode_visit (64 + 8 * i + (n - 1)) (omega arith) (omega arith)
    ∙ (ap (λ (j : ℕ). visit j ((64 + 8 * i + (n - 1)) % 8 + 1)) e ∙ ap (λ (m : ℕ). visit i m) f)
decode_number (leave n) h =
    let e : 128 + (n - 1) - 128 + 1 ≡ n = omega arith in
    decode_leave (128 + (n - 1)) (omega arith) (omega arith) ∙ ap (λ (m : ℕ). leave m) e
decode_number none h = absurd h

-- a number below 136 is the number of its action
pub number_decode : (n : ℕ) → n < action_numbers → number_of (decode n) ≡ n
number_decode n h = go (decoded n)
  where
    go : Decoded n → number_of (decode n) ≡ n
    go (is_compute o l e d) = ap number_of d ∙ sym e
    go (is_visit i m l p q e d) = ap number_of d ∙ sym e
    go (is_leave m p q e d) = ap number_of d ∙ sym e
    go (is_none l d) = absurd (omega arith)

-- two numbers below 136 with one action are one
pub decode_injective : (m n : ℕ) → m < action_numbers → n < action_numbers → decode m ≡ decode n → m ≡ n
decode_injective m n h l e = sym (number_decode m h) ∙ (ap number_of e ∙ number_decode n l)
