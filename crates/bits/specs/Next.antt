-- What a call of `next` gives of a set's members. For proofs of the code: no demand rests on it. Assumes nothing.
use Rattle.std.specs.Prelude.{ℕ, ◌≡◌, MatchOption}
use Rattle.std.specs.declared.option.Option.{Option}
use Rattle.bits.specs.Bit.{First, remove}

-- with s left, r is the lowest member and t what is left then; with nothing left, r is none, and nothing is left
abbrev pub Next : ℕ → Option ℕ → ℕ → Type 0
Next s r t = MatchOption r ((s ≡ 0) × (t ≡ 0)) (λ a. First s a × (t ≡ remove a s))
