-- Which digits that are not decided yet are erased, by registers of every value: what `erased` computes. Nobody has to believe this file: the laws in
-- proofs/ErasedDigits.antt tie it to the erased digits of whole streams (`majority`, `Rule`).
-- Assumes nothing.
use Rattle.std.specs.Prelude.{ℕ, min, cond, List, eqb}
use Rattle.std.specs.Int.Bits.{bit_xor}
use Rattle.bits.specs.Digits.{shift_up}
use Rattle.code.specs.Registers.{with_digits, moved_on}

-- in which frames a digit is erased, with the marks f of a frame put in at place a
abbrev pub any_with : ℕ → ℕ → ℕ → ℕ
any_with any f a = bit_xor any (shift_up (min f 1) a)

-- the registers with the marks f of a frame put in at place a
abbrev pub erased_with : List ℕ → ℕ → ℕ → ℕ → List ℕ
erased_with y any f a = cond (eqb (any_with any f a) 0) y (with_digits y f a)

-- the registers for the next frame
abbrev pub erased_moved : List ℕ → ℕ → List ℕ
erased_moved y any = cond (eqb any 0) y (moved_on y)
