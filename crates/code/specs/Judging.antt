-- Whether a whole check stands beside the earlier ones of its stream: document 01, "Refused because of the input", 8 and 9.
-- `mask j` is the check's mask of parity stream j, and `touched b s` is above zero if an earlier check of its stream touches the error (b, s). In the rule
-- (`majority`, `Rule`) it is the digit (b, s) that is marked, as erased.
-- Assumes nothing.
use Rattle.std.specs.Prelude.{ℕ, suc, ◌+◌, ◌*◌, cond, eqb}
use Rattle.bits.specs.Sums.{sum_below}
use Rattle.code.specs.Checks.{touches_by, besides}
use Rattle.code.specs.declared.Card.{Card}

-- zero unless the check touches an error, other than that of its own digit, that an earlier one of its stream touches
unfoldable pub clashes : Card → ℕ → (ℕ → ℕ) → (ℕ → ℕ → ℕ) → ℕ
clashes c i mask touched = sum_below (suc c.m) (λ b. sum_below (c.k + c.p) (λ s. besides i b s * (touches_by c mask b s * touched b s)))

-- the refusal of a whole check of stream i, 0 for none; "8 is tested before 9"
unfoldable pub judge : Card → ℕ → (ℕ → ℕ) → (ℕ → ℕ → ℕ) → ℕ
judge c i mask touched = cond (eqb (touches_by c mask 0 i) 1) (cond (eqb (clashes c i mask touched) 0) 0 9) 8
