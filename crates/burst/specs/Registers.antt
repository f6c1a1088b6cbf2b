-- The burst receiver by registers: what its functions compute, for tables and registers of every value. Nobody has to believe this file: the
-- laws in proofs/ tie it to the rule on whole streams (`majority`, `Rule`).
-- Assumes nothing.
use Rattle.std.specs.Prelude.{ℕ, ◌+◌, ◌*◌, ◌/◌, ◌%◌, ◌^◌, ◌≤◌, ◌<◌, ◌≡◌, ◌⊎◌, List, [], ◌∷◌, ◌++◌, length, get_or, drop, replicate}
use Rattle.std.specs.Int.Bits.{bit_xor}
use Rattle.bits.specs.Sums.{up_to}
use Rattle.bits.specs.Digits.{shift_up}
use Rattle.code.specs.Limits.{check_words}
use Rattle.vote.specs.Voting.{decide_by_all}
use Rattle.burst.specs.declared.registers.Registers.{Registers}

-- the registers of these parity digits to come, and of the syndromes held
abbrev pub registers : List ℕ → List ℕ → Registers
registers coming syndromes = record { coming = coming; syndromes = syndromes }

-- register j of the parity to come, with the information digits of frame f
unfoldable pub parity_with : List (List ℕ) → List ℕ → ℕ → ℕ → ℕ → ℕ
parity_with sums coming k f j = bit_xor (get_or coming j 0) (get_or (get_or sums j []) (f % 2 ^ k) 0)

-- the same for the next frame
unfoldable pub coming_next : List (List ℕ) → List ℕ → ℕ → ℕ → ℕ → ℕ
coming_next sums coming k f j = parity_with sums coming k f j / 2

-- syndrome register j with the syndrome of frame f put in at place m
unfoldable pub syndromes_next : List (List ℕ) → List ℕ → List ℕ → ℕ → ℕ → ℕ → ℕ → ℕ
syndromes_next sums coming syndromes k m f j =
    bit_xor (get_or syndromes j 0 / 2) (shift_up (bit_xor (parity_with sums coming k f j) (f / 2 ^ k / 2 ^ j) % 2) m)

-- an array whose first p entries are f 0, .., f (p - 1)
abbrev pub written : ℕ → (ℕ → ℕ) → List ℕ → List ℕ
written p f l = up_to p f ++ drop p l

-- what the registers of p parity streams are after frame f, and that what is handed back is zero only if all of them are
pub record TakenIn (sums : List (List ℕ)) (k p m f : ℕ) (before after : Registers) (held : ℕ) : Type 0 where
  pub coming_is : after.coming ≡ written p (coming_next sums before.coming k f) before.coming
  pub syndromes_is : after.syndromes ≡ written p (syndromes_next sums before.coming before.syndromes k m f) before.syndromes
  pub none_held : held ≡ 0 → (j : ℕ) → j < p → syndromes_next sums before.coming before.syndromes k m f j ≡ 0

-- syndrome register j with the errors e taken out
unfoldable pub taken_out : List (List ℕ) → List ℕ → ℕ → ℕ → ℕ
taken_out sums syndromes e j = bit_xor (get_or syndromes j 0) (get_or (get_or sums j []) e 0)

-- the errors decided, if the table of checks is whole, and the registers after them: as they were if there are none, else with the errors taken out
pub record Corrected (sums : List (List ℕ)) (counts checks : List ℕ) (k p : ℕ) (before after : Registers) (errors : ℕ) : Type 0 where
  pub errors_are : check_words ≤ length checks → errors ≡ decide_by_all counts checks before.syndromes k p
  pub errors_lt : errors < 16
  pub coming_same : after.coming ≡ before.coming
  pub after_is : ((errors ≡ 0) × (after.syndromes ≡ before.syndromes)) ⊎ (after.syndromes ≡ written p (taken_out sums before.syndromes errors) before.syndromes)

-- no register from the p-th on has a 1
abbrev pub NoneFrom : ℕ → List ℕ → Type 0
NoneFrom p registers = (j : ℕ) → p ≤ j → get_or registers j 0 ≡ 0

-- each of the k streams has so many checks
abbrev pub AtLeast : List ℕ → ℕ → ℕ → Type 0
AtLeast counts k least = (i : ℕ) → i < k → least ≤ get_or counts i 0

-- streams 1 to k of a frame, the errors e added
unfoldable pub corrected_by : ℕ → ℕ → ℕ → ℕ
corrected_by f k e = bit_xor (f % 2 ^ k) e

-- no frame has a digit at stream n or beyond
abbrev pub AllWithin : ℕ → List ℕ → Type 0
AllWithin n frames = (t : ℕ) → t < length frames → get_or frames t 0 < 2 ^ n

-- ---- one parity stream, its two registers in one word: the syndromes in places 0 to m, the parity digits to come above them
abbrev pub in_one : ℕ → ℕ → Registers
in_one m word = registers (word / 2 ^ (m + 1) ∷ replicate 7 0) (word % 2 ^ (m + 1) ∷ replicate 7 0)

-- what frame f puts into the word: the generators of its information digits and its parity digit, from place m on
unfoldable pub put_of : List ℕ → ℕ → ℕ → ℕ → ℕ
put_of sums k m f = bit_xor (get_or sums (f % 2 ^ k) 0) (f / 2 ^ k % 2) * 2 ^ m

-- the table has what each frame below n puts in
abbrev pub HasPuts : List ℕ → ℕ → ℕ → ℕ → List ℕ → Type 0
HasPuts sums k m n puts = (f : ℕ) → f < n → get_or puts f 0 ≡ put_of sums k m f
