-- What a check touches and the pass over a whole check: document 02, R-3. The errors that the earlier checks of its stream touch are held in eight words.
-- An error (b, s) is that of stream s, b frames after the one that is decided (`code`, `Checks`).
-- Assumes nothing.
use Rattle.std.specs.Prelude.{ℕ, ◌-◌, ◌*◌, ◌≤◌, ◌<◌, min, max, ◌≡◌, List, [], get_or, take}
use Rattle.bits.specs.Digits.{bit}
use Rattle.code.specs.Checks.{touches_by, besides}
use Rattle.code.specs.Judging.{judge}
use Rattle.code.specs.declared.Card.{Card}

-- 1 if the error (b, s) is held: digit b of word s
unfoldable pub holds : List ℕ → ℕ → ℕ → ℕ
holds errors b s = bit (get_or errors s 0) b

-- the errors of stream s that a check with these masks touches, as the digits of a word
pub record Touched (c : Card) (mask : ℕ → ℕ) (s errors : ℕ) : Type 0 where
  pub touches_are : (b : ℕ) → b < 32 → bit errors b ≡ touches_by c mask b s

-- those of stream s that are in both words, other than that of the own digit of a check of stream i
pub record Clash (i s errors before both : ℕ) : Type 0 where
  pub both_are : (b : ℕ) → bit both b ≡ besides i b s * (bit errors b * bit before b)

-- "from the check and the errors that earlier ones of its stream touch, 8, else 9, else those errors with its own added"
pub record Passed (c : Card) (i : ℕ) (mask : ℕ → ℕ) (before : List ℕ) (number : ℕ) (after : List ℕ) : Type 0 where
  pub number_is : number ≡ judge c i mask (holds before)
  pub added : number ≡ 0 → (b s : ℕ) → b ≤ c.m → s < 8 → holds after b s ≡ max (holds before b s) (touches_by c mask b s)
  pub kept : (number ≡ 0 → ⊥) → after ≡ before

-- the code with these generators, k information and p parity streams; all 32 digits of a word lie within its memory
abbrev pub word_code : List ℕ → ℕ → ℕ → Card
word_code generators k p = record { number = 0; k = k; p = p; m = 31; generators = generators; counts = []; checks = [] }

-- how many information and parity streams there are words for
abbrev pub information_streams : ℕ → ℕ
information_streams k = min k 8

abbrev pub parity_streams : ℕ → ℕ → ℕ
parity_streams k p = min p (8 - information_streams k)

-- a check's masks, those of the first p parity streams
abbrev pub first_masks : ℕ → List ℕ → ℕ → ℕ
first_masks p masks j = get_or (take p masks) j 0
