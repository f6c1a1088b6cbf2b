-- What the registers of the burst receiver hold of a stream: by this they follow the rule. Nobody has to believe this file: it states why the
-- receiver works, and its promise does not speak of it.
-- Assumes nothing.
use Rattle.std.specs.Prelude.{ℕ, suc, ◌+◌, ◌-◌, ◌*◌, ◌/◌, ◌%◌, ◌^◌, ◌<◌, ◌≡◌, cond, List, length, get_or, leb, ltb}
use Rattle.std.specs.Int.Bits.{bit_xor}
use Rattle.bits.specs.Sums.{sum_below, back}
use Rattle.bits.specs.Digits.{bit}
use Rattle.code.specs.Code.{generator, digit}
use Rattle.code.specs.Guarantees.{Guarantees}
use Rattle.code.specs.declared.Card.{Card}
use Rattle.majority.specs.Rule.{cleared, corrected}
use Rattle.majority.specs.Plain.{decided}
use Rattle.burst.specs.Sums.{HasStreamSums}
use Rattle.burst.specs.Registers.{written, in_one, HasPuts}
use Rattle.burst.specs.declared.registers.Registers.{Registers}

-- the part of parity digit j at t + a that the information digits of times before t give
unfoldable pub coming_at : Card → List ℕ → ℕ → ℕ → ℕ → ℕ
coming_at c frames t j a = sum_below c.k (λ i. sum_below (suc c.m) (λ b. generator c i j (suc a + b) * back (digit frames i) t (suc b))) % 2

-- the syndrome of time t - (m - a), the errors decided before t - m taken out
unfoldable pub syndrome_held : Card → List ℕ → ℕ → ℕ → ℕ → ℕ
syndrome_held c frames t j a = back (λ v. cleared c frames (decided c frames (t - c.m)) v j) t (c.m - a)

-- the registers before the frame of time t: syndromes at places 1 to m, that of time t - 1 at m
pub record Before (c : Card) (frames : List ℕ) (t : ℕ) (r : Registers) : Type 0 where
  pub coming_held : (j a : ℕ) → j < c.p → bit (get_or r.coming j 0) a ≡ coming_at c frames t j a
  pub held_at : (j a : ℕ) → j < c.p → bit (get_or r.syndromes j 0) (suc a) ≡ cond (ltb a c.m) (syndrome_held c frames t j a) 0

-- the registers with the frame of time t: syndromes at places 0 to m, that of time t at m
pub record With (c : Card) (frames : List ℕ) (t : ℕ) (r : Registers) : Type 0 where
  pub coming_held : (j a : ℕ) → j < c.p → bit (get_or r.coming j 0) a ≡ coming_at c frames (suc t) j a
  pub held_at : (j a : ℕ) → j < c.p → bit (get_or r.syndromes j 0) a ≡ cond (leb a c.m) (syndrome_held c frames t j a) 0

-- with u frames handed out: the registers are ready for the frame m later, and those stand in front of what the output was
pub record Handing (c : Card) (frames output₀ : List ℕ) (u : ℕ) (r : Registers) (output : List ℕ) : Type 0 where
  pub ready : Before c frames (u + c.m) r
  pub handed : output ≡ written u (corrected c frames (decided c frames (length frames - c.m))) output₀

-- ---- one parity stream

-- the card has one, and the table has what each frame puts into the word
pub record OneParity (c : Card) (puts : List ℕ) : Type 0 where
  pub guaranteed : Guarantees c
  pub one : c.p ≡ 1
  pub sums : List ℕ
  pub sums_are : HasStreamSums c.generators c.k 0 (2 ^ c.k) sums
  pub puts_are : HasPuts sums c.k c.m (2 ^ (c.k + 1)) puts

-- the frames before frame u are handed out: the word of these then had the frame m later taken in, if there is one
abbrev pub Through : Card → List ℕ → List ℕ → List ℕ → ℕ → ℕ → List ℕ → Type 0
Through c puts frames output₀ next u output =
    (word : ℕ) × (u + c.m < length frames → next ≡ bit_xor (word / 2) (get_or puts (get_or frames (u + c.m) 0) 0)) × Handing c frames output₀ u (in_one c.m word) output
