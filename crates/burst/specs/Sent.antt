-- What the burst senders have before each frame: by this they follow the code. Nobody has to believe this file: it states why the senders work,
-- and the promise of the call does not speak of it.
-- Assumes nothing.
use Rattle.std.specs.Prelude.{ℕ, suc, ◌+◌, ◌^◌, ◌<◌, ◌≡◌, List, ◌++◌, get_or, drop}
use Rattle.bits.specs.Sums.{up_to, back}
use Rattle.bits.specs.Digits.{bit}
use Rattle.code.specs.Code.{digit, with_tail, sent_frame}
use Rattle.code.specs.Guarantees.{Guarantees}
use Rattle.code.specs.declared.Card.{Card}
use Rattle.burst.specs.Sums.{HasStreamSums}
use Rattle.burst.specs.Held.{coming_at}

-- the output has the frames before time t
abbrev pub SentUpTo : Card → List ℕ → List ℕ → ℕ → List ℕ → Type 0
SentUpTo c input output₀ t output = output ≡ up_to t (sent_frame c (with_tail c input)) ++ drop t output₀

-- a sender that is ready for the frame of a time gives it, and is ready for the next
abbrev pub SendsNext : {S : Type 0} → (Card → List ℕ → ℕ → S → Type 0) → S → ℕ → ℕ → S → Type 0
SendsNext {S} Ready sender info frame next =
    (c : Card) (input : List ℕ) (t : ℕ) → Guarantees c → info ≡ get_or input t 0 → Ready c input t sender
    → (frame ≡ sent_frame c (with_tail c input) t) × Ready c input (t + 1) next

-- one parity stream, ready for the frame of time t: the register has the parity digits to come
pub record ReadyWith (c : Card) (input : List ℕ) (t : ℕ) (sums : List ℕ) (k coming : ℕ) : Type 0 where
  pub one : c.p ≡ 1
  pub k_is : k ≡ c.k
  pub sums_are : HasStreamSums c.generators c.k 0 (2 ^ c.k) sums
  pub coming_held : (a : ℕ) → bit coming a ≡ coming_at c (with_tail c input) t 0 a

-- parity streams of every number, ready for the frame of time t: the registers have the information digits before t, that of time t - 1 - a at
-- place a
pub record ReadyBy (c : Card) (input : List ℕ) (t : ℕ) (generators : List ℕ) (k p : ℕ) (history : List ℕ) : Type 0 where
  pub generators_are : generators ≡ c.generators
  pub k_is : k ≡ c.k
  pub p_is : p ≡ c.p
  pub digit_at : (i a : ℕ) → i < c.k → a < 32 → bit (get_or history i 0) a ≡ back (digit (with_tail c input) i) t (suc a)
