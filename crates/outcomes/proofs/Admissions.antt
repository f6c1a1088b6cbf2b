-- The bursts at the edge of each refusal, by what their card is read as.
use Prim.Native.Nat.{ℕ, zero, suc, ◌+◌, ◌-◌, ◌^◌, ◌≤◌}
use mathlib.Core.Path.{◌≡◌, refl, sym, ap, ◌∙◌}
use mathlib.Core.Bool.{Bool, true, false}
use mathlib.Core.List.{List}
use native.Mathlib.Nat.{le_refl}
use native.Mathlib.Omega.{arith}
use lib.ListN.{length, replicate, length-replicate}
use lib.Dec.{leb}
use Rattle.bits.specs.Digits.{any_beyond}
use Rattle.code.specs.Bench.{P, Wide}
use Rattle.code.specs.Code.{most_frames}
use Rattle.code.specs.declared.Card.{Card}
use Rattle.card.specs.Bench.{card_p, card_wide}
use Rattle.card.specs.Outcome.{CardOutcome}
use Rattle.card.specs.Outcome.Outcome.{accepted}
use Rattle.card.specs.Reading.{read_card}
use Rattle.card.proofs.RefusedCard.{not-both}
use Rattle.outcomes.specs.Claims.{Admitted}
use Rattle.outcomes.specs.Admissions.{Admissions}
use Rattle.outcomes.proofs.ReadCards.{read-P, read-short-P, read-Wide}

-- ---- bytes that are read as the card c
module _ (bytes : List ℕ) (c : Card) (read : read_card bytes ≡ record { outcome = accepted; card = c }) where
  memory : (read_card bytes).card.m ≡ c.m
  memory = ap (λ (r : CardOutcome). r.card.m) read

  streams : (input : List ℕ) → any_beyond ((read_card bytes).card.k + (read_card bytes).card.p) input ≡ any_beyond (c.k + c.p) input
  streams input = ap (λ (r : CardOutcome). any_beyond (r.card.k + r.card.p) input) read

  not_beyond : {input output : List ℕ} → Admitted bytes input output → any_beyond (c.k + c.p) input ≡ true → ⊥
  not_beyond {input} a e =
      let q : ◌≡◌ {A = Bool} true false = sym e ∙ sym (streams input) ∙ a.within_streams in
      let z : ◌≡◌ {A = ℕ} 0 1 = cc in
      omega arith

  -- a burst that keeps the limits
  admitted : (input output : List ℕ) → length input ≤ most_frames → length input - c.m ≤ length output → any_beyond (c.k + c.p) input ≡ false
      → Admitted bytes input output
  admitted input output few room within =
      let m = memory in
      record {
        card_accepted = ap (λ (r : CardOutcome). r.outcome) read;
        few_enough = few;
        output_long_enough = omega arith;
        within_streams = streams input ∙ within;
      }

pub admitted-P : (input output : List ℕ) → length input ≤ most_frames → length input - 1 ≤ length output → any_beyond 2 input ≡ false → Admitted card_p input output
admitted-P = admitted card_p P read-P

-- ---- as many frames as there may be, for any number: a list of a million is not to be looked at
zeros_within : (s : ℕ) → leb (2 ^ s) 0 ≡ false → (n : ℕ) → any_beyond s (replicate n 0) ≡ false
unfolding any_beyond
zeros_within s none zero = refl
zeros_within s none (suc n) = rw none (zeros_within s none n)

module _ (bytes : List ℕ) (n room : ℕ) where
  zeros-admitted : (c : Card) → read_card bytes ≡ record { outcome = accepted; card = c } → leb (2 ^ (c.k + c.p)) 0 ≡ false → n ≤ most_frames → n - c.m ≤ room
      → Admitted bytes (replicate n 0) (replicate room 0)
  zeros-admitted c read none few enough =
      let many : length (replicate {A = ℕ} n 0) ≡ n = length-replicate n 0 in
      let long : length (replicate {A = ℕ} room 0) ≡ room = length-replicate room 0 in
      admitted bytes c read (replicate n 0) (replicate room 0) (omega arith) (omega arith) (zeros_within (c.k + c.p) none n)

  zeros-few : Admitted bytes (replicate n 0) (replicate room 0) → n ≤ most_frames
  zeros-few a =
      let many : length (replicate {A = ℕ} n 0) ≡ n = length-replicate n 0 in
      omega (arith, a.few_enough)

not-one_more : (n : ℕ) → suc n ≤ n → ⊥
not-one_more n l = omega arith

-- ---- the rows
pub admissions : Admissions
unfolding any_beyond
admissions =
    let m = memory card_p P read-P in
    let w = memory card_wide Wide read-Wide in
    record {
      room = admitted-P _ _ (omega arith) (omega arith) refl;
      no_room = λ a. omega arith;
      third_stream = λ a. not_beyond card_p P read-P a refl;
      most = zeros-admitted card_p 1048576 1048576 P read-P refl (le_refl 1048576) (omega arith);
      one_more = λ a. not-one_more 1048576 (zeros-few card_p 1048577 1048577 a);
      card_cut = λ a. not-both a.card_accepted read-short-P;
      wide_room = admitted card_wide Wide read-Wide _ _ (omega arith) (omega arith) refl;
      wide_no_room = λ a. omega arith;
      seventh_stream = λ a. not_beyond card_wide Wide read-Wide a refl;
      wide_most = zeros-admitted card_wide 1048576 1048574 Wide read-Wide refl (le_refl 1048576) (le_refl 1048574);
      wide_one_more = λ a. not-one_more 1048576 (zeros-few card_wide 1048577 1048577 a);
    }
