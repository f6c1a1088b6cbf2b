-- One turn of the loop that takes a frame in: the values that it writes are those of the registers by definition.
use Prim.Native.Nat.{ℕ, ◌+◌, ◌/◌, ◌%◌, ◌^◌, ◌<◌}
use mathlib.Core.Path.{◌≡◌, ap, ap₂, ◌∙◌}
use mathlib.Core.List.{List, []}
use native.Mathlib.Nat.{le_refl}
use lib.ListN.{length, get_or, set}
use lib.Bits.{bit_or, bit_xor}
use Rattle.bits.specs.Digits.{shift_up}
use Rattle.bits.proofs.Words.{none_more}
use Rattle.bits.proofs.Lists.{part_step, part-rest}
use Rattle.burst.specs.Registers.{registers, parity_with, coming_next, syndromes_next, written}
use Rattle.burst.specs.declared.registers.Registers.{Registers}

module _ (sums : List (List ℕ)) (coming₀ : List ℕ) (k f j : ℕ) where
  parity-is : {coming : List ℕ} {x : ℕ} → coming ≡ written j (coming_next sums coming₀ k f) coming₀ → x ≡ f % 2 ^ k
      → bit_xor (get_or coming j 0) (get_or (get_or sums j []) x 0) ≡ parity_with sums coming₀ k f j
  unfolding parity_with
  parity-is e q =
      ap₂ (λ a b. bit_xor a (get_or (get_or sums j []) b 0)) (ap (λ l. get_or l j 0) e ∙ part-rest (coming_next sums coming₀ k f) coming₀ j j (le_refl j)) q

  coming-step : {x : ℕ} → x ≡ parity_with sums coming₀ k f j → x / 2 ≡ coming_next sums coming₀ k f j
  unfolding coming_next
  coming-step e = ap (λ a. a / 2) e

module _ (sums : List (List ℕ)) (coming₀ syndromes₀ : List ℕ) (k m f j : ℕ) where
  register-is : {x w : ℕ} {syndromes : List ℕ} → x ≡ parity_with sums coming₀ k f j
      → syndromes ≡ written j (syndromes_next sums coming₀ syndromes₀ k m f) syndromes₀ → w ≡ f
      → bit_xor (get_or syndromes j 0 / 2) (shift_up (bit_xor x (w / 2 ^ k / 2 ^ j) % 2) m) ≡ syndromes_next sums coming₀ syndromes₀ k m f j
  unfolding syndromes_next
  register-is {x} e q r =
      ap₂ (λ a b. bit_xor (a / 2) (shift_up (bit_xor x (b / 2 ^ k / 2 ^ j) % 2) m))
      (ap (λ l. get_or l j 0) q ∙ part-rest (syndromes_next sums coming₀ syndromes₀ k m f) syndromes₀ j j (le_refl j)) r
      ∙ ap (λ a. bit_xor (get_or syndromes₀ j 0 / 2) (shift_up (bit_xor a (f / 2 ^ k / 2 ^ j) % 2) m)) e

-- what the loop keeps: the frame is taken into the registers of the parity streams that it passed
pub record TakingIn (sums : List (List ℕ)) (k m f : ℕ) (before now : Registers) (held j : ℕ) : Type 0 where
  pub coming_is : now.coming ≡ written j (coming_next sums before.coming k f) before.coming
  pub syndromes_is : now.syndromes ≡ written j (syndromes_next sums before.coming before.syndromes k m f) before.syndromes
  pub none_held : held ≡ 0 → (b : ℕ) → b < j → syndromes_next sums before.coming before.syndromes k m f b ≡ 0

-- one parity stream more
pub taking-more : {sums : List (List ℕ)} {k m f : ℕ} {before now : Registers} {held j info w r : ℕ}
    → TakingIn sums k m f before now held j → j < length before.coming → j < length before.syndromes → info ≡ f % 2 ^ k → w ≡ f
    → r ≡ bit_xor (get_or now.syndromes j 0 / 2) (shift_up (bit_xor (bit_xor (get_or now.coming j 0) (get_or (get_or sums j []) info 0)) (w / 2 ^ k / 2 ^ j) % 2) m)
    → TakingIn sums k m f before
    (registers (set now.coming j (bit_xor (get_or now.coming j 0) (get_or (get_or sums j []) info 0) / 2)) (set now.syndromes j r)) (bit_or held r) (j + 1)
taking-more {sums} {k} {m} {f} {before} {now} {held} {j} v hc hs ei ew er =
    let parity = parity-is sums before.coming k f j v.coming_is ei in
    let register = er ∙ register-is sums before.coming before.syndromes k m f j parity v.syndromes_is ew in
    record {
      coming_is = part_step (coming_next sums before.coming k f) before.coming j now.coming _ hc v.coming_is (coming-step sums before.coming k f j parity);
      syndromes_is = part_step (syndromes_next sums before.coming before.syndromes k m f) before.syndromes j now.syndromes _ hs v.syndromes_is register;
      none_held = none_more (syndromes_next sums before.coming before.syndromes k m f) j held register v.none_held;
    }
