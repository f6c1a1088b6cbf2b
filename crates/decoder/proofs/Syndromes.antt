-- What is read off the syndrome registers: whether a vote is needed, and the ones in them.
use Prim.Native.Nat.{ℕ, zero, suc, ◌+◌, ◌*◌, ◌^◌, ◌≤◌, ◌<◌}
use mathlib.Core.Path.{◌≡◌, refl, ap, ap₂, ◌∙◌}
use mathlib.Core.List.{List}
use native.Mathlib.Nat.{zero-add}
use native.Mathlib.Omega.{arith}
use lib.Count.{ones, ones-le}
use lib.ListN.{length, get_or, take}
use lib.Seq.{take-suc}
use Rattle.std.specs.List.{sum_by}
use Rattle.std.proofs.lemmas.List.Sums.{sum_by-append}
use Rattle.bits.specs.Sums.{sum_below}
use Rattle.bits.proofs.Sums.{sum_mono, sum-const}
use Rattle.code.specs.declared.Sizes.{Sizes}
use Rattle.vote.specs.Voters.{decide_marked}
use Rattle.vote.proofs.Voting.{decide-none}
use Rattle.decoder.specs.Held.{ones_by}

-- without a syndrome that is 1 no error is decided
pub errors-none : (g counts checks y erased : List ℕ) (any : ℕ) (z : Sizes) → ((j : ℕ) → j < z.p → get_or y j 0 ≡ 0) → decide_marked g counts checks y erased any z ≡ 0
unfolding decide_marked
errors-none g counts checks y erased any z none = decide-none checks y z.p none _ _ z.k

module _ (y : List ℕ) where
  -- the ones of the first p registers, counted one register after the other
  pub ones-counted : (p : ℕ) → p ≤ length y → sum_by ones (take p y) ≡ ones_by y p
  unfolding ones_by sum_below
  ones-counted zero h = refl
  ones-counted (suc p) h =
      ap (sum_by ones) (take-suc y p 0 h) ∙ sum_by-append ones (take p y) _ ∙ ap₂ ◌+◌ (ones-counted p (omega arith)) (zero-add (ones (get_or y p 0)))

  -- at most 32 in each
  pub ones-most : (p : ℕ) → ((i : ℕ) → get_or y i 0 < 2 ^ 32) → ones_by y p ≤ p * 32
  unfolding ones_by
  ones-most p words = omega (arith, sum_mono p (λ j. ones (get_or y j 0)) (λ j. 32) (λ j l. ones-le 32 _ (words j)), sum-const p 32)
