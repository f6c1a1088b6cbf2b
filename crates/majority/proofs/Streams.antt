-- The streams of the rule: how many errors are decided and frames handed out, and that what is decided stays.
use Prim.Native.Nat.{ℕ, ◌-◌, ◌≤◌, ◌<◌, min}
use mathlib.Core.Path.{◌≡◌, ap, ◌∙◌}
use mathlib.Core.Logic.{⊎_elim}
use mathlib.Core.Bool.{cond}
use mathlib.Core.List.{List}
use native.Mathlib.Omega.{arith}
use lib.ListN.{length, get_or}
use lib.Dec.{ltb}
use borrow.Author.Tests.{lt-ltb, le-ltb}
use Rattle.bits.specs.Digits.{bit}
use Rattle.bits.proofs.Cases.{le-or-lt}
use Rattle.bits.proofs.Digits.{bit-from_digits}
use Rattle.bits.proofs.Lists.{up_to-length, up_to-at, grown-length, grown-at}
use Rattle.code.specs.Code.{digit}
use Rattle.code.specs.declared.Card.{Card}
use Rattle.code.proofs.Frames.{digit-out}
use Rattle.majority.specs.Rule.{decide, decide_frame, decided, corrected, decoded}

-- the answer of a test as a number, which `omega` reads
pub test-as-number : (x y : ℕ) → cond (ltb x y) 1 0 ≡ min 1 (y - x)
test-as-number x y =
    ⊎_elim (λ (l : y ≤ x). rw (le-ltb x y l) (omega arith)) (λ (l : x < y). rw (lt-ltb x y l) (omega arith)) (le-or-lt y x)

module _ (c : Card) (frames erased : List ℕ) where
  pub decide-le : (errors : List ℕ) (u i : ℕ) → decide c frames erased errors u i ≤ 1
  unfolding decide
  decide-le errors u i = rw test-as-number (omega arith)

  -- the digits of a frame of decided errors
  pub decide_frame-bit : (errors : List ℕ) (u i : ℕ) → i < c.k → bit (decide_frame c frames erased errors u) i ≡ decide c frames erased errors u i
  unfolding decide_frame
  decide_frame-bit errors u i l = bit-from_digits c.k (decide c frames erased errors u) (λ s ls. omega (arith, decide-le errors u s)) i l

  pub decided-length : (n : ℕ) → length (decided c frames erased n) ≡ n
  unfolding decided
  decided-length n = grown-length (decide_frame c frames erased) n

  -- a decided error stays
  pub decided-at : (n u : ℕ) → u < n → get_or (decided c frames erased n) u 0 ≡ decide_frame c frames erased (decided c frames erased u) u
  unfolding decided
  decided-at n u l = grown-at (decide_frame c frames erased) n u l

  -- its digits, as they were decided ..
  pub decided-digit : (n u i : ℕ) → u < n → i < c.k → digit (decided c frames erased n) i u ≡ decide c frames erased (decided c frames erased u) u i
  unfolding digit
  decided-digit n u i l li = ap (λ x. bit x i) (decided-at n u l) ∙ decide_frame-bit (decided c frames erased u) u i li

  -- .. and none from the frame on that is yet to be decided
  pub decided-none : (n u i : ℕ) → n ≤ u → digit (decided c frames erased n) i u ≡ 0
  decided-none n u i l = digit-out (decided c frames erased n) i u (omega (arith, decided-length n))

  pub decoded-length : length (decoded c frames erased) ≡ length frames - c.m
  unfolding decoded
  decoded-length = up_to-length (length frames - c.m) _

  pub decoded-at : (u : ℕ) → u < length frames - c.m → get_or (decoded c frames erased) u 0 ≡ corrected c frames (decided c frames erased (length frames - c.m)) u
  unfolding decoded
  decoded-at u l = up_to-at (length frames - c.m) _ u l
