-- The tables of generator sums, entry by entry.
use Prim.Native.Nat.{ℕ, ◌+◌, ◌*◌, ◌%◌, ◌^◌, ◌≤◌, ◌<◌}
use mathlib.Core.Path.{◌≡◌, ap, ◌∙◌}
use mathlib.Core.List.{List, []}
use native.Mathlib.Omega.{arith}
use lib.ListN.{length, get_or, set}
use lib.Seq.{get_or-set_same, get_or-set_other}
use lib.Pow.{pow_mono, shl_exact}
use borrow.Author.Count.{below_more}
use Rattle.code.specs.Registers.{generator_sum}
use Rattle.burst.specs.Sums.{HasSums, HasStreamSums}

-- so many x have k digits: none of this is cut
pub size_is : (k : ℕ) → k ≤ 4 → 1 * 2 ^ k % 2 ^ 32 ≡ 2 ^ k
size_is k h = shl_exact {a = 1} 1 k 32 (omega arith) (omega arith) ∙ omega arith

-- one of them
pub turn-of : (k x : ℕ) → k ≤ 4 → x < 1 * 2 ^ k % 2 ^ 32 → (x < 2 ^ k) × (x < 16)
turn-of k x h l =
    let w : x < 2 ^ k = rw (size_is k h) at l in
    (w, omega (arith, pow_mono {i = k} {j = 4} h))

-- the sum of one x more
pub stream-more : (g : List ℕ) (k j : ℕ) (sums : List ℕ) (x : ℕ) {v : ℕ} → HasStreamSums g k j x sums → x < length sums → v ≡ generator_sum g k x j
    → HasStreamSums g k j (x + 1) (set sums x v)
stream-more g k j sums x {v} S l e =
    below_more _ x (λ y ly. get_or-set_other sums x y v 0 (λ q. omega arith) ∙ S y ly) (get_or-set_same sums x v 0 l ∙ e)

-- the table of one parity stream more
pub sums-more : (g : List ℕ) (k n j : ℕ) (sums : List (List ℕ)) (row : List ℕ) → HasSums g k j n sums → j < length sums → HasStreamSums g k j n row
    → HasSums g k (j + 1) n (set sums j row)
sums-more g k n j sums row S l e =
    below_more (λ i. HasStreamSums g k i n (get_or (set sums j row) i [])) j
    (λ i li x lx. ap (λ (r : List ℕ). get_or r x 0) (get_or-set_other sums j i row [] (λ q. omega arith)) ∙ S i li x lx)
    (λ x lx. ap (λ (r : List ℕ). get_or r x 0) (get_or-set_same sums j row [] l) ∙ e x lx)
