use Prim.Native.Nat.{ℕ, ◌+◌, ◌*◌, ◌%◌, ◌^◌, ◌≤◌, ◌<◌}
use mathlib.Core.Path.{◌≡◌, ap}
use native.Mathlib.Nat.{mod-lt, zero-lt-suc, lt_of_lt_of_le}
use native.Mathlib.Omega.{arith}
use lib.Bits.{bit_xor}
use lib.ListN.{get_or}
use lib.Pow.{pow_mono, shl_exact, shl_lt}
use Rattle.burst.proofs.OneParitySending.{ready-next}
use Rattle.burst.proofs.one_parity_send.OneParitySender.frame.Goals as goal

-- the digit in its place: nothing of it is lost, and the frame has room for it
placed : (x k : ℕ) → k ≤ 4 → (x % 2 * 2 ^ k % 2 ^ 32 ≡ x % 2 * 2 ^ k) × (x % 2 * 2 ^ k < 32)
placed x k h =
    let d : x % 2 < 2 ^ 1 = mod-lt x (zero-lt-suc 1) in
    (shl_exact 1 k 32 d (omega arith), lt_of_lt_of_le (shl_lt 1 k d) (pow_mono {i = 1 + k} {j = 5} (omega arith)))

pub returns : goal.returns
returns c = λ card input t G hf R.
    let s = c.args.self.now in
    let info = c.information-info.ensures in
    let coming = bit_xor s.coming (get_or s.sums.now c.information-info.result 0) in
    ready-next card G input t hf (ap (λ x. get_or s.sums.now x 0) info.0) (omega (arith, info.0, placed coming s.k s.k_most)) R
