-- The streams at the edge of the condition of the larger cards, by computing its two numbers for each digit.
use Prim.Native.Nat.{ℕ, zero, suc, ◌<◌}
use mathlib.Core.Path.{◌≡◌, refl}
use mathlib.Core.List.{List, [], ◌∷◌, ◌++◌}
use native.Mathlib.Omega.{arith}
use lib.ListN.{replicate}
use Rattle.bits.specs.Sums.{sum_below, up_to, back}
use Rattle.bits.specs.Digits.{bit, from_digits}
use Rattle.code.specs.Bench.{Six, Wide}
use Rattle.code.specs.Code.{generator, digit, parity_at, with_tail, sent_digit, sent_frame, sent}
use Rattle.code.specs.Checks.{count, check_mask, touches_info, touches_by, touches, besides}
use Rattle.code.specs.Judging.{clashes}
use Rattle.majority.specs.Rule.{voting}
use Rattle.majority.specs.AsSent as AsSent
use Rattle.majority.specs.Plain.{Correctable}
use Rattle.majority.specs.Edges.{LargerEdges, LargerErasedEdges}
use Rattle.majority.proofs.WrongTouched.{Counted, counted-plain, counted-voted}

-- ---- one information frame

-- of one stream
of_one : (P : ℕ → ℕ → Type 0) → P 0 0 → (u i : ℕ) → u < 1 → i < 1 → P u i
of_one P p zero zero lu li = p
of_one P p zero (suc i) lu li = absurd (omega arith)
of_one P p (suc u) i lu li = absurd (omega arith)

-- of three
of_three : (P : ℕ → ℕ → Type 0) → P 0 0 → P 0 1 → P 0 2 → (u i : ℕ) → u < 1 → i < 3 → P u i
of_three P p q r zero zero lu li = p
of_three P p q r zero (suc zero) lu li = q
of_three P p q r zero (suc (suc zero)) lu li = r
of_three P p q r zero (suc (suc (suc i))) lu li = absurd (omega arith)
of_three P p q r (suc u) i lu li = absurd (omega arith)

-- ---- what is sent

Six-sent : sent Six (0 ∷ []) ≡ replicate 21 0
unfolding sum_below up_to back bit from_digits generator digit parity_at with_tail sent_digit sent_frame sent
Six-sent = refl

Wide-sent : sent Wide (7 ∷ []) ≡ 63 ∷ 8 ∷ 56 ∷ []
unfolding sum_below up_to back bit from_digits generator digit parity_at with_tail sent_digit sent_frame sent
Wide-sent = refl

-- ---- the numbers of each digit

-- Six, for its one digit: so many wrong digits
abbrev SixDigit : List ℕ → ℕ → Type 0
SixDigit frames w = Counted Six (0 ∷ []) frames [] 0 0 w 6

Six-digits : SixDigit (2 ∷ replicate 6 0 ++ 2 ∷ replicate 12 0 ++ 2 ∷ []) 3 × SixDigit (2 ∷ replicate 6 0 ++ 2 ∷ replicate 4 0 ++ 2 ∷ replicate 7 0 ++ 2 ∷ []) 4
unfolding sum_below back bit generator digit count check_mask touches_info touches_by touches besides
Six-digits = (counted-plain _ _ _ Six-sent _ _ _ refl refl, counted-plain _ _ _ Six-sent _ _ _ refl refl)

-- Wide, for digit i: so many wrong digits, and so many checks that vote
abbrev WideDigit : List ℕ → List ℕ → ℕ → ℕ → ℕ → Type 0
WideDigit frames erased i w v = Counted Wide (7 ∷ []) frames erased 0 i w v

Wide-digits : WideDigit (31 ∷ 56 ∷ 24 ∷ []) [] 0 2 4 × WideDigit (31 ∷ 56 ∷ 24 ∷ []) [] 1 1 2 × WideDigit (31 ∷ 56 ∷ 24 ∷ []) [] 2 1 3
unfolding sum_below back bit generator digit count check_mask touches_info touches_by touches besides
Wide-digits = (counted-plain _ _ _ Wide-sent _ _ _ refl refl, counted-plain _ _ _ Wide-sent _ _ _ refl refl, counted-plain _ _ _ Wide-sent _ _ _ refl refl)

one_more : WideDigit (23 ∷ 56 ∷ 24 ∷ []) [] 0 3 4 × WideDigit (31 ∷ 56 ∷ 16 ∷ []) [] 1 2 2 × WideDigit (31 ∷ 56 ∷ 8 ∷ []) [] 2 2 3
unfolding sum_below back bit generator digit count check_mask touches_info touches_by touches besides
one_more = (counted-plain _ _ _ Wide-sent _ _ _ refl refl, counted-plain _ _ _ Wide-sent _ _ _ refl refl, counted-plain _ _ _ Wide-sent _ _ _ refl refl)

abbrev lost : List ℕ
lost = 0 ∷ 48 ∷ 32 ∷ []

lost-digits : WideDigit (39 ∷ 8 ∷ 24 ∷ []) lost 0 1 2 × WideDigit (39 ∷ 8 ∷ 24 ∷ []) lost 1 0 2 × WideDigit (39 ∷ 8 ∷ 24 ∷ []) lost 2 1 2
unfolding sum_below up_to back bit generator digit count check_mask touches_info touches_by touches besides clashes voting
lost-digits = (
  counted-voted _ _ _ Wide-sent _ _ _ _ (1 ∷ 1 ∷ 0 ∷ 0 ∷ []) refl refl refl,
  counted-voted _ _ _ Wide-sent _ _ _ _ (1 ∷ 1 ∷ []) refl refl refl,
  counted-voted _ _ _ Wide-sent _ _ _ _ (1 ∷ 1 ∷ 0 ∷ []) refl refl refl,
)

one_more-lost : WideDigit (39 ∷ 0 ∷ 24 ∷ []) lost 0 2 2 × WideDigit (39 ∷ 8 ∷ 8 ∷ []) lost 2 2 2
unfolding sum_below up_to back bit generator digit count check_mask touches_info touches_by touches besides clashes voting
one_more-lost = (counted-voted _ _ _ Wide-sent _ _ _ _ (1 ∷ 1 ∷ 0 ∷ 0 ∷ []) refl refl refl, counted-voted _ _ _ Wide-sent _ _ _ _ (1 ∷ 1 ∷ 0 ∷ []) refl refl refl)

-- ---- the rows

pub larger-edges : LargerEdges Correctable
larger-edges =
    record {
      six_three = let n = Six-digits.0 in of_one _ (omega arith);
      six_four = λ few. let n = Six-digits.1 in let h = few 0 0 (omega arith) (omega arith) in omega arith;
      wide_each = let n = Wide-digits in of_three _ (omega arith) (omega arith) (omega arith);
      wide_three_for_stream_1 = λ few. let n = one_more.0 in let h = few 0 0 (omega arith) (omega arith) in omega arith;
      wide_two_for_stream_2 = λ few. let n = one_more.1 in let h = few 0 1 (omega arith) (omega arith) in omega arith;
      wide_two_for_stream_3 = λ few. let n = one_more.2 in let h = few 0 2 (omega arith) (omega arith) in omega arith;
    }

pub larger-erased-edges : LargerErasedEdges AsSent.Correctable
larger-erased-edges =
    record {
      wide_lost = let n = lost-digits in of_three _ (omega arith) (omega arith) (omega arith);
      wide_lost_two_for_stream_1 = λ few. let n = one_more-lost.0 in let h = few 0 0 (omega arith) (omega arith) in omega arith;
      wide_lost_two_for_stream_3 = λ few. let n = one_more-lost.1 in let h = few 0 2 (omega arith) (omega arith) in omega arith;
    }
