-- The claims of a session, each applied to card P. What the calls take is computed; what they give is not.
use Prim.Native.Nat.{ℕ, ◌+◌}
use mathlib.Core.Path.{◌≡◌, refl, ap, ap₂, ◌∙◌}
use mathlib.Core.List.{List, [], ◌∷◌}
use lib.ListN.{length, take}
use Rattle.bits.specs.Sums.{sum_below, up_to, back}
use Rattle.bits.specs.Digits.{bit, from_digits}
use Rattle.code.specs.Bench.{P}
use Rattle.code.specs.Code.{generator, digit, parity_at, with_tail, sent_digit, sent_frame, sent}
use Rattle.encoder.specs.Sending.{open_of, refused_of, encoded_of, send_of, send_tail_of}
use Rattle.encoder.specs.Calls.{Call, frames_given, takes, information_taken, tail_taken}
use Rattle.encoder.specs.Claims.{Claims}
use Rattle.encoder.specs.Example.{calls_p_first, calls_p, SendsP}
use Rattle.encoder.specs.declared.Session.{Session}

-- what the calls take: those that are refused take nothing
taken-by : (information_taken (open_of P) calls_p ≡ 1 ∷ 0 ∷ 1 ∷ []) × (tail_taken (open_of P) calls_p ≡ 1)
    × (information_taken (open_of P) calls_p_first ≡ 1 ∷ 0 ∷ 1 ∷ []) × (tail_taken (open_of P) calls_p_first ≡ 0)
unfolding open_of refused_of encoded_of send_of send_tail_of takes information_taken tail_taken
taken-by = (refl, refl, refl, refl)

module _ (s : Session) (own : s ≡ open_of P) (claims : Claims P s) where
  informs : (calls : List Call) {info : List ℕ} → information_taken (open_of P) calls ≡ info → information_taken s calls ≡ info
  informs calls e = ap (λ (s : Session). information_taken s calls) own ∙ e

  closes : (calls : List Call) {n : ℕ} → tail_taken (open_of P) calls ≡ n → tail_taken s calls ≡ n
  closes calls e = ap (λ (s : Session). tail_taken s calls) own ∙ e

  counted : length (frames_given s calls_p_first) ≡ 3
  counted = claims.frames_counted calls_p_first ∙ ap₂ (λ l n. length l + n) (informs calls_p_first taken-by.2) (closes calls_p_first taken-by.3)

  pub sends-P : SendsP s
  unfolding sum_below up_to back bit from_digits generator digit parity_at with_tail sent_digit sent_frame sent
  sends-P =
      record {
        stream = claims.stream_is_sent calls_p (closes calls_p taken-by.1) ∙ ap (sent P) (informs calls_p taken-by.0);
        count = counted;
        frames = claims.frames_are_sent calls_p_first ∙ ap₂ (λ n l. take n (sent P l)) counted (informs calls_p_first taken-by.2);
      }
