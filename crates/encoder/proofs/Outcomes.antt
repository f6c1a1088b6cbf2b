-- What a sending call comes to under each condition.
use Prim.Native.Nat.{ℕ, ◌+◌}
use mathlib.Core.Path.{◌≡◌}
use mathlib.Core.Bool.{true, false}
use Rattle.encoder.specs.Sending.{refused_of, encoded_of, tail_begun, lacks_room, digit_beyond, tail_out, send_of, send_tail_of}
use Rattle.encoder.specs.declared.Session.{Session}

module _ (s : Session) (f : ℕ) where
  pub send-begun : tail_begun s ≡ true → send_of s f ≡ refused_of s 16
  unfolding send_of
  send-begun e = rw e

  pub send-full : tail_begun s ≡ false → lacks_room s ≡ true → send_of s f ≡ refused_of s 15
  unfolding send_of
  send-full e n = rw (e, n)

  pub send-beyond : tail_begun s ≡ false → lacks_room s ≡ false → digit_beyond s f ≡ true → send_of s f ≡ refused_of s 11
  unfolding send_of
  send-beyond e n d = rw (e, n, d)

  pub send-taken : tail_begun s ≡ false → lacks_room s ≡ false → digit_beyond s f ≡ false → send_of s f ≡ encoded_of s f (s.sent + 1) s.tail
  unfolding send_of
  send-taken e n d = rw (e, n, d)

module _ (s : Session) where
  pub tail-out : tail_out s ≡ true → send_tail_of s ≡ refused_of s 17
  unfolding send_tail_of
  tail-out e = rw e

  pub tail-taken : tail_out s ≡ false → send_tail_of s ≡ encoded_of s 0 s.sent (s.tail + 1)
  unfolding send_tail_of
  tail-taken e = rw e
