-- The listing under each condition on the input, and that its first 34,819 bytes decide it.
use Prim.Native.Nat.{ℕ, ◌+◌, ◌-◌, ◌*◌, ◌≤◌, ◌<◌}
use mathlib.Core.Path.{◌≡◌, refl, sym, ap, ap₂, ◌∙◌}
use mathlib.Core.Bool.{Bool, true, false, cond, ◌||◌}
use mathlib.Core.Logic.{⊎_elim}
use mathlib.Core.List.{List}
use native.Mathlib.Omega.{arith}
use lib.ListN.{length, get_or, take, drop, length-drop}
use lib.Seq.{take_all, length-take-le, get_or-take}
use lib.Dec.{ltb}
use borrow.Author.Tests.{lt-ltb, le-ltb, le-leb}
use Rattle.bits.specs.Digits.{any_beyond}
use Rattle.bits.proofs.Cases.{le-or-lt}
use Rattle.card.specs.Outcome.{accepted}
use Rattle.card.specs.Reading.{read_card}
use Rattle.code.specs.declared.Card.{Card}
use Rattle.majority.specs.Plain.{decoded}
use Rattle.outcomes.specs.Listing.{stated_length, card_bytes, frame_bytes, is_too_long, too_long_line, refused_line, first_beyond, listing_of, listing_under, listing}
use Rattle.outcomes.proofs.Beyond.{beyond-some}

-- ---- the input's length

module _ (input : List ℕ) where
  decided : (b : Bool) → is_too_long input ≡ b
      → listing input ≡ cond b too_long_line (listing_under (read_card (card_bytes input)).outcome (read_card (card_bytes input)).card (frame_bytes input))
  unfolding listing
  decided b e = ap (λ b. cond b too_long_line (listing_under (read_card (card_bytes input)).outcome (read_card (card_bytes input)).card (frame_bytes input))) e

  or-true : (b : Bool) → (b || true) ≡ true
  or-true true = refl
  or-true false = refl

  pub card-too_long : 2048 < stated_length input → listing input ≡ too_long_line
  unfolding is_too_long
  card-too_long l = decided true (ap (λ b. b || ltb 32768 (length (frame_bytes input))) (lt-ltb 2048 (stated_length input) l))

  pub frames-too_long : 32768 < length (frame_bytes input) → listing input ≡ too_long_line
  unfolding is_too_long
  frames-too_long l =
      decided true (ap (λ b. ltb 2048 (stated_length input) || b) (lt-ltb 32768 (length (frame_bytes input)) l) ∙ or-true (ltb 2048 (stated_length input)))

  pub short-enough : stated_length input ≤ 2048 → length (frame_bytes input) ≤ 32768
      → listing input ≡ listing_under (read_card (card_bytes input)).outcome (read_card (card_bytes input)).card (frame_bytes input)
  unfolding is_too_long
  short-enough l m =
      decided false
      (ap₂ (λ (a b : Bool). a || b) (le-ltb 2048 (stated_length input) l) (le-ltb 32768 (length (frame_bytes input)) m))

  -- ---- the parts of the input, as they are cut out of it
  module _ {rest : List ℕ} {length : ℕ} (r : rest ≡ drop 2 input) (l : length ≡ stated_length input) where
    pub card-bytes : {card : List ℕ} → card ≡ take length rest → card ≡ card_bytes input
    unfolding card_bytes
    card-bytes e = e ∙ ap₂ take l r

    pub frame-bytes : {frames : List ℕ} → frames ≡ drop length rest → frames ≡ frame_bytes input
    unfolding frame_bytes
    frame-bytes e = e ∙ ap₂ drop l r

-- ---- the frames, under an accepted card

module _ (c : Card) (frames : List ℕ) where
  pub beyond-streams : first_beyond (c.k + c.p) frames < length frames
      → listing_under accepted c frames ≡ refused_line 11 (first_beyond (c.k + c.p) frames)
  unfolding listing_under
  beyond-streams l = rw (beyond-some (c.k + c.p) frames l)

  pub within_streams : any_beyond (c.k + c.p) frames ≡ false → listing_under accepted c frames ≡ listing_of c (decoded c frames)
  unfolding listing_under
  within_streams e = rw e

-- ---- the first bytes decide

length-frames : (input : List ℕ) → length (frame_bytes input) ≡ length input - 2 - stated_length input
unfolding frame_bytes
length-frames input = length-drop (stated_length input) (drop 2 input) ∙ ap (λ n. n - stated_length input) (length-drop 2 input)

stated : (input : List ℕ) → 2 ≤ length input → stated_length input ≡ get_or input 0 0 + get_or input 1 0 * 256
unfolding stated_length
stated input h = rw (le-leb 2 (length input) h)

module _ (whole : List ℕ) (l : 34819 < length whole) where
  front_length : length (take 34819 whole) ≡ 34819
  front_length = length-take-le 34819 whole (omega arith)

  same-stated : stated_length (take 34819 whole) ≡ stated_length whole
  same-stated =
      stated (take 34819 whole) (omega (arith, front_length))
      ∙ ap₂ (λ a b. a + b * 256) (get_or-take 34819 whole 0 0 (omega arith)) (get_or-take 34819 whole 1 0 (omega arith))
      ∙ sym (stated whole (omega arith))

  too_long-both : listing whole ≡ listing (take 34819 whole)
  too_long-both =
      ⊎_elim
      (λ (h : stated_length whole ≤ 2048).
      frames-too_long whole (omega (arith, length-frames whole))
      ∙ sym (frames-too_long (take 34819 whole) (omega (arith, length-frames (take 34819 whole), front_length, same-stated))))
      (λ (h : 2048 < stated_length whole). card-too_long whole h ∙ sym (card-too_long (take 34819 whole) (omega (arith, same-stated))))
      (le-or-lt (stated_length whole) 2048)

pub front-decides : (whole : List ℕ) → listing whole ≡ listing (take 34819 whole)
front-decides whole =
    ⊎_elim
    (λ (l : length whole ≤ 34819). ap listing (sym (take_all 34819 whole l)))
    (λ (l : 34819 < length whole). too_long-both whole l)
    (le-or-lt (length whole) 34819)
