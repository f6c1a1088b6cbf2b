-- The lines of the listing, put together from the parts that are written, and their lengths.
use Prim.Native.Nat.{ℕ, zero, suc, ◌+◌, ◌*◌, ◌^◌, ◌≤◌, ◌<◌}
use mathlib.Core.Path.{◌≡◌, refl, sym, ap, ◌∙◌}
use mathlib.Core.List.{List, [], ◌∷◌, ◌++◌, map, append-nil, append_assoc}
use native.Mathlib.Nat.{add-zero}
use native.Mathlib.Numerals.{add-one}
use native.Mathlib.Omega.{arith}
use lib.ListN.{length, get_or, take, length-append}
use lib.Seq.{take-suc, length-take-le}
use Rattle.bits.specs.Sums.{up_to}
use Rattle.bits.specs.Digits.{bit}
use Rattle.bits.proofs.Digits.{bit-lt}
use Rattle.bits.proofs.Lists.{up_to-more}
use Rattle.outcomes.specs.Text.{text, decimal, spaced, line}
use Rattle.outcomes.specs.Listing.{too_long_line, refused_line, card_line, frame_line, frame_lines, line_of_end}
use Rattle.listing.specs.Auditing.{not_read_line}
use Rattle.listing.specs.Written.{sizes}
use Rattle.listing.proofs.Decimal.{decimal_digit, decimal-length}

pub too-long-line : text "input too long\n" ≡ too_long_line
unfolding text spaced line too_long_line
too-long-line = refl

pub not-read-line : text "not read\n" ≡ not_read_line
unfolding text spaced line not_read_line
not-read-line = refl

pub refused-line : (number place : ℕ)
    → ((text "refused " ++ decimal number) ++ (text " at " ++ decimal place)) ++ text "\n" ≡ refused_line number place
unfolding text spaced line refused_line
refused-line number place = simp (append_assoc, append-nil)

-- a line of four numbers a, b, d, e, the last three each after a word; s stands for the space, f for the line feed
four-numbers : (s f c k n m a b d e : List ℕ)
    → (((c ++ s) ++ a) ++ (((s ++ (k ++ (s ++ b))) ++ (s ++ (n ++ (s ++ d)))) ++ (s ++ (m ++ (s ++ e))))) ++ f
    ≡ c ++ ((s ++ (a ++ (s ++ (k ++ (s ++ (b ++ (s ++ (n ++ (s ++ (d ++ (s ++ (m ++ (s ++ (e ++ [])))))))))))))) ++ f)
four-numbers s f c k n m a b d e = simp (append_assoc, append-nil)

pub card-line : (number k n m : ℕ) → ((text "card " ++ decimal number) ++ sizes k n m) ++ text "\n" ≡ card_line number k n m
unfolding text spaced line card_line
card-line number k n m =
    four-numbers (text " ") (text "\n") (text "card") (text "k") (text "n") (text "m") (decimal number) (decimal k) (decimal n) (decimal m)

pub end_line : (count : ℕ) → (text "end " ++ decimal count) ++ text "\n" ≡ line_of_end count
unfolding text spaced line line_of_end
end_line count = simp (append_assoc, append-nil)

pub frame-line : (k time frame : ℕ) → (decimal time ++ spaced (map decimal (up_to k (bit frame)))) ++ text "\n" ≡ frame_line k time frame
unfolding line frame_line
frame-line k time frame = append_assoc (decimal time) (spaced (map decimal (up_to k (bit frame)))) (text "\n")

-- ---- one word more, one line more

spaced-next : (words : List (List ℕ)) (word : List ℕ) → spaced (words ++ (word ∷ [])) ≡ spaced words ++ (text " " ++ word)
unfolding spaced
spaced-next [] word = ap (λ w. text " " ++ w) (append-nil word)
spaced-next (w ∷ words) word =
    ap (λ s. text " " ++ (w ++ s)) (spaced-next words word)
    ∙ sym (append_assoc (text " ") (w ++ spaced words) (text " " ++ word) ∙ ap (λ s. text " " ++ s) (append_assoc w (spaced words) (text " " ++ word)))

map_next : (f : ℕ → List ℕ) (l : List ℕ) (x : ℕ) → map f (l ++ (x ∷ [])) ≡ map f l ++ (f x ∷ [])
map_next f [] x = refl
map_next f (y ∷ l) x = ap (λ r. f y ∷ r) (map_next f l x)

pub digits-next : (frame i : ℕ)
    → spaced (map decimal (up_to i (bit frame))) ++ (text " " ++ decimal (bit frame i)) ≡ spaced (map decimal (up_to (i + 1) (bit frame)))
digits-next frame i =
    sym
    (ap (λ l. spaced (map decimal l)) (up_to-more i (bit frame))
    ∙ ap spaced (map_next decimal (up_to i (bit frame)) (bit frame i))
    ∙ spaced-next (map decimal (up_to i (bit frame))) (decimal (bit frame i)))

lines_next : (k time : ℕ) (frames : List ℕ) (frame : ℕ)
    → frame_lines k time (frames ++ (frame ∷ [])) ≡ frame_lines k time frames ++ frame_line k (time + length frames) frame
unfolding frame_lines
lines_next k time [] frame = append-nil (frame_line k time frame) ∙ ap (λ t. frame_line k t frame) (sym (add-zero time))
lines_next k time (f ∷ frames) frame =
    ap (λ s. frame_line k time f ++ s) (lines_next k (suc time) frames frame)
    ∙ sym (append_assoc (frame_line k time f) (frame_lines k (suc time) frames) (frame_line k (suc time + length frames) frame))
    ∙ ap (λ t. (frame_line k time f ++ frame_lines k (suc time) frames) ++ frame_line k t frame) (omega arith)

-- the frames of which a loop has written the first `time`
pub frames-next : (k time : ℕ) (frames : List ℕ) → time < length frames
    → frame_lines k 0 (take time frames) ++ frame_line k time (get_or frames time 0) ≡ frame_lines k 0 (take (time + 1) frames)
frames-next k time frames h =
    let e : 0 + length (take time frames) ≡ time = omega (arith, length-take-le time frames (omega arith)) in
    sym
    (ap (λ n. frame_lines k 0 (take n frames)) (add-one time)
    ∙ ap (λ l. frame_lines k 0 l) (take-suc frames time 0 h)
    ∙ lines_next k 0 (take time frames) (get_or frames time 0)
    ∙ ap (λ t. frame_lines k 0 (take time frames) ++ frame_line k t (get_or frames time 0)) e)

-- ---- lengths

digits-grow : (frame i : ℕ) → length (spaced (map decimal (up_to (i + 1) (bit frame)))) ≡ length (spaced (map decimal (up_to i (bit frame)))) + 2
unfolding text
digits-grow frame i =
    let l : bit frame i < 10 = omega (arith, bit-lt frame i) in
    sym (ap length (digits-next frame i))
    ∙ length-append (spaced (map decimal (up_to i (bit frame)))) (text " " ++ decimal (bit frame i))
    ∙ ap (λ n. length (spaced (map decimal (up_to i (bit frame)))) + n) (ap (λ w. length (text " " ++ w)) (decimal_digit (bit frame i) l))

pub digits-length : (k frame : ℕ) → length (spaced (map decimal (up_to k (bit frame)))) ≡ 2 * k
unfolding up_to spaced
digits-length zero frame = refl
digits-length (suc k) frame =
    ap (λ n. length (spaced (map decimal (up_to n (bit frame))))) (sym (add-one k))
    ∙ digits-grow frame k
    ∙ omega (arith, digits-length k frame)

-- what each line's parts come to
pub refused-parts : (number place : ℕ) → length (refused_line number place) ≡ 13 + (length (decimal number) + length (decimal place))
unfolding text spaced line refused_line
refused-parts number place = simp length-append (omega arith)

pub card-parts : (number k n m : ℕ)
    → length (card_line number k n m) ≡ 15 + (length (decimal number) + (length (decimal k) + length (decimal n) + length (decimal m)))
unfolding text spaced line card_line
card-parts number k n m = simp length-append (omega arith)

pub frame-parts : (k time frame : ℕ) → length (frame_line k time frame) ≡ length (decimal time) + 2 * k + 1
unfolding text line frame_line
frame-parts k time frame = simp length-append (omega (arith, digits-length k frame))

pub end-parts : (count : ℕ) → length (line_of_end count) ≡ 5 + length (decimal count)
unfolding text spaced line line_of_end
end-parts count = simp length-append (omega arith)

-- and what it comes to at the most
pub refused-length : (number place : ℕ) → number < 1000 → place < 10 ^ 20 → length (refused_line number place) ≤ 36
refused-length number place hn hp = omega (arith, refused-parts number place, decimal-length 2 number hn, decimal-length 19 place hp)

pub card-length : (number k n m : ℕ) → number < 1000 → k < 10 → n < 10 → m < 100 → length (card_line number k n m) ≤ 22
card-length number k n m hnumber hk hn hm =
    omega (
      arith,
      card-parts number k n m,
      decimal-length 2 number hnumber,
      decimal-length 0 k hk,
      decimal-length 0 n hn,
      decimal-length 1 m hm,
    )

pub frame-length : (k time frame : ℕ) → k ≤ 4 → time < 100000 → length (frame_line k time frame) ≤ 14
frame-length k time frame h l = omega (arith, frame-parts k time frame, decimal-length 4 time l)

pub lines-length : (k time : ℕ) (frames : List ℕ) → k ≤ 4 → time + length frames ≤ 100000 → length (frame_lines k time frames) ≤ 14 * length frames
unfolding frame_lines
lines-length k time [] h l = omega arith
lines-length k time (f ∷ frames) h l =
    omega (
      arith,
      length-append (frame_line k time f) (frame_lines k (suc time) frames),
      frame-length k time f h (omega arith),
      lines-length k (suc time) frames h (omega arith),
    )

pub end-length : (count : ℕ) → count < 100000 → length (line_of_end count) ≤ 10
end-length count h = omega (arith, end-parts count, decimal-length 4 count h)
