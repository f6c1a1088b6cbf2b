-- What a stored card is written as, case by case, and the promise of `rewrite`.
use Prim.Native.Nat.{ℕ, ◌≤◌, ◌<◌}
use mathlib.Core.Path.{◌≡◌, refl, sym, ap, subst, ◌∙◌}
use mathlib.Core.List.{List, ◌∷◌}
use mathlib.Core.Logic.{⊎_elim}
use native.Mathlib.Omega.{arith}
use lib.ListN.{length, get_or, take, length-take}
use lib.Seq.{take_all}
use lib.IntN.{pos}
use borrow.Author.Tests.{lt-ltb, le-ltb, le-leb, lt-leb}
use Rattle.bits.proofs.Cases.{le-or-lt}
use Rattle.code.specs.declared.Card.{Card}
use Rattle.card.specs.Outcome.{Outcome, CardOutcome, accepted, refused}
use Rattle.card.specs.Fields.{card_of}
use Rattle.card.specs.Layout.{longest_card}
use Rattle.card.specs.Reading.{byte_field, read_head, read_fields, read_under, read_card}
use Rattle.card.specs.Written.{written}
use Rattle.card.specs.declared.CardRule.TheVariants.{Former, Present}
use Rattle.card.proofs.Acceptance.{accepted-fields, accepted-length, reads_back, acceptable-before}
use Rattle.card.proofs.RefusedCard.{not-both}
use Rattle.outcomes.specs.Text.{text, line}
use Rattle.outcomes.specs.Listing.{too_long_line, refused_line}
use Rattle.outcomes.specs.Outcome.{outcome, given_of}
use Rattle.writer.specs.Claims.{ReadsUnder, ReadsAs}
use Rattle.writer.proofs.Forms.{written-form}
use Rattle.listing.specs.AtFront.{AtFront}
use Rattle.listing.specs.declared.stored.Why.{Why}
use Rattle.listing.specs.declared.stored.Why.TheVariants.{NotRead, TooLong, Refused}
use Rattle.listing.specs.Stored.{why_line, ReadStored}
use Rattle.std.proofs.Common.{Err}
use Rattle.listing.specs.Rewriting.{rewritten_under, rewritten, Rewrites}
use Rattle.listing.proofs.AtFront.{front-given}

-- ---- each case
module _ (input : List ℕ) where
  pub too_long : 2048 < length input → rewritten input ≡ too_long_line
  unfolding rewritten
  too_long l = rw (lt-ltb 2048 (length input) l)

  pub short : length input ≤ 2048 → rewritten input ≡ rewritten_under (read_under Former input).outcome (read_under Former input).card
  unfolding rewritten
  short l = rw (le-ltb 2048 (length input) l)

  -- why a file holds no card is what it is written as
  pub refused-is : (why : Why) → ReadStored Former input (Err why) → rewritten input ≡ why_line why
  unfolding rewritten_under why_line
  refused-is NotRead read = absurd read
  refused-is TooLong read = too_long read.0
  refused-is (Refused fault) read = short read.0 ∙ sym (ap (λ (r : CardOutcome). rewritten_under r.outcome r.card) read.1.is_read)

-- ---- a line of text is no card: it begins with a letter
not-a-card : (first : ℕ) (rest : List ℕ) → 3 < first → (read_card (first ∷ rest)).outcome ≡ refused 5 0
unfolding read_under read_fields read_head byte_field
not-a-card first rest l = rw (lt-ltb 0 (length (first ∷ rest)) (omega arith), le-leb 0 first (omega arith), lt-leb first 3 l)

line_refused : (number place : ℕ) → (read_card (refused_line number place)).outcome ≡ refused 5 0
unfolding refused_line line text
line_refused number place = not-a-card 114 _ (omega arith)

long-refused : (read_card too_long_line).outcome ≡ refused 5 0
unfolding too_long_line line text
long-refused = not-a-card 105 _ (omega arith)

-- ---- the claims
module _ (input : List ℕ) (bytes : (i : ℕ) → get_or input i 0 < 256) where
  stored : (c : Card) → ReadsUnder Former input c → rewritten input ≡ written c
  unfolding rewritten_under
  stored c e =
      short input (omega (arith, accepted-length Former input bytes (ap (λ (r : CardOutcome). r.outcome) e)))
      ∙ ap (λ (r : CardOutcome). rewritten_under r.outcome r.card) e

  carried : (c : Card) → ReadsUnder Former input c → ReadsAs (rewritten input) c
  carried c e = subst (λ (l : List ℕ). ReadsAs l c) (sym (stored c e)) ((written-form c).reads_back Former input e)

  -- by what the reading comes to
  only : (o : Outcome) (d : Card) → read_under Former input ≡ record { outcome = o; card = d } → (c : Card) → ReadsAs (rewritten input) c
      → ReadsUnder Former input c
  only accepted d e c a = e ∙ sym (carried d e) ∙ a
  only (refused n at) d e c a = absurd (not-both (ap (λ (r : CardOutcome). r.outcome) a) refused-line)
    where
      refused-line : (read_card (rewritten input)).outcome ≡ refused 5 0
      refused-line =
          ⊎_elim
          (λ l. ap (λ (x : List ℕ). (read_card x).outcome) (short input l ∙ as_line) ∙ line_refused n at)
          (λ l. ap (λ (x : List ℕ). (read_card x).outcome) (too_long input l) ∙ long-refused)
          (le-or-lt (length input) 2048)
        where
          as_line : rewritten_under (read_under Former input).outcome (read_under Former input).card ≡ refused_line n at
          as_line = ap (λ (r : CardOutcome). rewritten_under r.outcome r.card) e ∙ unfold rewritten_under in refl

  as_it_stands : (read_card input).outcome ≡ accepted → rewritten input ≡ input
  as_it_stands e =
      let a = accepted-fields Present input bytes e in
      let f = a.0 in
      stored (card_of f) (reads_back Former input f (acceptable-before input f a.1))
      ∙ (written-form (card_of f)).one_only input f (record { acceptable = a.1; card_is = refl })

by_the_front : (input whole : List ℕ) → input ≡ take 2049 whole → rewritten whole ≡ rewritten input
by_the_front input whole e =
    ⊎_elim
    (λ l. ap rewritten (sym (e ∙ take_all 2049 whole l)))
    (λ l. too_long whole (omega arith) ∙ sym (too_long input (omega (arith, ap length e, length-take 2049 whole))))
    (le-or-lt (length whole) 2049)

-- ---- the promise of `rewrite`
module _ (input output : List ℕ) (bytes : (i : ℕ) → get_or input i 0 < 256) {count : ℕ} {after : List ℕ} where
  rewrites : AtFront longest_card (rewritten input) output count after → Rewrites input output count after
  rewrites w =
      record {
        wrote = w;
        carried_over = carried input bytes;
        cards_only = only input bytes (read_under Former input).outcome (read_under Former input).card refl;
        as_it_stands = as_it_stands input bytes;
        by_the_front = by_the_front input;
      }

  pub rewrites-line : {line : List ℕ} → rewritten input ≡ line → AtFront longest_card line output count after → Rewrites input output count after
  rewrites-line e w = rewrites (subst (λ (bytes : List ℕ). AtFront longest_card bytes output count after) (sym e) w)

  pub rewrites-card : (c : Card) → rewritten input ≡ written c → length (written c) ≤ longest_card → outcome (pos count) after ≡ given_of (written c) output
      → Rewrites input output count after
  rewrites-card c e l g = rewrites (subst (λ (bytes : List ℕ). AtFront longest_card bytes output count after) (sym e) (front-given longest_card g l))
