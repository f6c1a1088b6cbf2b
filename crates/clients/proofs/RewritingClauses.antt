-- What the clauses of the rewriting's promise give for cards of the bench.
use Prim.Native.Nat.{ℕ, ◌≤◌}
use mathlib.Core.Path.{◌≡◌, sym, ap, ◌∙◌}
use mathlib.Core.List.{List, ◌++◌}
use native.Mathlib.Omega.{arith}
use lib.ListN.{length, take}
use lib.Seq.{take_at}
use Rattle.code.specs.Bench.{P}
use Rattle.code.specs.declared.Card.{Card}
use Rattle.card.specs.Bench.{card_p, stored_p}
use Rattle.card.specs.Outcome.{Outcome, CardOutcome}
use Rattle.card.specs.Outcome.Outcome.{accepted}
use Rattle.card.specs.Reading.{read_under, read_card}
use Rattle.card.specs.Written.{written}
use Rattle.card.specs.declared.CardRule.TheVariants.{Former}
use Rattle.card.proofs.RefusedCard.{not-both}
use Rattle.outcomes.specs.Listing.{too_long_line, refused_line}
use Rattle.outcomes.proofs.ReadCards.{bytes_t, read-T, read-stored-P, read-stored-short-P}
use Rattle.writer.specs.Bench.{W, card_w, stored_w}
use Rattle.writer.specs.Claims.{ReadsUnder}
use Rattle.writer.proofs.Computed.{written-P, written-W, read-stored-W}
use Rattle.listing.specs.Rewriting.{rewritten_under, rewritten, Rewrites}
use Rattle.listing.proofs.Rewritten.{too_long, short}
use Rattle.listing.proofs.AtFront.{front-is}

-- a stored card whose value and written form are known
rewritten-as : (input : List ℕ) (c : Card) (form : List ℕ) → length input ≤ 2048 → ReadsUnder Former input c → written c ≡ form → rewritten input ≡ form
unfolding rewritten_under
rewritten-as input c form l e known = short input l ∙ ap (λ (r : CardOutcome). rewritten_under r.outcome r.card) e ∙ known

module _ {output after : List ℕ} {r : ℕ} where
  pub bytes-P : Rewrites stored_p output r after → take r after ≡ card_p
  bytes-P promise = front-is promise.wrote ∙ rewritten-as stored_p P card_p (omega arith) read-stored-P written-P

  pub value-P : Rewrites stored_p output r after → read_card (take r after) ≡ record { outcome = accepted; card = P }
  value-P promise = ap read_card (front-is promise.wrote) ∙ promise.carried_over P read-stored-P

  pub bytes-W : Rewrites stored_w output r after → take r after ≡ card_w
  bytes-W promise = front-is promise.wrote ∙ rewritten-as stored_w W card_w (omega arith) read-stored-W written-W

  pub bytes-T : Rewrites bytes_t output r after → take r after ≡ bytes_t
  bytes-T promise = front-is promise.wrote ∙ promise.as_it_stands (ap (λ (r : CardOutcome). r.outcome) read-T)

  pub line-short-P : Rewrites (take 19 card_p) output r after → take r after ≡ refused_line 1 19
  unfolding rewritten_under
  line-short-P promise =
      front-is promise.wrote
      ∙ short (take 19 card_p) (omega arith)
      ∙ ap (λ (o : Outcome). rewritten_under o (read_under Former (take 19 card_p)).card) read-stored-short-P

  pub no-card-short-P : Rewrites (take 19 card_p) output r after → (c : Card) → read_card (take r after) ≡ record { outcome = accepted; card = c } → ⊥
  no-card-short-P promise c e =
      not-both (ap (λ (r : CardOutcome). r.outcome) (promise.cards_only c (ap read_card (sym (front-is promise.wrote)) ∙ e))) read-stored-short-P

  module _ {input : List ℕ} (promise : Rewrites input output r after) where
    -- at most 2,048 bytes are read as a card
    pub read_whole : length input ≡ 2048 → take r after ≡ rewritten_under (read_under Former input).outcome (read_under Former input).card
    read_whole l = front-is promise.wrote ∙ short input (omega arith)

    pub line-long : length input ≡ 2049 → take r after ≡ too_long_line
    line-long l = front-is promise.wrote ∙ too_long input (omega arith)

    pub front-enough : length input ≡ 2049 → (more : List ℕ) → take r after ≡ rewritten (input ++ more)
    front-enough long more = front-is promise.wrote ∙ sym (promise.by_the_front (input ++ more) (sym (take_at input more 2049 long)))
