-- What the clauses of the card writer's promises give for cards of the bench.
use Prim.Native.Nat.{ℕ, ◌≤◌, ◌<◌}
use mathlib.Core.Path.{◌≡◌, sym, ap, ◌∙◌}
use mathlib.Core.List.{List, ◌++◌}
use native.Mathlib.Omega.{arith}
use lib.ListN.{length, take, drop}
use lib.Seq.{take_all}
use lib.IntN.{ℤ, pos, neg_ℤ}
use Rattle.code.specs.Bench.{P, T}
use Rattle.code.specs.declared.Card.{Card}
use Rattle.card.specs.Bench.{checks, card_p, stored_p}
use Rattle.card.specs.Outcome.{CardOutcome}
use Rattle.card.specs.Outcome.Outcome.{accepted}
use Rattle.card.specs.Reading.{read_card}
use Rattle.card.specs.declared.CardRule.TheVariants.{Former, Present}
use Rattle.card.proofs.Acceptance.{reads_back}
use Rattle.outcomes.specs.Outcome.{BurstOutcome, outcome, refused_of, given_of}
use Rattle.outcomes.proofs.ReadCards.{bytes_t, read-P, read-short-P, read-T, read-stored-P, read-stated-P}
use Rattle.card.specs.Written.{written}
use Rattle.writer.specs.Outcome.{write_under, write_of}
use Rattle.writer.specs.Claims.{ReadsAs, States, WrittenForm, CarriesOn}
use Rattle.writer.proofs.Answers.{write-refused, write-accepted, write-short, write-given}
use Rattle.writer.proofs.Computed.{written-P, written-T}
use Rattle.clients.specs.Cards.{fields_p, stored_fields_p}
use Rattle.clients.specs.Forms.{FormOfP}
use Rattle.clients.proofs.CardClauses.{acceptable-P, acceptable-stored-P}

-- ---- bytes that are read as a card whose written form is known
module _ (bytes : List ℕ) (c : Card) (read : ReadsAs bytes c) (form : List ℕ) (known : written c ≡ form) (output : List ℕ) where
  given : length form ≤ length output → write_of bytes output ≡ given_of form output
  given room = write-accepted bytes output read ∙ write-given c output (omega (arith, ap length known)) ∙ ap (λ (l : List ℕ). given_of l output) known

  short : length output < length form → write_of bytes output ≡ refused_of 13 output
  short l = write-accepted bytes output read ∙ write-short c output (omega (arith, ap length known))

-- ---- P's fields
states-P : States Present P card_p fields_p
states-P =
    record {
      acceptable = acceptable-P;
      card_is = ap (λ (r : CardOutcome). r.card) (sym (reads_back Present card_p fields_p acceptable-P) ∙ read-P);
    }

states-stored-P : States Former P stored_p stored_fields_p
states-stored-P =
    record {
      acceptable = acceptable-stored-P;
      card_is = ap (λ (r : CardOutcome). r.card) (sym (reads_back Former stored_p stored_fields_p acceptable-stored-P) ∙ read-stored-P);
    }

-- ---- `card_write`
pub comes_back-P : (output : List ℕ) → 20 ≤ length output → {r : ℤ} {after : List ℕ} → CarriesOn card_p output r after
    → outcome r after ≡ outcome (pos 20) (card_p ++ drop 20 output)
unfolding given_of
comes_back-P output room claim = claim.comes_back fields_p acceptable-P room

pub carried-on-T : (output : List ℕ) → length output ≡ 37 → {r : ℤ} {after : List ℕ} → length after ≡ 37
    → outcome r after ≡ write_of bytes_t output → CarriesOn bytes_t output r after → read_card after ≡ record { outcome = accepted; card = T }
unfolding given_of checks
carried-on-T output room {after = after} filled e claim =
    let count = ap (λ (b : BurstOutcome). b.answer) (e ∙ given bytes_t T read-T bytes_t written-T output (omega arith)) in
    ap read_card (sym (take_all 37 after (omega arith))) ∙ claim.reads_back 37 (omega arith) count ∙ read-T

pub stated-P : (output : List ℕ) → write_of stored_p output ≡ outcome (neg_ℤ (pos 18)) output
unfolding refused_of
stated-P output = write-refused stored_p output read-stated-P

pub no_room-P : (output : List ℕ) → length output ≡ 19 → write_of card_p output ≡ outcome (neg_ℤ (pos 13)) output
unfolding refused_of
no_room-P output room = short card_p P read-P card_p written-P output (omega arith)

pub refused-P : (output : List ℕ) → write_of (take 19 card_p) output ≡ outcome (neg_ℤ (pos 1)) output
unfolding refused_of
refused-P output = write-refused (take 19 card_p) output read-short-P

-- ---- `write_card`, with P
pub written-as-P : (output : List ℕ) → length output ≡ 22 → write_under P output ≡ outcome (pos 20) (card_p ++ drop 20 output)
unfolding given_of
written-as-P output room = write-given P output (omega (arith, ap length written-P)) ∙ ap (λ (l : List ℕ). given_of l output) written-P

pub form-of-P : WrittenForm P → FormOfP
form-of-P form =
    record {
      reads_back = form.reads_back Former stored_p read-stored-P;
      states_it = form.states_it Former stored_p read-stored-P;
      one_only = form.one_only card_p fields_p states-P;
      length_most = form.length_most Former stored_p read-stored-P;
      shortest = form.shortest Present card_p fields_p states-P;
      shorter_than_stored = form.shortest Former stored_p stored_fields_p states-stored-P;
    }
