-- An opened session: with an accepted card the calls follow the code, with a refused one every call is refused.
use Prim.Native.Nat.{ℕ}
use mathlib.Core.Path.{◌≡◌, refl, sym, ap, ◌∙◌, subst}
use mathlib.Core.List.{List}
use Rattle.card.specs.Outcome.{Outcome, accepted, refused, CardOutcome}
use Rattle.card.specs.Promise.{CardPromise}
use Rattle.card.specs.Reading.{read_card}
use Rattle.code.specs.declared.Card.{Card}
use Rattle.card.specs.declared.Fault.{Fault}
use Rattle.card.specs.declared.CardRule.TheVariants.{Present}
use Rattle.card.proofs.RefusedCard.{not-both}
use Rattle.card.specs.Refusals.{number_of}
use Rattle.std.specs.Prelude.{Ok, Err}
use Rattle.encoder.specs.Claims.{Claims}
use Rattle.encoder.specs.Opening.{closed, session_for, Closed, OpenPromise}
use Rattle.encoder.specs.Sending.{unsent_of, open_of}
use Rattle.encoder.specs.declared.Session.{Session}
use Rattle.encoder.proofs.Claim.{calls-follow-code}
use Rattle.encoder.proofs.Outcomes.{send-full, tail-out}

closed-refuses : Closed closed
unfolding closed
closed-refuses = record { information_refused = λ f. send-full closed f refl refl; tail_refused = tail-out closed refl }

module _ (bytes : List ℕ) (s : Session) where
  pub opened-accepted : {card : Card} → CardPromise Present bytes (Ok card) → s ≡ unsent_of card 0 → OpenPromise bytes (record { verdict = Ok tt; session = s })
  unfolding session_for open_of
  opened-accepted {card} promise q =
      let accepts : accepted ≡ (read_card bytes).outcome = ap (λ (r : CardOutcome). r.outcome) promise.is_read in
      let card_is : card ≡ (read_card bytes).card = ap (λ (r : CardOutcome). r.card) promise.is_read in
      let own : s ≡ open_of (read_card bytes).card = q ∙ ap open_of card_is in
      record {
        verdict_is = accepts;
        session_is = own ∙ ap (λ (o : Outcome). session_for o (read_card bytes).card) accepts;
        claims = λ w. subst (Claims (read_card bytes).card) (sym own) (subst (λ (c : Card). Claims c (open_of c)) card_is (calls-follow-code card (promise.guaranteed refl)));
        shut = λ n offset w. absurd (not-both refl w);
      }

  pub opened-refused : {fault : Fault} → CardPromise Present bytes (Err fault) → s ≡ closed → OpenPromise bytes (record { verdict = Err fault; session = s })
  unfolding session_for
  opened-refused {fault} promise own =
      let refuses : refused (number_of fault.refusal) fault.offset ≡ (read_card bytes).outcome = ap (λ (r : CardOutcome). r.outcome) promise.is_read in
      record {
        verdict_is = refuses;
        session_is = own ∙ ap (λ (o : Outcome). session_for o (read_card bytes).card) refuses;
        claims = λ w. absurd (not-both w refl);
        shut = λ n offset w. subst Closed (sym own) closed-refuses;
      }
