-- What opening a session of each circuit with the same bytes comes to, by the page.
use Prim.Native.Nat.{ℕ}
use mathlib.Core.Path.{◌≡◌, refl, sym, ap, ap₂, ◌∙◌}
use mathlib.Core.Logic.{⊎_elim}
use mathlib.Core.List.{List}
use Rattle.bits.proofs.Cases.{same_or_not}
use Rattle.code.specs.declared.Card.{Card}
use Rattle.card.specs.Outcome.{Outcome, accepted, refused}
use Rattle.card.specs.Promise.{CardPromise}
use Rattle.card.specs.Reading.{read_card}
use Rattle.std.specs.Prelude.{Result}
use Rattle.card.specs.declared.Fault.{Fault}
use Rattle.card.specs.declared.Opened as declared
use Rattle.receiving.specs.declared.Session.{Session}
use Rattle.card.specs.declared.CardRule.TheVariants.{Present}
use Rattle.majority.specs.Rule as rule
use Rattle.outcomes.proofs.Received.{guaranteed}
use Rattle.majority.specs.SecondCircuit.{decoded_by_digits}
use Rattle.majority.proofs.SecondCircuit.{circuits-agree}
use Rattle.receiving.specs.Calls.{Call, number_in, reply_of, answers}
use Rattle.receiving.specs.Opening.{counted_at, Opens}
use Rattle.receiving.specs.Receive.{Circuit, open_of, refused_of}
use Rattle.decoder.specs.Claims as first-claims
use Rattle.decoder.specs.Opening as first_opening
use Rattle.decoder.specs.Receive.{first_circuit}
use Rattle.decoder.specs.declared.Held as first-held
use Rattle.digit_decoder.specs.Claims as second-claims
use Rattle.digit_decoder.specs.Opening as second-opening
use Rattle.digit_decoder.specs.Receive.{second_circuit}
use Rattle.digit_decoder.specs.declared.Held as second-held
use Rattle.terms.specs.Terms.{frames_taken, erased_taken, read_now, Opened}
use Rattle.terms.proofs.Rule.{decided-is, figure-is}
use Rattle.terms.proofs.Receiving.{frames-are, erased-are, receives}

-- a session of any kind
module _ {S : Type 0} (x : Circuit S) (Claims : Card → S → Type 0) (carded : (c : Card) (n : ℕ) → x.card (x.fresh c n) ≡ c)
    (bytes : List ℕ) (outcome : Outcome) (s : S) (promise : Opens x Claims bytes outcome s) where
  claimed : (read_card bytes).outcome ≡ accepted → Claims (read_card bytes).card s
  claimed e = promise.claims (promise.verdict_is ∙ e)

  opened-as : (read_card bytes).outcome ≡ accepted → s ≡ open_of x (read_card bytes).card
  unfolding counted_at open_of
  opened-as e = promise.session_is ∙ ap (λ (o : Outcome). x.fresh (read_card bytes).card (counted_at o)) e

  number_is : (x.card s).number ≡ (read_card bytes).card.number
  number_is = ap (λ (s : S). (x.card s).number) promise.session_is ∙ ap (λ (c : Card). c.number) (carded _ _)

  -- 14 for another number than the empty card's, which a refused one is read as, and 15 for that
  closed : (number offset : ℕ) → (read_card bytes).outcome ≡ refused number offset → (call : Call)
      → ((number_in call ≡ (read_card bytes).card.number → ⊥) → reply_of x s call ≡ refused_of s 14)
      × (number_in call ≡ (read_card bytes).card.number → reply_of x s call ≡ refused_of s 15)
  closed number offset e call =
      let shut = promise.shut number offset (promise.verdict_is ∙ e) in
      (λ ne. shut.other_refused call (λ q. ne (q ∙ number_is)), λ q. shut.own_refused call (q ∙ sym number_is))

module _ (bytes : List ℕ) (read : Result Card Fault) (card-promise : CardPromise Present bytes read) (r : declared.Opened (Session first-held.Held)) (promise : first_opening.OpenPromise bytes r)
    (q : declared.Opened (Session second-held.Held)) (other : second-opening.OpenPromise bytes q) where
  first-claimed : (read_card bytes).outcome ≡ accepted → first-claims.Claims (read_card bytes).card r.session
  first-claimed = claimed first_circuit first-claims.Claims (λ c n. refl) bytes _ r.session promise

  second-claimed : (read_card bytes).outcome ≡ accepted → second-claims.Claims (read_card bytes).card q.session
  second-claimed = claimed second_circuit second-claims.Claims (λ c n. refl) bytes _ q.session other

  pub opened : Opened (read_card bytes) r.session q.session
  opened =
      record {
        receives = λ e.
            receives first_circuit rule.decoded (read_card bytes).card (guaranteed bytes read card-promise e) r.session (first-claimed e).by_rule (λ frames erased. refl);
        figured = λ e calls.
            let c = (read_card bytes).card in
            let G = guaranteed bytes read card-promise e in
            let frames = frames_taken read_now c calls in
            let erased = erased_taken read_now c calls in
            let B = (first-claimed e).by_rule in (
              rule.decided c frames erased _,
              decided-is c frames erased,
              (first-claimed e).figure_by_rule calls
                  ∙ ap₂ (rule.figure_by c) (frames-are first_circuit rule.decoded c G r.session B (λ f g. refl) calls) (erased-are first_circuit rule.decoded c G r.session B (λ f g. refl) calls)
                  ∙ figure-is c frames erased,
            );
        receives_by_digits = λ e.
            let G = guaranteed bytes read card-promise e in
            receives second_circuit decoded_by_digits (read_card bytes).card G q.session (second-claimed e).by_rule (circuits-agree (read_card bytes).card G);
        alike = λ e calls.
            (second-claimed e).answers_agree calls ∙ ap (λ s. answers first_circuit s calls) (sym (opened-as first_circuit first-claims.Claims (λ c n. refl) bytes _ r.session promise e));
        closed = λ number offset e call.
            let by_first = closed first_circuit first-claims.Claims (λ c n. refl) bytes _ r.session promise number offset e call in
            let by-second = closed second_circuit second-claims.Claims (λ c n. refl) bytes _ q.session other number offset e call in
            ⊎_elim (λ own. (15, by_first.1 own, by-second.1 own)) (λ ne. (14, by_first.0 ne, by-second.0 ne)) (same_or_not (number_in call) (read_card bytes).card.number);
      }
