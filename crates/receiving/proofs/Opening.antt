-- An opened session: with an accepted card its claims hold, with a refused one every call is refused. The session is of any kind.
use Prim.Native.Nat.{ℕ}
use mathlib.Core.Path.{◌≡◌, sym, ap, ap₂, ◌∙◌, subst}
use mathlib.Core.List.{List}
use Rattle.std.specs.Prelude.{Result}
use native.Mathlib.Nat.{le_of_eq}
use Rattle.code.specs.Code.{most_frames}
use Rattle.code.specs.Guarantees.{Guarantees}
use Rattle.code.specs.declared.Card.{Card}
use Rattle.card.specs.Outcome.{Outcome, outcome_of, card_in, CardOutcome}
use Rattle.card.specs.Promise.{CardPromise}
use Rattle.card.specs.Reading.{read_card}
use Rattle.card.specs.declared.Fault.{Fault}
use Rattle.card.specs.declared.CardRule.TheVariants.{Present}
use Rattle.receiving.specs.Receive.{Circuit, open_of, refused_of}
use Rattle.receiving.specs.Calls.{Call, byte, readings, number_in, reply_of}
use Rattle.receiving.specs.Opening.{counted_at, Opens, OpensFresh}
use Rattle.receiving.proofs.Outcomes.{admission, other_number, no_room, reply-refused}

-- a session without room for a frame
module _ {S : Type 0} (x : Circuit S) (s : S) (full : x.received s ≡ most_frames) where
  refused-other : (call : Call) → (number_in call ≡ (x.card s).number → ⊥) → reply_of x s call ≡ refused_of s 14
  unfolding number_in admission
  refused-other (byte number f) ne = reply-refused x s (byte number f) 14 (other_number _ _ number _ ne)
  refused-other (readings number levels) ne = reply-refused x s (readings number levels) 14 (other_number _ _ number _ ne)

  refused-own : (call : Call) → number_in call ≡ (x.card s).number → reply_of x s call ≡ refused_of s 15
  unfolding number_in admission
  refused-own (byte number f) e = reply-refused x s (byte number f) 15 (no_room _ _ number _ e (le_of_eq (sym full)))
  refused-own (readings number levels) e = reply-refused x s (readings number levels) 15 (no_room _ _ number _ e (le_of_eq (sym full)))

-- a session opened with the card that was read
module _ {S : Type 0} (x : Circuit S) (counted : (c : Card) (n : ℕ) → x.received (x.fresh c n) ≡ n) where
  pub opens-fresh : (bytes : List ℕ) (read : Result Card Fault) → CardPromise Present bytes read → (outcome : Outcome) (s : S) → outcome ≡ outcome_of read
      → s ≡ x.fresh (card_in read) (counted_at outcome) → OpensFresh x bytes outcome s
  unfolding counted_at open_of
  opens-fresh bytes read promise outcome s same own =
      record {
        verdict_is = outcome_is;
        session_is = own ∙ ap₂ (λ (c : Card) (o : Outcome). x.fresh c (counted_at o)) card_is outcome_is;
        claims = λ w.
            record {
              guaranteed = subst Guarantees card_is (promise.guaranteed (sym same ∙ w));
              is_fresh = own ∙ ap₂ (λ (c : Card) (o : Outcome). x.fresh c (counted_at o)) card_is w;
            };
        shut = λ n offset w.
            let full : x.received s ≡ most_frames = ap x.received own ∙ counted (card_in read) _ ∙ ap counted_at w in
            record { other_refused = refused-other x s full; own_refused = refused-own x s full };
      }
    where
      outcome_is : outcome ≡ (read_card bytes).outcome
      outcome_is = same ∙ ap (λ (r : CardOutcome). r.outcome) promise.is_read

      card_is : card_in read ≡ (read_card bytes).card
      card_is = ap (λ (r : CardOutcome). r.card) promise.is_read

-- what holds of a fresh session holds of one that is opened
pub opens : {S : Type 0} (x : Circuit S) (Claims : Card → S → Type 0) → ((c : Card) → Guarantees c → Claims c (open_of x c)) → {bytes : List ℕ} {outcome : Outcome} {s : S}
    → OpensFresh x bytes outcome s → Opens x Claims bytes outcome s
opens x Claims claims-of {bytes} o =
    record {
      verdict_is = o.verdict_is;
      session_is = o.session_is;
      claims = λ w. let fresh = o.claims w in subst (Claims (read_card bytes).card) (sym fresh.is_fresh) (claims-of _ fresh.guaranteed);
      shut = o.shut;
    }
