use mathlib.Core.Path.{refl, sym, ap}
use native.Mathlib.Omega.{arith}
use Rattle.card.specs.Outcome.{CardOutcome}
use Rattle.outcomes.specs.Listing.{listing_under}
use Rattle.listing.proofs.Writing.{line-as}
use Rattle.listing.proofs.list_parts.Goals as goal

pub list_frames-requires : goal.list_frames-requires
list_frames-requires c =
    let read = c.in-Ok.ensures in (
      record {
        card_accepted = sym (ap (λ (r : CardOutcome). r.outcome) read.is_read);
        card_is = ap (λ (r : CardOutcome). r.card) read.is_read;
        guaranteed = read.guaranteed refl;
      },
      c.requires,
    )

pub returns-in-Ok : goal.returns-in-Ok
returns-in-Ok c =
    line-as (ap (λ (r : CardOutcome). listing_under r.outcome r.card c.args.frames.now) c.in-Ok.ensures.is_read) (omega arith) c.list_frames.ensures

pub returns-in-Err : goal.returns-in-Err
unfolding listing_under
returns-in-Err c =
    line-as (ap (λ (r : CardOutcome). listing_under r.outcome r.card c.args.frames.now) c.in-Err.ensures.is_read) (omega arith) c.refused.ensures
