use Rattle.outcomes.specs.Listing.{listing_of}
use Rattle.outcomes.proofs.Writing.{stored-both}
use Rattle.listing.proofs.Room.{listing-room}
use Rattle.listing.proofs.list_handed_out.Goals as goal

pub returns : goal.returns
unfolding listing_of
returns c = record { stored = stored-both c.card_line.ensures c.counted_lines.ensures; within = listing-room c.args.card.now c.requires.0 c.args.frames.now c.requires.1 }
