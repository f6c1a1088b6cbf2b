-- The sessions at the edge of each refusal: each is computed.
use mathlib.Core.Path.{refl}
use Rattle.encoder.specs.Sending.{send_of}
use Rattle.encoder.specs.Calls.{takes}
use Rattle.encoder.specs.Edges.{SendingEdges}

pub edges : SendingEdges
unfolding send_of takes
edges =
    record {
      room_left = refl;
      no_room_left = refl;
      tail_left = refl;
      no_tail_left = refl;
      last_taken = refl;
      fourth_digit = refl;
      room_first = refl;
      tail_first = refl;
    }
