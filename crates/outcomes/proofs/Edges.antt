-- The streams at the edge of what a burst asks of its input: those of the condition (`majority`), each a whole stream.
use Prim.Native.Nat.{ℕ, suc, ◌+◌, ◌-◌, ◌^◌}
use mathlib.Core.Path.{◌≡◌, refl}
use mathlib.Core.List.{List}
use native.Mathlib.Omega.{arith}
use lib.ListN.{length, get_or}
use Rattle.bits.specs.Sums.{sum_below, up_to}
use Rattle.bits.proofs.Sums.{all-at_most}
use Rattle.code.specs.declared.Card.{Card}
use Rattle.majority.specs.Plain.{Correctable}
use Rattle.majority.specs.Edges.{Edges, LargerEdges}
use Rattle.majority.proofs.Edges as majority
use Rattle.majority.proofs.LargerEdges as majority-larger
use Rattle.outcomes.specs.Claims.{SentAs}

-- a whole stream of information frames within their streams is sent as these if it is correctable
sent-as : (c : Card) (info input : List ℕ) → sum_below (length info) (λ u. suc (get_or info u 0) - 2 ^ c.k) ≡ 0 → length input ≡ length info + c.m
    → Correctable c info input → SentAs c info input
sent-as c info input small whole few = record { information = all-at_most _ _ _ (omega arith); whole = whole; correctable = few }

pub edges : Edges SentAs
unfolding sum_below up_to
edges =
    let e = majority.edges in
    record {
      p_one = sent-as _ _ _ refl refl e.p_one;
      p_two = λ sent. e.p_two sent.correctable;
      p_own = sent-as _ _ _ refl refl e.p_own;
      p_own_and_parity = λ sent. e.p_own_and_parity sent.correctable;
      p_none = sent-as _ _ _ refl refl e.p_none;
      p_long = sent-as _ _ _ refl refl e.p_long;
      p_long_last = λ sent. e.p_long_last sent.correctable;
      q_one = sent-as _ _ _ refl refl e.q_one;
      q_two = λ sent. e.q_two sent.correctable;
      q_tail = sent-as _ _ _ refl refl e.q_tail;
      q_tail_touched = λ sent. e.q_tail_touched sent.correctable;
      r_two = sent-as _ _ _ refl refl e.r_two;
      r_three = λ sent. e.r_three sent.correctable;
      t_one_each = sent-as _ _ _ refl refl e.t_one_each;
      t_two_for_stream_1 = λ sent. e.t_two_for_stream_1 sent.correctable;
      t_two_for_stream_2 = λ sent. e.t_two_for_stream_2 sent.correctable;
    }

pub larger-edges : LargerEdges SentAs
unfolding sum_below
larger-edges =
    let e = majority-larger.larger-edges in
    record {
      six_three = sent-as _ _ _ refl refl e.six_three;
      six_four = λ sent. e.six_four sent.correctable;
      wide_each = sent-as _ _ _ refl refl e.wide_each;
      wide_three_for_stream_1 = λ sent. e.wide_three_for_stream_1 sent.correctable;
      wide_two_for_stream_2 = λ sent. e.wide_two_for_stream_2 sent.correctable;
      wide_two_for_stream_3 = λ sent. e.wide_two_for_stream_3 sent.correctable;
    }
