-- A good card, as the page has it: its limits and orthogonality against those of an acceptable card, and what reading comes to.
use Prim.Native.Nat.{ℕ, ◌-◌, ◌≤◌, ◌<◌}
use mathlib.Core.Path.{◌≡◌, sym, ap, ◌∙◌}
use mathlib.Core.List.{List, []}
use mathlib.Core.Logic.{⊎_elim}
use native.Mathlib.Omega.{arith}
use lib.ListN.{length, get_or}
use Rattle.bits.proofs.Cases.{same_or_not}
use Rattle.bits.proofs.Lists.{from_places}
use Rattle.code.specs.Limits.{most_checks}
use Rattle.code.specs.Checks.{Orthogonal}
use Rattle.code.specs.declared.Card.{Card}
use Rattle.card.specs.Fields.{Stream, Fields, card_of}
use Rattle.card.specs.Layout.{MasksIn, AllMasksIn, StreamIn, AllStreamsIn, DefaultsIn, InLimits, Acceptable}
use Rattle.card.specs.Outcome.{published}
use Rattle.card.specs.Promise.{CardPromise}
use Rattle.card.specs.Written.{stated}
use Rattle.std.specs.Prelude.{Result}
use Rattle.card.specs.declared.Fault.{Fault}
use Rattle.card.specs.declared.CardRule.{CardRule}
use Rattle.card.specs.declared.CardRule.TheVariants.{Former, Present}
use Rattle.card.proofs.Defaults.{stated-most, default-stated, stated-default, none-changes}
use Rattle.card.proofs.Stores.{empty_stream, masks-in-list, stream-in-list}
use Rattle.terms.specs.Terms.{Masks, Stands, WithinLimits, OrthogonalChecks, AtMost, GoodCard, CardRead}

-- ---- masks and streams, said along the list and place by place
module _ (p m : ℕ) where
  masks-at : (masks : List (List ℕ)) → AllMasksIn p m masks → (i : ℕ) → i < length masks → Masks p m (get_or masks i [])
  masks-at masks a i h = let b = masks-in-list p m masks a i h in (b.many, b.within)

  masks-from : (masks : List (List ℕ)) → ((i : ℕ) → i < length masks → Masks p m (get_or masks i [])) → AllMasksIn p m masks
  masks-from masks a =
      from_places (MasksIn p m) (AllMasksIn p m) [] tt (λ x xs a. a) masks (λ i h. let b = a i h in record { many = b.0; within = b.1 })

  streams-from : (streams : List Stream) → ((i : ℕ) → i < length streams → StreamIn p m (get_or streams i empty_stream)) → AllStreamsIn p m streams
  streams-from = from_places (StreamIn p m) (AllStreamsIn p m) empty_stream tt (λ x xs a. a)

-- ---- a field that has a default, under either rule
module _ (stands default v : ℕ) where
  stands-bit : (rule : CardRule) → Stands rule stands default v → stands ≤ 1
  unfolding stated
  stands-bit Former s = s.0
  stands-bit Present s = omega (arith, s, stated-most default v)

  stands-default : (rule : CardRule) → Stands rule stands default v → stands ≡ 0 → v ≡ default
  unfolding stated
  stands-default Former s e = s.1 e
  stands-default Present s e = stated-default default v (sym s ∙ e)

module _ (f : Fields) where
  stands-both : (rule : CardRule) → InLimits rule f → Stands rule f.head.k_stands 1 f.head.k × Stands rule f.head.n_stands 2 f.head.n
  unfolding stated
  stands-both Former w = let r = w.ranges in ((r.k_stands_bit, r.k_default), (r.n_stands_bit, r.n_default))
  stands-both Present w =
      let same = none-changes f w.ranges w.defaults in
      (sym (ap (λ (f : Fields). f.head.k_stands) same), sym (ap (λ (f : Fields). f.head.n_stands) same))

  defaults-in : (rule : CardRule) → Stands rule f.head.k_stands 1 f.head.k → Stands rule f.head.n_stands 2 f.head.n → DefaultsIn rule f
  unfolding stated
  defaults-in Former k n = tt
  defaults-in Present k n =
      record { k_left_out = λ e. k ∙ default-stated 1 f.head.k e; n_left_out = λ e. n ∙ default-stated 2 f.head.n e }

-- ---- the limits
module _ (f : Fields) where
  abbrev p : ℕ
  p = f.head.n - f.head.k

  abbrev m : ℕ
  m = f.head.m

  abbrev stream : ℕ → Stream
  stream i = get_or f.streams i empty_stream

  module _ (rule : CardRule) (w : InLimits rule f) where
    stream-in : (i : ℕ) → i < f.head.k → StreamIn p m (stream i)
    stream-in i h = stream-in-list p m f.streams w.ranges.streams_in i (omega (arith, w.ranges.stream_count))

    within-limits : WithinLimits rule most_checks f.head f.rows f.streams
    within-limits =
        let r = w.ranges in
        let head = stands-both f rule w in
        record {
          number_is_a_byte = r.number_most;
          k_in_range = (r.k_least, r.k_most);
          n_in_range = (r.n_least, r.n_most);
          m_in_range = r.m_most;
          k_by_rule = head.0;
          n_by_rule = head.1;
          generators_for_each = r.row_count;
          generators_in_range = λ i h. masks-at p m f.rows r.rows_in i (omega (arith, r.row_count));
          streams_for_each = r.stream_count;
          j_in_range = λ i h. ((stream-in i h).j_least, (stream-in i h).j_most);
          checks_for_each = λ i h. (stream-in i h).many;
          checks_in_range = λ i q h l. masks-at p m (stream i).checks (stream-in i h).masks q (omega (arith, (stream-in i h).many));
        }

  module _ (rule : CardRule) (w : WithinLimits rule most_checks f.head f.rows f.streams) where
    in-stream : (i : ℕ) → i < f.head.k → StreamIn p m (stream i)
    in-stream i h =
        record {
          many = w.checks_for_each i h;
          j_least = (w.j_in_range i h).0;
          j_most = (w.j_in_range i h).1;
          masks = masks-from p m (stream i).checks (λ q l. w.checks_in_range i q h (omega (arith, w.checks_for_each i h)));
        }

    in-limits : InLimits rule f
    in-limits =
        record {
          ranges =
              record {
                k_stands_bit = stands-bit f.head.k_stands 1 f.head.k rule w.k_by_rule;
                n_stands_bit = stands-bit f.head.n_stands 2 f.head.n rule w.n_by_rule;
                number_most = w.number_is_a_byte;
                k_least = w.k_in_range.0;
                k_most = w.k_in_range.1;
                k_default = stands-default f.head.k_stands 1 f.head.k rule w.k_by_rule;
                n_least = w.n_in_range.0;
                n_most = w.n_in_range.1;
                n_default = stands-default f.head.n_stands 2 f.head.n rule w.n_by_rule;
                m_most = w.m_in_range;
                row_count = w.generators_for_each;
                rows_in = masks-from p m f.rows (λ i h. w.generators_in_range i (omega (arith, w.generators_for_each)));
                stream_count = w.streams_for_each;
                streams_in = streams-from p m f.streams (λ i h. in-stream i (omega (arith, w.streams_for_each)));
              };
          defaults = defaults-in f rule w.k_by_rule w.n_by_rule;
        }

-- ---- orthogonality

-- an error of which it can't be that it is another than (0, i)
own-error : (i b s : ℕ) → ((b ≡ 0 → s ≡ i → ⊥) → ⊥) → (b ≡ 0) × (s ≡ i)
own-error i b s n =
    ⊎_elim (λ z. ⊎_elim (λ e. (z, e)) (λ e. absurd (n (λ _. e))) (same_or_not s i)) (λ z. absurd (n (λ y _. z y))) (same_or_not b 0)

module _ (c : Card) where
  truly-orthogonal : ((i : ℕ) → i < c.k → Orthogonal c i) → OrthogonalChecks c
  truly-orthogonal o =
      record {
        each_own = λ i q h. (o i h).own q;
        no_other_by_two = λ i q r b s h l lr lb ls t u. own-error i b s (λ other. (o i h).apart b s q r lb ls other l lr t u);
      }

  orthogonal : OrthogonalChecks c → (i : ℕ) → i < c.k → Orthogonal c i
  orthogonal o i h =
      record {
        own = λ q. o.each_own i q h;
        apart = λ b s q r lb ls other l lr t u. let e = o.no_other_by_two i q r b s h l lr lb ls t u in other e.0 e.1;
      }

-- ---- the good cards are the acceptable ones
module _ (rule : CardRule) {bytes : List ℕ} {f : Fields} where
  good : Acceptable rule bytes f → GoodCard rule most_checks bytes f
  unfolding card_of
  good a = record { bytes_are = a.bytes_are; limits = within-limits f rule a.limits; orthogonal = truly-orthogonal (card_of f) a.orthogonal }

  acceptable : GoodCard rule most_checks bytes f → Acceptable rule bytes f
  unfolding card_of
  acceptable g = record { limits = in-limits f rule g.limits; orthogonal = orthogonal (card_of f) g.orthogonal; bytes_are = g.bytes_are }

  -- with another limit, if every stream's J is within it
  good-within : {most : ℕ} (other : ℕ) → GoodCard rule most bytes f → AtMost other f → GoodCard rule other bytes f
  good-within other g few =
      let w = g.limits in
      record {
        bytes_are = g.bytes_are;
        limits =
            record {
              number_is_a_byte = w.number_is_a_byte;
              k_in_range = w.k_in_range;
              n_in_range = w.n_in_range;
              m_in_range = w.m_in_range;
              k_by_rule = w.k_by_rule;
              n_by_rule = w.n_by_rule;
              generators_for_each = w.generators_for_each;
              generators_in_range = w.generators_in_range;
              streams_for_each = w.streams_for_each;
              j_in_range = λ i h. ((w.j_in_range i h).0, few i h);
              checks_for_each = w.checks_for_each;
              checks_in_range = w.checks_in_range;
            };
        orthogonal = g.orthogonal;
      }

-- ---- reading
pub card-read : (rule : CardRule) {bytes : List ℕ} {r : Result Card Fault} → CardPromise rule bytes r → CardRead rule bytes (published r)
card-read rule promise =
    record {
      is_read = promise.is_read;
      only_good = λ v.
          let a = promise.only_these v in
          let g = good rule a.1.acceptable in
          (a.0, (good-within rule 10 g (λ i h. omega (arith, (g.limits.j_in_range i h).1)), a.1.card_is));
      every_good = λ f g. promise.all_these f (acceptable rule (good-within rule most_checks g (λ i h. omega (arith, (g.limits.j_in_range i h).1))));
      length_most = promise.length_most;
      still_good = λ f g few. promise.all_these f (acceptable rule (good-within rule most_checks g few));
      was_good = λ v.
          let a = promise.only_these v in
          let g = good rule a.1.acceptable in
          (a.0, (good-within rule 16 g (λ i h. omega (arith, (g.limits.j_in_range i h).1)), λ i h. (g.limits.j_in_range i h).1));
      one_form = λ other small v w. let both = promise.one_form other small v w in (both.equal_bytes, both.equal_values);
    }
