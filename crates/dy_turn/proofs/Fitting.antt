-- What the rule says of one seat.
use Rattle.std.proofs.Common.{◌≡◌, ℕ, ◌<◌, ◌≤◌, List, length, ap, sym, ◌∙◌, arith, lt_of_not-le}
use mathlib.Core.Option.{some}
use lib.ListN.{get_elem?}
use native.Mathlib.Decide.{dec_le}
use Rattle.atomic_table.specs.Table.{State}
use Rattle.std.specs.Prelude.{Option}
use Rattle.dy_turn.specs.declared.known.Origin.{Origin}
use Rattle.dy_turn.specs.declared.known.Known.{Known}
use Rattle.dy_turn.specs.Indices.{one_if_between, times}
use Rattle.dy_turn.specs.Views.{OwnFits, start_of, seats_of, owners, parts}
use Rattle.dy_turn.specs.Rule.{IsTurned, IsLive}
use Rattle.dy_turn.proofs.Ranges.{one_if_between-beyond, one_if_between-most, one_if_between-same}
use Rattle.dy_turn.proofs.Sums.{one_of, sum_by-alone}
use Rattle.dy_turn.proofs.Prefixes.{prefix_length}

-- an index stands in what is a seat's own once at most
pub own_once : {T I : Type 0} (known : Known T I) → OwnFits known → (k : ℕ) → times k known.own ≤ 1
own_once known fits k = omega (arith, fits.only k, one_if_between-most (start_of known.origin) (length known.saw) k)

module _ {T I : Type 0} {history : T → List I} {same_base : T → T → Type 0} {origin : Origin T} (s : State (Option T) (Known T I)) (kept : IsTurned history same_base origin s) where
  module _ (seat : ℕ) (known : Known T I) (at : get_elem? s.views seat ≡ some known) (some_parts : 0 < known.parts) where
    pub live : IsLive origin kept.log known
    live = (kept.each seat known at).0 some_parts

    -- where one seat has all room, each index is its own that is some seat's
    pub owns_all : known.parts ≡ origin.seats → (k : ℕ) → times k known.own ≡ one_if_between origin.start (length kept.log) k
    owns_all whole k =
        sym (sum_by-alone (owners k) parts s.views seat known at (λ j u here none. ap (times k) ((kept.each j u here).1 none).nothing) (kept.rooms ∙ sym whole))
        ∙ kept.owned k

    pub own_fits : OwnFits known
    own_fits =
        let is = live in
        let start : start_of known.origin ≡ origin.start = ap start_of is.same in
        let seats : seats_of known.origin ≡ origin.seats = ap seats_of is.same in
        let len = prefix_length known.saw kept.log is.seen in
        record {
          started = omega (arith, is.started);
          rising = is.rising;
          few = omega (arith, one_of parts s.views seat known at, kept.rooms);
          only = λ k. only_at k (dec_le (length known.saw) k);
          all = λ whole k. all_at (whole ∙ seats) k (dec_le (length known.saw) k);
        }
      where
        only_at : (k : ℕ) → Dec (length known.saw ≤ k) → times k known.own ≤ one_if_between (start_of known.origin) (length known.saw) k
        only_at k (yes far) = omega (arith, live.bound k far)
        only_at k (no near) =
            let start : start_of known.origin ≡ origin.start = ap start_of live.same in
            let len = prefix_length known.saw kept.log live.seen in
            let here : k < length known.saw = lt_of_not-le near in
            let there : k < length kept.log = omega arith in
            let same = one_if_between-same origin.start (length known.saw) (length kept.log) k here there in
            let start' : one_if_between (start_of known.origin) (length known.saw) k ≡ one_if_between origin.start (length known.saw) k = ap (λ a. one_if_between a (length known.saw) k) start in
            omega (arith, one_of (owners k) s.views seat known at, kept.owned k, same, start')

        all_at : known.parts ≡ origin.seats → (k : ℕ) → Dec (length known.saw ≤ k) → times k known.own ≡ one_if_between (start_of known.origin) (length known.saw) k
        all_at whole k (yes far) = live.bound k far ∙ sym (one_if_between-beyond (start_of known.origin) (length known.saw) k far)
        all_at whole k (no near) =
            let start : start_of known.origin ≡ origin.start = ap start_of live.same in
            let len = prefix_length known.saw kept.log live.seen in
            let here : k < length known.saw = lt_of_not-le near in
            let there : k < length kept.log = omega arith in
            owns_all whole k ∙ (one_if_between-same origin.start (length kept.log) (length known.saw) k there here ∙ ap (λ a. one_if_between a (length known.saw) k) (sym start))
