-- What a node may do at a gate, and what its fold takes, by its invariant.
use Rattle.std.proofs.Common.{◌≡◌, ◌∙◌, ℕ, ◌+◌, ◌-◌, ◌<◌, ◌≤◌, ◌^◌, Bool, true, false, cond, List, length, Option, Some, None, refl, sym, ap, subst, arith}
use Rattle.std.specs.Prelude.{◌==◌, nat_lt, is_none, option_and_then, slice_index_or}
use Rattle.std.specs.Option.{option_map_or}
use Rattle.std.proofs.lemmas.Bool.{and_from, lt-ltb}
use Rattle.std.proofs.lemmas.Option.{none-some, same_Some}
use Rattle.base.proofs.NumberLaws.{same_number}
use Rattle.config_graph.specs.Kinds.{calls_of, depends_on, mores_of, row}
use Rattle.config_graph.proofs.KindLaws.{few_calls, few_mores}
use Rattle.component_trait.proofs.BoundLaws.{asks_are_few, mores_are_few}
use Rattle.component_trait.specs.Bounds.{FitsRequest}
use Rattle.component_trait.specs.Fold.{after_event, asked_by, calls_at, is_give, is_more, is_request, is_request_at, may_take, where_so}
use Rattle.component_trait.specs.Moves as moves
use Rattle.component_trait.specs.Moves.{next_in}
use Rattle.component_trait.specs.States.{NodeState, Service as Serving}
use Rattle.component_trait.specs.Tables.{next_of}
use Rattle.component_trait.specs.declared.next.Ask.{Ask as Request}
use Rattle.component_trait.specs.declared.next.Next.{Next}
use Rattle.component_trait.specs.declared.next.Next.TheVariants as next
use Rattle.quiesce_core.specs.Knowledge.{port_at_start}
use Rattle.quiesce_core.specs.Rules.{value_limit}
use Rattle.quiesce_core.specs.declared.event.Event.{Event}
use Rattle.quiesce_core.specs.declared.event.Event.TheVariants.{Begin, Call, Give, Hear, Miss, More, Take}
use Rattle.quiesce_core.specs.declared.known.Known.{Known}
use Rattle.quiesce_core.specs.declared.known.PortKnown.{PortKnown}
use Rattle.quiesce_core.specs.declared.known.Served.{Served}
use Rattle.node_gate.specs.Noting.{CanCount}
use Rattle.node_gate.specs.Seats.{IsOwn, MayBegin, MayCallAt, MayGive, MayHear, MaySendMore, has_heard, port_known, serial_served, serves}
use Rattle.node_host.specs.Hosted.{IsHosted, SeatSeen, node_of}
use Rattle.node_host.specs.Lines.{LineNode}
use Rattle.node_host.specs.Awaiting.{awaits}
use Rattle.node_host.proofs.InService.{calls_ended, in_service, no_call}

where_it_is : (b : Bool) (x y : NodeState) → b ≡ true → x ≡ y → where_so b x ≡ Some y
where_it_is b x y is same = ap (λ c. where_so c x) is ∙ ap Some same

-- ---- what the fold takes

pub give_folds : (first p k v : ℕ) (t t' : NodeState) → moves.next t ≡ Some (next.Give v) → t' ≡ moves.after_give t → after_event first t (Give p k v) ≡ Some t'
give_folds first p k v t t' is same = where_it_is (is_give v (moves.next t)) (moves.after_give t) t' (ap (is_give v) is ∙ same_number v) (sym same)

pub more_folds : (first p k v : ℕ) (t t' : NodeState) → moves.next t ≡ Some (next.More v) → t' ≡ moves.after_more t → after_event first t (More p k v) ≡ Some t'
more_folds first p k v t t' is same = where_it_is (is_more v (moves.next t)) (moves.after_more t) t' (ap (is_more v) is ∙ same_number v) (sym same)

pub hear_folds : (first p k v : ℕ) (t t' : NodeState) → moves.waits t ≡ true → t' ≡ moves.after_answer t v → after_event first t (Hear p k v) ≡ Some t'
hear_folds first p k v t t' is same = where_it_is (moves.waits t) (moves.after_answer t v) t' is (sym same)

pub miss_folds : (first : ℕ) (x : Request) (t t' : NodeState) → moves.next t ≡ Some (next.Ask x) → t' ≡ moves.after_answer t 0 → after_event first t (Miss (first + x.require)) ≡ Some t'
miss_folds first x t t' is same =
    where_it_is (calls_at first t (first + x.require)) (moves.after_answer t 0) t' (ap (λ o. is_request_at first (first + x.require) (asked_by o)) is ∙ same_number (first + x.require)) (sym same)

requested : (first : ℕ) (x : Request) → is_request first (first + x.require) x.value (Some x) ≡ true
requested first x = and_from (first + x.require == first + x.require) (x.value == x.value) (same_number (first + x.require)) (same_number x.value)

pub call_folds : (first k : ℕ) (x : Request) (t : NodeState) → moves.next t ≡ Some (next.Ask x) → after_event first t (Call (first + x.require) k x.value) ≡ Some t
call_folds first k x t is =
    where_it_is (is_request first (first + x.require) x.value (asked_by (moves.next t))) t t (ap (λ o. is_request first (first + x.require) x.value (asked_by o)) is ∙ requested first x) refl

pub begin_folds : (first k : ℕ) (x : Request) (t : NodeState) → moves.wants t ≡ Some x → after_event first t (Begin (first + x.require) k x.value) ≡ Some t
begin_folds first k x t is =
    where_it_is (is_request first (first + x.require) x.value (moves.wants t)) t t (ap (is_request first (first + x.require) x.value) is ∙ requested first x) refl

pub take_folds : (first p k v x : ℕ) (t t' : NodeState) → x < length (row t.kind).provides → t.service ≡ None → t' ≡ moves.after_take t v → after_event first t (Take p k v) ≡ Some t'
take_folds first p k v x t t' provided free same =
    where_it_is (may_take t) (moves.after_take t v) t'
    (and_from (nat_lt 0 (length (row t.kind).provides)) (is_none t.service) (lt-ltb 0 (length (row t.kind).provides) (omega (arith, provided))) (ap is_none free)) (sym same)

module _ {slot first : ℕ} {t : NodeState} {log : List Event} {line : List LineNode} {known : Known} {waiting : List (Option ℕ)} {seat : SeatSeen} (h : IsHosted slot first t log line known waiting seat) where
  own : (r : ℕ) → r < length (row t.kind).requires_ → IsOwn (node_of slot first t) (first + r)
  own r within = record { from = omega arith; below = omega (arith, within) }

  port_is : (r : ℕ) → port_known (node_of slot first t) seat.known (first + r) ≡ slice_index_or known.ports r port_at_start
  port_is r =
      let at : first + r - first ≡ r = omega arith in
      ap (λ i. slice_index_or seat.known.ports i port_at_start) at ∙ ap (λ (w : Known). slice_index_or w.ports r port_at_start) (sym h.kept)

  pub may_begin : (x : Request) (y : PortKnown) → FitsRequest t.kind x → y ≡ slice_index_or known.ports x.require port_at_start → y.idle ≡ true → MayBegin (node_of slot first t) seat.known (first + x.require) x.value
  may_begin x y fits is idle = record { own = own x.require fits.require; idle = ap (λ (k : PortKnown). k.idle) (port_is x.require ∙ sym is) ∙ idle; small = fits.value }

  module _ (u : Served) (serving : known.service ≡ Some u) where
    seat_serves : seat.known.service ≡ Some u
    seat_serves = ap (λ (w : Known). w.service) (sym h.kept) ∙ serving

    pub serial_is : serial_served seat.known ≡ u.serial
    serial_is = ap (λ o. option_map_or (λ (x : Served). x.serial) o 0) seat_serves

    at_port : serves seat.known u.port ≡ true
    at_port = ap (λ o. option_map_or (λ (x : Served). x.port == u.port) o false) seat_serves ∙ same_number u.port

    heard_is : has_heard seat.known ≡ u.heard
    heard_is = ap (λ o. option_map_or (λ (x : Served). x.heard) o false) seat_serves

    pub may_hear : u.heard ≡ false → MayHear seat.known u.port
    may_hear unheard = record { serving = at_port; waits = heard_is ∙ unheard }

    module _ (heard : u.heard ≡ true) (still : awaits known ≡ false) where
      pub may_give : (v : ℕ) → v < value_limit → MayGive seat.known u.port v
      may_give v small = record { serving = at_port; heard = heard_is ∙ heard; ended = calls_ended h still; small = small }

      -- as many answers and further messages came as it called and sent
      came : u.calls + u.mores ≤ length (in_service h u serving).held.answers
      came = (in_service h u serving).agree.all heard (no_call h still)

      table_is : (x : Next) → moves.next t ≡ Some x
          → (w : Serving) × (w ≡ (in_service h u serving).held) × (next_of t.kind t.arg w.value w.reply w.answers ≡ x)
      table_is x is =
          let i = in_service h u serving in
          (i.held, refl, by i.held i.held.waits refl (sym (ap (option_and_then (next_in t)) i.is) ∙ is))
        where
          by : (w : Serving) (b : Bool) → w.waits ≡ b → cond w.waits None (Some (next_of t.kind t.arg w.value w.reply w.answers)) ≡ Some x → next_of t.kind t.arg w.value w.reply w.answers ≡ x
          by w true waits e = absurd (none-some x (sym (ap (λ c. cond c None (Some (next_of t.kind t.arg w.value w.reply w.answers))) waits) ∙ e))
          by w false goes e = same_Some (next_of t.kind t.arg w.value w.reply w.answers) x (sym (ap (λ c. cond c None (Some (next_of t.kind t.arg w.value w.reply w.answers))) goes) ∙ e)

      few_mores_now : (v : ℕ) → moves.next t ≡ Some (next.More v) → u.mores < mores_of t.kind 0
      few_mores_now v is =
          let w = table_is (next.More v) is in
          let few = mores_are_few t.kind t.arg w.0.value w.0.reply w.0.answers v w.2 in
          let all = subst (λ (s : Serving). u.calls + u.mores ≤ length s.answers) (sym w.1) came in omega (arith, few, all)

      few_calls_now : (x : Request) → moves.next t ≡ Some (next.Ask x) → u.calls < calls_of t.kind 0
      few_calls_now x is =
          let w = table_is (next.Ask x) is in
          let few = asks_are_few t.kind t.arg w.0.value w.0.reply w.0.answers x w.2 in
          let all = subst (λ (s : Serving). u.calls + u.mores ≤ length s.answers) (sym w.1) came in omega (arith, few, all)

      pub may_send : (v : ℕ) → moves.next t ≡ Some (next.More v) → v < value_limit → MaySendMore (node_of slot first t) seat.known u.port v
      may_send v is small = record {
        give = may_give v small;
        mores = ap (λ o. option_map_or (λ (x : Served). nat_lt x.mores (mores_of t.kind 0)) o false) seat_serves ∙ lt-ltb u.mores (mores_of t.kind 0) (few_mores_now v is);
      }

      pub may_call : (x : Request) (y : PortKnown) → moves.next t ≡ Some (next.Ask x) → FitsRequest t.kind x → depends_on t.kind 0 x.require ≡ true → y ≡ slice_index_or known.ports x.require port_at_start
          → y.idle ≡ true → MayCallAt (node_of slot first t) seat.known (first + x.require) x.value
      may_call x y is fits depends at idle =
          let index : first + x.require - first ≡ x.require = omega arith in
          record {
            own = own x.require fits.require;
            idle = ap (λ (k : PortKnown). k.idle) (port_is x.require ∙ sym at) ∙ idle;
            depends = ap (depends_on t.kind 0) index ∙ depends;
            heard = heard_is ∙ heard;
            calls = ap (λ o. option_map_or (λ (s : Served). nat_lt s.calls (calls_of t.kind 0)) o false) seat_serves ∙ lt-ltb u.calls (calls_of t.kind 0) (few_calls_now x is);
            small = fits.value;
          }

      pub can_send : (p k v : ℕ) → moves.next t ≡ Some (next.More v) → CanCount known.service (More p k v)
      can_send p k v is s at = let same = same_Some u s (sym serving ∙ at) in subst (λ (x : Served). x.mores < 2 ^ 32 - 1) same (omega (arith, few_mores_now v is, few_mores t.kind 0))

      pub can_call : (p k v : ℕ) (x : Request) → moves.next t ≡ Some (next.Ask x) → CanCount known.service (Call p k v)
      can_call p k v x is s at = let same = same_Some u s (sym serving ∙ at) in subst (λ (y : Served). y.calls < 2 ^ 32 - 1) same (omega (arith, few_calls_now x is, few_calls t.kind 0))

      pub can_miss : (p : ℕ) (x : Request) → moves.next t ≡ Some (next.Ask x) → CanCount known.service (Miss p)
      can_miss p x is s at = let same = same_Some u s (sym serving ∙ at) in subst (λ (y : Served). y.calls < 2 ^ 32 - 1) same (omega (arith, few_calls_now x is, few_calls t.kind 0))
