-- In turns and rounds in which no node begins there is no Begin.
use Rattle.std.proofs.Common.{◌≡◌, ◌∙◌, ℕ, zero, suc, ◌+◌, Bool, true, false, cond, not, List, [], ◌∷◌, Option, Some, None, refl, ap, arith}
use Rattle.std.specs.Prelude.{find, fold, is_none, option_and_then, option_map, if◌then◌else◌}
use Rattle.std.specs.List.{cons_option, count_by}
use Rattle.std.specs.Option.{option_map_or}
use Rattle.std.proofs.lemmas.Bool.{both_ways}
use Rattle.std.proofs.lemmas.List.Sums.{sum_by-cons}
use Rattle.base.proofs.MapLaws.{count_by-append}
use Rattle.component_trait.specs.Moves as moves
use Rattle.component_trait.specs.States.{NodeState}
use Rattle.component_trait.specs.declared.next.Next.{Next}
use Rattle.component_trait.specs.declared.next.Next.TheVariants as next
use Rattle.quiesce_laws.specs.Advances.{is_begin}
use Rattle.quiesce_word.specs.Phases.{is_answered, is_asked, is_idle}
use Rattle.quiesce_core.specs.Rules.{is_missing}
use Rattle.quiesce_core.specs.State.{State, exchange, ports_of, service}
use Rattle.quiesce_core.specs.declared.event.Event.{Event}
use Rattle.quiesce_core.specs.declared.event.Event.TheVariants as event
use Rattle.quiesce_core.specs.declared.state.Service.{Service}
use Rattle.node_turn_laws.specs.Round.{Round, after_rounds, give_turn, live_nodes}
use Rattle.node_turn_laws.specs.Turn.{awaits_call, calls, does_next, ends, goes_on, has_reply, hears, is_for, move_of, or_else, post_waiting, reply_to, serves, takes, turn, turn_in}
use Rattle.node_turn_laws.specs.World.{World, first_port, inbox, state_of}
use Rattle.change_round_laws.proofs.CourseLaws.{turn_events}

-- an event, if there is one, that is no Begin
abbrev is_other : Option Event → Bool
is_other o = option_map_or (λ e. not (is_begin e)) o true

if_other : (b : Bool) (o p : Option Event) → is_other o ≡ true → is_other p ≡ true → is_other (if b then o else p) ≡ true
if_other true o p a c = a
if_other false o p a c = c

or_else_other : (o p : Option Event) → is_other o ≡ true → is_other p ≡ true → is_other (or_else o p) ≡ true
or_else_other None p a c = c
or_else_other (Some e) p a c = a

reply_is_other : (s : State) (t : NodeState) (p : ℕ) → is_other (Some (reply_to s t p)) ≡ true
reply_is_other s t p = by (is_answered (exchange s p).phase)
  where
    by : (b : Bool) → is_other (Some (if b then event.End p (exchange s p).serial (exchange s p).value else event.Ask p (exchange s p).serial (moves.replies t))) ≡ true
    by true = refl
    by false = refl

ends_other : (s : State) (n : ℕ) (t : NodeState) → is_other (ends s n t) ≡ true
ends_other s n t = by (find (has_reply s) (ports_of s.config n))
  where
    by : (o : Option ℕ) → is_other (option_map (reply_to s t) o) ≡ true
    by None = refl
    by (Some p) = reply_is_other s t p

calls_other : (s : State) (p v : ℕ) → is_other (calls s p v) ≡ true
calls_other s p v =
    if_other (not (is_idle (exchange s p).phase)) None (if is_missing s p then Some (event.Miss p) else Some (event.Call p ((exchange s p).serial + 1) v)) refl
    (if_other (is_missing s p) (Some (event.Miss p)) (Some (event.Call p ((exchange s p).serial + 1) v)) refl refl)

next_other : (s : State) (first p : ℕ) (x : Next) → is_other (does_next s first p x) ≡ true
next_other s first p (next.Give v) = refl
next_other s first p (next.More v) = refl
next_other s first p (next.Ask a) = calls_other s (first + a.require) a.value

goes_other : (s : State) (n : ℕ) (t : NodeState) (v : Service) → is_other (goes_on s n t v) ≡ true
goes_other s n t v =
    if_other v.heard (option_and_then (does_next s (first_port s n) v.port) (moves.next t)) (hears s v.port) (by (moves.next t))
    (if_other (is_asked (exchange s v.port).phase) (Some (event.Hear v.port (exchange s v.port).serial (exchange s v.port).value)) None refl refl)
  where
    by : (o : Option Next) → is_other (option_and_then (does_next s (first_port s n) v.port) o) ≡ true
    by None = refl
    by (Some x) = next_other s (first_port s n) v.port x

serves_other : (s : State) (n : ℕ) (t : NodeState) → is_other (serves s n t) ≡ true
serves_other s n t = if_other (awaits_call s n) None (option_and_then (goes_on s n t) (service s n)) refl (by (service s n))
  where
    by : (o : Option Service) → is_other (option_and_then (goes_on s n t) o) ≡ true
    by None = refl
    by (Some v) = goes_other s n t v

takes_other : (s : State) (n : ℕ) (box : List ℕ) → is_other (takes s n box) ≡ true
takes_other s n [] = refl
takes_other s n (p ∷ box) = if_other (is_for s n p) (Some (event.Take p (exchange s p).serial (exchange s p).value)) None refl refl

move_other : (s : State) (n : ℕ) (t : NodeState) (box : List ℕ) → is_other (move_of s n t box false) ≡ true
move_other s n t box =
    let taken = if is_none (service s n) then takes s n box else None in
    or_else_other (ends s n t) (or_else (serves s n t) (or_else taken None)) (ends_other s n t)
    (or_else_other (serves s n t) (or_else taken None) (serves_other s n t)
    (or_else_other taken None (if_other (is_none (service s n)) (takes s n box) None (takes_other s n box) refl) refl))

turn_other : (w : World) (n : ℕ) → is_other (turn w n false).event ≡ true
turn_other w n = by (post_waiting w n) (state_of (post_waiting w n) n)
  where
    by : (v : World) (o : Option NodeState) → is_other (option_map_or (turn_in v n false) o (record { event = None; world = v })).event ≡ true
    by v None = refl
    by v (Some t) = move_other v.machine n t (inbox v n)

-- so as many are begun as before

abbrev pub begun : World → ℕ
begun w = count_by is_begin w.events

one_other : (b : Bool) (e : Event) → is_begin e ≡ b → not b ≡ true → count_by is_begin (e ∷ []) ≡ 0
one_other true e is h = absurd (both_ways false refl h)
one_other false e is h = let all = sum_by-cons (λ x. cond (is_begin x) 1 0) e [] ∙ ap (λ b. cond b 1 0 + 0) is in omega (arith, all)

turn_begins_none : (w : World) (n : ℕ) → begun (turn w n false).world ≡ begun w
turn_begins_none w n =
    let o = (turn w n false).event in
    let all = ap (count_by is_begin) (turn_events w n false) ∙ count_by-append is_begin w.events (cons_option o []) in
    let none = by o (turn_other w n) in
    omega (arith, all, none)
  where
    by : (o : Option Event) → is_other o ≡ true → count_by is_begin (cons_option o []) ≡ 0
    by None h = refl
    by (Some e) h = one_other (is_begin e) e refl h

turns_begin_none : (ns : List ℕ) (r : Round) → begun (fold (give_turn false) r ns).world ≡ begun r.world
turns_begin_none [] r = refl
turns_begin_none (n ∷ ns) r = turns_begin_none ns (give_turn false r n) ∙ turn_begins_none r.world n

pub rounds_begin_none : (w : World) (j : ℕ) → begun (after_rounds false w j) ≡ begun w
rounds_begin_none w zero = refl
rounds_begin_none w (suc j) =
    let v = after_rounds false w j in
    turns_begin_none (live_nodes v) (record { world = v; moved = false }) ∙ rounds_begin_none w j
