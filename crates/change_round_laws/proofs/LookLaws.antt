-- Looks at closed ports, round after round: what they find drained, what is left, and how the course goes on meanwhile.
use Rattle.std.proofs.Common.{◌≡◌, ◌∙◌, ℕ, zero, suc, ◌+◌, ◌≤◌, Bool, true, false, cond, not, ◌||◌, List, [], ◌∷◌, ◌++◌, append_assoc, map, length, refl, sym, ap, subst, ⊎_elim, inl, inr, arith}
use Rattle.std.specs.Prelude.{◌⊎◌, ◌==◌, All, filter}
use Rattle.std.specs.List.{count_by, list_any}
use Rattle.std.specs.List.Sorted.{IsStrictlyIncreasing}
use Rattle.std.proofs.lemmas.Bool.{cases_Bool, not-true}
use Rattle.std.proofs.lemmas.List.{append-nil, length-append, map-append}
use Rattle.std.proofs.lemmas.List.Elements.{All-append, All-cons, All-nil, All-head, All-tail}
use Rattle.std.proofs.lemmas.List.Kept.{IsStrictlyIncreasing-filter}
use Rattle.std.proofs.lemmas.Grind.{flat_map-append}
use Rattle.base.proofs.MapLaws.{count_by-append}
use Rattle.base.proofs.ListLaws.{all_parts}
use Rattle.quiesce_laws.specs.Lists.{In}
use Rattle.quiesce_core.specs.declared.event.Event.{Event}
use Rattle.quiesce_core.specs.Runs.{IsRun, state_after}
use Rattle.quiesce_core.specs.State.{exchange}
use Rattle.quiesce_laws.specs.Drained.{is_drained}
use Rattle.quiesce_laws.specs.Events.{reopens}
use Rattle.quiesce_laws.proofs.DrainingLaws.{drained_stays, no_node_reopens}
use Rattle.node_turn_laws.specs.Round.{after_rounds}
use Rattle.node_turn_laws.specs.World.{World}
use Rattle.node_turn_laws.proofs.ReachedLaws.{holds_where_reached}
use Rattle.report_types.specs.declared.report.HistoryLine.{HistoryLine}
use Rattle.change_spec.specs.Changes.{AreLooks, PortsRise, drained_lines, seen_in_all}
use Rattle.change_spec.specs.Lawful.{IsOfItsKind}
use Rattle.change_spec.specs.Members.{Member, by_node, of_history, lines}
use Rattle.change_spec.specs.Scene.{AreSeen, Seen, drained_line}
use Rattle.change_spec.specs.Serial.{Looks, look_once, looks_after, seen_at}
use Rattle.change_spec.proofs.MemberLaws.{events_of_nodes, events_parts, lines_of_nodes, lines_parts}
use Rattle.change_spec.proofs.SerialLaws.{ports_seen}
use Rattle.change_round_laws.specs.Courses.{Course}
use Rattle.change_round_laws.proofs.CourseLaws.{WentOn, course_machine, course_run, with_rounds, with_said}

-- those that pass, and those that don't

in_passing : (t : ℕ → Bool) (xs : List ℕ) (p : ℕ) → In (filter t xs) p → In xs p × (t p ≡ true)
in_passing t [] p h = absurd h
in_passing t (x ∷ xs) p h = by (t x) refl (in_passing t xs p) h
  where
    by : (b : Bool) → t x ≡ b → (In (filter t xs) p → In xs p × (t p ≡ true)) → In (cond (t x) (x ∷ filter t xs) (filter t xs)) p → In (x ∷ xs) p × (t p ≡ true)
    by true e rest i = ⊎_elim
        (λ (here : x ≡ p). (inl here, ap t (sym here) ∙ e))
        (λ (later : In (filter t xs) p). let w = rest later in (inr w.0, w.1))
        (subst (λ b. In (cond b (x ∷ filter t xs) (filter t xs)) p) e i)
    by false e rest i = let w = rest (subst (λ b. In (cond b (x ∷ filter t xs) (filter t xs)) p) e i) in (inr w.0, w.1)

in_either : (t : ℕ → Bool) (xs : List ℕ) (p : ℕ) → In xs p → In (filter (λ q. not (t q)) xs) p ⊎ (t p ≡ true)
in_either t [] p h = absurd h
in_either t (x ∷ xs) p h = ⊎_elim
    (λ (here : x ≡ p). ⊎_elim
    (λ (e : t p ≡ true). inr e)
    (λ (e : t p ≡ false). inl (subst (λ b. In (cond (not b) (x ∷ filter (λ q. not (t q)) xs) (filter (λ q. not (t q)) xs)) p) (sym (ap t here ∙ e)) (inl here)))
    (cases_Bool (t p)))
    (λ (later : In xs p). ⊎_elim
    (λ (i : In (filter (λ q. not (t q)) xs) p). inl (grown (t x) i))
    (λ (e : t p ≡ true). inr e)
    (in_either t xs p later))
    h
  where
    grown : (b : Bool) → In (filter (λ q. not (t q)) xs) p → In (cond (not b) (x ∷ filter (λ q. not (t q)) xs) (filter (λ q. not (t q)) xs)) p
    grown true i = i
    grown false i = inr i

-- a port is counted among those that pass or among those that fail
one_counted : (p x : ℕ) (xs : List ℕ) → count_by (λ q. q == p) (x ∷ xs) ≡ cond (x == p) 1 0 + count_by (λ q. q == p) xs
one_counted p x xs = Rattle.std.proofs.lemmas.List.Sums.sum_by-cons (λ q. cond (q == p) 1 0) x xs

both_counted : (t : ℕ → Bool) (p : ℕ) (xs : List ℕ) → count_by (λ q. q == p) (filter t xs) + count_by (λ q. q == p) (filter (λ q. not (t q)) xs) ≡ count_by (λ q. q == p) xs
both_counted t p [] = refl
both_counted t p (x ∷ xs) = by (t x) refl (both_counted t p xs)
  where
    by : (b : Bool) → t x ≡ b → count_by (λ q. q == p) (filter t xs) + count_by (λ q. q == p) (filter (λ q. not (t q)) xs) ≡ count_by (λ q. q == p) xs
        → count_by (λ q. q == p) (cond (t x) (x ∷ filter t xs) (filter t xs)) + count_by (λ q. q == p) (cond (not (t x)) (x ∷ filter (λ q. not (t q)) xs) (filter (λ q. not (t q)) xs)) ≡ count_by (λ q. q == p) (x ∷ xs)
    by true e rest = rw e (omega (arith, one_counted p x (filter t xs), one_counted p x xs, rest))
    by false e rest = rw e (omega (arith, one_counted p x (filter (λ q. not (t q)) xs), one_counted p x xs, rest))

counted_seen : (w : World) (p : ℕ) (ds : List ℕ) → count_by (λ (d : Seen). d.port == p) (map (seen_at w) ds) ≡ count_by (λ q. q == p) ds
counted_seen w p [] = refl
counted_seen w p (x ∷ ds) =
    Rattle.std.proofs.lemmas.List.Sums.sum_by-cons (λ (d : Seen). cond (d.port == p) 1 0) (seen_at w x) (map (seen_at w) ds) ∙ ap (λ n. cond (x == p) 1 0 + n) (counted_seen w p ds) ∙ sym (one_counted p x ds)

pub seen_more : (looks : List (List Seen)) (seen : List Seen) → seen_in_all (looks ++ seen ∷ []) ≡ seen_in_all looks ++ seen
seen_more looks seen = flat_map-append (λ (s : List Seen). s) looks (seen ∷ []) ∙ ap (λ xs. seen_in_all looks ++ xs) (append-nil seen)

lines_more : (looks : List (List Seen)) (seen : List Seen) → drained_lines (looks ++ seen ∷ []) ≡ drained_lines looks ++ map drained_line seen
lines_more looks seen = ap (map drained_line) (seen_more looks seen) ∙ map-append drained_line (seen_in_all looks) seen

-- what looks find by the numbers of ports: each is seen or left, and in each look ports rise

record AreCounted (ports : List ℕ) (l : Looks) (n : ℕ) : Type 0 where
  long : length l.seen ≡ n
  rise : All PortsRise l.seen
  left_rises : IsStrictlyIncreasing l.left
  counts : (p : ℕ) → count_by (λ (d : Seen). d.port == p) (seen_in_all l.seen) + count_by (λ q. q == p) l.left ≡ count_by (λ q. q == p) ports

counted_once : (w : World) (ports : List ℕ) (l : Looks) (n : ℕ) → AreCounted ports l n → AreCounted ports (look_once w l) (suc n)
counted_once w ports l n h =
    let found = map (seen_at w) (filter (is_drained w.machine) l.left) in
    record {
      long = length-append l.seen (found ∷ []) ∙ (let long = h.long in omega (arith, long));
      rise = All-append PortsRise l.seen (found ∷ []) h.rise
          (All-cons PortsRise found [] (subst IsStrictlyIncreasing (sym (ports_seen w (filter (is_drained w.machine) l.left))) (IsStrictlyIncreasing-filter (is_drained w.machine) l.left h.left_rises)) (All-nil PortsRise));
      left_rises = IsStrictlyIncreasing-filter (λ p. not (is_drained w.machine p)) l.left h.left_rises;
      counts = λ p.
          let all : count_by (λ (d : Seen). d.port == p) (seen_in_all (l.seen ++ found ∷ [])) ≡ count_by (λ (d : Seen). d.port == p) (seen_in_all l.seen) + count_by (λ q. q == p) (filter (is_drained w.machine) l.left) =
          ap (count_by (λ (d : Seen). d.port == p)) (seen_more l.seen found) ∙ count_by-append (λ (d : Seen). d.port == p) (seen_in_all l.seen) found
          ∙ ap (λ k. count_by (λ (d : Seen). d.port == p) (seen_in_all l.seen) + k) (counted_seen w p (filter (is_drained w.machine) l.left)) in
          omega (arith, all, both_counted (is_drained w.machine) p l.left, h.counts p);
    }

counted_looks : (w : World) (ports : List ℕ) → IsStrictlyIncreasing ports → (j : ℕ) → AreCounted ports (looks_after w ports j) (suc j)
counted_looks w ports rise zero =
    counted_once w ports (record { seen = []; left = ports }) 0 (record { long = refl; rise = All-nil PortsRise; left_rises = rise; counts = λ p. omega arith })
counted_looks w ports rise (suc j) = counted_once (after_rounds false w (suc j)) ports (looks_after w ports j) (suc j) (counted_looks w ports rise j)

pub are_looks : (w : World) (ports : List ℕ) (within : ℕ) → IsStrictlyIncreasing ports → (j : ℕ) → j ≤ within → AreLooks within (looks_after w ports j).seen
are_looks w ports within rise j low =
    let h = counted_looks w ports rise j in
    record { few = (let long = h.long in omega (arith, long, low)); rise = h.rise }

pub all_seen : (w v : World) (ports : List ℕ) → IsStrictlyIncreasing ports → (j : ℕ) → AreSeen ports (seen_in_all (looks_after w ports j).seen ++ map (seen_at v) (looks_after w ports j).left)
all_seen w v ports rise j p =
    let l = looks_after w ports j in
    count_by-append (λ (d : Seen). d.port == p) (seen_in_all l.seen) (map (seen_at v) l.left)
    ∙ ap (λ n. count_by (λ (d : Seen). d.port == p) (seen_in_all l.seen) + n) (counted_seen v p l.left) ∙ (counted_looks w ports rise j).counts p

-- what looks find of the world

nodes_reopen_none : (p : ℕ) (es : List Event) → All IsOfItsKind (map by_node es) → list_any (reopens p) es ≡ false
nodes_reopen_none p [] h = refl
nodes_reopen_none p (e ∷ es) h =
    ap (λ b. b || list_any (reopens p) es) (no_node_reopens p e (All-head IsOfItsKind (by_node e) (map by_node es) h)) ∙ nodes_reopen_none p es (All-tail IsOfItsKind (by_node e) (map by_node es) h)

-- members that say so and nothing else
with_found : (history : List HistoryLine) (w : World) (m : List Member) (ds : List ℕ) → ((p : ℕ) → In ds p → is_drained w.machine p ≡ true) → Course history w m
    → Course (history ++ map drained_line (map (seen_at w) ds)) w (m ++ map of_history (map drained_line (map (seen_at w) ds)))
with_found history w m [] found c = subst (λ h. Course h w (m ++ [])) (sym (append-nil history)) (subst (Course history w) (sym (append-nil m)) c)
with_found history w m (p ∷ ds) found c =
    let l = drained_line (seen_at w p) in
    let same = course_machine history w m c in
    let next = with_said history w m l c refl refl (ap (λ s. is_drained s p) (sym same) ∙ found p (inl refl), ap (λ s. (exchange s p).serial) (sym same)) tt in
    let rest = with_found (history ++ l ∷ []) w (m ++ of_history l ∷ []) ds (λ q i. found q (inr i)) next in
    subst (λ h. Course h w (m ++ map of_history (map drained_line (map (seen_at w) (p ∷ ds))))) (append_assoc history (l ∷ []) (map drained_line (map (seen_at w) ds)))
    (subst (Course ((history ++ l ∷ []) ++ map drained_line (map (seen_at w) ds)) w) (append_assoc m (of_history l ∷ []) (map of_history (map drained_line (map (seen_at w) ds)))) rest)

lines_found : (ls : List HistoryLine) → lines (map of_history ls) ≡ ls
lines_found [] = refl
lines_found (l ∷ ls) = ap (λ xs. l ∷ xs) (lines_found ls)

-- after looks, the last of them in this world
pub record Looked (history : List HistoryLine) (w : World) (m : List Member) (ports : List ℕ) (v : World) (l : Looks) : Type 0 where
  pub later : List Member
  pub course : Course (history ++ drained_lines l.seen) v (m ++ later)
  pub config : v.machine.config ≡ w.machine.config
  pub lines_later : lines later ≡ drained_lines l.seen
  pub listed : (p : ℕ) → In l.left p → In ports p
  pub undrained : (p : ℕ) → In l.left p → is_drained v.machine p ≡ false
  pub drained : (p : ℕ) → In ports p → In l.left p ⊎ (is_drained v.machine p ≡ true)

-- the same before a look, when some may have drained
record Waited (history : List HistoryLine) (w : World) (m : List Member) (ports : List ℕ) (v : World) (l : Looks) : Type 0 where
  later : List Member
  course : Course (history ++ drained_lines l.seen) v (m ++ later)
  config : v.machine.config ≡ w.machine.config
  lines_later : lines later ≡ drained_lines l.seen
  listed : (p : ℕ) → In l.left p → In ports p
  drained : (p : ℕ) → In ports p → In l.left p ⊎ (is_drained v.machine p ≡ true)

look : (history : List HistoryLine) (w : World) (m : List Member) (ports : List ℕ) (v : World) (l : Looks) → Waited history w m ports v l → Looked history w m ports v (look_once v l)
look history w m ports v l h =
    let found = filter (is_drained v.machine) l.left in
    let ls = map drained_line (map (seen_at v) found) in
    let more = lines_more l.seen (map (seen_at v) found) in
    let next = with_found (history ++ drained_lines l.seen) v (m ++ h.later) found (λ p i. (in_passing (is_drained v.machine) l.left p i).1) h.course in
    record {
      later = h.later ++ map of_history ls;
      course = subst (Course (history ++ drained_lines (look_once v l).seen) v) (append_assoc m h.later (map of_history ls))
          (subst (λ x. Course x v ((m ++ h.later) ++ map of_history ls)) (append_assoc history (drained_lines l.seen) ls ∙ ap (λ xs. history ++ xs) (sym more)) next);
      config = h.config;
      lines_later = lines_parts h.later (map of_history ls) ∙ (λ i. h.lines_later i ++ lines_found ls i) ∙ sym more;
      listed = λ p i. h.listed p (in_passing (λ q. not (is_drained v.machine q)) l.left p i).0;
      undrained = λ p i. not-true (is_drained v.machine p) (in_passing (λ q. not (is_drained v.machine q)) l.left p i).1;
      drained = λ p i. ⊎_elim (λ (left : In l.left p). in_either (is_drained v.machine) l.left p left) (λ (e : is_drained v.machine p ≡ true). inr e) (h.drained p i);
    }

-- one round more
wait : (history : List HistoryLine) (w : World) (m : List Member) (ports : List ℕ) (v u : World) (l : Looks) → (h : Looked history w m ports v l) → WentOn (history ++ drained_lines l.seen) v (m ++ h.later) u → Waited history w m ports u l
wait history w m ports v u l h g =
    let kinds = (all_parts IsOfItsKind (m ++ h.later) (map by_node g.later) g.course.kinds).1 in
    let v_is = (holds_where_reached v h.course.reached).0 in
    let u_is = (holds_where_reached u g.course.reached).0 in
    let grown : u.events ≡ v.events ++ g.later =
    sym g.course.events_are ∙ events_parts (m ++ h.later) (map by_node g.later) ∙ (λ i. h.course.events_are i ++ events_of_nodes g.later i) in
    let run : IsRun (v.events ++ g.later) = subst IsRun grown (course_run (history ++ drained_lines l.seen) u ((m ++ h.later) ++ map by_node g.later) g.course) in
    record {
      later = h.later ++ map by_node g.later;
      course = subst (Course (history ++ drained_lines l.seen) u) (append_assoc m h.later (map by_node g.later)) g.course;
      config = g.config ∙ h.config;
      lines_later = lines_parts h.later (map by_node g.later) ∙ (λ i. h.lines_later i ++ lines_of_nodes g.later i) ∙ append-nil (drained_lines l.seen);
      listed = h.listed;
      drained = λ p i. ⊎_elim
          (λ (left : In l.left p). inl left)
          (λ (e : is_drained v.machine p ≡ true). inr (ap (λ s. is_drained s p) (u_is ∙ ap state_after grown)
          ∙ drained_stays v.events g.later p run (nodes_reopen_none p g.later kinds) (ap (λ s. is_drained s p) (sym v_is) ∙ e)))
          (h.drained p i);
    }

pub looked : (history : List HistoryLine) (w : World) (m : List Member) (ports : List ℕ) (j : ℕ) → Course history w m → Looked history w m ports (after_rounds false w j) (looks_after w ports j)
looked history w m ports zero c =
    look history w m ports w (record { seen = []; left = ports })
    (record {
      later = [];
      course = subst (λ h. Course h w (m ++ [])) (sym (append-nil history)) (subst (Course history w) (sym (append-nil m)) c);
      config = refl;
      lines_later = refl;
      listed = λ p i. i;
      drained = λ p i. inl i;
    })
looked history w m ports (suc j) c =
    let before = looked history w m ports j c in
    let l = looks_after w ports j in
    let v = after_rounds false w j in
    look history w m ports (after_rounds false w (suc j)) l
    (wait history w m ports v (after_rounds false w (suc j)) l before (with_rounds (history ++ drained_lines l.seen) false v (m ++ before.later) 1 before.course))
