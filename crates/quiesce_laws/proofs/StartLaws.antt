-- The events of a start lead to the state of a started system.
use Rattle.std.proofs.Common.{◌≡◌, ℕ, zero, suc, ◌+◌, ◌<◌, ◌≤◌, Bool, true, false, cond, not, ◌&&◌, List, [], ◌∷◌, ◌++◌, append_assoc, length, map, set, get_or, replicate, Option, Some, None, refl, sym, ap, ◌∙◌, subst, arith}
use Rattle.std.specs.Prelude.{is_some, is_none, IfSome, slice_get, bytes_eq, filter_map, option_map, sum_by, nat_lt, nat_le, ◌==◌}
use Rattle.std.specs.List.{enumerate_from, range_with_len, list_any, flat_map, cons_option}
use Rattle.std.specs.Option.{option_map_or}
use Rattle.std.specs.Ordering.{nat_cmp}
use Rattle.std.specs.Cmp.Lexicographic.{slice_cmp}
use Rattle.std.specs.declared.cmp.Ordering.TheVariants.{Less}
use Rattle.std.proofs.Math.Seq.{take-append_seam}
use Rattle.std.proofs.lemmas.Bool.{and_from, eq-eqb, lt-ltb, le-leb, not_from_false, false_from_ne_true}
use Rattle.std.proofs.lemmas.Grind.{flat_map-append}
use Rattle.std.proofs.lemmas.List.{append-nil, length-append, length-map, map-append}
use Rattle.std.proofs.lemmas.Option.{slice_get_within, get_or_from_slice_get}
use Rattle.std.proofs.lemmas.List.Elements.{All-contains}
use Rattle.std.proofs.lemmas.List.Sums.{sum_by-append, sum_by-cons}
use Rattle.std.proofs.lemmas.Simd.{map-map}
use Rattle.std.proofs.lemmas.Slice.Eq.{bytes_eq-Decides}
use Rattle.std.proofs.lemmas.List.FromFn.{length-enumerate_from}
use Rattle.config_graph.specs.Graph.{Graph, first_port, ports, ports_of, target_of, requires_of}
use Rattle.config_graph.specs.Kinds.{row, depends_on}
use Rattle.config_graph.specs.Sound.{Sound, HasItsArgument}
use Rattle.config_graph.specs.declared.TheConstants.{MAX_NODES, MAX_PORTS}
use Rattle.config_graph.specs.declared.node.Node.{Node}
use Rattle.config_graph.specs.declared.node.Port.{Port}
use Rattle.config_graph.specs.declared.node.Target.{Target}
use Rattle.config_graph.proofs.NumberingLaws.{length-ports}
use Rattle.quiesce_core.specs.declared.event.Event.{Event}
use Rattle.quiesce_core.specs.declared.event.Event.TheVariants.{Make, Link, Reopen}
use Rattle.quiesce_core.specs.declared.state.Gate.{Gate}
use Rattle.quiesce_core.specs.declared.state.Slot.{Slot}
use Rattle.quiesce_core.specs.State.{State, empty, fresh_gate, fresh_exchange, slot, gate, owner, is_live, provides}
use Rattle.quiesce_core.specs.Runs.{Steps, onward, stays}
use Rattle.quiesce_core.specs.Rules.{value_limit, denial, has_its_argument, is_path_taken, is_value, is_quiet, is_live_port}
use Rattle.quiesce_core.specs.Effect.{effect, new_gates, with_target}
use Rattle.quiesce_core.specs.Legal.{CanMake, CanLink}
use Rattle.quiesce_word.specs.Phases.{is_idle}
use Rattle.quiesce_core.specs.Reach.{has_no_cycle}
use Rattle.quiesce_core.specs.Start.{slot_of, gate_of, no_service, no_exchange, started}
use Rattle.quiesce_core.specs.WellFormed.{IsWellFormed}
use Rattle.quiesce_core.proofs.CycleLaws.{no_cycle_if_ranked, ranked_if_no_cycle}
use Rattle.base.proofs.OptionLaws.{map_or_at}
use Rattle.quiesce_core.proofs.GraphLaws.{well_formed_started}
use Rattle.quiesce_core.proofs.LegalLaws.{allowed}
use Rattle.config_graph.proofs.PathLaws.{irreflexive}
use Rattle.quiesce_core.proofs.SettledLaws.{if_settled}
use Rattle.quiesce_laws.specs.Starts.{make_of, link_of, reopen_of, start_of}
use Rattle.quiesce_core.proofs.StepsLaws.{both}
use Rattle.base.proofs.ContainsLaws.{Contains-at}
use Rattle.base.proofs.PlaceLaws.{slice_get-append_front, numbered_snoc}

-- steps that lead to a state, and one before them
none_yet : (s t : State) → s ≡ t → Steps s [] t
none_yet s t e = subst (λ u. Steps s [] u) e (stays s)

first : (s next t : State) (e : Event) (es : List Event) → denial s e ≡ None → effect s e ≡ next → Steps next es t → Steps s (e ∷ es) t
first s next t e es may leads h = onward s next t e es (record { allowed = may; changed = sym leads }) h

-- a port as it was made, as it was linked, and as it was opened
bare : Port → Gate
bare p = record { owner = p.node; require = p.require; closed = true; target = None }

shut : Graph → Port → Gate
shut g p = record { owner = p.node; require = p.require; closed = true; target = target_of g.links p.node p.require }

ports_snoc : (nodes : List Node) (n : Node) → ports (nodes ++ n ∷ []) ≡ ports nodes ++ ports_of (length nodes) (requires_of n)
ports_snoc nodes n =
    ap (λ ps. flat_map (λ p. ports_of p.0 (requires_of p.1)) ps) (numbered_snoc 0 nodes n)
    ∙ flat_map-append (λ p. ports_of p.0 (requires_of p.1)) (enumerate_from 0 nodes) ((0 + length nodes, n) ∷ [])
    ∙ ap (λ ps. ports nodes ++ ps) (append-nil (ports_of (0 + length nodes) (requires_of n)) ∙ ap (λ i. ports_of i (requires_of n)) (omega arith))

replicated : {A : Type 0} (x : A) (a k : ℕ) → map (λ r. x) (range_with_len a k) ≡ replicate k x
replicated x a zero = refl
replicated x a (suc k) = ap (λ xs. x ∷ xs) (replicated x (a + 1) k)

bare_ports : (n k : ℕ) → map bare (ports_of n k) ≡ new_gates n k
unfolding bare
bare_ports n k = map-map bare (λ r. record { node = n; require = r }) (range_with_len 0 k)

unused_ports : (n k : ℕ) → map no_exchange (ports_of n k) ≡ replicate k fresh_exchange
unused_ports n k = map-map no_exchange (λ r. record { node = n; require = r }) (range_with_len 0 k) ∙ replicated fresh_exchange 0 k

front_length : {A : Type 0} (xs : List A) (x : A) (ys : List A) → length xs < length (xs ++ x ∷ ys)
front_length xs x ys = omega (arith, length-append xs (x ∷ ys))

-- the member behind a front
behind : {A : Type 0} (xs : List A) (x : A) (ys : List A) → slice_get (xs ++ x ∷ ys) (length xs) ≡ Some x
behind [] x ys = refl
behind (y ∷ xs) x ys = behind xs x ys

any_mapped : {A B : Type 0} (f : B → Bool) (v : A → B) (xs : List A) → ((x : A) (i : ℕ) → slice_get xs i ≡ Some x → f (v x) ≡ false) → list_any f (map v xs) ≡ false
any_mapped f v [] h = refl
any_mapped f v (x ∷ xs) h = rw (h x zero refl) (any_mapped f v xs (λ y i e. h y (suc i) e))

-- gates of which a front has gone on

module _ (f h : Port → Gate) where
  gate_next : (done rest : List Port) (q : Port) → get_or (map f done ++ map h (q ∷ rest)) (length done) fresh_gate ≡ h q
  gate_next [] rest q = refl
  gate_next (p ∷ done) rest q = gate_next done rest q

  put_next : (done rest : List Port) (q : Port) (v : Gate) → v ≡ f q → set (map f done ++ map h (q ∷ rest)) (length done) v ≡ map f (done ++ q ∷ []) ++ map h rest
  put_next [] rest q v e = ap (λ x. x ∷ map h rest) e
  put_next (p ∷ done) rest q v e = ap (λ xs. f p ∷ xs) (put_next done rest q v e)

  skip_next : (done rest : List Port) (q : Port) → h q ≡ f q → map f done ++ map h (q ∷ rest) ≡ map f (done ++ q ∷ []) ++ map h rest
  skip_next [] rest q e = ap (λ x. x ∷ map h rest) e
  skip_next (p ∷ done) rest q e = ap (λ xs. f p ∷ xs) (skip_next done rest q e)

  -- what each of these gates has at every place
  everywhere : (P : Gate → Type 0) → P fresh_gate → ((q : Port) → P (f q)) → ((q : Port) → P (h q)) → (done rest : List Port) (p : ℕ) → P (get_or (map f done ++ map h rest) p fresh_gate)
  everywhere P fresh in_front at_end [] [] p = fresh
  everywhere P fresh in_front at_end [] (q ∷ rest) zero = at_end q
  everywhere P fresh in_front at_end [] (q ∷ rest) (suc p) = everywhere P fresh in_front at_end [] rest p
  everywhere P fresh in_front at_end (q ∷ done) rest zero = in_front q
  everywhere P fresh in_front at_end (q ∷ done) rest (suc p) = everywhere P fresh in_front at_end done rest p

  -- and beside those of a whole
  alike : (k : Port → Gate) (R : Gate → Gate → Type 0) → R fresh_gate fresh_gate → ((q : Port) → R (f q) (k q)) → ((q : Port) → R (h q) (k q)) → (done rest : List Port) (p : ℕ)
      → R (get_or (map f done ++ map h rest) p fresh_gate) (get_or (map k (done ++ rest)) p fresh_gate)
  alike k R fresh in_front at_end [] [] p = fresh
  alike k R fresh in_front at_end [] (q ∷ rest) zero = at_end q
  alike k R fresh in_front at_end [] (q ∷ rest) (suc p) = alike k R fresh in_front at_end [] rest p
  alike k R fresh in_front at_end (q ∷ done) rest zero = in_front q
  alike k R fresh in_front at_end (q ∷ done) rest (suc p) = alike k R fresh in_front at_end done rest p

-- a gate is as another, or not linked yet
record IsPart (a b : Gate) : Type 0 where
  require : a.require ≡ b.require
  targets : (t : Target) → a.target ≡ Some t → b.target ≡ Some t

slots_live : (nodes : List Node) (k : ℕ) (xs : List Node) (n : ℕ) (m : Slot) → slice_get (map (slot_of nodes) (enumerate_from k xs)) n ≡ Some m → m.live ≡ true
slots_live nodes k [] n m e = absurd (cc)
slots_live nodes k (x ∷ xs) zero m e = let same : slot_of nodes (k, x) ≡ m = cc in ap (λ (s : Slot). s.live) (sym same)
slots_live nodes k (x ∷ xs) (suc n) m e = slots_live nodes (k + 1) xs n m e

free_at : (nodes : List Node) (n : ℕ) → get_or (map no_service nodes) n None ≡ None
free_at [] n = refl
free_at (x ∷ nodes) zero = refl
free_at (x ∷ nodes) (suc n) = free_at nodes n

idle_at : (ps : List Port) (p : ℕ) → is_idle (get_or (map no_exchange ps) p fresh_exchange).phase ≡ true
idle_at [] p = refl
idle_at (q ∷ ps) zero = refl
idle_at (q ∷ ps) (suc p) = idle_at ps p

argument_held : (b : Bool) (o : Option ℕ) → is_some o ≡ b → IfSome o (λ a. a < value_limit) → cond b (option_map_or is_value o false) (is_none o) ≡ true
argument_held b None e h = rw (sym e) refl
argument_held b (Some a) e h = rw (sym e) (lt-ltb a value_limit h)

-- the nodes of a front have been made
made : Graph → List Node → State
made g ns =
    record {
      config = record { slots = map (slot_of g.nodes) (enumerate_from 0 ns); gates = map bare (ports ns) };
      traffic = record { services = map no_service ns; exchanges = map no_exchange (ports ns) };
    }

-- all nodes have been made, and the ports of a front have gone on
mixed : Graph → (Port → Gate) → (Port → Gate) → List Port → List Port → State
mixed g f h done rest =
    record {
      config = record { slots = map (slot_of g.nodes) (enumerate_from 0 g.nodes); gates = map f done ++ map h rest };
      traffic = record { services = map no_service g.nodes; exchanges = map no_exchange (ports g.nodes) };
    }

module _ (g : Graph) (sound : Sound g) (few_nodes : length g.nodes ≤ MAX_NODES) (few_ports : length (ports g.nodes) ≤ MAX_PORTS) where
  -- nodes

  made_more : (ns ms : List Node) (n : Node) → g.nodes ≡ ns ++ n ∷ ms → effect (made g ns) (Make (length ns) n None) ≡ made g (ns ++ n ∷ [])
  unfolding made
  made_more ns ms n e =
      let place : length (map bare (ports ns)) ≡ first_port g.nodes (length ns) =
      length-map (ports ns) bare ∙ length-ports ns ∙ ap (λ xs. sum_by requires_of xs) (sym (take-append_seam ns (n ∷ ms))) ∙ ap (λ xs. first_port xs (length ns)) (sym e) in
      let count : length (map (slot_of g.nodes) (enumerate_from 0 ns)) ≡ length ns = length-map (enumerate_from 0 ns) (slot_of g.nodes) ∙ length-enumerate_from 0 ns in
      let slots : map (slot_of g.nodes) (enumerate_from 0 ns) ++ record { node = n; first_port = length (map bare (ports ns)); from = None; live = true } ∷ [] ≡ map (slot_of g.nodes) (enumerate_from 0 (ns ++ n ∷ [])) =
      ap (λ i. map (slot_of g.nodes) (enumerate_from 0 ns) ++ record { node = n; first_port = i; from = None; live = true } ∷ []) place
      ∙ sym (map-append (slot_of g.nodes) (enumerate_from 0 ns) ((length ns, n) ∷ []))
      ∙ ap (λ ps. map (slot_of g.nodes) ps) (ap (λ i. enumerate_from 0 ns ++ (i, n) ∷ []) (omega arith) ∙ sym (numbered_snoc 0 ns n)) in
      let gates : map bare (ports ns) ++ new_gates (length (map (slot_of g.nodes) (enumerate_from 0 ns))) (requires_of n) ≡ map bare (ports (ns ++ n ∷ [])) =
      ap (λ i. map bare (ports ns) ++ new_gates i (requires_of n)) count
      ∙ ap (λ xs. map bare (ports ns) ++ xs) (sym (bare_ports (length ns) (requires_of n)))
      ∙ sym (map-append bare (ports ns) (ports_of (length ns) (requires_of n))) ∙ ap (λ ps. map bare ps) (sym (ports_snoc ns n)) in
      let exchanges : map no_exchange (ports ns) ++ replicate (requires_of n) fresh_exchange ≡ map no_exchange (ports (ns ++ n ∷ [])) =
      ap (λ xs. map no_exchange (ports ns) ++ xs) (sym (unused_ports (length ns) (requires_of n)))
      ∙ sym (map-append no_exchange (ports ns) (ports_of (length ns) (requires_of n))) ∙ ap (λ ps. map no_exchange ps) (sym (ports_snoc ns n)) in
      let services : map no_service ns ++ None ∷ [] ≡ map no_service (ns ++ n ∷ []) = sym (map-append no_service ns (n ∷ [])) in
      cc (slots, gates, services, exchanges)

  slots_count : (ns : List Node) → length (map (slot_of g.nodes) (enumerate_from 0 ns)) ≡ length ns
  slots_count ns = length-map (enumerate_from 0 ns) (slot_of g.nodes) ∙ length-enumerate_from 0 ns

  -- no node before has the path
  path_free : (ns ms : List Node) (n : Node) → g.nodes ≡ ns ++ n ∷ ms → is_path_taken (made g ns).config n.path ≡ false
  unfolding made
  path_free ns ms n e =
      any_mapped (λ (m : Slot). m.live && bytes_eq m.node.path n.path) (slot_of g.nodes) (enumerate_from 0 ns) (λ x i at.
      let node = numbered_was 0 ns i x at in
      let within : i < length ns = slice_get_within ns i x.1 node in
      let rises : slice_cmp nat_cmp (get_or g.nodes i n).path (get_or g.nodes (length ns) n).path ≡ Less =
      sound.paths_rise i (length ns) n within (omega (arith, ap length e, front_length ns n ms)) in
      let here : get_or g.nodes i n ≡ x.1 = get_or_from_slice_get g.nodes i x.1 n (ap (λ xs. slice_get xs i) e ∙ slice_get-append_front ns (n ∷ ms) i within ∙ node) in
      let last : get_or g.nodes (length ns) n ≡ n = get_or_from_slice_get g.nodes (length ns) n n (ap (λ xs. slice_get xs (length ns)) e ∙ behind ns n ms) in
      false_from_ne_true (bytes_eq x.1.path n.path) (λ same.
      irreflexive n.path (subst (λ p. slice_cmp nat_cmp p n.path ≡ Less) ((bytes_eq-Decides x.1.path n.path).0 same)
      (subst (λ (m : Node). slice_cmp nat_cmp x.1.path m.path ≡ Less) last (subst (λ (m : Node). slice_cmp nat_cmp m.path (get_or g.nodes (length ns) n).path ≡ Less) here rises)))))
    where
      numbered_was : {A : Type 0} (k : ℕ) (xs : List A) (i : ℕ) (x : ℕ × A) → slice_get (enumerate_from k xs) i ≡ Some x → slice_get xs i ≡ Some x.1
      numbered_was k [] i x h = absurd (cc)
      numbered_was k (y ∷ xs) zero x h = let same : (k, y) ≡ x = cc in ap (λ z. Some z.1) same
      numbered_was k (y ∷ xs) (suc i) x h = numbered_was (k + 1) xs i x h

  argument_there : (ns ms : List Node) (n : Node) → g.nodes ≡ ns ++ n ∷ ms → has_its_argument n ≡ true
  argument_there ns ms n e =
      let a = All-contains HasItsArgument g.nodes n sound.arguments (Contains-at g.nodes (length ns) n (ap (λ xs. slice_get xs (length ns)) e ∙ behind ns n ms)) in
      argument_held (is_some (row n.kind).arg) n.arg a.present a.below

  can_make : (ns ms : List Node) (n : Node) → g.nodes ≡ ns ++ n ∷ ms → CanMake (made g ns).config (length ns) n None
  unfolding made
  can_make ns ms n e =
      let many : length g.nodes ≡ length ns + suc (length ms) = ap length e ∙ length-append ns (n ∷ ms) in
      let gates : length (map bare (ports ns)) ≡ sum_by requires_of ns = length-map (ports ns) bare ∙ length-ports ns in
      let all_gates : length (ports g.nodes) ≡ sum_by requires_of ns + (requires_of n + sum_by requires_of ms) =
      length-ports g.nodes ∙ ap (λ xs. sum_by requires_of xs) e ∙ sum_by-append requires_of ns (n ∷ ms) ∙ ap (λ k. sum_by requires_of ns + k) (sum_by-cons requires_of n ms) in
      record {
        room = and_from (length ns == length (map (slot_of g.nodes) (enumerate_from 0 ns)) && nat_lt (length ns) MAX_NODES) (nat_le (length (map bare (ports ns)) + requires_of n) MAX_PORTS)
            (and_from (length ns == length (map (slot_of g.nodes) (enumerate_from 0 ns))) (nat_lt (length ns) MAX_NODES)
            (eq-eqb (length ns) (length (map (slot_of g.nodes) (enumerate_from 0 ns))) (sym (slots_count ns)))
            (lt-ltb (length ns) MAX_NODES (omega (arith, many, few_nodes))))
            (le-leb (length (map bare (ports ns)) + requires_of n) MAX_PORTS (omega (arith, gates, all_gates, few_ports)));
        new_path = and_from (not (is_path_taken (made g ns).config n.path)) (has_its_argument n)
            (not_from_false (is_path_taken (made g ns).config n.path) (path_free ns ms n e)) (argument_there ns ms n e);
        moves = refl;
      }

  makes : (ns ms : List Node) → g.nodes ≡ ns ++ ms → Steps (made g ns) (map make_of (enumerate_from (length ns) ms)) (made g g.nodes)
  makes ns [] e = none_yet (made g ns) (made g g.nodes) (ap (λ xs. made g xs) (sym (e ∙ append-nil ns)))
  makes ns (n ∷ ms) e =
      first (made g ns) (made g (ns ++ n ∷ [])) (made g g.nodes) (Make (length ns) n None) (map make_of (enumerate_from (length ns + 1) ms))
      (allowed (made g ns) (Make (length ns) n None) (can_make ns ms n e)) (made_more ns ms n e)
      (subst (λ k. Steps (made g (ns ++ n ∷ [])) (map make_of (enumerate_from k ms)) (made g g.nodes)) (length-append ns (n ∷ []))
      (makes (ns ++ n ∷ []) ms (e ∙ sym (append_assoc ns (n ∷ []) ms))))

  -- ports

  well : IsWellFormed (started g)
  well = well_formed_started g sound few_nodes few_ports

  gate_whole : (done rest : List Port) (q : Port) → ports g.nodes ≡ done ++ q ∷ rest → gate (started g).config (length done) ≡ gate_of g q
  gate_whole done rest q e =
      ap (λ gs. get_or gs (length done) fresh_gate) (ap (λ ps. map (gate_of g) ps) e ∙ map-append (gate_of g) done (q ∷ rest)) ∙ gate_next (gate_of g) (gate_of g) done rest q

  node_live : (done rest : List Port) (q : Port) → ports g.nodes ≡ done ++ q ∷ rest → is_live (started g).config q.node ≡ true
  node_live done rest q e =
      let within : length done < length (started g).config.gates = omega (arith, length-map (ports g.nodes) (gate_of g), ap length e, front_length done q rest) in
      let port = well.sound.ports (length done) within in
      let there : slot (started g).config q.node ≡ Some port.node = sym (ap (λ (x : Gate). slot (started g).config x.owner) (gate_whole done rest q e)) ∙ port.made in
      map_or_at (λ (m : Slot). m.live) (slot (started g).config q.node) false port.node there ∙ slots_live g.nodes 0 g.nodes q.node port.node there

  owner_live : (f h : Port → Gate) → ((q : Port) → (h q).owner ≡ q.node) → (done rest : List Port) (q : Port) → ports g.nodes ≡ done ++ q ∷ rest
      → is_live (mixed g f h done (q ∷ rest)).config (owner (mixed g f h done (q ∷ rest)).config (length done)) ≡ true
  unfolding mixed
  owner_live f h owned done rest q e =
      ap (λ i. is_live (started g).config i) (ap (λ (x : Gate). x.owner) (gate_next f h done rest q) ∙ owned q) ∙ node_live done rest q e

  port_live : (f h : Port → Gate) → ((q : Port) → (h q).owner ≡ q.node) → (done rest : List Port) (q : Port) → ports g.nodes ≡ done ++ q ∷ rest
      → is_live_port (mixed g f h done (q ∷ rest)).config (length done) ≡ true
  unfolding mixed
  port_live f h owned done rest q e =
      and_from (nat_lt (length done) (length (map f done ++ map h (q ∷ rest)))) (is_live (mixed g f h done (q ∷ rest)).config (owner (mixed g f h done (q ∷ rest)).config (length done)))
      (lt-ltb (length done) (length (map f done ++ map h (q ∷ rest))) (omega (arith, length-append (map f done) (map h (q ∷ rest)), length-map done f)))
      (owner_live f h owned done rest q e)

  -- links

  part : (done rest : List Port) → ports g.nodes ≡ done ++ rest → (p : ℕ) → IsPart (gate (mixed g (shut g) bare done rest).config p) (gate (started g).config p)
  unfolding mixed shut bare
  part done rest e p =
      subst (λ ps. IsPart (get_or (map (shut g) done ++ map bare rest) p fresh_gate) (get_or (map (gate_of g) ps) p fresh_gate)) (sym e)
      (alike (shut g) bare (gate_of g) IsPart (record { require = refl; targets = λ t h. h }) (λ q. record { require = refl; targets = λ t h. h })
      (λ q. record { require = refl; targets = λ t h. absurd (cc) }) done rest p)

  part_acyclic : (done rest : List Port) → ports g.nodes ≡ done ++ rest → has_no_cycle (mixed g (shut g) bare done rest).config ≡ true
  unfolding mixed
  part_acyclic done rest e =
      let ranked = ranked_if_no_cycle (started g).config well.sound.no_cycle in
      no_cycle_if_ranked (mixed g (shut g) bare done rest).config (record {
        rank = ranked.rank;
        falls = λ n m l. ranked.falls n m (record {
          port = l.port;
          serves = l.serves;
          provide = l.provide;
          depends =
              let o = l.depends.0 in (
                record { node = o.node; made = o.made; from = o.from; below = o.below },
                subst (λ r. option_map_or (λ (m : Slot). depends_on m.node.kind l.serves r) (slot (started g).config n) false ≡ true) (part done rest e l.port).require l.depends.1,
              );
          linked = (part done rest e l.port).targets (record { node = m; provide = l.provide }) l.linked;
        });
      })

  quiet : (done rest : List Port) (p : ℕ) → is_quiet (mixed g (shut g) bare done rest) p ≡ true
  unfolding mixed shut bare
  quiet done rest p =
      and_from (get_or (map (shut g) done ++ map bare rest) p fresh_gate).closed (is_idle (get_or (map no_exchange (ports g.nodes)) p fresh_exchange).phase)
      (everywhere (shut g) bare (λ a. a.closed ≡ true) refl (λ q. refl) (λ q. refl) done rest p) (idle_at (ports g.nodes) p)

  linked_more : (done rest : List Port) (q : Port) (t : Target) → target_of g.links q.node q.require ≡ Some t
      → with_target (mixed g (shut g) bare done (q ∷ rest)).config (length done) (Some t) ≡ (mixed g (shut g) bare (done ++ q ∷ []) rest).config
  unfolding mixed shut bare
  linked_more done rest q t at =
      ap (λ gs. record { slots = map (slot_of g.nodes) (enumerate_from 0 g.nodes); gates = gs })
      (put_next (shut g) bare done rest q (record (gate (mixed g (shut g) bare done (q ∷ rest)).config (length done)) { target = Some t })
      (ap (λ (x : Gate). record x { target = Some t }) (gate_next (shut g) bare done rest q)
      ∙ ap (λ o. record { owner = q.node; require = q.require; closed = true; target = o }) (sym at)))

  can_link : (done rest : List Port) (q : Port) (t : Target) → ports g.nodes ≡ done ++ q ∷ rest → target_of g.links q.node q.require ≡ Some t
      → CanLink (mixed g (shut g) bare done (q ∷ rest)) (length done) t.node t.provide
  unfolding mixed bare
  can_link done rest q t e at =
      let s = mixed g (shut g) bare done (q ∷ rest) in
      let leads = well.sound.targets (length done) t (ap (λ (x : Gate). x.target) (gate_whole done rest q e) ∙ at) in
      record {
        live = port_live (shut g) bare (λ x. refl) done rest q e;
        unlinked = ap (λ (x : Gate). not (is_some x.target)) (gate_next (shut g) bare done rest q);
        provision = and_from (is_live s.config t.node) (nat_lt t.provide (provides s.config t.node)) leads.live (lt-ltb t.provide (provides s.config t.node) leads.provided);
        settled = if_settled s (owner s.config (length done)) (record {
          live = owner_live (shut g) bare (λ x. refl) done rest q e;
          own = λ p h. quiet done (q ∷ rest) p;
          services_nothing = free_at g.nodes (owner s.config (length done));
          reaching = λ p h. quiet done (q ∷ rest) p;
        });
        no_cycle = ap has_no_cycle (linked_more done rest q t at) ∙ part_acyclic (done ++ q ∷ []) rest (e ∙ sym (append_assoc done (q ∷ []) rest));
      }

  link_next : (done rest : List Port) (q : Port) → ports g.nodes ≡ done ++ q ∷ rest → (es : List Event) (t : State) (o : Option Target) → target_of g.links q.node q.require ≡ o
      → Steps (mixed g (shut g) bare (done ++ q ∷ []) rest) es t
      → Steps (mixed g (shut g) bare done (q ∷ rest)) (cons_option (option_map (λ (u : Target). Link (length done) u.node u.provide) o) es) t
  unfolding mixed shut bare
  link_next done rest q e es t None at path =
      subst (λ gs. Steps (record { config = record { slots = map (slot_of g.nodes) (enumerate_from 0 g.nodes); gates = gs }; traffic = (started g).traffic }) es t)
      (sym (skip_next (shut g) bare done rest q (ap (λ o. record { owner = q.node; require = q.require; closed = true; target = o }) (sym at)))) path
  link_next done rest q e es t (Some u) at path =
      first (mixed g (shut g) bare done (q ∷ rest)) (mixed g (shut g) bare (done ++ q ∷ []) rest) t (Link (length done) u.node u.provide) es
      (allowed (mixed g (shut g) bare done (q ∷ rest)) (Link (length done) u.node u.provide) (can_link done rest q u e at))
      (ap (λ c. record { config = c; traffic = (started g).traffic }) (linked_more done rest q u at)) path

  links : (done rest : List Port) → ports g.nodes ≡ done ++ rest → Steps (mixed g (shut g) bare done rest) (filter_map (link_of g) (enumerate_from (length done) rest)) (mixed g (shut g) bare (ports g.nodes) [])
  links done [] e = none_yet (mixed g (shut g) bare done []) (mixed g (shut g) bare (ports g.nodes) []) (ap (λ ps. mixed g (shut g) bare ps []) (sym (e ∙ append-nil done)))
  links done (q ∷ rest) e =
      link_next done rest q e (filter_map (link_of g) (enumerate_from (length done + 1) rest)) (mixed g (shut g) bare (ports g.nodes) []) (target_of g.links q.node q.require) refl
      (subst (λ k. Steps (mixed g (shut g) bare (done ++ q ∷ []) rest) (filter_map (link_of g) (enumerate_from k rest)) (mixed g (shut g) bare (ports g.nodes) [])) (length-append done (q ∷ []))
      (links (done ++ q ∷ []) rest (e ∙ sym (append_assoc done (q ∷ []) rest))))

  -- openings

  opened_more : (done rest : List Port) (q : Port) → effect (mixed g (gate_of g) (shut g) done (q ∷ rest)) (Reopen (length done)) ≡ mixed g (gate_of g) (shut g) (done ++ q ∷ []) rest
  unfolding mixed shut
  opened_more done rest q =
      ap (λ gs. record { config = record { slots = map (slot_of g.nodes) (enumerate_from 0 g.nodes); gates = gs }; traffic = (started g).traffic })
      (put_next (gate_of g) (shut g) done rest q (record (gate (mixed g (gate_of g) (shut g) done (q ∷ rest)).config (length done)) { closed = false })
      (ap (λ (x : Gate). record x { closed = false }) (gate_next (gate_of g) (shut g) done rest q)))

  reopens : (done rest : List Port) → ports g.nodes ≡ done ++ rest → Steps (mixed g (gate_of g) (shut g) done rest) (map reopen_of (enumerate_from (length done) rest)) (mixed g (gate_of g) (shut g) (ports g.nodes) [])
  unfolding shut
  reopens done [] e =
      none_yet (mixed g (gate_of g) (shut g) done []) (mixed g (gate_of g) (shut g) (ports g.nodes) []) (ap (λ ps. mixed g (gate_of g) (shut g) ps []) (sym (e ∙ append-nil done)))
  reopens done (q ∷ rest) e =
      first (mixed g (gate_of g) (shut g) done (q ∷ rest)) (mixed g (gate_of g) (shut g) (done ++ q ∷ []) rest) (mixed g (gate_of g) (shut g) (ports g.nodes) []) (Reopen (length done))
      (map reopen_of (enumerate_from (length done + 1) rest))
      (allowed (mixed g (gate_of g) (shut g) done (q ∷ rest)) (Reopen (length done)) (record { live = port_live (gate_of g) (shut g) (λ x. refl) done rest q e }))
      (opened_more done rest q)
      (subst (λ k. Steps (mixed g (gate_of g) (shut g) (done ++ q ∷ []) rest) (map reopen_of (enumerate_from k rest)) (mixed g (gate_of g) (shut g) (ports g.nodes) [])) (length-append done (q ∷ []))
      (reopens (done ++ q ∷ []) rest (e ∙ sym (append_assoc done (q ∷ []) rest))))

  -- the whole start

  with_gates : List Gate → State
  with_gates gs = record { config = record { slots = map (slot_of g.nodes) (enumerate_from 0 g.nodes); gates = gs }; traffic = (started g).traffic }

  pub start_path : Steps empty (start_of g) (started g)
  unfolding made mixed with_gates
  start_path =
      let linking : Steps (made g g.nodes) (filter_map (link_of g) (enumerate_from 0 (ports g.nodes))) (mixed g (gate_of g) (shut g) [] (ports g.nodes)) =
      subst (λ gs. Steps (made g g.nodes) (filter_map (link_of g) (enumerate_from 0 (ports g.nodes))) (with_gates gs)) (append-nil (map (shut g) (ports g.nodes))) (links [] (ports g.nodes) refl) in
      let opening : Steps (mixed g (gate_of g) (shut g) [] (ports g.nodes)) (map reopen_of (enumerate_from 0 (ports g.nodes))) (started g) =
      subst (λ gs. Steps (mixed g (gate_of g) (shut g) [] (ports g.nodes)) (map reopen_of (enumerate_from 0 (ports g.nodes))) (with_gates gs)) (append-nil (map (gate_of g) (ports g.nodes)))
      (reopens [] (ports g.nodes) refl) in
      both empty (mixed g (gate_of g) (shut g) [] (ports g.nodes)) (started g) (map make_of (enumerate_from 0 g.nodes) ++ filter_map (link_of g) (enumerate_from 0 (ports g.nodes)))
      (map reopen_of (enumerate_from 0 (ports g.nodes)))
      (both empty (made g g.nodes) (mixed g (gate_of g) (shut g) [] (ports g.nodes)) (map make_of (enumerate_from 0 g.nodes)) (filter_map (link_of g) (enumerate_from 0 (ports g.nodes)))
      (makes [] g.nodes refl) linking) opening
