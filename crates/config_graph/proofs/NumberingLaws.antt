-- Lemmas on what is numbered through a list of nodes: each node n has f n places, and they are numbered in a row.
use Rattle.std.proofs.Common.{◌≡◌, ℕ, zero, suc, ◌+◌, ◌-◌, ◌<◌, ◌≤◌, List, [], ◌∷◌, ◌++◌, map, length, take, Some, slice_get, refl, sym, ◌∙◌, ap, inl, inr, arith, length-append, append_assoc, append-nil, add-zero, sum_by}
use Rattle.std.specs.Prelude.{flat_map}
use Rattle.std.proofs.Common.{Option, None, get_or, length-take}
use Rattle.std.proofs.lemmas.List.{take_more, take_all}
use Rattle.config_graph.specs.Graph.{requires_of, provides_of, requires_at, provides_at, ports, ports_of, first_port, port_number}
use Rattle.config_graph.specs.Numbering.{IsNumbered, provisions, first_provision, provision_number, start, starts}
use Rattle.config_graph.specs.declared.node.Node.{Node}
use Rattle.config_graph.specs.declared.node.Port.{Port}
use Rattle.config_graph.specs.declared.numbering.Start.{Start}
use Rattle.std.specs.List.{enumerate_from, range_with_len}
use Rattle.std.specs.Option.{option_map_or}
use Rattle.std.proofs.lemmas.Bool.{cases_lt}
use Rattle.std.proofs.lemmas.List.FromFn.{length-map-range_with_len, get_or-map-range_with_len}
use Rattle.std.proofs.lemmas.List.Sums.{sum_by-cons, sum_by_more}
use Rattle.std.proofs.lemmas.Option.{slice_get-get_or}
use Rattle.base.proofs.PlaceLaws.{slice_get-append_front, slice_get-append_back}
use Rattle.base.proofs.RangeLaws.{row_more}
use Rattle.config_graph.proofs.KindLaws.{one_provision}
use Rattle.config_graph.proofs.KindLaws.{two_requires}
use Rattle.std.proofs.Common.{◌*◌}
use Rattle.std.proofs.lemmas.List.{length-map}
use Rattle.std.proofs.lemmas.List.FromFn.{length-range_with_len}

-- the number of places of node i
abbrev pub count_at : {N : Type 0} → (N → ℕ) → List N → ℕ → ℕ
count_at f xs i = option_map_or f (slice_get xs i) 0

abbrev pub numbered : {N A : Type 0} → (N → ℕ) → (ℕ → ℕ → A) → ℕ → List N → List A
numbered f mk k xs = flat_map (λ p. map (mk p.0) (range_with_len 0 (f p.1))) (enumerate_from k xs)

-- a place of a node, with its number
pub record Numbered {N A : Type 0} (f : N → ℕ) (mk : ℕ → ℕ → A) (k : ℕ) (xs : List N) (q : ℕ) (a : A) : Type 0 where
  pub node : ℕ
  pub index : ℕ
  pub within : index < count_at f xs node
  pub number : q ≡ sum_by f (take node xs) + index
  pub is : a ≡ mk (k + node) index

module _ {N A : Type 0} (f : N → ℕ) (mk : ℕ → ℕ → A) where
  abbrev row_at : ℕ → N → List A
  row_at k x = map (mk k) (range_with_len 0 (f x))

  length-row : (k : ℕ) (x : N) → length (row_at k x) ≡ f x
  length-row k x = length-map-range_with_len (mk k) 0 (f x)

  get-row : (k : ℕ) (x : N) (r : ℕ) → r < f x → slice_get (row_at k x) r ≡ Some (mk k r)
  get-row k x r h =
      let long : r < length (row_at k x) = rw length-row h in
      slice_get-get_or (row_at k x) r (mk k r) long ∙ ap Some (get_or-map-range_with_len (mk k) 0 (f x) r r (mk k r) h (omega arith))

  pub length-numbered : (k : ℕ) (xs : List N) → length (numbered f mk k xs) ≡ sum_by f xs
  length-numbered k [] = refl
  length-numbered k (x ∷ xs) =
      let rest : length (numbered f mk (k + 1) xs) ≡ sum_by f xs = length-numbered (k + 1) xs in
      length-append (row_at k x) (numbered f mk (k + 1) xs) ∙ rw (length-row, rest, sum_by-cons) refl

  pub numbered-append : (k : ℕ) (xs : List N) (x : N) → numbered f mk k (xs ++ x ∷ []) ≡ numbered f mk k xs ++ row_at (k + length xs) x
  numbered-append k [] x = append-nil (row_at k x) ∙ ap (λ j. row_at j x) (sym (add-zero k))
  numbered-append k (y ∷ xs) x =
      let rest = numbered-append (k + 1) xs x in
      let shift : (k + 1) + length xs ≡ k + suc (length xs) = omega arith in
      ap (λ t. row_at k y ++ t) (rest ∙ ap (λ j. numbered f mk (k + 1) xs ++ row_at j x) shift) ∙ sym (append_assoc (row_at k y) (numbered f mk (k + 1) xs) (row_at (k + suc (length xs)) x))

  -- the place r of node i is numbered after the places of the nodes before it
  pub get-numbered : (k : ℕ) (xs : List N) (i r : ℕ) → r < count_at f xs i → slice_get (numbered f mk k xs) (sum_by f (take i xs) + r) ≡ Some (mk (k + i) r)
  get-numbered k [] i r h = absurd (omega arith)
  get-numbered k (x ∷ xs) zero r h =
      let fits : r < length (row_at k x) = rw length-row h in
      let start : 0 + r ≡ r = omega arith in
      let here : k + 0 ≡ k = omega arith in
      ap (slice_get (row_at k x ++ numbered f mk (k + 1) xs)) start ∙ slice_get-append_front (row_at k x) (numbered f mk (k + 1) xs) r fits ∙ get-row k x r h ∙ ap (λ j. Some (mk j r)) (sym here)
  get-numbered k (x ∷ xs) (suc i) r h =
      let before : sum_by f (x ∷ take i xs) + r ≡ length (row_at k x) + (sum_by f (take i xs) + r) = rw (length-row, sum_by-cons) (omega arith) in
      let shift : (k + 1) + i ≡ k + suc i = omega arith in
      slice_get-append_back (row_at k x) (numbered f mk (k + 1) xs) (sum_by f (x ∷ take i xs) + r) (sum_by f (take i xs) + r) before ∙ get-numbered (k + 1) xs i r h ∙ ap (λ j. Some (mk j r)) shift

  -- each number is that of a place
  pub place-numbered : (k : ℕ) (xs : List N) (q : ℕ) (a : A) → slice_get (numbered f mk k xs) q ≡ Some a → Numbered f mk k xs q a
  place-numbered k [] q a h = cc
  place-numbered k (x ∷ xs) q a h =
      elim (cases_lt q (f x)) [
        | inl low ↦
            let fits : q < length (row_at k x) = rw length-row low in
            let found : slice_get (row_at k x) q ≡ Some a = sym (slice_get-append_front (row_at k x) (numbered f mk (k + 1) xs) q fits) ∙ h in
            let same : mk k q ≡ a = cc (get-row k x q low) in
            let here : k + 0 ≡ k = omega arith in
            record { node = 0; index = q; within = low; number = omega arith; is = sym same ∙ ap (λ j. mk j q) (sym here) }
        | inr high ↦
            let past : q ≡ length (row_at k x) + (q - f x) = rw length-row (omega arith) in
            let found : slice_get (numbered f mk (k + 1) xs) (q - f x) ≡ Some a =
            sym (slice_get-append_back (row_at k x) (numbered f mk (k + 1) xs) q (q - f x) past) ∙ h in
            let p = place-numbered (k + 1) xs (q - f x) a found in
            let shift : (k + 1) + p.node ≡ k + suc p.node = omega arith in
            record {
              node = suc p.node;
              index = p.index;
              within = p.within;
              number = rw sum_by-cons (omega (arith, p.number));
              is = p.is ∙ ap (λ j. mk j p.index) shift;
            }
      ]

module _ {N A : Type 0} (f : N → ℕ) (mk : ℕ → ℕ → A) where
  -- one node more
  pub numbered-take : (xs : List N) (i : ℕ) (d : N) → i < length xs → numbered f mk 0 (take (i + 1) xs) ≡ numbered f mk 0 (take i xs) ++ map (mk i) (range_with_len 0 (f (get_or xs i d)))
  numbered-take xs i d h =
      let more : take (i + 1) xs ≡ take i xs ++ get_or xs i d ∷ [] = take_more xs i d h in
      let long : 0 + length (take i xs) ≡ i = rw length-take (omega arith) in
      ap (numbered f mk 0) more ∙ numbered-append f mk 0 (take i xs) (get_or xs i d) ∙ ap (λ j. numbered f mk 0 (take i xs) ++ map (mk j) (range_with_len 0 (f (get_or xs i d)))) long

-- the ports of one node more
pub ports_more : (nodes : List Node) (i m : ℕ) (n : Node) (old new : List Port) → i < length nodes → n ≡ get_or nodes i n → m ≡ requires_of n → old ≡ ports (take i nodes) → new ≡ old ++ ports_of i m → new ≡ ports (take (i + 1) nodes)
ports_more nodes i m n old new h n_is m_is old_is new_is =
    let mk : ℕ → ℕ → Port = λ i r. record { node = i; require = r } in
    let count : m ≡ requires_of (get_or nodes i n) = m_is ∙ ap requires_of n_is in
    new_is ∙ ap (λ t. t ++ ports_of i m) old_is ∙ ap (λ j. ports (take i nodes) ++ ports_of i j) count ∙ sym (numbered-take requires_of mk nodes i n h)

-- the places of one node more
pub places_more : (f : Node → ℕ) (nodes : List Node) (i total m : ℕ) (n : Node) → i < length nodes → n ≡ get_or nodes i n → m ≡ f n → total ≡ sum_by f (take i nodes) → total + m ≡ sum_by f (take (i + 1) nodes)
places_more f nodes i total m n h n_is m_is total_is =
    let count : m ≡ f (get_or nodes i n) = m_is ∙ ap f n_is in
    let more = sum_by_more f nodes i n h in
    omega (arith, more, count, total_is)

pub provides_at-le : (nodes : List Node) (i : ℕ) → provides_at nodes i ≤ 1
provides_at-le nodes i = by (slice_get nodes i)
  where
    by : (o : Option Node) → option_map_or provides_of o 0 ≤ 1
    by None = omega arith
    by (Some n) = one_provision n.kind

-- so there are no more provisions than nodes
pub first_provision-le : (nodes : List Node) (i : ℕ) → first_provision nodes i ≤ i
first_provision-le nodes zero = omega arith
first_provision-le [] (suc i) = omega arith
first_provision-le (n ∷ nodes) (suc i) =
    let rest : first_provision nodes i ≤ i = first_provision-le nodes i in
    rw sum_by-cons (omega (arith, one_provision n.kind))

pub length-ports : (nodes : List Node) → length (ports nodes) ≡ sum_by requires_of nodes
length-ports nodes = length-numbered requires_of (λ i r. record { node = i; require = r }) 0 nodes

pub length-provisions : (nodes : List Node) → length (provisions nodes) ≡ first_provision nodes (length nodes)
length-provisions nodes =
    length-numbered provides_of (λ i x. record { node = i; provide = x }) 0 nodes ∙ ap (sum_by provides_of) (sym (take_all (length nodes) nodes (omega arith)))

pub start-at : (nodes : List Node) (i : ℕ) (d : Start) → i ≤ length nodes → get_or (starts nodes) i d ≡ start nodes i
start-at nodes i d h = get_or-map-range_with_len (start nodes) 0 (length nodes + 1) i i d (omega arith) (omega arith)

-- a place's number is below the count of all
pub below_all : {N : Type 0} (f : N → ℕ) (xs : List N) (i r : ℕ) → r < count_at f xs i → sum_by f (take i xs) + r < sum_by f xs
below_all f [] i r h = absurd (omega arith)
below_all f (x ∷ xs) zero r h = rw sum_by-cons (omega arith)
below_all f (x ∷ xs) (suc i) r h = let rest = below_all f xs i r h in simp sum_by-cons (omega arith)

-- a node that has places is in the list
pub within_list : {N : Type 0} (f : N → ℕ) (xs : List N) (i r : ℕ) → r < count_at f xs i → i < length xs
within_list f [] i r h = absurd (omega arith)
within_list f (x ∷ xs) zero r h = omega arith
within_list f (x ∷ xs) (suc i) r h = let rest = within_list f xs i r h in omega arith

-- where one node more starts
pub starts_more : (nodes : List Node) (so_far : List Start) (i : ℕ) (s : Start) → so_far ≡ map (start nodes) (range_with_len 0 i) → s.port ≡ first_port nodes i → s.provision ≡ first_provision nodes i → so_far ++ s ∷ [] ≡ map (start nodes) (range_with_len 0 (i + 1))
starts_more nodes so_far i s so_far_is port_is provision_is =
    let s_is : s ≡ start nodes i = λ j. record { port = port_is j; provision = provision_is j } in
    ap (λ x. so_far ++ x ∷ []) s_is ∙ row_more (start nodes) [] so_far i so_far_is

-- a node's start in the table of starts
pub start_read : (nodes : List Node) (table : List Start) (i : ℕ) (s : Start) → table ≡ starts nodes → i ≤ length nodes → s ≡ get_or table i s → s ≡ start nodes i
start_read nodes table i s table_is h s_is = s_is ∙ ap (λ t. get_or t i s) table_is ∙ start-at nodes i s h

pub length-starts : (nodes : List Node) (table : List Start) → table ≡ starts nodes → length table ≡ length nodes + 1
length-starts nodes table h = ap length h ∙ length-map-range_with_len (start nodes) 0 (length nodes + 1)

-- What the numbering of these nodes answers for a port or a provision, where the value that contracts see is the same list.
module _ (nodes value : List Node) (table : List Start) (port_list : List Port) (view_is : nodes ≡ value) (numbered_ : IsNumbered nodes table port_list) where
  pub start_within : (f : Node → ℕ) (i r : ℕ) → r < count_at f value i → i < length table
  start_within f i r h =
      let here : r < count_at f nodes i = rw view_is h in
      omega (arith, within_list f nodes i r here, length-starts nodes table numbered_.starts_are)

  pub start_is : (f : Node → ℕ) (i r : ℕ) (s : Start) → r < count_at f value i → s ≡ get_or table i s → s ≡ start value i
  start_is f i r s h s_is =
      let here : r < count_at f nodes i = rw view_is h in
      let low : i ≤ length nodes = omega (arith, within_list f nodes i r here) in
      start_read nodes table i s numbered_.starts_are low s_is ∙ ap (λ n. start n i) view_is

  pub port_is : (i r : ℕ) (s : Start) → r < requires_at value i → s ≡ get_or table i s → s.port + r ≡ port_number value i r
  port_is i r s h s_is = ap (λ t. t.port + r) (start_is requires_of i r s h s_is)

  pub provision_is : (i x : ℕ) (s : Start) → x < provides_at value i → s ≡ get_or table i s → s.provision + x ≡ provision_number value i x
  provision_is i x s h s_is = ap (λ t. t.provision + x) (start_is provides_of i x s h s_is)

  -- past the last node stand the totals
  pub total_is : (n : ℕ) (s : Start) → n ≡ length nodes → s ≡ get_or table n s → s.provision ≡ length (provisions value)
  total_is n s n_is s_is =
      let low : n ≤ length nodes = omega arith in
      ap (λ t. t.provision) (start_read nodes table n s numbered_.starts_are low s_is) ∙ ap (first_provision nodes) n_is ∙ sym (length-provisions nodes) ∙ ap (λ v. length (provisions v)) view_is

-- there are no more provisions than nodes
pub provisions-le : (nodes : List Node) → length (provisions nodes) ≤ length nodes
provisions-le nodes = rw length-provisions (first_provision-le nodes (length nodes))

pub port_below : (nodes : List Node) (i r : ℕ) → r < requires_at nodes i → port_number nodes i r < length (ports nodes)
port_below nodes i r h = rw length-ports (below_all requires_of nodes i r h)

pub provision_below : (nodes : List Node) (i x : ℕ) → x < provides_at nodes i → provision_number nodes i x < length (provisions nodes)
provision_below nodes i x h =
    rw length-provisions (rw (take_all (length nodes) nodes (omega arith)) (below_all provides_of nodes i x h))

-- a node has two ports at most
pub ports_from : (k : ℕ) (nodes : List Node) → length (flat_map (λ p. ports_of p.0 (requires_of p.1)) (enumerate_from k nodes)) ≤ 2 * length nodes
ports_from k [] = omega arith
ports_from k (n ∷ nodes) =
    let rest = flat_map (λ p. ports_of p.0 (requires_of p.1)) (enumerate_from (k + 1) nodes) in
    let whole : length (flat_map (λ p. ports_of p.0 (requires_of p.1)) (enumerate_from k (n ∷ nodes))) ≡ requires_of n + length rest =
    length-append (ports_of k (requires_of n)) rest ∙ ap (λ m. m + length rest) (length-map (range_with_len 0 (requires_of n)) (λ r. record { node = k; require = r }) ∙ length-range_with_len 0 (requires_of n)) in
    omega (arith, whole, two_requires n.kind, ports_from (k + 1) nodes)
