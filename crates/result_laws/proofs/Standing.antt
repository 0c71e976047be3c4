-- Where a node is made or a port linked, a graph that a statement describes has that node, or that link: it stands at the
-- next commit.
use Rattle.std.proofs.Common.{◌≡◌, ◌∙◌, ℕ, ◌<◌, Bool, true, false, cond, List, [], ◌∷◌, ◌++◌, append_assoc, length, Option, Some, refl, sym, ap, subst, arith}
use Rattle.std.proofs.lemmas.Option.{slice_get_within}
use Rattle.std.specs.Prelude.{All, IfSome, filter_map, is_some}
use Rattle.std.specs.List.{cons_option}
use Rattle.std.proofs.lemmas.Bool.{and_parts, both_ways, ne_eqb, not-true}
use Rattle.std.proofs.lemmas.List.{append-nil}
use Rattle.std.proofs.lemmas.List.Elements.{All-contains, All-head, All-tail}
use Rattle.base.specs.Each.{Each}
use Rattle.base.proofs.ContainsLaws.{Contains-at, Contains-from_filter_map}
use Rattle.base.proofs.EachLaws.{each_at}
use Rattle.config_graph.specs.Graph.{Graph}
use Rattle.config_graph.specs.declared.node.Node.{Node}
use Rattle.config_graph.specs.declared.node.Target.{Target}
use Rattle.quiesce_core.specs.Effect.{effect}
use Rattle.quiesce_core.specs.Legal.{Legal}
use Rattle.quiesce_core.specs.Live.{IsGraphOf}
use Rattle.quiesce_core.specs.Rules.{is_linked}
use Rattle.quiesce_core.specs.Runs.{IsRun, state_after}
use Rattle.quiesce_core.specs.State.{Configuration, State, owner, slot, target}
use Rattle.quiesce_core.specs.declared.event.Event.{Event}
use Rattle.quiesce_core.specs.declared.event.Event.TheVariants as event
use Rattle.quiesce_core.specs.declared.state.Slot.{Slot}
use Rattle.quiesce_core.proofs.AlterLaws.{reconfigured}
use Rattle.quiesce_core.proofs.ConfigurationLaws.{owner_kept, slots_stay, target_kept, target_linked, target_made}
use Rattle.quiesce_core.proofs.InductionLaws.{IsNext, place}
use Rattle.quiesce_core.proofs.RunLaws.{node_events_keep_the_configuration}
use Rattle.report_types.specs.declared.report.HistoryLine.{HistoryLine}
use Rattle.report_types.specs.declared.report.HistoryLine.TheVariants as to
use Rattle.change_spec.specs.Lawful.{IsGraphAt, IsGraphDescribed, IsOfItsKind}
use Rattle.change_spec.specs.Members.{Member, by_node, event_in, events, lines, of_history, state_at}
use Rattle.change_spec.specs.Statements.{Statement, graph_of}
use Rattle.change_spec.proofs.MemberLaws.{events_parts, lines_parts}
use Rattle.result_laws.specs.Describing.{Describes}
use Rattle.result_laws.proofs.Committed.{comes, committed}
use Rattle.base.proofs.ListLaws.{all_parts}

-- what is made and linked in one configuration is so in another
pub record Standing (c d : Configuration) : Type 0 where
  pub slots : (n : ℕ) (m : Slot) → slot c n ≡ Some m → slot d n ≡ Some m
  pub targets : (p : ℕ) (t : Target) → target c p ≡ Some t → target d p ≡ Some t
  pub owners : (p : ℕ) → p < length c.gates → (owner d p ≡ owner c p) × (p < length d.gates)

same_stands : (c d : Configuration) → d ≡ c → Standing c d
same_stands c d same = record {
  slots = λ n m h. ap (λ x. slot x n) same ∙ h;
  targets = λ p t h. ap (λ x. target x p) same ∙ h;
  owners = λ p low. (ap (λ x. owner x p) same, subst (λ (x : Configuration). p < length x.gates) (sym same) low);
}

stands_on : (a b c : Configuration) → Standing a b → Standing b c → Standing a c
stands_on a b c x y = record {
  slots = λ n m h. y.slots n m (x.slots n m h);
  targets = λ p t h. y.targets p t (x.targets p t h);
  owners = λ p low. let u = x.owners p low in let v = y.owners p u.1 in (v.0 ∙ u.0, v.1);
}

-- an event that makes, links or reopens leaves all others, and so does one of a node
made_stands : (s : State) (k : ℕ) (node : Node) (from : Option ℕ) → Legal s (event.Make k node from) → Standing s.config (effect s (event.Make k node from)).config
made_stands s k node from l =
    let d = (effect s (event.Make k node from)).config in
    let r = reconfigured s (event.Make k node from) l in
    record {
      slots = λ n m h. r.slots n ∙ ap (λ b. cond b (Some (record { node = node; first_port = length s.config.gates; from = from; live = true })) (slot s.config n)) (ne_eqb n (length s.config.slots) (λ same. let low = slice_get_within s.config.slots n m h in omega (arith, low, same))) ∙ h;
      targets = λ p t h. target_made s.config d k node from r p ∙ h;
      owners = λ p low. (owner_kept s.config d (event.Make k node from) r p low, (let n = r.ports in omega (arith, n, low)));
    }

linked_stands : (s : State) (q n x : ℕ) → Legal s (event.Link q n x) → Standing s.config (effect s (event.Link q n x)).config
linked_stands s q n x l =
    let d = (effect s (event.Link q n x)).config in
    let r = reconfigured s (event.Link q n x) l in
    record {
      slots = λ k m h. slots_stay s.config d (event.Link q n x) r refl refl k ∙ h;
      targets = λ p t h.
          target_linked s.config d q n x r p ∙ ap (λ b. cond b (Some (record { node = n; provide = x })) (target s.config p)) (ne_eqb q p (λ same.
          both_ways (is_linked s.config q) (not-true (is_linked s.config q) l.unlinked) (ap (λ i. is_linked s.config i) same ∙ ap is_some h))) ∙ h;
      owners = λ p low. (owner_kept s.config d (event.Link q n x) r p low, (let k = r.ports in omega (arith, k, low)));
    }

reopened_stands : (s : State) (q : ℕ) → Legal s (event.Reopen q) → Standing s.config (effect s (event.Reopen q)).config
reopened_stands s q l =
    let d = (effect s (event.Reopen q)).config in
    let r = reconfigured s (event.Reopen q) l in
    record {
      slots = λ k m h. slots_stay s.config d (event.Reopen q) r refl refl k ∙ h;
      targets = λ p t h. target_kept s.config d (event.Reopen q) r p refl ∙ h;
      owners = λ p low. (owner_kept s.config d (event.Reopen q) r p low, (let k = r.ports in omega (arith, k, low)));
    }

-- ---- on to the commit

record Found (front back : List Member) : Type 0 where
  ahead : List Member
  rest : List Member
  parts : back ≡ ahead ++ of_history to.Commit ∷ rest
  stands : Standing (state_at front).config (state_at (front ++ ahead)).config

events_with : (front back : List Member) (x : Member) (e : Event) → event_in x ≡ Some e → events (front ++ x ∷ back) ≡ events front ++ e ∷ events back
events_with front back x e is = events_parts front (x ∷ back) ∙ ap (λ o. events front ++ cons_option o (events back)) is

next_at : (front back : List Member) (x : Member) (e : Event) → event_in x ≡ Some e → IsRun (events (front ++ x ∷ back)) → IsNext (events front) e
next_at front back x e is run = place (events front) (events back) e (subst IsRun (events_with front back x e is) run)

after_at : (front : List Member) (x : Member) (e : Event) → event_in x ≡ Some e → IsNext (events front) e → state_at (front ++ x ∷ []) ≡ effect (state_at front) e
after_at front x e is here = ap state_after (events_with front [] x e is) ∙ here.next

onward : (front back : List Member) (x : Member) → Standing (state_at front).config (state_at (front ++ x ∷ [])).config → Found (front ++ x ∷ []) back → Found front (x ∷ back)
onward front back x step f = record {
  ahead = x ∷ f.ahead;
  rest = f.rest;
  parts = ap (λ xs. x ∷ xs) f.parts;
  stands = stands_on (state_at front).config (state_at (front ++ x ∷ [])).config (state_at (front ++ x ∷ f.ahead)).config step
      (subst (λ xs. Standing (state_at (front ++ x ∷ [])).config (state_at xs).config) (append_assoc front (x ∷ []) f.ahead) f.stands);
}

found : (front back : List Member) → IsRun (events (front ++ back)) → All IsOfItsKind back → comes (lines back) ≡ true → Found front back
found front [] run kinds h = absurd (both_ways false refl h)
found front (x ∷ back) run kinds h = by x refl kinds h (λ k step. onward front back x step (found (front ++ x ∷ []) back (subst (λ xs. IsRun (events xs)) (sym (append_assoc front (x ∷ []) back)) run) (All-tail IsOfItsKind x back kinds) k))
  where
    Later : Type 0
    Later = comes (lines back) ≡ true → Standing (state_at front).config (state_at (front ++ x ∷ [])).config → Found front (x ∷ back)

    stepped : (e : Event) → event_in x ≡ Some e → ((s : State) → Legal s e → Standing s.config (effect s e).config) → Standing (state_at front).config (state_at (front ++ x ∷ [])).config
    stepped e is step =
        let here = next_at front back x e is run in
        subst (λ (t : State). Standing (state_at front).config t.config) (sym (after_at front x e is here)) (step (state_at front) here.legal)

    of_line : (l : HistoryLine) → x ≡ of_history l → comes (lines (of_history l ∷ back)) ≡ true → (comes (lines back) ≡ true → Standing (state_at front).config (state_at (front ++ x ∷ [])).config → Found front (x ∷ back)) → Found front (x ∷ back)
    of_line to.Commit is h later = record { ahead = []; rest = back; parts = ap (λ y. y ∷ back) is; stands = same_stands (state_at front).config (state_at (front ++ [])).config (ap (λ xs. (state_at xs).config) (append-nil front)) }
    of_line (to.Make n made from) is h later = later h (stepped (event.Make n made from) (ap event_in is) (λ s l. made_stands s n made from l))
    of_line (to.Link p n y) is h later = later h (stepped (event.Link p n y) (ap event_in is) (λ s l. linked_stands s p n y l))
    of_line (to.Reopen p) is h later = later h (stepped (event.Reopen p) (ap event_in is) (λ s l. reopened_stands s p l))
    of_line _ is h later = absurd (both_ways false refl h)

    by : (y : Member) → x ≡ y → All IsOfItsKind (y ∷ back) → comes (lines (y ∷ back)) ≡ true → (comes (lines back) ≡ true → Standing (state_at front).config (state_at (front ++ x ∷ [])).config → Found front (x ∷ back)) → Found front (x ∷ back)
    by (by_node e) is kinds h later = later h (stepped e (ap event_in is) (λ s l. same_stands s.config (effect s e).config (node_events_keep_the_configuration s e (All-head IsOfItsKind (by_node e) back kinds))))
    by (of_history l) is kinds h later = of_line l is h later

-- ---- there a graph is described

pub record ToBe (P : Graph → Type 0) (c : Configuration) : Type 0 where
  pub graph : Graph
  pub has : P graph
  pub then_ : Configuration
  pub stands : Standing c then_
  pub is_graph : IsGraphOf then_ graph

abbrev pub is_put_line : HistoryLine → Bool
is_put_line (to.Make n made from) = true
is_put_line (to.Link p n x) = true
is_put_line _ = false

pub to_be : (statements : List Statement) (P : Graph → Type 0) → All (Describes P) statements → (m : List Member) → IsRun (events m) → All IsOfItsKind m → Each (IsGraphAt statements) m → committed (lines m) ≡ true
    → (front back : List Member) (l : HistoryLine) → m ≡ front ++ of_history l ∷ back → is_put_line l ≡ true → ToBe P (state_at (front ++ of_history l ∷ [])).config
to_be statements P all m run kinds graphs so front back l parts put = record { graph = at.graph; has = has_so; then_ = (state_at (here ++ f.ahead)).config; stands = f.stands; is_graph = at.stands }
  where
    here : List Member
    here = front ++ of_history l ∷ []

    whole : m ≡ (front ++ of_history l ∷ []) ++ back
    whole = parts ∙ sym (append_assoc front (of_history l ∷ []) back)

    rest_committed : (xs ys : List HistoryLine) → committed (xs ++ ys) ≡ true → committed ys ≡ true
    rest_committed [] ys h = h
    rest_committed (to.Make n made from ∷ xs) ys h = rest_committed xs ys (and_parts (comes (xs ++ ys)) (committed (xs ++ ys)) h).1
    rest_committed (to.Link p n x ∷ xs) ys h = rest_committed xs ys (and_parts (comes (xs ++ ys)) (committed (xs ++ ys)) h).1
    rest_committed (_ ∷ xs) ys h = rest_committed xs ys h

    first_comes : (l : HistoryLine) (ys : List HistoryLine) → is_put_line l ≡ true → committed (l ∷ ys) ≡ true → comes ys ≡ true
    first_comes (to.Make n made from) ys h k = (and_parts (comes ys) (committed ys) k).0
    first_comes (to.Link p n x) ys h k = (and_parts (comes ys) (committed ys) k).0
    first_comes _ ys h k = absurd (both_ways false refl h)

    comes_back : comes (lines back) ≡ true
    comes_back = first_comes l (lines back) put (rest_committed (lines front) (l ∷ lines back) (sym (ap committed (ap lines parts ∙ lines_parts front (of_history l ∷ back))) ∙ so))

    f : Found (front ++ of_history l ∷ []) back
    f = found (front ++ of_history l ∷ []) back (subst (λ xs. IsRun (events xs)) whole run) (all_parts IsOfItsKind (front ++ of_history l ∷ []) back (subst (All IsOfItsKind) whole kinds)).1 comes_back

    at : IsGraphDescribed statements ((front ++ of_history l ∷ []) ++ f.ahead)
    at = each_at (IsGraphAt statements) ((front ++ of_history l ∷ []) ++ f.ahead) f.rest (of_history to.Commit)
        (subst (Each (IsGraphAt statements)) (whole ∙ ap (λ xs. (front ++ of_history l ∷ []) ++ xs) f.parts ∙ sym (append_assoc (front ++ of_history l ∷ []) f.ahead (of_history to.Commit ∷ f.rest))) graphs)

    has_so : P at.graph
    has_so =
        let st = Contains-from_filter_map graph_of statements at.graph (Contains-at (filter_map graph_of statements) _ at.graph at.described_so) in
        subst (λ o. IfSome o P) st.2 (All-contains (Describes P) statements st.0 all st.1)
