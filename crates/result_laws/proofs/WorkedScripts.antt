-- Which of the small scripts meet which premise.
use Rattle.std.proofs.Common.{◌≡◌, ◌∙◌, ℕ, zero, suc, ◌<◌, false, true, List, [], ◌∷◌, ◌++◌, length, Option, Some, None, refl, sym, ap, subst, arith, inl, inr}
use Rattle.std.specs.Prelude.{◌⊎◌, All, Contains, codes, pos, sum_by}
use Rattle.std.specs.Option.{option_map_or}
use Rattle.std.specs.Fmt.{digits}
use Rattle.config_graph.specs.GraphText.{graph_text}
use Rattle.std.proofs.lemmas.Bool.{both_ways}
use Rattle.std.proofs.lemmas.Option.{none-some}
use Rattle.std.proofs.lemmas.List.Elements.{All-cons, All-head, All-nil}
use Rattle.config_graph.specs.Graph.{Graph}
use Rattle.config_graph.specs.declared.kind.Kind.{Kind}
use Rattle.config_graph.specs.declared.kind.Kind.TheVariants.{Branch, Buffer, Fork, Map, Philosopher, Sink, Teller}
use Rattle.config_graph.specs.declared.node.Node.{Node}
use Rattle.change_plan_laws.specs.Systems.{bank, line, sink_t, source_at}
use Rattle.change_spec.specs.Statements.{Statement, start, change, run, finish}
use Rattle.result_laws.specs.Banks.{AreBanks, IsBank, LeadsToAccount, banks_serve_tellers}
use Rattle.result_laws.specs.Describing.{Describes, LinksAre, kind_at}
use Rattle.result_laws.specs.Flows.{AreApart, same_side}
use Rattle.result_laws.specs.Holding.{AreTables, forks_serve_places}
use Rattle.change_plan.specs.Differences.{IsTwin}
use Rattle.change_plan.specs.declared.plan_data.Move.{Move}
use Rattle.result_laws.specs.Keeping.{AreRows, IsKeptOrMoved, KeepsEnds}
use Rattle.result_laws.specs.Rows.{IsRow, is_of_row, rows_serve_rows}
use Rattle.result_laws.specs.WorkedFlows.{with_philosopher_at_fork, with_teller_at_sink}
use Rattle.result_laws.specs.WorkedBanks.{bank_beside_row, beside, with_teller_at_account}
use Rattle.result_laws.specs.WorkedScripts.{bank_change, beside_another_sink, beside_change, beside_run, both_change, buffered, fan, fan_change, line_grows, row_change, same_path, sink_change, table, table_change, table_of_two, with_another_sink}
use Rattle.result_laws.proofs.Making.{one_sink_at, one_source_at}
use Rattle.result_laws.proofs.Testing.{links_pass}
use Rattle.result_laws.proofs.WorkedRows.{beside_is_row}

-- both graphs of such a script are of a shape
pub both : (P : Graph → Type 0) (s : List Statement) (a b c d : Statement) → s ≡ a ∷ b ∷ c ∷ d ∷ [] → Describes P a → Describes P b → Describes P c → Describes P d → All (Describes P) s
both P s a b c d is x y z w = subst_all (sym is) (All-cons (Describes P) a (b ∷ c ∷ d ∷ []) x (All-cons (Describes P) b (c ∷ d ∷ []) y (All-cons (Describes P) c (d ∷ []) z (All-cons (Describes P) d [] w (All-nil (Describes P))))))
  where
    subst_all : {xs ys : List Statement} → xs ≡ ys → All (Describes P) xs → All (Describes P) ys
    subst_all h = Rattle.std.proofs.Common.subst (All (Describes P)) h

-- ---- links by kinds

pub line_is_apart : AreApart line_grows
line_is_apart = both (LinksAre same_side) line_grows _ _ _ _ refl (links_pass same_side (buffered 2) refl) tt (links_pass same_side (buffered 3) refl) tt

pub row_is_apart : AreApart row_change
row_is_apart = both (LinksAre same_side) row_change _ _ _ _ refl (links_pass same_side (line 10) refl) tt (links_pass same_side (line 20) refl) tt

pub bank_is_apart : AreApart bank_change
bank_is_apart = both (LinksAre same_side) bank_change _ _ _ _ refl (links_pass same_side (bank 3 100) refl) tt (links_pass same_side (bank 3 7) refl) tt

pub fan_is_apart : AreApart fan_change
fan_is_apart = both (LinksAre same_side) fan_change _ _ _ _ refl (links_pass same_side (fan 1) refl) tt (links_pass same_side (fan 5) refl) tt

pub table_is_table : AreTables table_change
table_is_table = both (LinksAre forks_serve_places) table_change _ _ _ _ refl (links_pass forks_serve_places table refl) tt (links_pass forks_serve_places table_of_two refl) tt

pub teller_is_not_apart : AreApart (start [] [] with_teller_at_sink ∷ []) → ⊥
teller_is_not_apart h = both_ways false refl (All-head (Describes (LinksAre same_side)) (start [] [] with_teller_at_sink) [] h 1 0 0 0 Teller Sink refl refl refl)

pub philosopher_is_no_table : AreTables (start [] [] with_philosopher_at_fork ∷ []) → ⊥
philosopher_is_no_table h = both_ways false refl (All-head (Describes (LinksAre forks_serve_places)) (start [] [] with_philosopher_at_fork) [] h 1 0 0 0 Philosopher Fork refl refl refl)

-- ---- rows

line_is_row : (k : ℕ) → IsRow (line k)
line_is_row k = record {
  source = 1;
  maps = 0 ∷ [];
  sink = 2;
  is_source = refl;
  are_maps = All-cons (λ i. kind_at (line k) i ≡ Some Map) 0 [] refl (All-nil (λ i. kind_at (line k) i ≡ Some Map));
  is_sink = refl;
  no_others = each;
  links = links_pass rows_serve_rows (line k) refl;
  leads = (refl, refl);
}
  where
    each : (i : ℕ) (j : Kind) → kind_at (line k) i ≡ Some j → is_of_row j ≡ true → (i ≡ 1) ⊎ Contains (0 ∷ []) i ⊎ (i ≡ 2)
    each zero j h of_row = inr (inl (0, omega arith, refl))
    each (suc zero) j h of_row = inl refl
    each (suc (suc zero)) j h of_row = inr (inr refl)
    each (suc (suc (suc i))) j h of_row = absurd (none-some j h)

-- where both graphs of a change are rows, and each end is the same node in both
keeps_ends : (old new : Graph) (moves : List Move) (r : IsRow old) (q : IsRow new) → IsTwin old new r.source q.source → IsTwin old new r.sink q.sink → KeepsEnds old new moves
keeps_ends old new moves r q source sink = record {
  source = λ i j h k. inl (subst (λ x. IsTwin old new x j) (sym (one_source_at old r i h)) (subst (IsTwin old new r.source) (sym (one_source_at new q j k)) source));
  sink = λ i j h k. inl (subst (λ x. IsTwin old new x j) (sym (one_sink_at old r i h)) (subst (IsTwin old new r.sink) (sym (one_sink_at new q j k)) sink));
}

pub row_is_row : AreRows row_change
unfolding line_is_row
row_is_row = record {
  rows = both IsRow row_change _ _ _ _ refl (line_is_row 10) tt (line_is_row 20) tt;
  ends = (keeps_ends (line 10) (line 20) [] (line_is_row 10) (line_is_row 20) (record { node = source_at (codes "s") 3; here = refl; there = refl }) (record { node = sink_t; here = refl; there = refl }), tt);
}

-- a row beside a bank, while nothing changes
pub beside_is_rows : AreRows beside_run
beside_is_rows = record {
  rows = both IsRow beside_run _ _ _ _ refl (beside_is_row 5 0 (codes "t")) tt tt tt;
  ends = tt;
}

-- and where the bank does, or both
beside_kept : (k b : ℕ) → KeepsEnds bank_beside_row (beside k b (codes "t")) []
unfolding beside_is_row
beside_kept k b = keeps_ends bank_beside_row (beside k b (codes "t")) [] (beside_is_row 5 0 (codes "t")) (beside_is_row k b (codes "t")) (record { node = source_at (codes "s") 3; here = refl; there = refl })
    (record { node = sink_t; here = refl; there = refl })

pub beside_changes : AreRows beside_change
beside_changes = record {
  rows = both IsRow beside_change _ _ _ _ refl (beside_is_row 5 0 (codes "t")) tt (beside_is_row 5 7 (codes "t")) tt;
  ends = (beside_kept 5 7, tt);
}

pub both_change_is_rows : AreRows both_change
both_change_is_rows = record {
  rows = both IsRow both_change _ _ _ _ refl (beside_is_row 5 0 (codes "t")) tt (beside_is_row 9 7 (codes "t")) tt;
  ends = (beside_kept 9 7, tt);
}

-- a buffer leads to no sink of a row
pub line_is_no_row : AreRows line_grows → ⊥
line_is_no_row rows =
    let row : IsRow (buffered 2) = All-head (Describes IsRow) (start (codes "Line") (pos 2 ∷ []) (buffered 2)) (run 2 ∷ change (codes "Line") (pos 3 ∷ []) (buffered 3) 10 (same_path (codes "b") ∷ []) ∷ finish 100 ∷ []) rows.rows in
    both_ways false refl (row.links 0 0 2 0 Buffer Sink refl refl refl)

-- nor may the sink be replaced without its state, whatever stands beside
path_sum : Option Node → ℕ
path_sum o = option_map_or (λ (n : Node). sum_by (λ b. b) n.path) o 0

pub sink_is_lost_beside : AreRows beside_another_sink → ⊥
unfolding path_sum
sink_is_lost_beside rows = by (rows.ends.0.sink 5 5 refl refl)
  where
    by : IsKeptOrMoved bank_beside_row (beside 5 7 (codes "u")) [] 5 5 → ⊥
    by (inl twin) = absurd (omega (arith, ap path_sum (twin.here ∙ sym twin.there)))
    by (inr move) = absurd (omega (arith, move.1))

pub sink_is_lost : AreRows sink_change → ⊥
unfolding path_sum
sink_is_lost rows = by (rows.ends.0.sink 2 2 refl refl)
  where
    by : IsKeptOrMoved (line 10) with_another_sink [] 2 2 → ⊥
    by (inl twin) = absurd (omega (arith, ap path_sum (twin.here ∙ sym twin.there)))
    by (inr move) = absurd (omega (arith, move.1))

-- ---- banks

bank_is_bank : (b : ℕ) → IsBank (bank 3 b)
bank_is_bank b = record { links = links_pass banks_serve_tellers (bank 3 b) refl; from = from; to = to }
  where
    from : (i : ℕ) → kind_at (bank 3 b) i ≡ Some Branch → LeadsToAccount (bank 3 b) i 0
    from (suc (suc zero)) h = record { account = 0; linked = refl; is_account = refl }
    from zero h = absurd (cc h)
    from (suc zero) h = absurd (cc h)
    from (suc (suc (suc zero))) h = absurd (cc h)
    from (suc (suc (suc (suc i)))) h = absurd (cc h)

    to : (i : ℕ) → kind_at (bank 3 b) i ≡ Some Branch → LeadsToAccount (bank 3 b) i 1
    to (suc (suc zero)) h = record { account = 1; linked = refl; is_account = refl }
    to zero h = absurd (cc h)
    to (suc zero) h = absurd (cc h)
    to (suc (suc (suc zero))) h = absurd (cc h)
    to (suc (suc (suc (suc i)))) h = absurd (cc h)

pub bank_is_banks : AreBanks bank_change
bank_is_banks = both IsBank bank_change _ _ _ _ refl (bank_is_bank 100) tt (bank_is_bank 7) tt

pub teller_is_no_bank : AreBanks (start [] [] with_teller_at_account ∷ []) → ⊥
teller_is_no_bank h = Rattle.result_laws.proofs.WorkedBanks.teller_is_none (All-head (Describes IsBank) (start [] [] with_teller_at_account) [] h)

-- ---- the texts of their graphs

pub texts_are : (graph_text (buffered 2) ≡ codes "node b buffer(2)\nport b.next t.in\nnode s source(3)\nport s.out b.in\nnode t sink()\n")
    × (graph_text (line 10) ≡ codes "node m map(10)\nport m.next t.in\nnode s source(3)\nport s.out m.in\nnode t sink()\n")
    × (graph_text (bank 3 100) ≡ codes "node a account(100)\nnode b account(0)\nnode r branch()\nport r.from a.post\nport r.to b.post\n" ++ codes "node w teller(3)\nport w.move r.move\n")
unfolding digits
texts_are = (refl, refl, refl)
