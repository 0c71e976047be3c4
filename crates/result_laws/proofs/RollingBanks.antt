-- Between two banks each stage is one: a branch of it leads to accounts as it does in the one graph or in the other.
use Rattle.std.proofs.Common.{◌≡◌, ◌∙◌, ℕ, true, false, Bool, List, Option, Some, None, refl, sym, ap, subst, inl, inr, ⊎_elim}
use Rattle.std.specs.Prelude.{◌⊎◌, ◌==◌, Contains, option_map, slice_get}
use Rattle.std.proofs.lemmas.Bool.{both_ways, cases_Bool, eq-eqb, eqb-true}
use Rattle.std.proofs.lemmas.Option.{none-some, same_Some}
use Rattle.base.proofs.ContainsLaws.{Contains-at, at_some_place}
use Rattle.base.proofs.OptionLaws.{option_map_some}
use Rattle.config_graph.specs.Cycles.{IsLinked}
use Rattle.config_graph.specs.Graph.{Graph, IsGraph, target_of}
use Rattle.config_graph.specs.declared.kind.Kind.{Kind}
use Rattle.config_graph.specs.declared.kind.Kind.TheVariants.{Account, Branch}
use Rattle.config_graph.specs.declared.node.Node.{Node}
use Rattle.config_graph.specs.declared.node.Target.{Target}
use Rattle.config_graph.proofs.PathLaws.{one_place}
use Rattle.change_plan.specs.declared.plan_data.Move.{Move}
use Rattle.change_plan.proofs.StepLaws.{has_node}
use Rattle.change_parts.specs.Groups.{IsIn}
use Rattle.change_parts.specs.Stages.{HasLinksOf, IsNodeAfter}
use Rattle.change_parts.specs.Ties.{AreConnected}
use Rattle.change_parts.proofs.LinkedLaws.{connected_at, linked_at}
use Rattle.result_laws.specs.Banks.{IsBank, LeadsToAccount, banks_serve_tellers}
use Rattle.result_laws.specs.Describing.{kind_at}
use Rattle.result_laws.specs.Sums.{is_account}
use Rattle.result_laws.proofs.Ledger.{kind_is_account}
use Rattle.result_laws.proofs.Rolling.{stage_links}

-- whether a requirement leads to an account is found by its target
leads_or_not : (g : Graph) (i r : ℕ) → LeadsToAccount g i r ⊎ (LeadsToAccount g i r → ⊥)
leads_or_not g i r = by (target_of g.links i r) refl
  where
    by_kind : (k : ℕ) → target_of g.links i r ≡ Some (record { node = k; provide = 0 }) → (o : Option Kind) → kind_at g k ≡ o → LeadsToAccount g i r ⊎ (LeadsToAccount g i r → ⊥)
    by_kind k at None none_ = inr (λ l. none-some Account (sym none_ ∙ ap (kind_at g) (ap (λ (t : Target). t.node) (same_Some _ _ (sym at ∙ l.linked))) ∙ l.is_account))
    by_kind k at (Some j) is = by_test (is_account j) refl
      where
        by_test : (b : Bool) → is_account j ≡ b → LeadsToAccount g i r ⊎ (LeadsToAccount g i r → ⊥)
        by_test true h = inl (record { account = k; linked = at; is_account = is ∙ ap Some (kind_is_account j h) })
        by_test false h = inr (λ l.
            let one : k ≡ l.account = ap (λ (t : Target). t.node) (same_Some _ _ (sym at ∙ l.linked)) in
            both_ways (is_account j) h (ap is_account (same_Some j Account (sym is ∙ ap (kind_at g) one ∙ l.is_account))))

    by : (o : Option Target) → target_of g.links i r ≡ o → LeadsToAccount g i r ⊎ (LeadsToAccount g i r → ⊥)
    by None none_ = inr (λ l. none-some _ (sym none_ ∙ l.linked))
    by (Some t) at = ⊎_elim
        (λ (zero_ : (t.provide == 0) ≡ true). by_kind t.node (at ∙ ap (λ x. Some (record { node = t.node; provide = x })) (eqb-true t.provide 0 zero_)) (kind_at g t.node) refl)
        (λ (more_ : (t.provide == 0) ≡ false). inr (λ l. both_ways (t.provide == 0) more_ (eq-eqb t.provide 0 (ap (λ (u : Target). u.provide) (same_Some t (record { node = l.account; provide = 0 }) (sym at ∙ l.linked))))))
        (cases_Bool (t.provide == 0))

module _ (old new : Graph) (moves : List Move) (old_graph : IsGraph old) (new_graph : IsGraph new) (old_bank : IsBank old) (new_bank : IsBank new) (stage : Graph) (graph : IsGraph stage) (has : HasLinksOf old new moves stage) where
  -- a branch of a graph whose links are those of the stage there
  leads_as : (g : Graph) → IsGraph g → (r : ℕ) → ((i : ℕ) → kind_at g i ≡ Some Branch → LeadsToAccount g i r) → (b : Node) → b.kind ≡ Branch → Contains g.nodes b
      → ((to : Node) (x : ℕ) → AreConnected g b r to x → AreConnected stage b r to x) → (i : ℕ) → slice_get stage.nodes i ≡ Some b → LeadsToAccount stage i r
  leads_as g is_graph r leads b kind there on i at =
      let p = at_some_place g.nodes b there in
      let l = leads p.0 (ap (option_map (λ (n : Node). n.kind)) p.1 ∙ ap Some kind) in
      let to = option_map_some (λ (n : Node). n.kind) (slice_get g.nodes l.account) Account l.is_account in
      let w = linked_at stage graph b r to.0 0 (on to.0 0 (connected_at g is_graph p.0 r l.account 0 b to.0 p.1 to.1 l.linked)) in
      let one : w.i ≡ i = one_place stage.nodes graph.paths_rise w.i i b w.from_there at in
      record {
        account = w.j;
        linked = subst (λ k. IsLinked stage k r w.j 0) one w.linked;
        is_account = ap (option_map (λ (n : Node). n.kind)) w.to_there ∙ sym (ap (option_map (λ (n : Node). n.kind)) to.1) ∙ l.is_account;
      }

  stage_leads : (r : ℕ) → ((i : ℕ) → kind_at old i ≡ Some Branch → LeadsToAccount old i r) → ((i : ℕ) → kind_at new i ≡ Some Branch → LeadsToAccount new i r) → (i : ℕ) → kind_at stage i ≡ Some Branch → LeadsToAccount stage i r
  stage_leads r old_leads new_leads i kind_there = ⊎_elim (λ (l : LeadsToAccount stage i r). l) (λ (none_ : LeadsToAccount stage i r → ⊥). absurd (neither none_)) (leads_or_not stage i r)
    where
      n : (b : Node) × (slice_get stage.nodes i ≡ Some b) × (b.kind ≡ Branch)
      n = option_map_some (λ (m : Node). m.kind) (slice_get stage.nodes i) Branch kind_there

      contained : Contains stage.nodes n.0
      contained = Contains-at stage.nodes i n.0 n.1

      after : IsNodeAfter old new moves has.applied old n.0
      after = (has.stage_is.nodes_are n.0).0 contained

      in_new : IsIn old new moves has.applied n.0 → IsNodeAfter old new moves has.applied old n.0 → Contains new.nodes n.0
      in_new in_ (inr created) = created.1.there
      in_new in_ (inl kept) = ⊎_elim (λ (there : Contains new.nodes n.0). there) (λ (gone : ¬ Contains new.nodes n.0). absurd (kept.1 (in_, record { there = kept.0; gone = gone }))) (has_node new.nodes n.0)

      in_old : (IsIn old new moves has.applied n.0 → ⊥) → IsNodeAfter old new moves has.applied old n.0 → Contains old.nodes n.0
      in_old out (inl kept) = kept.0
      in_old out (inr created) = absurd (out created.0)

      neither : (LeadsToAccount stage i r → ⊥) → ⊥
      neither none_ =
          let out : IsIn old new moves has.applied n.0 → ⊥ = λ in_.
          none_ (leads_as new new_graph r new_leads n.0 n.2 (in_new in_ after) (λ to x c. (has.links n.0 r to x contained).1 (inl (in_, c))) i n.1) in
          none_ (leads_as old old_graph r old_leads n.0 n.2 (in_old out after) (λ to x c. (has.links n.0 r to x contained).1 (inr (out, c))) i n.1)

  pub stage_bank : IsBank stage
  stage_bank = record {
    links = stage_links banks_serve_tellers old new moves old_graph new_graph old_bank.links new_bank.links stage graph has;
    from = stage_leads 0 old_bank.from new_bank.from;
    to = stage_leads 1 old_bank.to new_bank.to;
  }
