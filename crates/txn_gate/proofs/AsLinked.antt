-- The steps by which the change links, unlinks, removes and marks, at any seat that is the change's.
use Rattle.std.proofs.Common.{◌≡◌, ℕ, Bool, [], Some, sym, subst}
use Rattle.std.specs.Prelude.{bit_xor}
use Rattle.atomic_table.specs.Table.{Allows, step}
use Rattle.config_graph.specs.declared.node.Target.{Target}
use Rattle.txn_records.specs.Entries.{config_of}
use Rattle.txn_records.specs.Records.{May}
use Rattle.txn_records.specs.declared.entry.Entry.TheVariants.{Did}
use Rattle.quiesce_word.specs.Operands.{link_difference}
use Rattle.quiesce_core.specs.State.{target}
use Rattle.quiesce_core.specs.declared.event.Event.{Event}
use Rattle.quiesce_core.specs.declared.event.Event.TheVariants.{Link, Unlink, Remove}
use Rattle.txn_spec.specs.Steps.{IsChange, MarksScan, Seat, noted}
use Rattle.txn_spec.specs.Views.{change_of, of_change}
use Rattle.txn_spec.specs.Traces.{Holds, port_place}
use Rattle.txn_spec.proofs.ChangeStepLaws as change_
use mathlib.Core.Option.{none}

module _ (slots id : ℕ) (me : Seat) (is : IsChange me) where
  -- an event that an operand of exclusive or makes
  turns : (p i : ℕ) → i ≡ port_place p → (k k' : ℕ) (e e' : Event) → e ≡ e' → k ≡ k'
      → Allows Holds slots id (of_change me.0.nodes (change_of me.0), []) (port_place p) (λ x. bit_xor x k') (λ found new. new ≡ noted (of_change me.0.nodes (change_of me.0), []) (Did e'))
      → Allows Holds slots id me i (λ x. bit_xor x k) (λ found new. new ≡ noted me (Did e))
  turns p i place k k' e e' event operand h =
      subst (λ m. Allows Holds slots id m i (λ x. bit_xor x k) (λ found new. new ≡ noted m (Did e))) (sym is)
      (subst (λ (y : ℕ × ℕ × Event). Allows Holds slots id (of_change me.0.nodes (change_of me.0), []) y.0 (λ x. bit_xor x y.1) (λ found new. new ≡ noted (of_change me.0.nodes (change_of me.0), []) (Did y.2)))
      (λ j. (sym place j, sym operand j, sym event j)) h)

  pub links : (p i : ℕ) → i ≡ port_place p → (k : ℕ) (to : Target) (e : Event) → e ≡ Link p to.node to.provide → k ≡ link_difference to → May (change_of me.0).entries (Link p to.node to.provide)
      → Allows Holds slots id me i (λ x. bit_xor x k) (λ found new. new ≡ noted me (Did e))
  links p i place k to e event operand may = turns p i place k _ e _ event operand (change_.links slots id me.0.nodes (change_of me.0) p to.node to.provide may)

  pub unlinks : (p i : ℕ) → i ≡ port_place p → (k : ℕ) (was : Target) (e : Event) → e ≡ Unlink p → k ≡ link_difference was → target (config_of (change_of me.0).entries) p ≡ Some was → May (change_of me.0).entries (Unlink p)
      → Allows Holds slots id me i (λ x. bit_xor x k) (λ found new. new ≡ noted me (Did e))
  unlinks p i place k was e event operand leads may = turns p i place k _ e _ event operand (change_.unlinks slots id me.0.nodes (change_of me.0) p was leads may)

  pub removes : (n i : ℕ) (e : Event) → e ≡ Remove n → May (change_of me.0).entries (Remove n) → Allows Holds slots id me i (λ x. x) (λ found new. new ≡ noted me (Did e))
  removes n i e event may =
      subst (λ m. Allows Holds slots id m i (λ x. x) (λ found new. new ≡ noted m (Did e))) (sym is)
      (subst (λ e. Allows Holds slots id (of_change me.0.nodes (change_of me.0), []) i (λ x. x) (λ found new. new ≡ noted (of_change me.0.nodes (change_of me.0), []) (Did e))) (sym event)
      (change_.removes slots id me.0.nodes (change_of me.0) n i may))

  pub marks : (begins moved : Bool) (i : ℕ) → Allows Holds slots id me i (λ x. x) (MarksScan begins moved (step slots i 0 0 none) me)
  marks begins moved i =
      subst (λ m. Allows Holds slots id m i (λ x. x) (MarksScan begins moved (step slots i 0 0 none) m)) (sym is) (change_.marks slots id me.0.nodes (change_of me.0) begins moved i)
