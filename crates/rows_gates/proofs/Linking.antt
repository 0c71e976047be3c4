-- What the change may link in the systems of the rows.
use Rattle.std.proofs.Common.{◌≡◌, ℕ, [], ◌∷◌, ◌++◌, inl, inr, refl, sym, subst}
use Rattle.quiesce_laws.specs.Steps.{IsNoted}
use Rattle.config_graph.specs.declared.kind.Kind.TheVariants as kind
use Rattle.config_graph.specs.declared.node.Node.{Node}
use Rattle.txn_records.specs.Entries.{config_of}
use Rattle.txn_records.specs.Notes.{is_noted}
use Rattle.txn_records.specs.Records.{May}
use Rattle.txn_records.specs.declared.entry.Entry.TheVariants.{Did}
use Rattle.quiesce_core.specs.Reach.{has_no_cycle}
use Rattle.quiesce_core.specs.declared.event.Event.TheVariants.{Link}
use Rattle.rows_gates.specs.Made.{LeadsTo, made_again, made_three, made_two}

-- a source and a sink, or an asker and an adder
pub two : (n m : ℕ) (a b : Node) → LeadsTo a.kind b.kind → May (made_two n m a b) (Link 0 1 0)
unfolding has_no_cycle
two n m a b (inl (source, sink)) =
    subst (λ k. May (made_two n m (record a { kind = k }) b) (Link 0 1 0)) (sym source)
    (subst (λ k. May (made_two n m (record a { kind = kind.Source }) (record b { kind = k })) (Link 0 1 0)) (sym sink)
    (record { live = refl; unlinked = refl; provision = refl; settled = record { live = refl; own = λ q is. refl; reaching = λ q is. refl }; no_cycle = refl }))
two n m a b (inr (asker, adder)) =
    subst (λ k. May (made_two n m (record a { kind = k }) b) (Link 0 1 0)) (sym asker)
    (subst (λ k. May (made_two n m (record a { kind = kind.Asker }) (record b { kind = k })) (Link 0 1 0)) (sym adder)
    (record { live = refl; unlinked = refl; provision = refl; settled = record { live = refl; own = λ q is. refl; reaching = λ q is. refl }; no_cycle = refl }))

-- A map, a source and a sink: the map's port may be linked, the source's port may be linked, and the source's after the map's.
abbrev All : ℕ → ℕ → ℕ → Node → Node → Node → Type 0
All n m k a b c =
    May (made_three n m k a b c) (Link 0 2 0)
    × May (made_three n m k a b c) (Link 1 0 0)
    × May (made_three n m k a b c ++ Did (Link 0 2 0) ∷ []) (Link 1 0 0)

pub three : (n m k : ℕ) (a b c : Node) → a.kind ≡ kind.Map → b.kind ≡ kind.Source → c.kind ≡ kind.Sink → All n m k a b c
unfolding has_no_cycle
three n m k a b c map_ source sink =
    subst (λ x. All n m k (record a { kind = x }) b c) (sym map_)
    (subst (λ x. All n m k (record a { kind = kind.Map }) (record b { kind = x }) c) (sym source)
    (subst (λ x. All n m k (record a { kind = kind.Map }) (record b { kind = kind.Source }) (record c { kind = x })) (sym sink) (
      record { live = refl; unlinked = refl; provision = refl; settled = record { live = refl; own = λ q is. refl; reaching = λ q is. refl }; no_cycle = refl },
      record { live = refl; unlinked = refl; provision = refl; settled = record { live = refl; own = λ q is. refl; reaching = λ q is. refl }; no_cycle = refl },
      record { live = refl; unlinked = refl; provision = refl; settled = record { live = refl; own = λ q is. refl; reaching = λ q is. refl }; no_cycle = refl },
    )))

-- A source, a sink that was removed, and the sink that took over from it: the source's port may be linked to the new
-- one, where the source is noted.
abbrev Again : ℕ → ℕ → ℕ → ℕ → Node → Node → Node → Type 0
Again n m w k a b c =
    IsNoted (is_noted (made_again n m w k a b c)) (config_of (made_again n m w k a b c)) 0
    → May (made_again n m w k a b c) (Link 0 2 0)

pub again : (n m w k : ℕ) (a b c : Node) → a.kind ≡ kind.Source → b.kind ≡ kind.Sink → c.kind ≡ kind.Sink → Again n m w k a b c
unfolding has_no_cycle
again n m w k a b c source sink heir =
    subst (λ x. Again n m w k (record a { kind = x }) b c) (sym source)
    (subst (λ x. Again n m w k (record a { kind = kind.Source }) (record b { kind = x }) c) (sym sink)
    (subst (λ x. Again n m w k (record a { kind = kind.Source }) (record b { kind = kind.Sink }) (record c { kind = x })) (sym heir)
    (λ noted. record { live = refl; unlinked = refl; provision = refl; settled = noted; no_cycle = refl })))
