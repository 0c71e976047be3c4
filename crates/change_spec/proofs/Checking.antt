-- Facts of members, found by computing.
use Rattle.std.proofs.Common.{◌≡◌, Bool, true, false, not, List, [], ◌∷◌, ◌++◌, refl}
use Rattle.std.specs.Prelude.{◌==◌, All}
use Rattle.std.specs.List.{list_all}
use Rattle.std.proofs.lemmas.Bool.{and_parts, both_ways, eqb-true, not-true}
use Rattle.std.proofs.lemmas.List.Elements.{All-cons, All-nil}
use Rattle.base.specs.Each.{EachAfter}
use Rattle.quiesce_core.specs.Doers.{is_of_change}
use Rattle.quiesce_core.specs.State.{exchange}
use Rattle.quiesce_laws.specs.Drained.{is_drained}
use Rattle.report_types.specs.declared.report.HistoryLine.TheVariants as to
use Rattle.report_types.specs.declared.report.HistoryLine.{HistoryLine}
use Rattle.change_spec.specs.Found.{is_drained_at, is_of_its_kind, passes_each}
use Rattle.change_spec.specs.Lawful.{IsDrainedAt, IsOfItsKind, StoodOpenWhereSaid}
use Rattle.change_spec.specs.Members.{Member, by_node, of_history, is_root, state_at}

pub each_by : {A : Type 0} (P : List A → A → Type 0) (test : List A → A → Bool) → ((before : List A) (x : A) → test before x ≡ true → P before x) → (before xs : List A)
    → passes_each test before xs ≡ true → EachAfter P before xs
each_by P test sound before [] h = tt
each_by P test sound before (x ∷ xs) h =
    let w = and_parts (test before x) (passes_each test (before ++ x ∷ []) xs) h in (sound before x w.0, each_by P test sound (before ++ x ∷ []) xs w.1)

pub all_by : {A : Type 0} (P : A → Type 0) (test : A → Bool) → ((x : A) → test x ≡ true → P x) → (xs : List A) → list_all test xs ≡ true → All P xs
all_by P test sound [] h = All-nil P
all_by P test sound (x ∷ xs) h = let w = and_parts (test x) (list_all test xs) h in All-cons P x xs (sound x w.0) (all_by P test sound xs w.1)

-- of its kind, and drained where it is said to be

pub of_its_kind : (x : Member) → is_of_its_kind x ≡ true → IsOfItsKind x
of_its_kind (by_node e) h = not-true (is_of_change e) h
of_its_kind (of_history l) h = tt

pub drained_at : (before : List Member) (x : Member) → is_drained_at before x ≡ true → IsDrainedAt before x
drained_at before (of_history (to.Drained p k)) h =
    let w = and_parts (is_drained (state_at before) p) ((exchange (state_at before) p).serial == k) h in (w.0, eqb-true ((exchange (state_at before) p).serial) k w.1)
drained_at before _ h = tt

-- a line that isn't on what was open says nothing of it
pub no_root_said : (m : List Member) (before : List HistoryLine) (l : HistoryLine) → not (is_root l) ≡ true → StoodOpenWhereSaid m before l
no_root_said m before (to.Root p k) h = absurd (both_ways false refl h)
no_root_said m before _ h = tt
