-- The table of kinds: how many services and requirements a kind has, which of them depend on which, and how much a service does.
use Rattle.std.proofs.Common.{◌≡◌, ℕ, zero, suc, Some, true, false, refl, Option, None, [], rules, Bool, not, ◌&&◌, eqb, ap, inl, inr, ◌⊎◌, ◌+◌, slice_get}
use Rattle.std.proofs.lemmas.Bool.{both_ways, and_parts, ne_eqb}
use Rattle.std.proofs.Math.Bool.{or-false}
use Rattle.config_graph.specs.Kinds.{row, kind_named, calls_of, depends_on, is_depended_on, mores_of, Provision, kinds}
use Rattle.config_graph.specs.declared.kind.Kind.{Kind}
use Rattle.config_graph.specs.declared.kind.Kind.TheVariants.{Philosopher, Place, Fork, Source, Map, Buffer, Sink, Teller, Branch, Account, Asker, Adder}
use Rattle.std.proofs.Common.{◌≤◌, ◌<◌, arith, length}
use Rattle.std.specs.Option.{option_map_or}
use Rattle.config_graph.specs.Graph.{requires_of}
use Rattle.config_graph.specs.declared.node.Node.{Node}
use Rattle.std.specs.Prelude.{unwrap_or, nat_le}
use Rattle.std.specs.List.{list_all}
use Rattle.std.proofs.lemmas.Option.{slice_get_within}
use Rattle.base.proofs.NumberLaws.{at_most}

-- each kind is found by its name
pub kind_named-name : (k : Kind) → kind_named (row k).name ≡ Some k
kind_named-name Philosopher = refl
kind_named-name Place = refl
kind_named-name Fork = refl
kind_named-name Source = refl
kind_named-name Map = refl
kind_named-name Buffer = refl
kind_named-name Sink = refl
kind_named-name Teller = refl
kind_named-name Branch = refl
kind_named-name Account = refl
kind_named-name Asker = refl
kind_named-name Adder = refl

-- a requirement on which a provision depends is one on which the first does
pub depended_by_first : (k : Kind) (r : ℕ) → is_depended_on k r ≡ depends_on k 0 r
depended_by_first Philosopher r = refl
depended_by_first Place r = or-false (depends_on Place 0 r)
depended_by_first Fork r = refl
depended_by_first Source r = refl
depended_by_first Map r = or-false (depends_on Map 0 r)
depended_by_first Buffer r = refl
depended_by_first Sink r = refl
depended_by_first Teller r = refl
depended_by_first Branch r = or-false (depends_on Branch 0 r)
depended_by_first Account r = refl
depended_by_first Asker r = refl
depended_by_first Adder r = refl

-- no provision past the first depends on anything, or calls
pub no_second : (k : Kind) (x r : ℕ) → depends_on k (suc x) r ≡ false
no_second Philosopher x r = refl
no_second Place x r = refl
no_second Fork x r = refl
no_second Source x r = refl
no_second Map x r = refl
no_second Buffer x r = refl
no_second Sink x r = refl
no_second Teller x r = refl
no_second Branch x r = refl
no_second Account x r = refl
no_second Asker x r = refl
no_second Adder x r = refl

pub depended_if : (k : Kind) (x r : ℕ) → depends_on k x r ≡ true → is_depended_on k r ≡ true
depended_if k zero r h = rw (depended_by_first k r) h
depended_if k (suc x) r h = absurd (both_ways (depends_on k (suc x) r) (no_second k x r) h)

pub one_provision : (k : Kind) → length (row k).provides ≤ 1
one_provision Philosopher = omega arith
one_provision Place = omega arith
one_provision Fork = omega arith
one_provision Source = omega arith
one_provision Map = omega arith
one_provision Buffer = omega arith
one_provision Sink = omega arith
one_provision Teller = omega arith
one_provision Branch = omega arith
one_provision Account = omega arith
one_provision Asker = omega arith
one_provision Adder = omega arith

pub two_requires : (k : Kind) → length (row k).requires_ ≤ 2
two_requires Philosopher = omega arith
two_requires Place = omega arith
two_requires Fork = omega arith
two_requires Source = omega arith
two_requires Map = omega arith
two_requires Buffer = omega arith
two_requires Sink = omega arith
two_requires Teller = omega arith
two_requires Branch = omega arith
two_requires Account = omega arith
two_requires Asker = omega arith
two_requires Adder = omega arith

-- a service makes few calls and few intermediate replies
pub few_calls : (k : Kind) (x : ℕ) → calls_of k x ≤ 4
few_calls Philosopher x = omega arith
few_calls Place zero = omega arith
few_calls Place (suc x) = omega arith
few_calls Fork zero = omega arith
few_calls Fork (suc x) = omega arith
few_calls Source x = omega arith
few_calls Map zero = omega arith
few_calls Map (suc x) = omega arith
few_calls Buffer zero = omega arith
few_calls Buffer (suc x) = omega arith
few_calls Sink zero = omega arith
few_calls Sink (suc x) = omega arith
few_calls Teller x = omega arith
few_calls Branch zero = omega arith
few_calls Branch (suc x) = omega arith
few_calls Account zero = omega arith
few_calls Account (suc x) = omega arith
few_calls Asker x = omega arith
few_calls Adder zero = omega arith
few_calls Adder (suc x) = omega arith

pub few_mores : (k : Kind) (x : ℕ) → mores_of k x ≤ 1
few_mores Philosopher x = omega arith
few_mores Place zero = omega arith
few_mores Place (suc x) = omega arith
few_mores Fork zero = omega arith
few_mores Fork (suc x) = omega arith
few_mores Source x = omega arith
few_mores Map zero = omega arith
few_mores Map (suc x) = omega arith
few_mores Buffer zero = omega arith
few_mores Buffer (suc x) = omega arith
few_mores Sink zero = omega arith
few_mores Sink (suc x) = omega arith
few_mores Teller x = omega arith
few_mores Branch zero = omega arith
few_mores Branch (suc x) = omega arith
few_mores Account zero = omega arith
few_mores Account (suc x) = omega arith
few_mores Asker x = omega arith
few_mores Adder zero = omega arith
few_mores Adder (suc x) = omega arith

-- what a kind provides depends on all that it requires, but for a buffer's
pub depends_on_all : (k : Kind) (x r : ℕ) → x < length (row k).provides → r < length (row k).requires_ → (k ≡ Buffer → ⊥) → depends_on k x r ≡ true
depends_on_all Philosopher x r h i other = absurd (omega (arith, h))
depends_on_all Place zero zero h i other = refl
depends_on_all Place zero (suc zero) h i other = refl
depends_on_all Place zero (suc (suc r)) h i other = absurd (omega (arith, i))
depends_on_all Place (suc x) r h i other = absurd (omega (arith, h))
depends_on_all Fork x r h i other = absurd (omega (arith, i))
depends_on_all Source x r h i other = absurd (omega (arith, h))
depends_on_all Map zero zero h i other = refl
depends_on_all Map zero (suc r) h i other = absurd (omega (arith, i))
depends_on_all Map (suc x) r h i other = absurd (omega (arith, h))
depends_on_all Buffer x r h i other = absurd (other refl)
depends_on_all Sink x r h i other = absurd (omega (arith, i))
depends_on_all Teller x r h i other = absurd (omega (arith, h))
depends_on_all Branch zero zero h i other = refl
depends_on_all Branch zero (suc zero) h i other = refl
depends_on_all Branch zero (suc (suc r)) h i other = absurd (omega (arith, i))
depends_on_all Branch (suc x) r h i other = absurd (omega (arith, h))
depends_on_all Account x r h i other = absurd (omega (arith, i))
depends_on_all Asker x r h i other = absurd (omega (arith, h))
depends_on_all Adder x r h i other = absurd (omega (arith, i))

-- how many ports a node wants that may be there
pub ports_wanted_at : (o : Option Node) → length (row (unwrap_or o (record { path = []; kind = Fork; arg = None })).kind).requires_ ≡ option_map_or requires_of o 0
ports_wanted_at None = refl
ports_wanted_at (Some n) = refl

-- a requirement on which the kind's service depends is one that it has
pub depended_within : (k : Kind) (r : ℕ) → depends_on k 0 r ≡ true → r < length (row k).requires_
depended_within Place r h = search rules
depended_within Map r h = search rules
depended_within Branch r h = search rules
depended_within _ r h = absurd (both_ways false refl h)

-- the letters from a to z
abbrev pub is_letter : ℕ → Bool
is_letter b = nat_le 97 b && nat_le b 122

-- a kind's name is of letters, and so is each name of its provisions
pub kind_names_are_letters : (k : Kind) → list_all is_letter (row k).name ≡ true
kind_names_are_letters Fork = refl
kind_names_are_letters _ = refl

pub provision_names_are_letters : (k : Kind) → list_all (λ (p : Provision). list_all is_letter p.name) (row k).provides ≡ true
provision_names_are_letters Fork = refl
provision_names_are_letters _ = refl

-- no letter is a byte below them, as a blank, a sign or a line feed
pub letter_is_not : (at b : ℕ) → at < 97 → is_letter b ≡ true → not (eqb b at) ≡ true
letter_is_not at b low letter =
    let first = at_most 97 b (and_parts (nat_le 97 b) (nat_le b 122) letter).0 in
    ap not (ne_eqb b at (λ same. omega (arith, first, same)))

-- each kind stands at its number among all, and there are few
pub kind_at_number : (k : Kind) → slice_get kinds (row k).number ≡ Some k
kind_at_number Fork = refl
kind_at_number _ = refl

pub few_kinds : (k : Kind) → (row k).number + 1 < 16
few_kinds Fork = omega arith
few_kinds _ = omega arith

-- a kind is a buffer or it isn't
pub buffer_or : (k : Kind) → (k ≡ Buffer) ⊎ (k ≡ Buffer → ⊥)
buffer_or Buffer = inl refl
buffer_or _ = inr (λ e. cc)

-- no kind has a second provision
pub only_provision : (k : Kind) (n : ℕ) (p : Provision) → slice_get (row k).provides n ≡ Some p → n ≡ 0
only_provision k n p at = omega (arith, one_provision k, slice_get_within (row k).provides n p at)
