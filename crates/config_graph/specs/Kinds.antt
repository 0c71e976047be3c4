-- To be believed (definitions.md).
-- The kinds of nodes as a table: of each kind its number and name, the services that it provides and requires, each
-- numbered from 0 in the order given, and whether a node of it has an argument.
use Rattle.std.specs.Prelude.{ℕ, Bool, false, List, [], ◌∷◌, Option, Some, None, ◌==◌, codes, bytes_eq, slice_get, find}
use Rattle.std.specs.List.{list_any}
use Rattle.std.specs.Option.{option_map_or}
use Rattle.config_graph.specs.declared.kind.Kind.{Kind}
use Rattle.config_graph.specs.declared.kind.Kind.TheVariants.{Philosopher, Place, Fork, Source, Map, Buffer, Sink, Teller, Branch, Account, Asker, Adder}

-- A provided service: its name, the requirements on which it depends, and how many calls and how many intermediate
-- replies one service makes at most.
pub record Provision : Type 0 where
  pub name : List ℕ
  pub depends : List ℕ
  pub calls : ℕ
  pub mores : ℕ

-- A kind: its number and name, its provisions, the names of its requirements, and the name of its argument.
pub record Row : Type 0 where
  pub number : ℕ
  pub name : List ℕ
  pub provides : List Provision
  pub requires_ : List (List ℕ)
  pub arg : Option (List ℕ)

-- a provision of this name that depends on no requirement, so that its services make no calls
abbrev alone : List ℕ → Provision
alone name = record { name = name; depends = []; calls = 0; mores = 0 }

abbrev pub row : Kind → Row
row Philosopher =
    record { number = 0; name = codes "philosopher"; provides = []; requires_ = codes "dine" ∷ []; arg = Some (codes "meals") }
row Place =
    record {
      number = 1;
      name = codes "place";
      provides = record { name = codes "dine"; depends = 0 ∷ 1 ∷ []; calls = 4; mores = 0 } ∷ [];
      requires_ = codes "left" ∷ codes "right" ∷ [];
      arg = Some (codes "first");
    }
row Fork =
    record { number = 2; name = codes "fork"; provides = alone (codes "hold") ∷ []; requires_ = []; arg = None }
row Source =
    record { number = 3; name = codes "source"; provides = []; requires_ = codes "out" ∷ []; arg = Some (codes "n") }
row Map =
    record {
      number = 4;
      name = codes "map";
      provides = record { name = codes "in"; depends = 0 ∷ []; calls = 1; mores = 0 } ∷ [];
      requires_ = codes "next" ∷ [];
      arg = Some (codes "k");
    }
row Buffer =
    record { number = 5; name = codes "buffer"; provides = alone (codes "in") ∷ []; requires_ = codes "next" ∷ []; arg = Some (codes "cap") }
row Sink =
    record { number = 6; name = codes "sink"; provides = alone (codes "in") ∷ []; requires_ = []; arg = None }
row Teller =
    record { number = 7; name = codes "teller"; provides = []; requires_ = codes "move" ∷ []; arg = Some (codes "n") }
row Branch =
    record {
      number = 8;
      name = codes "branch";
      provides = record { name = codes "move"; depends = 0 ∷ 1 ∷ []; calls = 2; mores = 0 } ∷ [];
      requires_ = codes "from" ∷ codes "to" ∷ [];
      arg = None;
    }
row Account =
    record { number = 9; name = codes "account"; provides = alone (codes "post") ∷ []; requires_ = []; arg = Some (codes "b") }
row Asker =
    record { number = 10; name = codes "asker"; provides = []; requires_ = codes "sum" ∷ []; arg = Some (codes "n") }
row Adder =
    record {
      number = 11;
      name = codes "adder";
      provides = record { name = codes "sum"; depends = []; calls = 0; mores = 1 } ∷ [];
      requires_ = [];
      arg = None;
    }

-- all kinds, in the order of their numbers
abbrev pub kinds : List Kind
kinds =
    Philosopher ∷ Place ∷ Fork ∷ Source ∷ Map ∷ Buffer ∷ Sink ∷ Teller ∷ Branch ∷ Account ∷ Asker ∷ Adder ∷ []

-- the kind of a name, where one has it
abbrev pub kind_named : List ℕ → Option Kind
kind_named name = find (λ k. bytes_eq (row k).name name) kinds

-- whether a provision of the kind depends on a requirement; there is none past the end of its provisions
abbrev pub depends_on : Kind → ℕ → ℕ → Bool
depends_on k provide require =
    option_map_or (λ (p : Provision). list_any (λ r. r == require) p.depends) (slice_get (row k).provides provide) false

-- whether some provision of the kind depends on a requirement
abbrev pub is_depended_on : Kind → ℕ → Bool
is_depended_on k require = list_any (λ p. list_any (λ r. r == require) p.depends) (row k).provides

-- how many calls, and how many intermediate replies, one service by a provision makes at most
abbrev pub calls_of : Kind → ℕ → ℕ
calls_of k provide = option_map_or (λ (p : Provision). p.calls) (slice_get (row k).provides provide) 0

abbrev pub mores_of : Kind → ℕ → ℕ
mores_of k provide = option_map_or (λ (p : Provision). p.mores) (slice_get (row k).provides provide) 0
