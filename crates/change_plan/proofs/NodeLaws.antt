-- Lemmas on nodes and their paths: a path finds the one node that has it.
use Rattle.std.proofs.Common.{◌≡◌, ℕ, ◌<◌, Bool, true, false, cond, List, length, get_or, Option, Some, None, slice_get, IfNone, IfSome, refl, sym, ◌∙◌, ap, subst, inl, inr, arith, bytes_eq, is_some, lt-ltb, not, Contains}
use Rattle.std.specs.Bool.{then_some}
use Rattle.std.specs.List.{position_or_len}
use Rattle.std.specs.Ordering.{nat_cmp}
use Rattle.std.specs.Cmp.Lexicographic.{slice_cmp}
use Rattle.std.proofs.lemmas.Bool.{cases_eq, cases_lt, false≢true}
use Rattle.std.proofs.lemmas.List.Quantifiers.{position-Some}
use Rattle.std.proofs.lemmas.List.Sums.{fails_before_first}
use Rattle.std.proofs.lemmas.Option.{get_or_from_slice_get, slice_get_within, slice_get-get_or}
use Rattle.std.proofs.lemmas.Slice.Eq.{bytes_eq-Decides}
use Rattle.config_graph.specs.Graph.{PathsRise, index_of}
use Rattle.config_graph.specs.declared.node.Node.{Node}
use Rattle.config_graph.proofs.PathLaws.{bytes_eq-below}

pub if_none : {A : Type 0} (o : Option A) (P : Type 0) → P → IfNone o P
if_none None P h = h
if_none (Some x) P h = tt

-- the nodes of two places have different paths
module _ (nodes : List Node) (rise : PathsRise nodes) where
  later_differs : (i j : ℕ) (m n : Node) → i < j → slice_get nodes i ≡ Some m → slice_get nodes j ≡ Some n → m.path ≡ n.path → ⊥
  later_differs i j m n low at_i at_j same =
      let less = rise i j m low (slice_get_within nodes j n at_j) in
      let here : get_or nodes i m ≡ m = get_or_from_slice_get nodes i m m at_i in
      let there : get_or nodes j m ≡ n = get_or_from_slice_get nodes j n m at_j in
      let apart : bytes_eq n.path m.path ≡ false = bytes_eq-below m.path n.path (sym (λ k. slice_cmp nat_cmp (here k).path (there k).path) ∙ less) in
      false≢true (sym apart ∙ (bytes_eq-Decides n.path m.path).1 (sym same))

  pub one_path : (i j : ℕ) (m n : Node) → slice_get nodes i ≡ Some m → slice_get nodes j ≡ Some n → m.path ≡ n.path → i ≡ j
  one_path i j m n at_i at_j same =
      elim (cases_eq i j) [
        | inl e ↦ e
        | inr apart ↦
            elim (cases_lt i j) [
              | inl low ↦ absurd (later_differs i j m n low at_i at_j same)
              | inr high ↦ absurd (later_differs j i n m (omega (arith, apart)) at_j at_i (sym same))
            ]
      ]

-- the node that is found has the path
pub index_found : (nodes : List Node) (path : List ℕ) (i : ℕ) (d : Node) → index_of nodes path ≡ Some i → (i < length nodes) × (path ≡ (get_or nodes i d).path)
index_found nodes path i d found =
    let at = position-Some (λ n. bytes_eq path n.path) nodes i d found in
    (at.0, (bytes_eq-Decides path (get_or nodes i d).path).0 at.1)

-- what is read at the place that a path finds stands there
pub read_found : (nodes copy : List Node) (path : List ℕ) (i : ℕ) (n : Node) → copy ≡ nodes → index_of nodes path ≡ Some i → n ≡ get_or copy i n → slice_get nodes i ≡ Some n
read_found nodes copy path i n copy_is found n_is =
    slice_get-get_or nodes i n (index_found nodes path i n found).0 ∙ ap Some (sym (n_is ∙ ap (λ (l : List Node). get_or l i n) copy_is))

-- where none is found no node has the path
pub index_missing : (nodes : List Node) (path : List ℕ) → index_of nodes path ≡ None → (i : ℕ) (n : Node) → slice_get nodes i ≡ Some n → n.path ≡ path → ⊥
index_missing nodes path missing i n at same =
    let p : Node → Bool = λ m. bytes_eq path m.path in
    elim (cases_lt (position_or_len p nodes) (length nodes)) [
      | inl low ↦ none_some (ap (λ b. cond b (Some (position_or_len p nodes)) None) (sym (lt-ltb (position_or_len p nodes) (length nodes) low)) ∙ missing)
      | inr high ↦
          let low : i < length nodes = slice_get_within nodes i n at in
          let fails = fails_before_first p nodes i n (omega arith) in
          let here : get_or nodes i n ≡ n = get_or_from_slice_get nodes i n n at in
          false≢true (sym fails ∙ ap p here ∙ (bytes_eq-Decides path n.path).1 (sym same))
    ]
  where
    none_some : {x : ℕ} → Some x ≡ None → ⊥
    none_some e = cc

-- what a test of the node that a path finds tells
module _ (nodes : List Node) (rise : PathsRise nodes) (node here : Node) (i : ℕ) (same : Bool) (r : Option ℕ) (found : index_of nodes node.path ≡ Some i) (here_is : here ≡ get_or nodes i here) (r_is : r ≡ then_some same i) where
  at_index : slice_get nodes i ≡ Some here
  at_index =
      slice_get-get_or nodes i here (index_found nodes node.path i here found).0 ∙ ap Some (sym here_is)

  pub twin_found : (same ≡ true → here ≡ node) → IfSome r (λ j. slice_get nodes j ≡ Some node)
  twin_found equal = subst (λ o. IfSome o (λ j. slice_get nodes j ≡ Some node)) (sym r_is) (by same refl)
    where
      by : (b : Bool) → same ≡ b → IfSome (then_some b i) (λ j. slice_get nodes j ≡ Some node)
      by true e = at_index ∙ ap Some (equal e)
      by false e = tt

  pub twin_missing : (here ≡ node → same ≡ true) → IfNone r (¬ Contains nodes node)
  twin_missing equal = subst (λ o. IfNone o (¬ Contains nodes node)) (sym r_is) (by same refl)
    where
      by : (b : Bool) → same ≡ b → IfNone (then_some b i) (¬ Contains nodes node)
      by true e = tt
      by false e = λ there.
          let at : slice_get nodes there.0 ≡ Some node = slice_get-get_or nodes there.0 node there.1 ∙ ap Some there.2 in
          let path : node.path ≡ here.path = (index_found nodes node.path i here found).1 ∙ ap (λ (n : Node). n.path) (sym here_is) in
          let place : there.0 ≡ i = one_path nodes rise there.0 i node here at at_index path in
          let both : Some here ≡ Some node = sym at_index ∙ ap (slice_get nodes) (sym place) ∙ at in
          let equal_ : here ≡ node = cc in
          false≢true (sym e ∙ equal equal_)

-- a node whose path none has isn't there
pub path_missing : (nodes : List Node) (node : Node) → index_of nodes node.path ≡ None → ¬ Contains nodes node
path_missing nodes node missing there =
    index_missing nodes node.path missing there.0 node (slice_get-get_or nodes there.0 node there.1 ∙ ap Some there.2) refl

-- what a test for None tells
pub from_none : {A : Type 0} (o : Option A) (b : Bool) (Q : Type 0) → is_some o ≡ not b → b ≡ true → IfNone o Q → Q
from_none None b Q tested e h = h
from_none (Some x) b Q tested e h = absurd (false≢true (sym (tested ∙ ap not e)))

pub from_some : {A : Type 0} (o : Option A) (b : Bool) (P : A → Type 0) → is_some o ≡ not b → b ≡ false → IfSome o P → (x : A) × P x
from_some None b P tested e h = absurd (false≢true (tested ∙ ap not e))
from_some (Some x) b P tested e h = (x, h)
