-- Each node of a line has come to something.
use Rattle.std.proofs.Common.{◌≡◌, ◌∙◌, ℕ, true, false, List, [], ◌∷◌, ◌++◌, map, Option, Some, sym, ap, ⊎_elim}
use Rattle.std.specs.Prelude.{◌||◌, option_and_then}
use Rattle.std.specs.List.{AllByRecursion, list_any}
use Rattle.std.proofs.lemmas.Bool.{both_ways, cases_Bool, eqb-true}
use Rattle.component_trait.specs.States.{Kept, NodeState}
use Rattle.config_graph.specs.declared.kind.Kind.{Kind}
use Rattle.node_host.specs.Lines.{line_node_state, line_state}
use Rattle.quiesce_core.specs.State.{Configuration}
use Rattle.live_board.specs.Lines.{IsMadeLine, LineSight, is_in_slot, line_node}
use Rattle.base.proofs.OptionLaws.{made_of_one}

-- the node of slot n in a line, with those before it
pub record Part (c : Configuration) (k : Kind) (P : LineSight → Type 0) (from : Option ℕ) (before : Option Kept) (n : ℕ) : Type 0 where
  pub past : List LineSight
  pub last : LineSight
  pub is_last : last.slot ≡ n
  pub made : IsMadeLine c k from (past ++ last ∷ [])
  pub all : AllByRecursion P (past ++ last ∷ [])
  pub holds : P last
  pub state : NodeState
  pub folds : line_state k before (map line_node past) (line_node last) ≡ Some state

module _ (c : Configuration) (k : Kind) (P : LineSight → Type 0) where
  pub part_of : (from : Option ℕ) (before : Option Kept) (xs : List LineSight) (x : LineSight) (t : NodeState) (n : ℕ) → IsMadeLine c k from (xs ++ x ∷ []) → AllByRecursion P (xs ++ x ∷ [])
      → line_state k before (map line_node xs) (line_node x) ≡ Some t → list_any (is_in_slot n) (xs ++ x ∷ []) ≡ true → Part c k P from before n
  part_of from before [] x t n made all folds has = ⊎_elim
      (λ (here : is_in_slot n x ≡ true). record { past = []; last = x; is_last = eqb-true x.slot n here; made = made; all = all; holds = all.0; state = t; folds = folds })
      (λ (other : is_in_slot n x ≡ false). absurd (both_ways (is_in_slot n x || false) (ap (λ b. b || false) other) has))
      (cases_Bool (is_in_slot n x))
  part_of from before (y ∷ xs) x t n made all folds has =
      let s = made_of_one (λ (s : NodeState). line_state k (Some s.kept) (map line_node xs) (line_node x)) (line_node_state k before (line_node y)) t folds in ⊎_elim
      (λ (here : is_in_slot n y ≡ true). record { past = []; last = y; is_last = eqb-true y.slot n here; made = (made.0, tt); all = (all.0, tt); holds = all.0; state = s.0; folds = s.1 })
      (λ (other : is_in_slot n y ≡ false).
      let rest = part_of (Some y.slot) (Some (s.0).kept) xs x t n made.1 all.1 s.2 (sym (ap (λ b. b || list_any (is_in_slot n) (xs ++ x ∷ [])) other) ∙ has) in
      record {
        past = y ∷ rest.past;
        last = rest.last;
        is_last = rest.is_last;
        made = (made.0, rest.made);
        all = (all.0, rest.all);
        holds = rest.holds;
        state = rest.state;
        folds = ap (option_and_then (λ (u : NodeState). line_state k (Some u.kept) (map line_node rest.past) (line_node rest.last))) s.1 ∙ rest.folds;
      })
      (cases_Bool (is_in_slot n y))
