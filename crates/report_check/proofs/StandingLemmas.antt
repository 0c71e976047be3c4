-- Loops that go through a history and through steps: what holds so far, and one member more.
use Rattle.std.proofs.Common.{◌≡◌, ◌∙◌, ◌↔◌, ℕ, suc, ◌+◌, ◌-◌, ◌<◌, ◌≤◌, Bool, true, false, cond, List, [], ◌∷◌, ◌++◌, append_assoc, length, map, take, drop, get_or, Option, Some, None, refl, sym, ap, subst, arith}
use Rattle.std.specs.Prelude.{filter_map, option_to_list}
use Rattle.std.specs.List.{cons_option}
use Rattle.std.proofs.Math.Seq.{take-suc}
use Rattle.std.proofs.lemmas.Bool.{false≢true}
use Rattle.std.proofs.lemmas.List.{take-append-drop}
use Rattle.std.proofs.lemmas.List.Elements.{filter_map-append}
use Rattle.std.proofs.lemmas.List.Sums.{fold-append}
use Rattle.base.specs.Each.{Each}
use Rattle.base.proofs.EachLaws.{each_parts, each_pushed}
use Rattle.base.proofs.MapLaws.{picked_mapped}
use Rattle.config_graph.specs.Graph.{Graph}
use Rattle.change_spec.specs.Asked.{statement_of}
use Rattle.change_spec.specs.Lawful.{is_head}
use Rattle.change_spec.specs.Members.{is_commit}
use Rattle.change_spec.specs.Statements.{graph_of}
use Rattle.change_spec.specs.declared.steps.Step.{Step}
use Rattle.report_types.specs.declared.report.HistoryLine.{HistoryLine}
use Rattle.report_check.specs.Showing.{Begun, IsShownBy, Shows, behind_line, begun_after, none_begun}

take_more : {A : Type 0} (xs : List A) (i : ℕ) (x : A) → i < length xs → x ≡ get_or xs i x → take (i + 1) xs ≡ take i xs ++ x ∷ []
take_more xs i x low is = ap (λ n. take n xs) (let e : i + 1 ≡ suc i = omega arith in e) ∙ take-suc xs i x low ∙ ap (λ y. take i xs ++ y ∷ []) (sym is)

pub begun_more : (ls : List HistoryLine) (i : ℕ) (l : HistoryLine) (p q : Begun) → i < length ls → l ≡ get_or ls i l → p ≡ begun_after (take i ls) → q ≡ behind_line p l → q ≡ begun_after (take (i + 1) ls)
begun_more ls i l p q low is so then =
    then ∙ ap (λ b. behind_line b l) so ∙ sym (fold-append behind_line none_begun (take i ls) (l ∷ [])) ∙ ap begun_after (sym (take_more ls i l low is))

module _ (graphs : List Graph) (ls : List HistoryLine) (i : ℕ) (l : HistoryLine) (p : Begun) (low : i < length ls) (is : l ≡ get_or ls i l) (so : p ≡ begun_after (take i ls)) where
  pub shown_more : Each (IsShownBy graphs) (take i ls) → Shows graphs p l → Each (IsShownBy graphs) (take (i + 1) ls)
  shown_more each here =
      subst (Each (IsShownBy graphs)) (sym (take_more ls i l low is)) ((each_pushed (IsShownBy graphs) (take i ls) l).1 (each, subst (λ b. Shows graphs b l) so here))

  pub shown_here : Each (IsShownBy graphs) ls → Shows graphs p l
  shown_here each =
      let front = (each_parts (IsShownBy graphs) [] (take (i + 1) ls) (drop (i + 1) ls) (subst (Each (IsShownBy graphs)) (sym (take-append-drop (i + 1) ls)) each)).0 in
      subst (λ b. Shows graphs b l) (sym so) ((each_pushed (IsShownBy graphs) (take i ls) l).0 (subst (Each (IsShownBy graphs)) (take_more ls i l low is) front)).1

-- so many are begun at most
heads_by : (p : Begun) (b c : Bool) → (cond b (record p { heads = p.heads + 1 }) (cond c (record p { committed = Some (p.heads - 1) }) p)).heads ≤ p.heads + 1
heads_by p true c = omega arith
heads_by p false true = omega arith
heads_by p false false = omega arith

pub heads_more : (p q : Begun) (l : HistoryLine) (n : ℕ) → q ≡ behind_line p l → p.heads ≤ n → q.heads ≤ n + 1
heads_more p q l n then few = omega (arith, ap (λ (b : Begun). b.heads) then, heads_by p (is_head l) (is_commit l), few)

-- a test that is passed exactly where the fact holds, and isn't
pub not_so : (P Q : Type 0) (b : Bool) → ((b ≡ true) ↔ P) → b ≡ false → (Q → P) → (false ≡ true) ↔ Q
not_so P Q b test failed from = (λ e. absurd (false≢true e), λ q. sym failed ∙ test.1 (from q))

-- ---- steps

picked_one : {A B : Type 0} (f : A → Option B) (xs : List A) (x : A) → filter_map f (xs ++ x ∷ []) ≡ filter_map f xs ++ option_to_list (f x)
picked_one {A} {B} f xs x = filter_map-append f xs (x ∷ []) ∙ ap (λ ys. filter_map f xs ++ ys) (by (f x))
  where
    by : (o : Option B) → cons_option o [] ≡ option_to_list o
    by None = refl
    by (Some y) = refl

pub picked_more : {A B : Type 0} (f : A → Option B) (xs : List A) (i : ℕ) (x : A) (a b c : List B) → i < length xs → x ≡ get_or xs i x → b ≡ a ++ filter_map f (take i xs) → c ≡ b ++ option_to_list (f x)
    → c ≡ a ++ filter_map f (take (i + 1) xs)
picked_more f xs i x a b c low is so then =
    then ∙ ap (λ ys. ys ++ option_to_list (f x)) so ∙ append_assoc a (filter_map f (take i xs)) (option_to_list (f x))
    ∙ ap (λ ys. a ++ ys) (sym (ap (filter_map f) (take_more xs i x low is) ∙ picked_one f (take i xs) x))

-- the graphs of a start and of the steps behind it
pub described_are : {X : Type 0} (f : X → Graph) (none first all : List X) (x : X) (steps : List Step) → none ≡ [] → first ≡ none ++ x ∷ []
    → map f all ≡ map f first ++ filter_map (λ s. graph_of (statement_of s)) steps → map f all ≡ f x ∷ filter_map graph_of (map statement_of steps)
described_are f none first all x steps empty one rest =
    rest ∙ ap (λ ys. map f ys ++ filter_map (λ s. graph_of (statement_of s)) steps) (one ∙ ap (λ ys. ys ++ x ∷ []) empty) ∙ ap (λ ys. f x ∷ ys) (sym (picked_mapped graph_of statement_of steps))

pub standing_if : {X : Type 0} (f : X → Graph) (xs ys : List X) (gs : List Graph) (b : Bool) (ls : List HistoryLine) → xs ≡ ys → map f ys ≡ gs → ((b ≡ true) ↔ Each (IsShownBy (map f xs)) ls)
    → (b ≡ true) ↔ Each (IsShownBy gs) ls
standing_if f xs ys gs b ls same are test = subst (λ hs. (b ≡ true) ↔ Each (IsShownBy hs) ls) (ap (map f) same ∙ are) test
