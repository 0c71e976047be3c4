-- Lemmas on parts that are carried out one after the other.
use Rattle.std.proofs.Common.{◌≡◌, ◌∙◌, ℕ, ℤ, ◌+◌, List, [], ◌∷◌, ◌++◌, append_assoc, append-nil, length, take, refl, sym, ap, subst}
use Rattle.std.proofs.lemmas.List.{map-append}
use Rattle.base.proofs.EachLaws.{each_pushed}
use Rattle.base.proofs.PlaceLaws.{own_place, take_front}
use Rattle.config_graph.specs.Graph.{Graph}
use Rattle.change_plan_laws.specs.Committing.{made_in}
use Rattle.change_board.specs.declared.board.Board.{Ghosts as BoardWords}
use Rattle.change_board.specs.Transcripts.{Item}
use Rattle.change_engine.specs.Engines.{IsIdle, IsPlanned}
use Rattle.change_engine.specs.declared.engine.Engine.{Engine}
use Rattle.change_engine.specs.declared.passivating.LeftRoot.{LeftRoot}
use Rattle.change_parts.specs.Carrying.{CanCarryOut, CanCarryOutAll}
use Rattle.change_parts.specs.Parts.{stage_after}
use Rattle.change_parts.specs.declared.part.Part.{Part}
use Rattle.change_parts.proofs.PartLaws.{last_pushed, none_pushed}
use Rattle.change_runner.specs.Replacing.{HasGivenUp, HasReplaced}
use Rattle.change_transcript_laws.specs.Pieces.{config_at}
use Rattle.step_runner.specs.Rolling.{HasRolled, HasRolledUpTo, IsRolled, Rolled, items_of, replacement}

stage_front : (g : Graph) (xs ys : List Part) → stage_after g (xs ++ ys) (length xs) ≡ stage_after g xs (length xs)
unfolding stage_after
stage_front g [] ys = refl
stage_front g (x ∷ xs) ys = stage_front x.next xs ys

items_pushed : (rs : List Rolled) (r : Rolled) → items_of (rs ++ r ∷ []) ≡ items_of rs ++ r.items
items_pushed [] r = append-nil r.items
items_pushed (x ∷ rs) r = ap (λ ts. x.items ++ ts) (items_pushed rs r) ∙ sym (append_assoc x.items (items_of rs) r.items)

pub part_is_planned : (g : Graph) (t : List Item) (p : Part) → CanCarryOut g (made_in (config_at t)) p → IsPlanned g p.next p.moves p.plan (config_at t)
part_is_planned g t p can = record { new_graph = can.is_graph; new_sound = can.sound; is_plan = can.is_plan; can_plan = can.can_plan }

module _ {B : Type 0} (W : BoardWords B) (old : Engine B) (name : List ℕ) (args : List ℤ) (within : ℕ) (t : List Item) where
  -- these parts were carried out, and the rest may be
  pub record Progress (done_ rest : List Part) (e : Engine B) : Type 0 where
    pub rolled : HasRolled W old e name args within t done_
    pub can : CanCarryOutAll e.graph (made_in (config_at (t ++ items_of rolled.pieces))) rest

  pub begun : (rest : List Part) → IsIdle W old t → CanCarryOutAll old.graph (made_in (config_at t)) rest → Progress [] rest old
  begun rest idle can =
      let same = sym (append-nil t) in
      record {
        rolled = record { pieces = []; parts_are = refl; each = tt; idle = subst (λ u. IsIdle W old u) same idle; graph = sym (none_pushed old.graph) };
        can = subst (λ u. CanCarryOutAll old.graph (made_in (config_at u)) rest) same can;
      }

  pub onward : (done_ rest : List Part) (e f : Engine B) (p : Part) (w : Progress done_ (p ∷ rest) e) → HasReplaced W e f (t ++ items_of w.rolled.pieces) (replacement name args within p)
      → Progress (done_ ++ p ∷ []) rest f
  onward done_ rest e f p w x =
      let pieces = w.rolled.pieces in
      let r : Rolled = record { part = p; items = x.items } in
      let pushed : items_of (pieces ++ r ∷ []) ≡ items_of pieces ++ x.items = items_pushed pieces r in
      let here : (t ++ items_of pieces) ++ x.items ≡ t ++ items_of (pieces ++ r ∷ []) = append_assoc t (items_of pieces) x.items ∙ ap (λ u. t ++ u) (sym pushed) in
      record {
        rolled = record {
          pieces = pieces ++ r ∷ [];
          parts_are = map-append (λ (y : Rolled). y.part) pieces (r ∷ []) ∙ ap (λ ys. ys ++ p ∷ []) w.rolled.parts_are;
          each = (each_pushed (IsRolled name args within t) pieces r).1 (w.rolled.each, (x.are, x.none_pending));
          idle = subst (λ u. IsIdle W f u) here x.idle;
          graph = x.graph ∙ sym (last_pushed old.graph done_ p);
        };
        can = subst (λ g. CanCarryOutAll g (made_in (config_at (t ++ items_of (pieces ++ r ∷ [])))) rest) (sym x.graph)
            (subst (λ m. CanCarryOutAll p.next m rest) (sym x.made ∙ ap (λ u. made_in (config_at u)) here) w.can.1);
      }

  pub all_done : (done_ all : List Part) (e : Engine B) → Progress done_ [] e → done_ ≡ all → HasRolled W old e name args within t all
  all_done done_ all e w same = subst (λ ps. HasRolled W old e name args within t ps) same w.rolled

  pub up_to : (done_ rest all : List Part) (e f : Engine B) (p : Part) (w : Progress done_ (p ∷ rest) e) → done_ ++ p ∷ rest ≡ all → (number : ℕ) → number ≡ length done_ + 1 → (left : List LeftRoot)
      → HasGivenUp W e f (t ++ items_of w.rolled.pieces) (replacement name args within p) left → HasRolledUpTo W old f name args within t all number left
  up_to done_ rest all e f p w whole number is left x =
      subst (λ n. HasRolledUpTo W old f name args within t all n left) (sym is) (subst (λ ps. HasRolledUpTo W old f name args within t ps (length done_ + 1) left) whole (here w x))
    where
      there : (ps : List Part) → ps ≡ done_ → (w : HasRolled W old e name args within t done_) → HasGivenUp W e f (t ++ items_of w.pieces) (replacement name args within p) left
          → (v : HasRolled W old e name args within t ps) × HasGivenUp W e f (t ++ items_of v.pieces) (replacement name args within p) left
      there ps same w x =
          subst (λ qs. (v : HasRolled W old e name args within t qs) × HasGivenUp W e f (t ++ items_of v.pieces) (replacement name args within p) left) (sym same) (w, x)

      here : (w : Progress done_ (p ∷ rest) e) → HasGivenUp W e f (t ++ items_of w.rolled.pieces) (replacement name args within p) left
          → HasRolledUpTo W old f name args within t (done_ ++ p ∷ rest) (length done_ + 1) left
      here w x =
          let v = there (take (length done_) (done_ ++ p ∷ rest)) (take_front done_ (p ∷ rest)) w.rolled x in
          record {
            count = length done_;
            number_is = refl;
            mid = e;
            before = v.0;
            part = p;
            there = own_place done_ rest p;
            gave_up = v.1;
            graph = x.graph ∙ w.rolled.graph ∙ sym (stage_front old.graph done_ (p ∷ rest));
          }
