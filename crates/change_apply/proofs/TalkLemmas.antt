-- What was heard by one line more, and how a session ends.
use Rattle.std.proofs.Common.{◌≡◌, ◌∙◌, ℕ, ◌+◌, ◌<◌, true, false, cond, List, [], ◌∷◌, ◌++◌, append_assoc, length, map, take, Option, Some, None, refl, sym, ap, subst, arith, inr, ⊎_elim}
use Rattle.std.specs.Prelude.{◌⊎◌, Result, Ok, Err, IfErr, IfOk, MatchOption}
use Rattle.std.proofs.Math.Seq.{take-append-add}
use Rattle.std.proofs.lemmas.Bool.{both_ways}
use Rattle.std.proofs.lemmas.List.{append-nil, length-append, map-append}
use Rattle.std.proofs.lemmas.List.Sums.{fold_push}
use Rattle.cfg_io.specs.Sink.{with_bytes}
use Rattle.quiesce_core.specs.declared.event.Event.{Event}
use Rattle.quiesce_laws.specs.Starts.{start_of}
use Rattle.change_apply.specs.Applied.{Place, ending_of, first_place, heard, next_place, place_of}
use Rattle.change_apply.specs.Lines.{lines_of, said_by}
use Rattle.change_apply.specs.Reading.{HasNoLine, IsFirstLine}
use Rattle.change_apply.specs.Replies.{opening_text, reply_text}
use Rattle.change_apply.specs.Sessions.{Change, Scene, Turned, change_in, first_scene, goes_on, is_over, turn}
use Rattle.change_apply.specs.Standing.{Stands, change_of, scene_of}
use Rattle.change_apply.specs.Talking.{AreHeard, FaultsIn, Going, HasAnswered, HasBegun, HasHeard, HasSaid, SaidCame, Stops, ended_by, is_end}
use Rattle.change_apply.proofs.EndLemmas.{broken_ends, fits_over, goes_fits, holds_stands, over_ends, turn_fits}
use Rattle.change_apply.specs.Talks.{AreAll, AreFirst, Bytes, Ends, HasEnded, HasFailed, HasStopped, Reached, by_end, by_fault, by_lines}
use Rattle.change_apply.specs.declared.applying.Stop.{Stop}
use Rattle.change_apply.specs.declared.applying.Stop.TheVariants as stop
use Rattle.change_apply.specs.declared.request.Request.{Request}
use Rattle.change_apply.specs.declared.said.Answer.{Answer}
use Rattle.change_apply.specs.declared.said.Answer.TheVariants as answer
use Rattle.change_apply.specs.declared.said.Ending.{Ending}
use Rattle.change_apply.specs.declared.said.Said.{Said}
use Rattle.change_apply.specs.declared.said.Said.TheVariants as says
use Rattle.change_apply.specs.declared.session.Session.{Session}

-- bytes that go out one after the other

pub with_both : (k : Bytes) (a b : List ℕ) → with_bytes (with_bytes k a) b ≡ with_bytes k (a ++ b)
with_both None a b = refl
with_both (Some x) a b = ap (λ (l : List ℕ). Some l) (append_assoc x a b)

-- one turn more

pub heard_more : (r : Request) (ss : List Said) (s : Said) → is_over (heard r ss).scene.phase ≡ false
    → heard r (ss ++ s ∷ []) ≡ place_of ((heard r ss).number + 1) (heard r ss).text (turn (change_in r) (heard r ss).scene s)
heard_more r ss s going =
    fold_push (next_place (change_in r)) (first_place r) ss s
    ∙ ap (λ b. cond b (heard r ss) (place_of ((heard r ss).number + 1) (heard r ss).text (turn (change_in r) (heard r ss).scene s))) going

map_one : (lines : List (List ℕ)) (line : List ℕ) → map said_by (lines ++ line ∷ []) ≡ map said_by lines ++ said_by line ∷ []
map_one lines line = map-append said_by lines (line ∷ [])

-- the lines

pub first_heard : (a b : Bytes) (lines : List (List ℕ)) → AreHeard a b lines → AreFirst a lines
first_heard None b lines h = tt
first_heard (Some xs) None lines h = absurd h
first_heard (Some xs) (Some ys) lines h = (lines_of ys, h)

pub one_heard : (a b c : Bytes) (lines : List (List ℕ)) (line : List ℕ) → AreHeard a b lines → IsFirstLine b c line → AreHeard a c (lines ++ line ∷ [])
one_heard None b c lines line h f = tt
one_heard (Some xs) None c lines line h f = absurd h
one_heard (Some xs) (Some ys) None lines line h f = absurd f
one_heard (Some xs) (Some ys) (Some zs) lines line h f = h ∙ ap (λ l. lines ++ l) f ∙ sym (append_assoc lines (line ∷ []) (lines_of zs))

pub all_heard : (a b : Bytes) (lines : List (List ℕ)) → AreHeard a b lines → HasNoLine b → AreAll a lines
all_heard None b lines h f = tt
all_heard (Some xs) None lines h f = absurd h
all_heard (Some xs) (Some ys) lines h f = h ∙ ap (λ l. lines ++ l) f ∙ append-nil lines

-- a session is over exactly behind an answer that ends it

-- behind a turn of a session that isn't over
module _ (r : Request) (came k left k' left' k'' : Bytes) (d : Session) (n : ℕ) (g : Going r came k left k' d n) where
  abbrev pub at : Place
  at = heard r (map said_by g.lines)

  abbrev pub turned : Said → Turned
  turned s = turn (change_in r) at.scene s

  pub at_is : (s : Said) → heard r (map said_by g.lines ++ s ∷ []) ≡ place_of (n + 1) at.text (turned s)
  at_is s = heard_more r (map said_by g.lines) s g.going ∙ ap (λ i. place_of (i + 1) at.text (turned s)) g.count

  put_there : (s : Said) → k'' ≡ with_bytes k' (reply_text (n + 1) (turned s).answer (turned s).lines) → k'' ≡ with_bytes k (place_of (n + 1) at.text (turned s)).text
  put_there s h = h ∙ ap (λ i. with_bytes i (reply_text (n + 1) (turned s).answer (turned s).lines)) g.put ∙ with_both k at.text (reply_text (n + 1) (turned s).answer (turned s).lines)

  -- the sink failed within its text
  pub failed : (s : Said) → ((p : Place) → p ≡ place_of (n + 1) at.text (turned s) → Reached r came p) → Stops (turned s) (n + 1) k' k'' stop.Unwritten → HasFailed r came k k''
  failed s reached h = record {
    place = place_of (n + 1) at.text (turned s);
    reached = reached (place_of (n + 1) at.text (turned s)) refl;
    front = length at.text + h.0;
    some_left = omega (arith, length-append at.text (reply_text (n + 1) (turned s).answer (turned s).lines), h.1);
    put = h.2 ∙ ap (λ i. with_bytes i (take h.0 (reply_text (n + 1) (turned s).answer (turned s).lines))) g.put
        ∙ with_both k at.text (take h.0 (reply_text (n + 1) (turned s).answer (turned s).lines))
        ∙ ap (λ l. with_bytes k l) (sym (take-append-add at.text (reply_text (n + 1) (turned s).answer (turned s).lines) h.0));
  }

  -- memory was wanted
  pub stopped : k'' ≡ k' → HasStopped r came k k''
  stopped h = record { place = at; reached = by_lines g.lines (first_heard came left g.lines g.are_heard); going = g.going; put = h ∙ g.put }

  -- it is over
  pub ended : (s : Said) (e : Session) (a : Answer) → ((p : Place) → p ≡ place_of (n + 1) at.text (turned s) → Reached r came p) → is_over (turned s).next.phase ≡ true
      → HasSaid (change_in r) (turned s) e a (n + 1) k' k'' → HasEnded r came k k'' (ending_of a)
  ended s e a reached over h = record {
    place = place_of (n + 1) at.text (turned s);
    reached = reached (place_of (n + 1) at.text (turned s)) refl;
    over = over;
    put = put_there s h.put;
    is = ap ending_of h.answer_is;
  }

  -- it goes on behind a line
  pub goes_on_then : (line : List ℕ) (e : Session) (a : Answer) → IsFirstLine left left' line → is_over (turned (said_by line)).next.phase ≡ false
      → Stands e (turned (said_by line)).next.events
      → HasSaid (change_in r) (turned (said_by line)) e a (n + 1) k' k'' → Going r came k left' k'' e (n + 1)
  goes_on_then line e a first going stands h =
      let lines = g.lines ++ line ∷ [] in
      let is : heard r (map said_by lines) ≡ place_of (n + 1) at.text (turned (said_by line)) = ap (heard r) (map_one g.lines line) ∙ at_is (said_by line) in
      record {
        lines = lines;
        are_heard = one_heard came left left' g.lines line g.are_heard first;
        count = ap (λ (p : Place). p.number) is;
        going = ap (λ (p : Place). is_over p.scene.phase) is ∙ going;
        stands = subst (λ (p : Place). Stands e p.scene.events) (sym is) stands;
        change = h.change;
        scene = subst (λ (p : Place). scene_of e p.scene.events ≡ p.scene) (sym is) h.scene;
        put = put_there (said_by line) h.put ∙ ap (λ (p : Place). with_bytes k p.text) (sym is);
      }

  pub reached_line : (line : List ℕ) → IsFirstLine left left' line → (p : Place) → p ≡ place_of (n + 1) at.text (turned (said_by line)) → Reached r came p
  reached_line line first p is =
      subst (Reached r came) (ap (heard r) (map_one g.lines line) ∙ at_is (said_by line) ∙ sym is)
      (by_lines (g.lines ++ line ∷ []) (first_heard came left' (g.lines ++ line ∷ []) (one_heard came left left' g.lines line g.are_heard first)))

  pub reached_end : HasNoLine left → (p : Place) → p ≡ place_of (n + 1) at.text (turned says.Over) → Reached r came p
  reached_end none_ p is = subst (Reached r came) (at_is says.Over ∙ sym is) (by_end g.lines (all_heard came left g.lines g.are_heard none_))

  pub reached_fault : (p : Place) → p ≡ place_of (n + 1) at.text (turned says.Broken) → Reached r came p
  reached_fault p is = subst (Reached r came) (at_is says.Broken ∙ sym is) (by_fault g.lines (first_heard came left g.lines g.are_heard))

-- what comes of a turn

module _ (r : Request) (came k left k' left' k'' : Bytes) (d e : Session) (n : ℕ) (g : Going r came k left k' d n) where
  abbrev t : Said → Turned
  t s = turn (change_in r) (heard r (map said_by g.lines)).scene s

  reached_then : (s : Said) → SaidCame left left' s → (p : Place) → p ≡ place_of (n + 1) (heard r (map said_by g.lines)).text (t s) → Reached r came p
  reached_then s came_ p is = ⊎_elim
      (λ (l : (line : List ℕ) × IsFirstLine left left' line × (s ≡ said_by line)). reached_line r came k left k' left' k'' d n g l.0 l.1 p (is ∙ ap (λ x. place_of (n + 1) (heard r (map said_by g.lines)).text (t x)) l.2))
      (λ (o : (HasNoLine left × (s ≡ says.Over)) ⊎ (s ≡ says.Broken)). ⊎_elim
      (λ (l : HasNoLine left × (s ≡ says.Over)). reached_end r came k left k' left' k'' d n g l.0 p (is ∙ ap (λ x. place_of (n + 1) (heard r (map said_by g.lines)).text (t x)) l.1))
      (λ (l : s ≡ says.Broken). reached_fault r came k left k' left' k'' d n g p (is ∙ ap (λ x. place_of (n + 1) (heard r (map said_by g.lines)).text (t x)) l))
      o)
      came_

  fits : (s : Said) → is_over (t s).next.phase ≡ is_end (t s).answer
  fits s =
      let scene = (heard r (map said_by g.lines)).scene in
      fits_over (t s).next.phase (t s).answer (turn_fits (change_in r) scene s g.going)

  -- an answer that doesn't end it is to a line
  line_then : (s : Said) → SaidCame left left' s → is_end (t s).answer ≡ false → (line : List ℕ) × IsFirstLine left left' line × (s ≡ said_by line)
  line_then s came_ no_end = ⊎_elim
      (λ (l : (line : List ℕ) × IsFirstLine left left' line × (s ≡ said_by line)). l)
      (λ (o : (HasNoLine left × (s ≡ says.Over)) ⊎ (s ≡ says.Broken)). ⊎_elim
      (λ (l : HasNoLine left × (s ≡ says.Over)). absurd (both_ways (is_end (t s).answer) no_end (ap (λ x. is_end (t x).answer) l.1 ∙ over_ends (change_in r) (heard r (map said_by g.lines)).scene g.going)))
      (λ (l : s ≡ says.Broken). absurd (both_ways (is_end (t s).answer) no_end (ap (λ x. is_end (t x).answer) l ∙ broken_ends (change_in r) (heard r (map said_by g.lines)).scene g.going)))
      o)
      came_

  going_then : (s : Said) (a : Answer) → SaidCame left left' s → HasSaid (change_in r) (t s) e a (n + 1) k' k'' → is_end a ≡ false → Going r came k left' k'' e (n + 1)
  going_then s a came_ said no_end =
      let no_end_ : is_end (t s).answer ≡ false = ap is_end (sym said.answer_is) ∙ no_end in
      let l = line_then s came_ no_end_ in
      goes_on_then r came k left k' left' k'' d n g l.0 e a l.1
      (subst (λ x. is_over (t x).next.phase ≡ false) l.2 (fits s ∙ no_end_))
      (subst (λ x. Stands e (t x).next.events) l.2 (holds_stands (t s).answer e (t s).next.events (change_in r) no_end_ said.holds))
      (subst (λ x. HasSaid (change_in r) (t x) e a (n + 1) k' k'') l.2 said)

  ended_then : (s : Said) (a : Answer) → SaidCame left left' s → HasSaid (change_in r) (t s) e a (n + 1) k' k'' → is_end a ≡ true → HasEnded r came k k'' (ending_of a)
  ended_then s a came_ said end = ended r came k left k' left' k'' d n g s e a (reached_then s came_) (fits s ∙ ap is_end (sym said.answer_is) ∙ end) said

  abbrev pub Then : Option Ending → Type 0
  Then o = MatchOption o (Going r came k left' k'' e (n + 1)) (Ends r came k k'')

  pub said_then : (s : Said) (a : Answer) → SaidCame left left' s → HasSaid (change_in r) (t s) e a (n + 1) k' k'' → Then (ended_by (Ok a))
  said_then s answer.Waits came_ said = going_then s answer.Waits came_ said refl
  said_then s answer.Ready came_ said = going_then s answer.Ready came_ said refl
  said_then s answer.Committed came_ said = ended_then s answer.Committed came_ said refl
  said_then s answer.GivenUp came_ said = ended_then s answer.GivenUp came_ said refl
  said_then s (answer.Denied rule) came_ said = ended_then s (answer.Denied rule) came_ said refl
  said_then s answer.Bad came_ said = ended_then s answer.Bad came_ said refl
  said_then s answer.Unread came_ said = ended_then s answer.Unread came_ said refl

  pub stopped_then : (s : Said) (x : Stop) → SaidCame left left' s → Stops (t s) (n + 1) k' k'' x → Then (ended_by (Err x))
  stopped_then s stop.Unwritten came_ h = failed r came k left k' left' k'' d n g s (reached_then s came_) h
  stopped_then s stop.NoMemory came_ h = inr (stopped r came k left k' left' k'' d n g h)

-- where it begins

module _ (r : Request) (came k : Bytes) where
  none_yet : AreFirst came []
  none_yet = first_none came
    where
      first_none : (a : Bytes) → AreFirst a []
      first_none None = tt
      first_none (Some xs) = (lines_of xs, refl)

  all_left : AreHeard came came []
  all_left = left_all came
    where
      left_all : (a : Bytes) → AreHeard a a []
      left_all None = tt
      left_all (Some xs) = refl

  first_fits : is_over (heard r []).scene.phase ≡ is_end (heard r []).answer
  first_fits = fits_over (heard r []).scene.phase (heard r []).answer (goes_fits (change_in r) (first_scene (change_in r)) refl)

  pub failed_first : (t : List ℕ) (n : ℕ) (k'' : Bytes) → t ≡ (heard r []).text → n < length t → k'' ≡ with_bytes k (take n t) → HasFailed r came k k''
  failed_first t n k'' is short put = record {
    place = heard r [];
    reached = by_lines [] none_yet;
    front = n;
    some_left = subst (λ (l : List ℕ). n < length l) is short;
    put = put ∙ ap (λ l. with_bytes k (take n l)) is;
  }

  module _ (d : Session) (a : Answer) (t : List ℕ) (k' : Bytes) (h : HasHeard r [] d a [] t) (put : k' ≡ with_bytes k t) where
    ended_first : is_end a ≡ true → HasEnded r came k k' (ending_of a)
    ended_first end = record {
      place = heard r [];
      reached = by_lines [] none_yet;
      over = first_fits ∙ ap is_end (sym h.answer_is) ∙ end;
      put = put ∙ ap (λ l. with_bytes k l) h.text;
      is = ap ending_of h.answer_is;
    }

    pub going_first : is_end a ≡ false → Going r came k came k' d 0
    going_first no_end =
        let no_end_ : is_end (heard r []).answer ≡ false = ap is_end (sym h.answer_is) ∙ no_end in
        record {
          lines = [];
          are_heard = all_left;
          count = refl;
          going = first_fits ∙ no_end_;
          stands = holds_stands (heard r []).answer d (heard r []).scene.events (change_in r) no_end_ h.holds;
          change = h.change;
          scene = h.scene;
          put = put ∙ ap (λ l. with_bytes k l) h.text;
        }

    pub first_then : (b : Answer) → b ≡ a → MatchOption (ended_by (Ok b)) (Going r came k came k' d 0) (Ends r came k k')
    first_then answer.Waits is = going_first (ap is_end (sym is))
    first_then answer.Ready is = going_first (ap is_end (sym is))
    first_then answer.Committed is = subst (HasEnded r came k k') (sym (ap ending_of is)) (ended_first (ap is_end (sym is)))
    first_then answer.GivenUp is = subst (HasEnded r came k k') (sym (ap ending_of is)) (ended_first (ap is_end (sym is)))
    first_then (answer.Denied rule) is = subst (HasEnded r came k k') (sym (ap ending_of is)) (ended_first (ap is_end (sym is)))
    first_then answer.Bad is = subst (HasEnded r came k k') (sym (ap ending_of is)) (ended_first (ap is_end (sym is)))
    first_then answer.Unread is = subst (HasEnded r came k k') (sym (ap ending_of is)) (ended_first (ap is_end (sym is)))

-- a session that has begun and gone on at once
pub begun_then : (r : Request) (d e : Session) (a : Answer) (old mid new : List ℕ) → HasBegun r d old mid
    → HasAnswered (change_of d) (goes_on (change_of d) (scene_of d (start_of r.from.graph))) e a 0 mid new → HasHeard r [] e a old new
begun_then r d e a old mid new o h =
    let c = change_in r in
    let t = goes_on c (first_scene c) in
    let k : HasAnswered c t e a 0 mid new =
    subst (λ (s : Scene). HasAnswered c (goes_on c s) e a 0 mid new) o.scene
    (subst (λ (b : Change). HasAnswered b (goes_on b (scene_of d (start_of r.from.graph))) e a 0 mid new) o.change h) in
    record {
      text = k.text ∙ ap (λ x. x ++ reply_text 0 t.answer t.lines) o.text ∙ append_assoc old (opening_text r) (reply_text 0 t.answer t.lines);
      answer_is = k.answer_is;
      change = k.change;
      scene = k.scene;
      holds = k.holds;
    }

-- a turn whose text was taken
pub steady_turn : (f f' : ℕ) (a : Answer) → f' ≡ f → FaultsIn f f' (ended_by (Ok a))
steady_turn f f' answer.Waits h = h
steady_turn f f' answer.Ready h = h
steady_turn f f' answer.Committed h = h
steady_turn f f' answer.GivenUp h = h
steady_turn f f' (answer.Denied rule) h = h
steady_turn f f' answer.Bad h = h
steady_turn f f' answer.Unread h = h

-- what comes of a turn, by what the session says of it
pub turn_made : (r : Request) (came k left k' left' k'' : Bytes) (d e : Session) (n : ℕ) (g : Going r came k left k' d n) (s : Said) (x : Result Answer Stop) → SaidCame left left' s
    → IfOk x (λ a. (es : List Event) → Stands d es → HasSaid (change_of d) (turn (change_of d) (scene_of d es) s) e a (n + 1) k' k'')
    → IfErr x (λ y. (es : List Event) → Stands d es → Stops (turn (change_of d) (scene_of d es) s) (n + 1) k' k'' y)
    → MatchOption (ended_by x) (Going r came k left' k'' e (n + 1)) (Ends r came k k'')
turn_made r came k left k' left' k'' d e n g s (Ok a) came_ ok err =
    let at = (heard r (map said_by g.lines)).scene in
    said_then r came k left k' left' k'' d e n g s a came_
    (subst (λ (t : Scene). HasSaid (change_in r) (turn (change_in r) t s) e a (n + 1) k' k'') g.scene
    (subst (λ (c : Change). HasSaid c (turn c (scene_of d at.events) s) e a (n + 1) k' k'') g.change (ok at.events g.stands)))
turn_made r came k left k' left' k'' d e n g s (Err y) came_ ok err =
    let at = (heard r (map said_by g.lines)).scene in
    stopped_then r came k left k' left' k'' d e n g s y came_
    (subst (λ (t : Scene). Stops (turn (change_in r) t s) (n + 1) k' k'' y) g.scene
    (subst (λ (c : Change). Stops (turn c (scene_of d at.events) s) (n + 1) k' k'' y) g.change (err at.events g.stands)))

-- the first text is out, or a front of it

pub first_failed : (r : Request) (came k : Bytes) (d : Session) (a : Answer) (b t u : List ℕ) (n : ℕ) (k' : Bytes) → HasHeard r [] d a b t → b ≡ [] → u ≡ t → n < length u
    → k' ≡ with_bytes k (take n u) → HasFailed r came k k'
first_failed r came k d a b t u n k' h none_ is short put =
    failed_first r came k u n k' (is ∙ h.text ∙ ap (λ x. x ++ (heard r []).text) none_) short put

pub first_put : (r : Request) (came k : Bytes) (d : Session) (a : Answer) (b t u : List ℕ) (k' : Bytes) → HasHeard r [] d a b t → b ≡ [] → u ≡ t
    → k' ≡ with_bytes k u → MatchOption (ended_by (Ok a)) (Going r came k came k' d 0) (Ends r came k k')
first_put r came k d a b t u k' h none_ is put =
    first_then r came k d a t k' (subst (λ x. HasHeard r [] d a x t) none_ h) (put ∙ ap (λ l. with_bytes k l) is) a refl
