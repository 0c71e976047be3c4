-- A row goes on from where it stands by each event that shapes no row: what gates are closed and opened meanwhile doesn't matter, nor
-- what is made, linked and removed beside it.
use Rattle.std.proofs.Common.{◌≡◌, ◌∙◌, ℕ, ◌+◌, ◌%◌, ◌≤◌, Bool, true, false, List, [], ◌∷◌, ◌++◌, length, Some, refl, sym, ap, subst, arith, inl}
use Rattle.std.specs.Prelude.{⊤, ◌==◌, ◌⊎◌}
use Rattle.base.proofs.OptionLaws.{map_or_true}
use Rattle.config_graph.specs.Kinds.{row}
use Rattle.config_graph.specs.declared.TheConstants.{VALUE_LIMIT}
use Rattle.config_graph.specs.declared.kind.Kind.{Kind}
use Rattle.config_graph.specs.declared.kind.Kind.TheVariants.{Map, Sink, Source}
use Rattle.component_trait.specs.States.{NodeState}
use Rattle.component_trait.proofs.FoldLaws.{fold_keeps_argument, fold_keeps_kind}
use Rattle.quiesce_word.specs.declared.word.TheConstants.{LAST_SERIAL}
use Rattle.quiesce_word.specs.Phases.{is_idle, is_asked, is_answered}
use Rattle.quiesce_core.specs.Alters.{Reconfigures}
use Rattle.quiesce_core.specs.Doers.{is_of_change}
use Rattle.quiesce_core.specs.Rules.{is_taken}
use Rattle.quiesce_core.specs.Runs.{IsRun, is_doer, state_after}
use Rattle.quiesce_core.specs.State.{Configuration, State, exchange, slot}
use Rattle.quiesce_core.specs.WellFormed.{IsSound}
use Rattle.quiesce_core.specs.declared.event.Event.{Event}
use Rattle.quiesce_core.specs.declared.state.Exchange.{Exchange}
use Rattle.quiesce_core.specs.declared.state.Slot.{Slot}
use Rattle.quiesce_core.proofs.AlterLaws.{exchanges_next, reconfigured}
use Rattle.quiesce_core.proofs.InductionLaws.{IsNext}
use Rattle.quiesce_core.proofs.RunLaws.{runs_are_consistent, runs_are_well_formed, state_more}
use Rattle.change_round_laws.proofs.FoldLaws.{StatesAreHanded}
use Rattle.result_laws.specs.Rows.{is_of_row, rows_serve_rows}
use Rattle.result_laws.proofs.AgreeingLaws.{doer_lives}
use Rattle.result_laws.proofs.Beside.{KeepsRow, keeps_row, takens_stay}
use Rattle.result_laws.proofs.FactLaws.{Fits, FoldsTo}
use Rattle.result_laws.proofs.Linking.{AllLinked}
use Rattle.result_laws.proofs.Passing.{Few, At, Going, Inside, MapHas, OnlyTo, SinkHas, Stop, Way, passed}
use Rattle.result_laws.proofs.Passing as at
use Rattle.result_laws.specs.Coming.{HasFolds, come}
use Rattle.result_laws.proofs.ComingLaws.{facts, fits_of, folds_before, folds_on, old_stays}
use Rattle.result_laws.proofs.EventLaws.{Now, nothing_there}
use Rattle.result_laws.proofs.RowSlots.{row_slot, shapes_row, slot_is}
use Rattle.result_laws.proofs.Rounds.{IsEndOf, IsSource, Stands, goes, resting, under_way}

-- ---- two states and two tellings of nodes that are alike

pub record Alike (s : State) (f : ℕ → NodeState) (s' : State) (g : ℕ → NodeState) : Type 0 where
  pub exchanges : (q : ℕ) → exchange s' q ≡ exchange s q
  pub takens : (q : ℕ) → is_taken s' q ≡ is_taken s q
  pub folds : (n : ℕ) (m : Slot) → slot s.config n ≡ Some m → g n ≡ f n

module _ (s : State) (f : ℕ → NodeState) (s' : State) (g : ℕ → NodeState) (like : Alike s f s' g) where
  few_like : (k : ℕ) (ms : List Stop) → Few s k ms → Few s' k ms
  few_like k [] few = tt
  few_like k (m ∷ ms) few = (subst (λ (y : Exchange). y.serial ≤ k) (sym (like.exchanges m.port)) few.0, few_like k ms few.1)

  at_like : (p x : ℕ) (Before Before' After After' : Type 0) (Has Has' : Bool → Type 0) → (Before → Before') → (After → After') → ((d : Bool) → Has d → Has' d) → (d : Bool) → At s p x Before After Has d
      → At s' p x Before' After' Has' d
  at_like p x Before Before' After After' Has Has' before after on d (at.waiting a v u dn b) =
      at.waiting (ap (λ (y : Exchange). is_asked y.phase) (like.exchanges p) ∙ a) (ap (λ (y : Exchange). y.value) (like.exchanges p) ∙ v) (like.takens p ∙ u) dn (before b)
  at_like p x Before Before' After After' Has Has' before after on d (at.taken a v u has) =
      at.taken (ap (λ (y : Exchange). is_asked y.phase) (like.exchanges p) ∙ a) (ap (λ (y : Exchange). y.value) (like.exchanges p) ∙ v) (like.takens p ∙ u) (on d has)
  at_like p x Before Before' After After' Has Has' before after on d (at.answered a not_0 sure b) =
      at.answered (ap (λ (y : Exchange). is_answered y.phase) (like.exchanges p) ∙ a) (ap (λ (y : Exchange). y.value == 0) (like.exchanges p) ∙ not_0) sure (after b)

  serial_like : (q k : ℕ) → (exchange s q).serial ≤ k → (exchange s' q).serial ≤ k
  serial_like q k low = subst (λ (y : Exchange). y.serial ≤ k) (sym (like.exchanges q)) low

  inside_like : (q n : ℕ) (Before Before' After After' : Type 0) (D D' : Bool → Type 0) → (Before → Before') → (After → After') → ((d : Bool) → D d → D' d) → (xs : List ℕ) (d : Bool) → Inside s q n Before After D xs d
      → Inside s' q n Before' After' D' xs d
  inside_like q n Before Before' After After' D D' before after on _ _ (at.not_yet idle own b) = at.not_yet (ap (λ (y : Exchange). is_idle y.phase) (like.exchanges q) ∙ idle) (serial_like q n own) (before b)
  inside_like q n Before Before' After After' D D' before after on _ _ (at.below d own deep) = at.below d (serial_like q (n + 1) own) (on d deep)
  inside_like q n Before Before' After After' D D' before after on _ _ (at.back a d idle not_0 sure own b) =
      at.back a d (ap (λ (y : Exchange). is_idle y.phase) (like.exchanges q) ∙ idle) not_0 sure (serial_like q (n + 1) own) (after b)

  going_like : (n : ℕ) (ms : List Stop) (p x t : ℕ) (d : Bool) → Way s.config f p ms t → Going s f n p x ms t d → Going s' g n p x ms t d
  going_like n [] p x t d way w =
      at_like p x ⊤ ⊤ ⊤ ⊤ (SinkHas (f t) x) (SinkHas (g t) x) (λ b. b) (λ b. b) (λ d has. record { arg = has.arg; kept = has.kept; is = like.folds t way.to.made way.to.there ∙ has.is; given = has.given }) d w
  going_like n (m ∷ ms) p x t d way w =
      let y = (x + m.arg) % VALUE_LIMIT in
      at_like p x (Few s n (m ∷ ms)) (Few s' n (m ∷ ms)) (Few s (n + 1) (m ∷ ms)) (Few s' (n + 1) (m ∷ ms))
      (MapHas s (f m.at) m x n (Few s n ms) (Few s (n + 1) ms) (Going s f n m.port y ms t)) (MapHas s' (g m.at) m x n (Few s' n ms) (Few s' (n + 1) ms) (Going s' g n m.port y ms t)) (few_like n (m ∷ ms)) (few_like (n + 1) (m ∷ ms))
      (λ d has. record {
        kept = has.kept;
        reply = has.reply;
        answers = has.answers;
        is = like.folds m.at way.0.to.made way.0.to.there ∙ has.is;
        inside = inside_like m.port n (Few s n ms) (Few s' n ms) (Few s (n + 1) ms) (Few s' (n + 1) ms) (Going s f n m.port y ms t) (Going s' g n m.port y ms t) (few_like n ms) (few_like (n + 1) ms)
            (λ d' deep. going_like n ms m.port y t d' way.1 deep) has.answers d has.inside;
      }) d w

  -- the sink was made
  end_like : (ms : List Stop) (p t : ℕ) → Way s.config f p ms t → g t ≡ f t
  end_like [] p t w = like.folds t w.to.made w.to.there
  end_like (m ∷ ms) p t w = end_like ms m.port t w.1

  stands_like : (a p : ℕ) (ms : List Stop) (t : ℕ) (past : List ℕ) → IsSource s f a p → Way s.config f p ms t → Stands s f a p ms t past → Stands s' g a p ms t past
  stands_like a p ms t past src way (resting idle count items few) =
      resting (ap (λ (y : Exchange). is_idle y.phase) (like.exchanges p) ∙ idle) (ap (λ (n : NodeState). n.kept.count) (like.folds a src.made src.there) ∙ count)
      (ap (λ (n : NodeState). n.kept.items) (end_like ms p t way) ∙ items) (few_like (length past) ms few)
  stands_like a p ms t past src way (under_way d room w count items) =
      under_way d room (going_like (length past) ms p (length past + 1) t d way w) (ap (λ (n : NodeState). n.kept.count) (like.folds a src.made src.there) ∙ count)
      (ap (λ (n : NodeState). n.kept.items) (end_like ms p t way) ∙ items)

-- ---- the way in another configuration that keeps the row, where nodes are of the same kinds

record SameKinds (c : Configuration) (f g : ℕ → NodeState) : Type 0 where
  kinds : (n : ℕ) (m : Slot) → slot c n ≡ Some m → (g n).kind ≡ (f n).kind
  args : (n : ℕ) (m : Slot) → slot c n ≡ Some m → (g n).arg ≡ (f n).arg

only_like : (c d : Configuration) → KeepsRow c d → (p n : ℕ) (k : Kind) → is_of_row k ≡ true → OnlyTo c p n k → OnlyTo d p n k
only_like c d keeps p n k of_row o =
    let kind : is_of_row o.made.node.kind ≡ true = ap is_of_row o.kind ∙ of_row in
    let here : row_slot c n ≡ true = slot_is c n o.made o.there ∙ kind in
    record { leads = keeps.leads p n 0 o.leads here; only = λ r x h. o.only r x (keeps.comes r n x h here); made = o.made; there = keeps.slots n o.made o.there kind; kind = o.kind }

way_like : (c d : Configuration) (f g : ℕ → NodeState) → IsSound c → KeepsRow c d → SameKinds c f g → (ms : List Stop) (p t : ℕ) → Way c f p ms t → Way d g p ms t
unfolding only_like
way_like c d f g sound keeps kinds [] p t w = record { to = only_like c d keeps p t Sink refl w.to; kind = kinds.kinds t w.to.made w.to.there ∙ w.kind }
way_like c d f g sound keeps kinds (m ∷ ms) p t w =
    let to = w.0.to in
    let one_ : length (row to.made.node.kind).requires_ ≡ 1 = ap (λ (k : Kind). length (row k).requires_) to.kind in
    let within = (sound.rows m.at to.made to.there).within in
    let first = w.0.first in (
      record {
        to = only_like c d keeps p m.at Map refl to;
        first = w.0.first;
        owned = keeps.owners m.port (omega (arith, within, one_, first)) ∙ w.0.owned;
        kind = kinds.kinds m.at to.made to.there ∙ w.0.kind;
        arg = kinds.args m.at to.made to.there ∙ w.0.arg;
      },
      way_like c d f g sound keeps kinds ms m.port t w.1,
    )

source_like : (s s' : State) (f g : ℕ → NodeState) → IsSound s.config → Fits s.config f → KeepsRow s.config s'.config → SameKinds s.config f g → (a p : ℕ) → IsSource s f a p → IsSource s' g a p
source_like s s' f g sound fits keeps kinds a p w =
    let kind : w.made.node.kind ≡ Source = sym (fits.kinds a w.made w.there) ∙ w.kind in
    let one_ : length (row w.made.node.kind).requires_ ≡ 1 = ap (λ (k : Kind). length (row k).requires_) kind in
    let within = (sound.rows a w.made w.there).within in
    let first = w.first in
    record {
      made = w.made;
      there = keeps.slots a w.made w.there (ap is_of_row kind);
      first = w.first;
      owned = keeps.owners p (omega (arith, within, one_, first)) ∙ w.owned;
      kind = kinds.kinds a w.made w.there ∙ w.kind;
      small = subst (λ i. i ≤ LAST_SERIAL) (sym (kinds.args a w.made w.there)) w.small;
    }

-- ---- one event

pub record Row (es : List Event) (a p : ℕ) (ms : List Stop) (t : ℕ) (past : List ℕ) : Type 0 where
  pub src : IsSource (state_after es) (come es) a p
  pub way : Way (state_after es).config (come es) p ms t
  pub stands : Stands (state_after es) (come es) a p ms t past

-- the same behind one event, with what it added
pub record RowNext (es : List Event) (e : Event) (a p : ℕ) (ms : List Stop) (t : ℕ) (past : List ℕ) : Type 0 where
  pub next : List ℕ
  pub row : Row (es ++ e ∷ []) a p ms t next
  pub grows : (next ≡ past) ⊎ (IsEndOf e p × (next ≡ past ++ passed (length past + 1) ms ∷ []))

kinds_on : (es : List Event) (e : Event) → IsNext es e → is_of_change e ≡ false → FoldsTo (state_after es) e (come es) (come (es ++ e ∷ [])) → SameKinds (state_after es).config (come es) (come (es ++ e ∷ []))
kinds_on es e here of_node folds = record { kinds = λ n m there. (by n (is_doer (state_after es) n e) refl).0; args = λ n m there. (by n (is_doer (state_after es) n e) refl).1 }
  where
    by : (n : ℕ) (b : Bool) → is_doer (state_after es) n e ≡ b → ((come (es ++ e ∷ []) n).kind ≡ (come es n).kind) × ((come (es ++ e ∷ []) n).arg ≡ (come es n).arg)
    by n false other = (ap (λ (x : NodeState). x.kind) (folds.others n other), ap (λ (x : NodeState). x.arg) (folds.others n other))
    by n true mine =
        let m = map_or_true (λ (x : Slot). x.live) (slot (state_after es).config n) (doer_lives (state_after es) e n here.well here.legal of_node mine) in
        let f = folds.mine n m.0 m.1 mine in
        (fold_keeps_kind m.0.first_port (come es n) (come (es ++ e ∷ []) n) (e ∷ []) f, fold_keeps_argument m.0.first_port (come es n) (come (es ++ e ∷ []) n) (e ∷ []) f)

module _ (handed : StatesAreHanded) (es : List Event) (e : Event) (here : IsNext es e) (run' : IsRun (es ++ e ∷ [])) (later : HasFolds (es ++ e ∷ [])) where
  -- an event of the change leaves what nodes have come to, and what is under way
  alike_on : is_of_change e ≡ true → Alike (state_after es) (come es) (state_after (es ++ e ∷ [])) (come (es ++ e ∷ []))
  alike_on change = record {
    exchanges = λ q. ap (λ (s : State). exchange s q) here.next ∙ exchanges_next (state_after es) e here.well here.legal q ∙ nothing_there (state_after es) q e change;
    takens = takens_stay (state_after es) (state_after (es ++ e ∷ [])) e here.well here.traffic (runs_are_consistent (es ++ e ∷ []) run') here.legal change here.next;
    folds = old_stays handed es e here run' change;
  }

  module _ (none_ : shapes_row (state_after es).config e ≡ false) (before : AllLinked rows_serve_rows (state_after es).config) (after : AllLinked rows_serve_rows (state_after (es ++ e ∷ [])).config) where
    pub row_kept : KeepsRow (state_after es).config (state_after (es ++ e ∷ [])).config
    row_kept =
        let r = subst (λ (t : State). Reconfigures (state_after es).config e t.config) (sym here.next) (reconfigured (state_after es) e here.legal) in
        keeps_row (state_after es) e (state_after (es ++ e ∷ [])).config here.well here.legal r (runs_are_well_formed (es ++ e ∷ []) run').sound none_ before after

    pub one_event : (a p : ℕ) (ms : List Stop) (t : ℕ) (past : List ℕ) → Row es a p ms t past → RowNext es e a p ms t past
    one_event a p ms t past row = by (is_of_change e) refl
      where
        sound : IsSound (state_after es).config
        sound = here.well.sound

        fits : Fits (state_after es).config (come es)
        fits = fits_of handed es here.run (folds_before handed es e here run' later)

        by : (b : Bool) → is_of_change e ≡ b → RowNext es e a p ms t past
        by false of_node =
            let folds = folds_on handed es e here run' later of_node in
            let kinds = kinds_on es e here of_node folds in
            let now : Now (state_after es) (come es) (come (es ++ e ∷ [])) e = record { legal = here.legal; of_node = of_node; folds = folds } in
            let go = goes (state_after es) (come es) (come (es ++ e ∷ [])) (facts handed es here.run (folds_before handed es e here run' later)) e now a p ms t row.src row.way past row.stands in
            record {
              next = go.next;
              row = record {
                src = source_like (state_after es) (state_after (es ++ e ∷ [])) (come es) (come (es ++ e ∷ [])) sound fits row_kept kinds a p row.src;
                way = way_like (state_after es).config (state_after (es ++ e ∷ [])).config (come es) (come (es ++ e ∷ [])) sound row_kept kinds ms p t row.way;
                stands = subst (λ s. Stands s (come (es ++ e ∷ [])) a p ms t go.next) (sym (state_more es e)) go.stands;
              };
              grows = go.grows;
            }
        by true change =
            let like = alike_on change in
            let kinds : SameKinds (state_after es).config (come es) (come (es ++ e ∷ [])) = record {
              kinds = λ n m there. ap (λ (x : NodeState). x.kind) (like.folds n m there);
              args = λ n m there. ap (λ (x : NodeState). x.arg) (like.folds n m there);
            } in
            record {
              next = past;
              row = record {
                src = source_like (state_after es) (state_after (es ++ e ∷ [])) (come es) (come (es ++ e ∷ [])) sound fits row_kept kinds a p row.src;
                way = way_like (state_after es).config (state_after (es ++ e ∷ [])).config (come es) (come (es ++ e ∷ [])) sound row_kept kinds ms p t row.way;
                stands = stands_like (state_after es) (come es) (state_after (es ++ e ∷ [])) (come (es ++ e ∷ [])) like a p ms t past row.src row.way row.stands;
              };
              grows = inl refl;
            }
