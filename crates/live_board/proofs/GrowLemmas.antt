-- What was taken in so far.
use Rattle.std.proofs.Common.{◌≡◌, ◌∙◌, ℕ, zero, suc, true, cond, List, [], ◌∷◌, ◌++◌, map, set, Option, Some, None, refl, sym, ap, subst, ⊎_elim}
use Rattle.std.specs.Prelude.{slice_get, slice_set, ◌≢◌, ◌==◌}
use Rattle.std.specs.List.{AllByRecursion}
use Rattle.std.specs.Option.{option_map_or}
use Rattle.std.proofs.lemmas.Bool.{cases_eq, eq-eqb, ne_eqb}
use Rattle.std.proofs.lemmas.Option.{same_Some, slice_get_within}
use Rattle.std.proofs.lemmas.Map.Keys.{any_passes_from_place}
use Rattle.base.proofs.PlaceLaws.{slice_get-set_other, slice_get-set_same}
use Rattle.live_board.specs.Collecting.{Grew, IsOf, IsShown, IsTakenIn, with_events}
use Rattle.live_hall.specs.Sighting.{IsMadeIn}
use Rattle.quiesce_core.specs.State.{Configuration}
use Rattle.quiesce_core.specs.declared.event.Event.{Event}
use Rattle.report_types.specs.declared.report.NodeLog.{NodeLog}
use Rattle.txn_spec.specs.Traces.{HaveOwnSlots}
use Rattle.txn_spec.specs.Views.{is_among, log_in}
use Rattle.txn_spec.specs.declared.view.NodeView.{NodeView}

apart_at : (n : ℕ) (vs : List NodeView) (k : ℕ) (v : NodeView) → AllByRecursion (λ (m : NodeView). m.slot ≢ n) vs → slice_get vs k ≡ Some v → v.slot ≢ n
apart_at n [] k v all at = absurd (cc)
apart_at n (w ∷ vs) zero v all at = λ is. all.0 (ap (λ (x : NodeView). x.slot) (same_Some w v at) ∙ is)
apart_at n (w ∷ vs) (suc k) v all at = apart_at n vs k v all.1 at

-- where no two are of one slot, the log of a slot is that of each node of that slot
pub own_log : (vs : List NodeView) (k : ℕ) (v : NodeView) → HaveOwnSlots vs → slice_get vs k ≡ Some v → log_in vs v.slot ≡ v.log
own_log [] k v own at = absurd (cc)
own_log (w ∷ vs) zero v own at =
    let same : w ≡ v = same_Some w v at in
    ap (λ b. cond b w.log (log_in vs v.slot)) (eq-eqb w.slot v.slot (ap (λ (x : NodeView). x.slot) same)) ∙ ap (λ (x : NodeView). x.log) same
own_log (w ∷ vs) (suc k) v own at =
    ap (λ b. cond b w.log (log_in vs v.slot)) (ne_eqb w.slot v.slot (λ is. apart_at w.slot vs k v own.0 at (sym is))) ∙ own_log vs k v own.1 at

module _ (c : Configuration) where
  -- what was taken in before is so still
  pub further : (nodes nodes' : List NodeView) (logs logs' : List NodeLog) → ((v : NodeView) → IsOf nodes v → IsOf nodes' v) → ((n : ℕ) → IsShown nodes logs n → IsShown nodes' logs' n)
      → (vs : List NodeView) → AllByRecursion (IsTakenIn c nodes logs) vs → AllByRecursion (IsTakenIn c nodes' logs') vs
  further nodes nodes' logs logs' kept shown [] all = tt
  further nodes nodes' logs logs' kept shown (v ∷ vs) all =
      (record { made = all.0.made; among = kept v all.0.among; shown = shown v.slot all.0.shown }, further nodes nodes' logs logs' kept shown vs all.1)

  both : (P : NodeView → Type 0) (vs ws : List NodeView) → AllByRecursion P vs → AllByRecursion P ws → AllByRecursion P (vs ++ ws)
  both P [] ws a b = b
  both P (v ∷ vs) ws a b = (a.0, both P vs ws a.1 b)

  pub grew_none : (nodes : List NodeView) (logs : List NodeLog) → Grew c nodes nodes logs logs []
  grew_none nodes logs = record { all = tt; kept = λ v is. is; shown = λ n is. is; slots = refl; lasts = refl }

  pub grew_both : (nodes nodes1 nodes2 : List NodeView) (logs logs1 logs2 : List NodeLog) (vs ws : List NodeView) → Grew c nodes nodes1 logs logs1 vs → Grew c nodes1 nodes2 logs1 logs2 ws
      → Grew c nodes nodes2 logs logs2 (vs ++ ws)
  grew_both nodes nodes1 nodes2 logs logs1 logs2 vs ws a b = record {
    all = both (IsTakenIn c nodes2 logs2) vs ws (further nodes1 nodes2 logs1 logs2 b.kept b.shown vs a.all) b.all;
    kept = λ v is. b.kept v (a.kept v is);
    shown = λ n is. b.shown n (a.shown n is);
    slots = b.slots ∙ a.slots;
    lasts = b.lasts ∙ a.lasts;
  }

  module _ (nodes : List NodeView) (logs : List NodeLog) (v : NodeView) where
    abbrev now : List NodeLog
    now = with_events logs v.slot v.log

    mapped : {B : Type 0} (f : NodeLog → B) → ((l : NodeLog) → f (record l { events = v.log }) ≡ f l) → map f now ≡ map f logs
    mapped f same = by (slice_get logs v.slot) refl
      where
        still : (xs : List NodeLog) (k : ℕ) (l : NodeLog) → slice_get xs k ≡ Some l → map f (set xs k (record l { events = v.log })) ≡ map f xs
        still [] k l at = absurd (cc)
        still (x ∷ xs) zero l at = ap (λ y. y ∷ map f xs) (same l ∙ sym (ap f (same_Some x l at)))
        still (x ∷ xs) (suc k) l at = ap (λ ys. f x ∷ ys) (still xs k l at)

        by : (o : Option NodeLog) → slice_get logs v.slot ≡ o → map f (option_map_or (λ (l : NodeLog). slice_set logs v.slot (record l { events = v.log })) o logs) ≡ map f logs
        by None at = refl
        by (Some l) at = still logs v.slot l at

    at_other : (n : ℕ) → n ≢ v.slot → slice_get now n ≡ slice_get logs n
    at_other n other = by (slice_get logs v.slot)
      where
        by : (o : Option NodeLog) → slice_get (option_map_or (λ (l : NodeLog). slice_set logs v.slot (record l { events = v.log })) o logs) n ≡ slice_get logs n
        by None = refl
        by (Some l) = slice_get-set_other logs v.slot (record l { events = v.log }) n other

    at_own : (l : NodeLog) → slice_get now v.slot ≡ Some l → l.events ≡ v.log
    at_own l at = by (slice_get logs v.slot) refl at
      where
        none_some : None ≡ Some l → l.events ≡ v.log
        none_some h = absurd (cc)

        by : (o : Option NodeLog) → slice_get logs v.slot ≡ o → slice_get (option_map_or (λ (x : NodeLog). slice_set logs v.slot (record x { events = v.log })) o logs) v.slot ≡ Some l → l.events ≡ v.log
        by None is there = none_some (sym is ∙ there)
        by (Some x) is there =
            let own : record x { events = v.log } ≡ l = same_Some (record x { events = v.log }) l (sym (slice_get-set_same logs v.slot (record x { events = v.log }) (slice_get_within logs v.slot x is)) ∙ there) in
            ap (λ (y : NodeLog). y.events) (sym own)

    shown_now : IsShown (v ∷ nodes) now v.slot
    shown_now = record { node = v; among = (0, refl); slot_is = refl; log = at_own }

    shown_then : (n : ℕ) → IsShown nodes logs n → IsShown (v ∷ nodes) now n
    shown_then n h = ⊎_elim
        (λ (same : n ≡ v.slot). subst (IsShown (v ∷ nodes) now) (sym same) shown_now)
        (λ (other : n ≢ v.slot). record { node = h.node; among = (suc h.among.0, h.among.1); slot_is = h.slot_is; log = λ l at. h.log l (sym (at_other n other) ∙ at) })
        (cases_eq n v.slot)

    pub grew_one : IsMadeIn c v → Grew c nodes (v ∷ nodes) logs now (v ∷ [])
    grew_one made = record {
      all = (record { made = made; among = (0, refl); shown = shown_now }, tt);
      kept = λ w is. (suc is.0, is.1);
      shown = shown_then;
      slots = mapped (λ (l : NodeLog). l.slot) (λ l. refl);
      lasts = mapped (λ (l : NodeLog). l.last) (λ l. refl);
    }

  -- where no two are of one slot, the log that stands in a node's place is its own
  pub shown_own : (nodes : List NodeView) (logs : List NodeLog) (v : NodeView) → HaveOwnSlots nodes → IsTakenIn c nodes logs v
      → (log_in nodes v.slot ≡ v.log) × ((l : NodeLog) → slice_get logs v.slot ≡ Some l → l.events ≡ v.log) × (is_among nodes v.slot ≡ true)
  shown_own nodes logs v own t =
      let u = t.shown in
      let mine = own_log nodes t.among.0 v own t.among.1 in
      (mine, λ l at. u.log l at ∙ sym (own_log nodes u.among.0 u.node own u.among.1) ∙ ap (log_in nodes) u.slot_is ∙ mine, any_passes_from_place (λ (w : NodeView). w.slot == v.slot) nodes t.among.0 v t.among.1 (eq-eqb v.slot v.slot refl))

pub grew_as : (c : Configuration) (nodes nodes' : List NodeView) (logs logs' : List NodeLog) (v : NodeView) (n : ℕ) (es : List Event) → IsMadeIn c v → nodes' ≡ v ∷ nodes → logs' ≡ with_events logs n es → n ≡ v.slot → es ≡ v.log
    → Grew c nodes nodes' logs logs' (v ∷ [])
grew_as c nodes nodes' logs logs' v n es made nodes_are logs_are slot log =
    subst (λ ns. Grew c nodes ns logs logs' (v ∷ [])) (sym nodes_are)
    (subst (λ ls. Grew c nodes (v ∷ nodes) logs ls (v ∷ [])) (sym (logs_are ∙ ap (λ i. with_events logs i es) slot ∙ ap (with_events logs v.slot) log)) (grew_one c nodes logs v made))

-- more was taken in, by the same configuration
pub grew_then : (c d : Configuration) (nodes nodes1 nodes2 : List NodeView) (logs logs1 logs2 : List NodeLog) (vs ws all : List NodeView) → d ≡ c → Grew c nodes nodes1 logs logs1 vs → Grew d nodes1 nodes2 logs1 logs2 ws → all ≡ vs ++ ws
    → Grew c nodes nodes2 logs logs2 all
grew_then c d nodes nodes1 nodes2 logs logs1 logs2 vs ws all same a b is =
    subst (Grew c nodes nodes2 logs logs2) (sym is) (grew_both c nodes nodes1 nodes2 logs logs1 logs2 vs ws a (subst (λ e. Grew e nodes1 nodes2 logs1 logs2 ws) same b))
