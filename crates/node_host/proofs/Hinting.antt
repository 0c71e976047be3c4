-- The hint of an event that asks, and that an event which asks nothing has none.
use Rattle.std.proofs.Common.{◌≡◌, ℕ, ◌+◌, Bool, true, false, Option, Some, None, refl, sym, ap, subst}
use Rattle.std.specs.Prelude.{◌&&◌, List}
use Rattle.std.proofs.lemmas.Bool.{both_ways}
use Rattle.node_gate.specs.Answers.{IsTargetAt}
use Rattle.node_gate.specs.Loads.{Load, LoadsAt, TellsLoads, leads_to}
use Rattle.port_queue.specs.Inboxes.{Counts}
use Rattle.quiesce_core.specs.declared.event.Event.{Event}
use Rattle.quiesce_core.specs.declared.event.Event.TheVariants.{Begin, Call}
use Rattle.node_host.specs.Posting.{GateSeen, HintOf, Hinted, IsPosted, IsSent, is_asking}
use Rattle.node_host.proofs.Loading.{loads_first}
use Rattle.node_host.proofs.Replying.{index_is}

pub hint_free : (g : GateSeen) (first : ℕ) (e : Option Event) (old new : Hinted) → is_asking e ≡ false → new ≡ old → HintOf g first e old new
hint_free g first None old new h same = same
hint_free g first (Some (Begin p k v)) old new h same = absurd (both_ways true h refl)
hint_free g first (Some (Call p k v)) old new h same = absurd (both_ways true h refl)
hint_free g first (Some _) old new h same = same

pub without_hint : (g : GateSeen) (first : ℕ) (e : Option Event) {waiting waiting' : List (Option ℕ)} (counts : ℕ → Counts) (told : ℕ → Option (List ℕ)) → is_asking e ≡ false → waiting' ≡ waiting
    → HintOf g first e (record { waiting = waiting; counts = counts; told = told }) (record { waiting = waiting'; counts = counts; told = told })
without_hint g first e {waiting = waiting} {waiting' = waiting'} counts told h same =
    hint_free g first e (record { waiting = waiting; counts = counts; told = told }) (record { waiting = waiting'; counts = counts; told = told }) h (ap (λ w. record { waiting = w; counts = counts; told = told }) same)

-- what was kept is what the gate did
pub hint_as : (g : GateSeen) (first : ℕ) (old new : Hinted) {kept did : Event} → kept ≡ did → HintOf g first (Some did) old new → HintOf g first (Some kept) old new
hint_as g first old new is h = subst (λ e. HintOf g first (Some e) old new) (sym is) h

pub sent_at : {g : GateSeen} {first m : ℕ} {old new : Hinted} (r : ℕ) (shows : Load → Bool) → IsTargetAt g.state (first + r) m → TellsLoads (LoadsAt (first + r) (λ l. leads_to m l && shows l)) g.before g.after
    → IsPosted first r m old new → IsSent g first (first + r) old new
sent_at {g = g} {first = first} {m = m} {old = old} {new = new} r shows leads loads posted = record {
  target = m;
  leads = leads;
  loaded = loads_first (first + r) (leads_to m) shows g.before g.after loads;
  posted = subst (λ k. IsPosted first k m old new) (sym (index_is first r)) posted;
}
